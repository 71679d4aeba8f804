use Rattle.std.proofs.Common.{◌≡◌, ◌≢◌, Bool, true, false, List, [], ◌∷◌, ◌++◌, take, refl, sym, subst, lit<}
use Rattle.usbip_wire.specs.Up as up
use Rattle.tmc_law.specs.Endpoint.{Control, BulkOut, BulkIn}
use Rattle.tmc_law.specs.State.{State, start, arrived, is_halted}
use Rattle.tmc_law.specs.Halts.{DoesHalt}
use Rattle.tmc_law.specs.Step.{Comes, Halt}
use Rattle.tmc_law.specs.Run.{Runs}
use Rattle.tmc_law.specs.WorkedQuery.{asking, answering}
use Rattle.tmc_law.specs.WorkedParts.{spaced, spaces_text, sending_parts}
use Rattle.tmc_law.specs.WorkedSession.{out_submit, in_submit}
use Rattle.host_joint.specs.Asking.{Asking}
use Rattle.host_joint.specs.WorkedLines.{halting_between, halted_between}
use Rattle.host_joint.specs.WorkedPieces.{requesting_first, giving_first, requested_first, requested_second, behind_first, first_data, next_request, spaces_job, next_job, asked_with}
use Rattle.host_joint.specs.WorkedTies.{told_to}
use Rattle.host_joint.proofs.Coming.{comes}
use Rattle.host_joint.proofs.Serving.{requests_first, gives_first}
use Rattle.host_joint.proofs.worked_lines.worked_pieces_are_numbered.Goals as goal

pub returns-clause-rise : goal.returns-clause-rise
returns-clause-rise c = c.new_numbers_rise.ensures (out_submit 5 12) next_request [] behind_first (lit< tt, tt) (tt, tt)

pub returns-clause-kept : goal.returns-clause-kept
returns-clause-kept c response move puts t step ran = c.what_ran_is_kept.ensures 2 spaced response [] requested_second t move puts step (tt, tt) ran

pub returns-clause-usable : goal.returns-clause-usable
returns-clause-usable c puts t step = by (is_halted BulkOut t) refl
  where
    by : (b : Bool) → is_halted BulkOut t ≡ b → is_halted BulkOut t ≡ false
    by false is = is
    by true is =
        let e : Comes (up.Submit (out_submit 1 112) spaces_text) ≡ Halt BulkOut =
        c.asks_halt_nothing.ensures (asked_with 3 (spaces_job ∷ []) 0 []) start t (Comes (up.Submit (out_submit 1 112) spaces_text)) [] [] puts BulkOut tt step c.worked_pieces_are_asked.ensures.begins refl is in
        absurd (cc)

pub returns-clause-alone : goal.returns-clause-alone
returns-clause-alone c move puts t none step is =
    c.asks_halt_nothing.ensures (asked_with 4 (next_job ∷ []) 1 first_data) requested_second t move [] [] puts BulkIn tt step
    (subst (λ (l : List up.Message). Asking (asked_with 4 (next_job ∷ []) 1 first_data) (l ++ []) [] requested_second) (sym none) c.worked_pieces_are_asked.ensures.again) refl is

no_control : BulkIn ≢ Control
no_control e = cc

abbrev read_came : State
read_came = record behind_first { bulk_in = arrived (in_submit 5 4096) [] ∷ [] }

halts_between : Runs behind_first halting_between halted_between
halts_between = (
  read_came,
  comes behind_first (in_submit 5 4096) [] BulkIn (record { plugged = refl; wide = refl; eight = refl; setup = refl; carried = refl; bytes = refl; free = refl; few = refl }) (record { number = refl; way = refl; usable = refl }),
  (halted_between, record { plugged = refl; leads = DoesHalt no_control refl refl refl }, refl),
)

pub returns-clause-between : goal.returns-clause-between
returns-clause-between c =
    let join = c.runs_join.ensures.together in
    let reached = join sending_parts (requesting_first ++ giving_first) start told_to behind_first c.a_message_comes_in_parts.ensures
    (join requesting_first giving_first told_to requested_first behind_first (requests_first c.headers_are_read_again.ensures.out_one) gives_first) in
    let wrote = c.messages_are_written.ensures.one_read (asked_with 4 [] 0 first_data) [] [] behind_first (in_submit 5 4096) (record { number = refl; way = refl; size = refl }) refl c.worked_pieces_are_asked.ensures.between.0 in (
      halts_between,
      c.asking_stays.ensures.run (sending_parts ++ (requesting_first ++ giving_first)) halting_between (asked_with 4 [] 0 first_data) behind_first halted_between [] [] reached halts_between
          ((record { endpoint = BulkIn; number = refl; way = refl }), tt) refl ((λ e. cc), ((λ e. cc), tt)) wrote,
    )

pub returns-clause-unasked : goal.returns-clause-unasked
returns-clause-unasked c answer transferred s asks = c.nothing_comes_unasked.ensures.reads (asked_with 4 [] 0 first_data) [] (in_submit 5 4096) answer transferred [] s refl refl (λ e. cc) asks

pub returns-clause-packets : goal.returns-clause-packets
returns-clause-packets c s message first behind run waits queue = c.nothing_comes_unasked.ensures.packets (asking ++ take 1 answering) s message first behind run waits queue
