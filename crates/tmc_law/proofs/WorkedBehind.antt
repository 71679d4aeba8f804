-- bytes that are refused behind two messages, step by step
use Rattle.std.proofs.Common.{◌≡◌, ◌∙◌, ℕ, List, [], ◌∷◌, ◌++◌, refl, ap, append_assoc, lit<}
use Rattle.usbip_wire.specs.Up as up
use Rattle.usbip_wire.specs.Laws.{ArePrefixFree}
use Rattle.tmc_law.specs.State.{start}
use Rattle.tmc_law.specs.Step.{Steps, Refuses, ByField}
use Rattle.tmc_law.specs.Run.{Runs, TakesAll, Fits}
use Rattle.tmc_law.specs.Told.{Tells}
use Rattle.tmc_law.specs.WorkedSession.{devid, submits, step}
use Rattle.tmc_law.specs.WorkedQuery.{query_submit, request_submit, query_text, request_text}
use Rattle.tmc_law.specs.WorkedTold.{query_up, request_up, response_up}
use Rattle.tmc_law.specs.WorkedRefused.{command_field}
use Rattle.tmc_law.specs.WorkedBehind.{unknown_text, coming_behind, closed_behind, behind_up, told_behind, told_in_parts, fine_up}
use Rattle.tmc_law.proofs.WorkedComing.{out_comes}
use Rattle.tmc_law.proofs.WorkedQuery.{query_came, request_came}
use Rattle.tmc_law.proofs.WorkedTold.{query_spelled, request_spelled}

refuses_unknown : Steps request_came (Refuses devid unknown_text command_field) [] closed_behind
refuses_unknown = record { plugged = refl; leads = (ByField (7, [], lit< tt, refl, refl), refl, refl) }

pub comes_behind : Runs start coming_behind closed_behind
comes_behind = (
  query_came,
  out_comes start 1 20 query_text (record { plugged = refl; free = refl; few = refl }) refl refl,
  (
    request_came,
    out_comes query_came 2 12 request_text (record { plugged = refl; free = refl; few = refl }) refl refl,
    (closed_behind, refuses_unknown, refl),
  ),
)

pub takes_behind : TakesAll devid coming_behind behind_up
takes_behind = (query_up, request_up ++ unknown_text, refl, query_spelled, (request_up, unknown_text, refl, request_spelled, (unknown_text, [], refl, (refl, refl), refl)))

pub tells_behind : Tells devid start told_behind closed_behind
tells_behind = (closed_behind, record { run = coming_behind; goes = comes_behind; took = takes_behind; put = refl }, refl)

pub tells_in_parts : Tells devid start told_in_parts closed_behind
tells_in_parts = (
  query_came,
  record {
    run = submits query_submit query_text ∷ [];
    goes = (query_came, out_comes start 1 20 query_text (record { plugged = refl; free = refl; few = refl }) refl refl, refl);
    took = (query_up, [], refl, query_spelled, refl);
    put = refl;
  },
  (
    query_came,
    record { run = []; goes = refl; took = refl; put = refl },
    (
      closed_behind,
      record {
        run = submits request_submit request_text ∷ step (Refuses devid unknown_text command_field) [] ∷ [];
        goes = (
          request_came,
          out_comes query_came 2 12 request_text (record { plugged = refl; free = refl; few = refl }) refl refl,
          (closed_behind, refuses_unknown, refl),
        );
        took = (request_up, unknown_text, refl, request_spelled, (unknown_text, [], refl, (refl, refl), refl));
        put = refl;
      },
      refl,
    ),
  ),
)

-- the fourth byte of a message is not its number 7
not_seven : (rest : List ℕ) → response_up ≡ unknown_text ++ rest → ⊥
not_seven rest e = cc

-- bytes that begin with this message hold what follows it
follows : ArePrefixFree (up.Spells devid) → (message : up.Message) (text first behind bytes rest : List ℕ) → up.Spells devid message text → up.Spells devid message first
    → bytes ≡ first ++ behind → text ++ rest ≡ bytes → rest ≡ behind
follows free message text first behind bytes rest one other is same = (free message message text first rest behind one other (same ∙ is)).2

pub no_fine_bytes : ArePrefixFree (up.Spells devid) → (received : List ℕ) → Fits devid coming_behind fine_up received → ⊥
no_fine_bytes free received fit = by fit.takes
  where
    by : TakesAll devid coming_behind fit.taken_in → ⊥
    by (query, after, is, spelled, (request, last, more, second, (refused, none, ends, (number, same), nothing))) =
        let left : List ℕ = fit.sent_first.0 in
        let one : request_up ++ response_up ≡ after ++ left =
        follows free (up.Submit query_submit query_text) query_up query (after ++ left) fine_up (request_up ++ response_up) query_spelled spelled
        (fit.sent_first.1 ∙ (ap (λ (l : List ℕ). l ++ left) is ∙ append_assoc query after left)) refl in
        let two : response_up ≡ last ++ left =
        follows free (up.Submit request_submit request_text) request_up request (last ++ left) (after ++ left) response_up request_spelled second
        (ap (λ (l : List ℕ). l ++ left) more ∙ append_assoc request last left) one in
        not_seven (none ++ left) (two ∙ (ap (λ (l : List ℕ). l ++ left) ends ∙ (append_assoc refused none left ∙ ap (λ (l : List ℕ). l ++ (none ++ left)) same)))
