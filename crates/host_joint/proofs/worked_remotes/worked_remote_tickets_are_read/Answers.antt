use Rattle.std.proofs.Common.{◌≡◌, ◌∙◌, ℕ, true, List, [], ◌∷◌, ◌++◌, take, drop, None, inl, refl, ap, sym, append-nil, lit<, lit≤}
use Rattle.usbip_wire.specs.declared.ret_submit.RetSubmitHead.{RetSubmitHead}
use Rattle.usbip_wire.specs.Up as up
use Rattle.usbip_wire.specs.Down as down
use Rattle.tmc_wire.specs.declared.class_request.ClassRequest.TheVariants.{Ren}
use Rattle.tmc_wire.specs.ControlTable.{row}
use Rattle.instr_plain.specs.declared.remote.RemoteAct.TheVariants.{On}
use Rattle.tmc_law.specs.Endpoint.{Control, ends}
use Rattle.tmc_law.specs.State.{State, start, arrived}
use Rattle.tmc_law.specs.Put.{Put, Submitted, Unlinked, success, stalled}
use Rattle.tmc_law.specs.Laws.{message_of}
use Rattle.tmc_law.specs.Run.{Runs, SpellsPut}
use Rattle.tmc_law.specs.WorkedRemote.{remote_submit, operating}
use Rattle.tmc_law.specs.WorkedSession.{devid, answered}
use Rattle.tmc_law.specs.WorkedTold.{takes_in, puts_out}
use Rattle.host_joint.specs.Requests.{IsClass}
use Rattle.host_joint.specs.Joint.{TellsPlugged, Joined}
use Rattle.host_joint.specs.Bond.{Stands, Resting}
use Rattle.host_joint.specs.Remotes.{Operating}
use Rattle.host_joint.specs.WorkedRecoveries.{halted_inside}
use Rattle.host_joint.specs.WorkedRemotes.{ren_submit, unplugging_remote, unplugged_remote}
use Rattle.host_joint.proofs.Coming.{comes}
use Rattle.host_joint.proofs.worked_remotes.worked_remote_tickets_are_read.Goals as goal

ren_is : (seqnum : ℕ) → IsClass (ren_submit seqnum) (Ren true)
ren_is seqnum = record {
  number = refl;
  way = refl;
  setup = row ends (Ren true);
  asks = record { fits = record { request_type = lit< tt; request = lit< tt; value = lit< tt; index = lit< tt; length = lit< tt }; layout = refl };
  row = record { fits = tt; is = refl };
  room = lit≤ tt;
}

pub returns-clause-written : goal.returns-clause-written
returns-clause-written c text spelled =
    c.remote_tickets_are_read.ensures.written devid On remote_submit 1 text [] [] [] start (ren_is 1) (record { endpoint = Control; number = refl; way = refl }) refl spelled
    (c.remote_tickets_are_read.ensures.stands devid 1 [] [] [] start (c.joints_begin.ensures.power_on devid 1))

-- the two told steps
told_steps : (text bytes : List ℕ) (one two : State) → Runs start (take 1 operating) one → Runs one (take 1 (drop 1 operating)) two → up.Spells devid (up.Submit remote_submit []) text
    → SpellsPut (answered remote_submit success 1 (0x01 ∷ [])) bytes → TellsPlugged devid start (takes_in text ∷ puts_out bytes ∷ []) two
told_steps text bytes one two first second spelled put = (
  one,
  record {
    means = record { run = take 1 operating; goes = first; took = (text, [], sym (append-nil text), spelled, refl); put = refl };
    calm = ((λ e. cc), tt);
  },
  (
    two,
    record {
      means = record { run = take 1 (drop 1 operating); goes = second; took = ([], [], refl, refl, refl); put = (bytes, [], sym (append-nil bytes), put, refl) };
      calm = ((λ e. cc), tt);
    },
    refl,
  ),
)

pub returns-clause-next : goal.returns-clause-next
returns-clause-next c text bytes spelled put =
    let both = c.runs_join.ensures.apart (take 2 operating) (drop 2 operating) start _ c.a_remote_act_is_logged.ensures.remote in
    let split = c.runs_join.ensures.apart (take 1 operating) (take 1 (drop 1 operating)) start both.0 both.1 in
    let joint = c.remote_tickets_are_tied.ensures.joined devid On [] remote_submit 2 text [] [] (takes_in text ∷ puts_out bytes ∷ []) start both.0
    (told_steps text bytes split.0 both.0 split.1 split.2 spelled put) ([], sym (append-nil (text ++ []) ∙ append-nil text)) (returns-clause-written c text spelled) in (
      both.0,
      both.1,
      c.remote_tickets_are_read.ensures.next devid On [] remote_submit 2 text [] bytes [] (down.RetSubmit (record { seqnum = 1; status = success; actual = 1 }) (0x01 ∷ [])) (takes_in text ∷ puts_out bytes ∷ []) both.0 joint refl
          (record { dir = remote_submit.dir; size = 1 }, refl, put),
    )

pub returns-clause-fine : goal.returns-clause-fine
returns-clause-fine c text bytes rest more f spelled put whole bad =
    let both = c.runs_join.ensures.apart (take 2 operating) (drop 2 operating) start _ c.a_remote_act_is_logged.ensures.remote in
    let split = c.runs_join.ensures.apart (take 1 operating) (take 1 (drop 1 operating)) start both.0 both.1 in
    let joint = c.remote_tickets_are_tied.ensures.joined devid On [] remote_submit 2 text [] [] (takes_in text ∷ puts_out bytes ∷ []) start both.0
    (told_steps text bytes split.0 both.0 split.1 split.2 spelled put) ([], sym (append-nil (text ++ []) ∙ append-nil text)) (returns-clause-written c text spelled) in
    c.remote_tickets_are_read.ensures.bad devid On [] remote_submit 2 text [] rest more (takes_in text ∷ puts_out bytes ∷ []) both.0 f joint (append-nil bytes ∙ whole) bad

pub returns-clause-halted : goal.returns-clause-halted
returns-clause-halted c text spelled =
    let joined : Joined devid (Stands Resting) None [] 8 [] [] [] halted_inside = record {
      coming = [];
      ups = [];
      sent = refl;
      spelled = refl;
      behind = [];
      downs = [];
      given = refl;
      put = refl;
      accepted = λ f e. cc;
      tie = c.worked_halts_are_recovered.ensures.aborted.1;
    } in (
      joined,
      c.remote_tickets_are_read.ensures.written devid On (ren_submit 8) 8 text [] [] [] halted_inside (ren_is 8) (record { endpoint = Control; number = refl; way = refl }) refl spelled joined,
    )

abbrev remote_came : State
remote_came = record start { control = arrived remote_submit [] ∷ [] }

unplugs : Runs start unplugging_remote unplugged_remote
unplugs = (
  remote_came,
  comes start remote_submit [] Control (record { plugged = refl; wide = refl; eight = refl; setup = refl; carried = refl; bytes = refl; free = refl; few = refl }) (record { number = refl; way = refl; usable = refl }),
  (unplugged_remote, record { plugged = refl; leads = record { answered = refl; is = refl } }, refl),
)

pub returns-clause-until : goal.returns-clause-until
returns-clause-until c =
    let begins = c.remote_tickets_are_tied.ensures.begins On remote_submit 1 [] [] start (ren_is 1) (record { endpoint = Control; number = refl; way = refl }) refl
    (c.remote_tickets_are_tied.ensures.stands 1 [] [] start (c.ties_begin.ensures.power_on 1)) in
    (unplugs, c.remote_tickets_are_read.ensures.until On [] remote_submit unplugging_remote 2 [] [] start unplugged_remote unplugs (inl begins))

status_of : (a b : RetSubmitHead) (bytes other : List ℕ) → down.RetSubmit a bytes ≡ down.RetSubmit b other → a ≡ b
status_of a b bytes other e = cc

pub returns-clause-mistaken : goal.returns-clause-mistaken
returns-clause-mistaken c text bytes s put joint =
    let next = c.remote_tickets_are_read.ensures.next devid On [] remote_submit 2 text [] bytes [] (down.RetSubmit (record { seqnum = 1; status = stalled; actual = 0 }) []) (puts_out bytes ∷ []) s joint refl
    (record { dir = remote_submit.dir; size = 1 }, refl, put) in
    by next.put next.ups next.downs next.is next.tie
  where
    by : (p : Put) (ups : List up.Message) (downs : List Put) → message_of p ≡ down.RetSubmit (record { seqnum = 1; status = stalled; actual = 0 }) [] → Operating On [] remote_submit 2 ups (p ∷ downs) s → ⊥
    by (Submitted asked answer transferred) ups downs e tie =
        let own = (c.remote_tickets_are_tied.ensures.answer On [] remote_submit 2 asked answer transferred ups downs s tie).1 in
        let e : success ≡ stalled = ap (λ (a : RetSubmitHead). a.status) (sym own ∙ status_of answer (record { seqnum = 1; status = stalled; actual = 0 }) transferred [] e) in cc
    by (Unlinked asked answer) ups downs e tie = cc
