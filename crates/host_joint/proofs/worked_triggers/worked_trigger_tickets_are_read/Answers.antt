use Rattle.std.proofs.Common.{◌≡◌, ◌⊎◌, ◌∙◌, ℕ, true, List, [], ◌∷◌, ◌++◌, take, drop, inl, inr, refl, ap, sym, append-nil}
use Rattle.usbip_wire.specs.declared.ret_submit.RetSubmitHead.{RetSubmitHead}
use Rattle.usbip_wire.specs.Up as up
use Rattle.usbip_wire.specs.Down as down
use Rattle.instr_plain.specs.declared.log.LogEntry.{LogEntry}
use Rattle.instr_plain.specs.declared.log.LogEntry.TheVariants as entry
use Rattle.tmc_law.specs.State.{State, start}
use Rattle.tmc_law.specs.Put.{Put, Submitted, Unlinked, success, stalled}
use Rattle.tmc_law.specs.Laws.{message_of}
use Rattle.tmc_law.specs.Run.{Runs, SpellsPut}
use Rattle.tmc_law.specs.WorkedSession.{devid, out_submit, answered}
use Rattle.tmc_law.specs.WorkedTold.{takes_in, puts_out}
use Rattle.tmc_law.specs.WorkedTrigger.{trigger_text, triggering}
use Rattle.host_joint.specs.Joint.{TellsPlugged}
use Rattle.host_joint.specs.Triggers.{NoTrigger, OneTrigger, Triggering}
use Rattle.host_joint.specs.WorkedTriggers.{trigger_job, triggered, shutting, shut, unplugging_trigger, unplugged_trigger}
use Rattle.host_joint.proofs.Shutting.{trigger_is, shuts, unplugs_trigger}
use Rattle.host_joint.proofs.worked_triggers.worked_trigger_tickets_are_read.Goals as goal

pub returns-clause-written : goal.returns-clause-written
returns-clause-written c text spelled =
    c.trigger_tickets_are_read.ensures.written devid trigger_job 1 text [] [] [] start trigger_is refl spelled
    (c.remote_tickets_are_read.ensures.stands devid 1 [] [] [] start (c.joints_begin.ensures.power_on devid 1))

-- the two told steps of each
steps_taken : (text bytes : List ℕ) (one : State) → Runs start (take 1 triggering) one → Runs one (drop 1 triggering) triggered → up.Spells devid (up.Submit (out_submit 1 12) trigger_text) text
    → SpellsPut (answered (out_submit 1 12) success 12 []) bytes → TellsPlugged devid start (takes_in text ∷ puts_out bytes ∷ []) triggered
steps_taken text bytes one first second spelled put = (
  one,
  record {
    means = record { run = take 1 triggering; goes = first; took = (text, [], sym (append-nil text), spelled, refl); put = refl };
    calm = ((λ e. cc), tt);
  },
  (
    triggered,
    record {
      means = record { run = drop 1 triggering; goes = second; took = ([], [], refl, refl, refl); put = (bytes, [], sym (append-nil bytes), put, refl) };
      calm = ((λ e. cc), tt);
    },
    refl,
  ),
)

steps_halted : (text bytes : List ℕ) (one : State) → Runs start (take 1 shutting) one → Runs one (drop 1 shutting) shut → up.Spells devid (up.Submit (out_submit 1 12) trigger_text) text
    → SpellsPut (answered (out_submit 1 12) stalled 0 []) bytes → TellsPlugged devid start (takes_in text ∷ puts_out bytes ∷ []) shut
steps_halted text bytes one first second spelled put = (
  one,
  record {
    means = record { run = take 1 shutting; goes = first; took = (text, [], sym (append-nil text), spelled, refl); put = refl };
    calm = ((λ e. cc), tt);
  },
  (
    shut,
    record {
      means = record { run = drop 1 shutting; goes = second; took = ([], [], refl, refl, refl); put = (bytes, [], sym (append-nil bytes), put, refl) };
      calm = ((λ e. cc), tt);
    },
    refl,
  ),
)

pub returns-clause-taken : goal.returns-clause-taken
returns-clause-taken c text bytes spelled put =
    let split = c.runs_join.ensures.apart (take 1 triggering) (drop 1 triggering) start triggered c.a_trigger_is_counted.ensures in
    let joint = c.trigger_tickets_are_tied.ensures.joined devid trigger_job 2 text [] [] (takes_in text ∷ puts_out bytes ∷ []) start triggered
    (steps_taken text bytes split.0 split.1 split.2 spelled put) ([], sym (append-nil (text ++ []) ∙ append-nil text)) (returns-clause-written c text spelled) in
    c.trigger_tickets_are_read.ensures.next devid trigger_job 2 text [] bytes [] (down.RetSubmit (record { seqnum = 1; status = success; actual = 12 }) []) (takes_in text ∷ puts_out bytes ∷ []) triggered joint refl
    (record { dir = (out_submit 1 12).dir; size = 12 }, refl, put)

pub returns-clause-halted : goal.returns-clause-halted
returns-clause-halted c text bytes spelled put =
    let split = c.runs_join.ensures.apart (take 1 shutting) (drop 1 shutting) start shut shuts in
    let joint = c.trigger_tickets_are_tied.ensures.joined devid trigger_job 2 text [] [] (takes_in text ∷ puts_out bytes ∷ []) start shut
    (steps_halted text bytes split.0 split.1 split.2 spelled put) ([], sym (append-nil (text ++ []) ∙ append-nil text)) (returns-clause-written c text spelled) in
    c.trigger_tickets_are_read.ensures.next devid trigger_job 2 text [] bytes [] (down.RetSubmit (record { seqnum = 1; status = stalled; actual = 0 }) []) (takes_in text ∷ puts_out bytes ∷ []) shut joint refl
    (record { dir = (out_submit 1 12).dir; size = 12 }, refl, put)

pub returns-clause-fine : goal.returns-clause-fine
returns-clause-fine c text bytes rest more f spelled put whole bad =
    let split = c.runs_join.ensures.apart (take 1 triggering) (drop 1 triggering) start triggered c.a_trigger_is_counted.ensures in
    let joint = c.trigger_tickets_are_tied.ensures.joined devid trigger_job 2 text [] [] (takes_in text ∷ puts_out bytes ∷ []) start triggered
    (steps_taken text bytes split.0 split.1 split.2 spelled put) ([], sym (append-nil (text ++ []) ∙ append-nil text)) (returns-clause-written c text spelled) in
    c.trigger_tickets_are_read.ensures.bad devid trigger_job 2 text [] rest more (takes_in text ∷ puts_out bytes ∷ []) triggered f joint (append-nil bytes ∙ whole) bad

pub returns-clause-until : goal.returns-clause-until
returns-clause-until c =
    let begins = c.trigger_tickets_are_tied.ensures.begins trigger_job 1 [] [] start trigger_is refl (c.remote_tickets_are_tied.ensures.stands 1 [] [] start (c.ties_begin.ensures.power_on 1)) in
    (unplugs_trigger, c.trigger_tickets_are_read.ensures.until trigger_job unplugging_trigger 2 [] [] start unplugged_trigger unplugs_trigger (inl begins))

status_of : (a b : RetSubmitHead) (bytes other : List ℕ) → down.RetSubmit a bytes ≡ down.RetSubmit b other → a ≡ b
status_of a b bytes other e = cc

none_triggered : OneTrigger 1 shut.log → ⊥
none_triggered one = by one.before one.whole
  where
    by : (l : List LogEntry) → [] ≡ l ++ entry.Trigger 1 ∷ one.behind → ⊥
    by [] e = cc
    by (x ∷ l) e = cc

pub returns-clause-mistaken : goal.returns-clause-mistaken
returns-clause-mistaken c text bytes put joint =
    let next = c.trigger_tickets_are_read.ensures.next devid trigger_job 2 text [] bytes [] (down.RetSubmit (record { seqnum = 1; status = success; actual = 12 }) []) (puts_out bytes ∷ []) shut joint refl
    (record { dir = (out_submit 1 12).dir; size = 12 }, refl, put) in
    by next.put next.ups next.downs next.is next.tie
  where
    was : (answer : RetSubmitHead) → answer.status ≡ success
        → ((answer.status ≡ success) × (answer.actual ≡ trigger_job.head.length) × OneTrigger 1 shut.log) ⊎ ((answer.status ≡ stalled) × (shut.halted.bulk_out ≡ true) × NoTrigger 1 shut.log) → ⊥
    was answer e (inl h) = none_triggered h.2
    was answer e (inr h) = let e : success ≡ stalled = sym e ∙ h.0 in cc

    by : (p : Put) (ups : List up.Message) (downs : List Put) → message_of p ≡ down.RetSubmit (record { seqnum = 1; status = success; actual = 12 }) [] → Triggering trigger_job 2 ups (p ∷ downs) shut → ⊥
    by (Submitted asked answer transferred) ups downs e tie =
        was answer (ap (λ (a : RetSubmitHead). a.status) (status_of answer (record { seqnum = 1; status = success; actual = 12 }) transferred [] e))
        (c.trigger_tickets_are_tied.ensures.answer trigger_job 2 asked answer transferred ups downs shut tie).2.0
    by (Unlinked asked answer) ups downs e tie = cc
