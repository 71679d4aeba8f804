use Rattle.std.proofs.Common.{◌≡◌, ◌⊎◌, true, List, [], ◌∷◌, ◌++◌, inl, inr, refl}
use Rattle.instr_plain.specs.declared.log.LogEntry.{LogEntry}
use Rattle.instr_plain.specs.declared.log.LogEntry.TheVariants as entry
use Rattle.tmc_law.specs.State.{start}
use Rattle.tmc_law.specs.Put.{success, stalled}
use Rattle.tmc_law.specs.WorkedSession.{out_submit}
use Rattle.tmc_law.specs.WorkedTrigger.{triggering, trigger_log}
use Rattle.host_joint.specs.Triggers.{NoTrigger, OneTrigger}
use Rattle.host_joint.specs.WorkedTriggers.{trigger_job, triggered, shutting, shut}
use Rattle.host_joint.proofs.Shutting.{trigger_is, shuts}
use Rattle.host_joint.proofs.worked_triggers.worked_trigger_tickets_are_tied.Goals as goal

pub returns-clause-begins : goal.returns-clause-begins
returns-clause-begins c =
    c.trigger_tickets_are_tied.ensures.begins trigger_job 1 [] [] start trigger_is refl (c.remote_tickets_are_tied.ensures.stands 1 [] [] start (c.ties_begin.ensures.power_on 1))

pub returns-clause-answered : goal.returns-clause-answered
returns-clause-answered c =
    let went = c.trigger_tickets_are_tied.ensures.stays trigger_job triggering 2 [] [] start triggered c.a_trigger_is_counted.ensures ((λ e. cc), ((λ e. cc), tt)) (returns-clause-begins c) in
    taken (c.trigger_tickets_are_tied.ensures.answer trigger_job 2 (out_submit 1 12) (record { seqnum = 1; status = success; actual = 12 }) [] [] [] triggered went).2.0
  where
    taken : ((success ≡ success) × (12 ≡ trigger_job.head.length) × OneTrigger 1 trigger_log) ⊎ ((success ≡ stalled) × (triggered.halted.bulk_out ≡ true) × NoTrigger 1 trigger_log) → OneTrigger 1 trigger_log
    taken (inl h) = h.2
    taken (inr h) = let e : success ≡ stalled = h.0 in absurd (cc)

pub returns-clause-halted : goal.returns-clause-halted
returns-clause-halted c =
    let went = c.trigger_tickets_are_tied.ensures.stays trigger_job shutting 2 [] [] start shut shuts ((λ e. cc), ((λ e. cc), tt)) (returns-clause-begins c) in
    let over = (c.trigger_tickets_are_tied.ensures.answer trigger_job 2 (out_submit 1 12) (record { seqnum = 1; status = stalled; actual = 0 }) [] [] [] shut went).2 in
    (shuts, tt, over.1)

pub returns-clause-mistaken : goal.returns-clause-mistaken
returns-clause-mistaken c one = by one.before one.whole
  where
    by : (l : List LogEntry) → [] ≡ l ++ entry.Trigger 1 ∷ one.behind → ⊥
    by [] e = cc
    by (x ∷ l) e = cc
