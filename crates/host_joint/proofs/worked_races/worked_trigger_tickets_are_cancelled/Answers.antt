use Rattle.std.proofs.Common.{◌≡◌, ◌⊎◌, true, false, [], ◌∷◌, refl, inl, inr, ap}
use Rattle.usbip_wire.specs.declared.ret_unlink.RetUnlinkHead.{RetUnlinkHead}
use Rattle.usbip_wire.specs.Up as up
use Rattle.tmc_law.specs.Endpoint.{BulkOut}
use Rattle.tmc_law.specs.State.{State, start, arrived}
use Rattle.tmc_law.specs.Put.{success, stalled, unlinked, unplugged}
use Rattle.tmc_law.specs.Queues.{Hits, Misses}
use Rattle.tmc_law.specs.Run.{Runs}
use Rattle.tmc_law.specs.WorkedSession.{out_submit, unlink, answered}
use Rattle.tmc_law.specs.WorkedTrigger.{trigger_text, triggering}
use Rattle.host_joint.specs.Races.{TriggerRaces, TriggerIsLate, LateTrigger}
use Rattle.host_joint.specs.WorkedTriggers.{trigger_job, triggered, unplugging_trigger, unplugged_trigger}
use Rattle.host_joint.specs.WorkedRaces.{stopping_trigger, missing_trigger}
use Rattle.host_joint.proofs.Coming.{comes}
use Rattle.host_joint.proofs.Stopping.{all_wide}
use Rattle.host_joint.proofs.Shutting.{unplugs_trigger}
use Rattle.host_joint.proofs.worked_races.worked_trigger_tickets_are_cancelled.Goals as goal

pub returns-clause-unlinked : goal.returns-clause-unlinked
returns-clause-unlinked c =
    c.trigger_tickets_are_cancelled.ensures.unlink trigger_job (unlink 2 1) 2 (up.Submit (out_submit 1 12) trigger_text ∷ []) [] start refl refl c.worked_trigger_tickets_are_tied.ensures.begins

abbrev came : State
came = record start { bulk_out = arrived (out_submit 1 12) trigger_text ∷ [] }

stops : Runs start stopping_trigger start
stops = (
  came,
  comes start (out_submit 1 12) trigger_text BulkOut (record { plugged = refl; wide = refl; eight = refl; setup = refl; carried = refl; bytes = refl; free = refl; few = refl }) (record { number = refl; way = refl; usable = refl }),
  (start, record { plugged = refl; leads = (all_wide (2 ∷ 0x00010002 ∷ 1 ∷ []) refl, Hits BulkOut [] (arrived (out_submit 1 12) trigger_text) [] refl refl refl refl refl) }, refl),
)

pub returns-clause-hit : goal.returns-clause-hit
returns-clause-hit c =
    let went = c.tickets_are_held.ensures.stays (TriggerRaces trigger_job (unlink 2 1)) stopping_trigger 3 [] [] start start stops ((λ e. cc), ((λ e. cc), tt)) (returns-clause-unlinked c) in
    let over = c.trigger_tickets_are_cancelled.ensures.hit trigger_job (unlink 2 1) 3 (unlink 2 1) (record { seqnum = 2; status = unlinked }) [] [] start went in
    (stops, over.2)

misses : Runs triggered missing_trigger triggered
misses = (triggered, record { plugged = refl; leads = (all_wide (2 ∷ 0x00010002 ∷ 1 ∷ []) refl, Misses tt refl refl) }, refl)

pub returns-clause-missed : goal.returns-clause-missed
returns-clause-missed c =
    let went = c.tickets_are_held.ensures.stays (TriggerRaces trigger_job (unlink 2 1)) triggering 3 (up.Unlink (unlink 2 1) ∷ []) [] start triggered c.a_trigger_is_counted.ensures ((λ e. cc), ((λ e. cc), tt)) (returns-clause-unlinked c) in
    let late = taken (c.trigger_tickets_are_cancelled.ensures.answer trigger_job (unlink 2 1) 3 (out_submit 1 12) (record { seqnum = 1; status = success; actual = 12 }) [] (up.Unlink (unlink 2 1) ∷ []) [] triggered went).2 in
    let gone = c.tickets_are_held.ensures.stays (TriggerIsLate true 1 (unlink 2 1)) missing_trigger 3 [] [] triggered triggered misses ((λ e. cc), tt) late in
    let over = c.trigger_tickets_are_cancelled.ensures.missed true 1 (unlink 2 1) 3 (unlink 2 1) (record { seqnum = 2; status = success }) [] [] triggered gone in
    (c.runs_join.ensures.together triggering missing_trigger start triggered triggered c.a_trigger_is_counted.ensures misses, over.1, over.2)
  where
    taken : ((success ≡ success) × (12 ≡ trigger_job.head.length) × LateTrigger true 1 (unlink 2 1) 3 (up.Unlink (unlink 2 1) ∷ []) [] triggered)
        ⊎ ((success ≡ stalled) × (triggered.halted.bulk_out ≡ true) × LateTrigger false 1 (unlink 2 1) 3 (up.Unlink (unlink 2 1) ∷ []) [] triggered) → LateTrigger true 1 (unlink 2 1) 3 (up.Unlink (unlink 2 1) ∷ []) [] triggered
    taken (inl h) = h.2
    taken (inr h) = let e : success ≡ stalled = h.0 in absurd (cc)

pub returns-clause-unplugged : goal.returns-clause-unplugged
returns-clause-unplugged c =
    c.tickets_are_held.ensures.next (TriggerRaces trigger_job (unlink 2 1)) 3 (answered (out_submit 1 12) unplugged 0 []) (up.Unlink (unlink 2 1) ∷ []) [] unplugged_trigger
    (c.tickets_are_held.ensures.until (TriggerRaces trigger_job (unlink 2 1)) unplugging_trigger 3 (up.Unlink (unlink 2 1) ∷ []) [] start unplugged_trigger unplugs_trigger (inl (returns-clause-unlinked c)))

pub returns-clause-mistaken : goal.returns-clause-mistaken
returns-clause-mistaken c next ups downs s late =
    let e : unlinked ≡ success = ap (λ (r : RetUnlinkHead). r.status) (c.trigger_tickets_are_cancelled.ensures.missed true 1 (unlink 2 1) next (unlink 2 1) (record { seqnum = 2; status = unlinked }) ups downs s late).0 in absurd (cc)
