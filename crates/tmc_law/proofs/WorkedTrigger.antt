-- a trigger, step by step
use Rattle.std.proofs.Common.{[], ◌∷◌, inl, refl, lit<, lit≤}
use Rattle.std.proofs.lemmas.Bool.{eqb-false}
use Rattle.tmc_wire.specs.declared.header.OutHeader.TheVariants.{Trigger}
use Rattle.instr_plain.specs.Standing.{power_on, at_power_on}
use Rattle.tmc_law.specs.State.{State, start, arrived}
use Rattle.tmc_law.specs.Put.{success}
use Rattle.tmc_law.specs.BulkOut.{DoesMove, Triggers}
use Rattle.tmc_law.specs.Step.{Steps, Take}
use Rattle.tmc_law.specs.Run.{Runs}
use Rattle.tmc_law.specs.WorkedSession.{out_submit, answered}
use Rattle.tmc_law.specs.WorkedTrigger.{trigger_text, triggering, trigger_log}
use Rattle.tmc_law.proofs.WorkedComing.{out_comes}
use Rattle.tmc_law.proofs.WorkedUnspoiled.{IsGood}
use Rattle.tmc_law.proofs.WorkedTaking.{takes_whole}

abbrev came : State
came = record start { bulk_out = arrived (out_submit 1 12) trigger_text ∷ [] }

abbrev done : State
done = record start { log = trigger_log; standing = record at_power_on { state = record power_on { acquisitions = 1 } } }

trigger_good : IsGood came trigger_text (Trigger 1)
trigger_good = record {
  idle = refl;
  fine = record { long = lit≤ tt; known = refl; tagged = eqb-false _ _ refl; inverse = refl; counted = inl refl };
  headed = record { reserved = 0; ignored = 0 ∷ 0 ∷ 0 ∷ 0 ∷ 0 ∷ 0 ∷ 0 ∷ 0 ∷ []; tagged = (lit< tt, lit< tt); eight = refl; layout = refl };
  suits = refl;
}

takes_trigger : Steps came (Take 1) (answered (out_submit 1 12) success 12 [] ∷ []) done
takes_trigger =
    takes_whole came done (arrived (out_submit 1 12) trigger_text) [] (Trigger 1)
    (record { plugged = refl; none_waits = refl; none_runs = refl; first = refl; good = trigger_good; some = eqb-false _ _ refl; one = refl; moves = DoesMove refl refl; fits = refl; full = refl })
    (Triggers 1 refl (record { standing = done.standing; after = refl; is = refl }))

pub triggers : Runs start triggering done
triggers = (
  came,
  out_comes start 1 12 trigger_text (record { plugged = refl; free = refl; few = refl }) refl refl,
  (done, takes_trigger, refl),
)
