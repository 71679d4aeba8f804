-- the example triggers, step by step
use Rattle.std.proofs.Common.{◌≢◌, [], ◌∷◌, inl, refl, lit<, lit≤}
use Rattle.std.proofs.lemmas.Bool.{eqb-false}
use Rattle.tmc_law.specs.Endpoint.{Control, BulkOut}
use Rattle.tmc_law.specs.State.{State, start, arrived}
use Rattle.tmc_law.specs.Halts.{DoesHalt}
use Rattle.tmc_law.specs.Run.{Runs}
use Rattle.tmc_law.specs.WorkedSession.{out_submit}
use Rattle.tmc_law.specs.WorkedTrigger.{trigger_text}
use Rattle.host_joint.specs.Triggers.{IsTrigger}
use Rattle.host_joint.specs.WorkedTriggers.{trigger_job, shutting, shut, unplugging_trigger, unplugged_trigger}
use Rattle.host_joint.proofs.Coming.{comes}
use Rattle.host_joint.proofs.Examples.{no_fault}

pub trigger_is : IsTrigger trigger_job
trigger_is = record {
  transfer = record {
    number = refl;
    way = refl;
    text = record {
      head = trigger_text;
      alignment = [];
      headed = record { reserved = 0; ignored = 0 ∷ 0 ∷ 0 ∷ 0 ∷ 0 ∷ 0 ∷ 0 ∷ 0 ∷ []; tagged = (lit< tt, lit< tt); eight = refl; layout = refl };
      counted = refl;
      least = lit< tt;
      aligned = refl;
      layout = refl;
    };
    headed = record { reserved = 0; ignored = 0 ∷ 0 ∷ 0 ∷ 0 ∷ 0 ∷ 0 ∷ 0 ∷ 0 ∷ []; tagged = (lit< tt, lit< tt); eight = refl; layout = refl };
    faultless = λ f is. no_fault trigger_text f (record { long = lit≤ tt; known = refl; tagged = eqb-false _ _ refl; inverse = refl; counted = inl refl }) is.here;
    whole = refl;
    sized = refl;
  };
  tag = 1;
  header = refl;
}

no_control : BulkOut ≢ Control
no_control e = cc

abbrev came : State
came = record start { bulk_out = arrived (out_submit 1 12) trigger_text ∷ [] }

pub shuts : Runs start shutting shut
shuts = (
  came,
  comes start (out_submit 1 12) trigger_text BulkOut (record { plugged = refl; wide = refl; eight = refl; setup = refl; carried = refl; bytes = refl; free = refl; few = refl }) (record { number = refl; way = refl; usable = refl }),
  (shut, record { plugged = refl; leads = DoesHalt no_control refl refl refl }, refl),
)

pub unplugs_trigger : Runs start unplugging_trigger unplugged_trigger
unplugs_trigger = (
  came,
  comes start (out_submit 1 12) trigger_text BulkOut (record { plugged = refl; wide = refl; eight = refl; setup = refl; carried = refl; bytes = refl; free = refl; few = refl }) (record { number = refl; way = refl; usable = refl }),
  (unplugged_trigger, record { plugged = refl; leads = record { answered = refl; is = refl } }, refl),
)
