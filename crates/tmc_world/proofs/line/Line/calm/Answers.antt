use Rattle.std.proofs.Common.{◌∙◌, sym, refl}
use Rattle.usbip_export.specs.Steps.{AreCalming}
use Rattle.tmc_world.proofs.Quiet.{moved_by}
use Rattle.tmc_world.proofs.Feeding.{where_ok, sound_on}
use Rattle.tmc_world.proofs.line.Line.calm.Goals as goal

pub invariant_of-self : goal.invariant_of-self
invariant_of-self c = (
  sound_on _ _ c.self.invariant.0 (moved_by AreCalming _ _ c.calm.ensures.only).works refl refl
      (λ unlate. where_ok c.calm.result _ c.calm.ensures.spelled (sym c.is_ok-spelled.ensures.value ∙ c.lacks-self-inside.ensures.spelled unlate)),
  c.lacks-self-inside.ensures.room,
)

pub returns-clause-sound : goal.returns-clause-sound
returns-clause-sound c = (invariant_of-self c).0

pub returns-clause-works : goal.returns-clause-works
returns-clause-works c = rw (← c.self.view_is) (moved_by AreCalming _ _ c.calm.ensures.only)
