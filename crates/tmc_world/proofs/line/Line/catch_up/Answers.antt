use Rattle.std.proofs.Common.{refl}
use Rattle.tmc_world.proofs.Feeding.{sound_on}
use Rattle.tmc_world.proofs.line.Line.catch_up.Goals as goal

pub invariant_of-self : goal.invariant_of-self
invariant_of-self c = (
  sound_on _ _ c.self.invariant.0 c.catch_up-spelled.ensures.works.works refl refl (λ unlate. c.catch_up-spelled.ensures.spelled (c.lacks-self-inside.ensures.spelled unlate)),
  c.lacks-self-inside.ensures.room,
)

pub returns-clause-sound : goal.returns-clause-sound
returns-clause-sound c = (invariant_of-self c).0
