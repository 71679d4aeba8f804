use Rattle.std.proofs.Common.{◌∙◌, ap}
use Rattle.tmc_world.specs.LoopLink.{Looped}
use Rattle.tmc_world.proofs.Moving.{telling_taken}
use Rattle.tmc_world.proofs.loop_link.LoopLink.take.Goals as goal

pub invariant_of-self-2 : goal.invariant_of-self-2
invariant_of-self-2 c =
    telling_taken _ _ _ _ c.min-count.result (ap (λ (l : Looped). l.late) c.self.view_is ∙ c.requires.unlate) c.self.invariant c.take.ensures.taken
