use Rattle.std.proofs.Common.{ℕ}
use Rattle.usbip_export.specs.Seen.{standing}
use Rattle.usbip_export.specs.Work.{weight}
use Rattle.tmc_world.specs.World.{Worldly, IsBehind}
use Rattle.tmc_world.proofs.RestLoops.{Calming}
use Rattle.tmc_world.proofs.world.World.calm.Given as goal

-- steps of the instrument were made
abbrev pub invariant-steps : goal.invariant-steps
invariant-steps l = (first depth : ℕ) (old : Worldly) → IsBehind first depth old l.fn.self.hub → Calming first depth old l.self.hub

abbrev pub decreases-steps : goal.decreases-steps
decreases-steps l = weight (standing l.self.hub.link.node)
