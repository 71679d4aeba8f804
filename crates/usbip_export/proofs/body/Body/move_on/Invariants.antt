use Rattle.usbip_export.specs.Seen.{standing}
use Rattle.usbip_export.specs.Steps.{AreCalmSteps, MovesBy}
use Rattle.usbip_export.specs.Work.{weight}
use Rattle.usbip_export.specs.Body.{seen_of, IsSound}
use Rattle.usbip_export.proofs.body.Body.move_on.Given as goal

abbrev pub invariant-moves : goal.invariant-moves
invariant-moves l = record {
  sound : IsSound l.self;
  moves : MovesBy AreCalmSteps (seen_of l.fn.self) (seen_of l.self);
}

abbrev pub decreases-moves : goal.decreases-moves
decreases-moves l = weight (standing (seen_of l.self))
