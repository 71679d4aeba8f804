use Rattle.std.proofs.Common.{length}
use Rattle.usbip_export.specs.Steps.{AreArrivals, MovesBy}
use Rattle.usbip_export.specs.Body.{seen_of, IsSound}
use Rattle.usbip_export.proofs.body.Body.take_in.Given as goal

abbrev pub invariant-messages : goal.invariant-messages
invariant-messages l = record {
  sound : IsSound l.self;
  moves : MovesBy AreArrivals (seen_of l.fn.self) (seen_of l.self);
}

abbrev pub decreases-messages : goal.decreases-messages
decreases-messages l = length (seen_of l.self).kept
