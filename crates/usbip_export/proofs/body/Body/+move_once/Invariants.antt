use Rattle.std.proofs.Common.{length}
use Rattle.usbip_export.proofs.body.Body.+move_once.Given as goal

abbrev pub decreases-move_once : goal.decreases-move_once
decreases-move_once l = length l.events.now
