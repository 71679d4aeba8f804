use Rattle.std.proofs.Common.{subst}
use Rattle.usbip_export.specs.Seen.{Seen}
use Rattle.usbip_export.specs.TakenIn.{Moves}
use Rattle.usbip_export.specs.Body.{seen_of}
use Rattle.usbip_export.proofs.node.Node.calm.Goals as goal

pub returns-clause-moves : goal.returns-clause-moves
returns-clause-moves c =
    subst (λ (s : Seen). Moves s (seen_of c.calm_down.new.self)) c.self.view_is c.calm_down.ensures.moves.moves
