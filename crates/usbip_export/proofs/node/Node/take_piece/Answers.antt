use Rattle.std.proofs.Common.{refl, subst, []}
use Rattle.usbip_export.specs.Seen.{Seen}
use Rattle.usbip_export.specs.Steps.{AreArrivals}
use Rattle.usbip_export.specs.Serving.{WorksBy}
use Rattle.usbip_export.specs.Body.{seen_of}
use Rattle.usbip_export.proofs.Worked.{fed_works, body_fed}
use Rattle.usbip_export.proofs.node.Node.take_piece.Goals as goal

pub returns-clause-works : goal.returns-clause-works
returns-clause-works c = λ ample shut.
    subst (λ (s : Seen). WorksBy AreArrivals c.args.piece.now [] s (seen_of c.take_on.new.self)) c.self.view_is
    (fed_works AreArrivals (seen_of c.self.inside.body) (seen_of (record c.self.inside.body { late = c.extend_from_slice.new.self })) (seen_of c.take_on.new.self) c.args.piece.now
    (body_fed c.self.inside.body (record c.self.inside.body { late = c.extend_from_slice.new.self }) c.args.piece.now c.if-not-is_open.ensures refl c.in-Ok.ensures.ok)
    c.if-not-is_open.ensures.unrefused c.take_on.ensures.moves)
