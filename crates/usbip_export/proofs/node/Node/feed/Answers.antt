use Rattle.usbip_export.proofs.Failed.{fed_fails}
use Rattle.usbip_export.proofs.node.Node.feed.Goals as goal

pub returns-clause-works : goal.returns-clause-works
returns-clause-works c = λ ample shut. (c.take_piece.ensures.works ample shut).works

pub returns-clause-cause : goal.returns-clause-cause
returns-clause-cause c =
    fed_fails c.a_closed_run_ends_with_refused_bytes.ensures.ends c.args.self.now c.take_piece.new.self c.args.piece.now c.take_piece.result
    (λ ample shut. (c.take_piece.ensures.works ample shut).works) c.take_piece.ensures.shut c.take_piece.ensures.refused c.take_piece.ensures.none_kept
