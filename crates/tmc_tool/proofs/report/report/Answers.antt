use Rattle.std.proofs.Common.{ap, ◌∙◌}
use Rattle.host_hub.specs.Behind.{HubParts}
use Rattle.tmc_world.specs.LoopLink.{Looped}
use Rattle.tmc_tool.proofs.Holding.{told_so}
use Rattle.tmc_tool.proofs.report.report.Goals as goal

pub returns : goal.returns
returns c = λ first depth now behind.
    let put = c.in_ok-put_report.ensures.put in
    told_so first depth now c.args.world.now.hub c.args.answers.now _ _ _ _ _ _ put.0 _ behind (c.holds.ensures first depth now behind) put.1
    (c.end.ensures ∙ ap (λ (h : HubParts Looped). h.core.end) c.hub-hub.ensures)
    (c.book.ensures.book ∙ ap (λ (h : HubParts Looped). h.core.book) c.hub-hub.ensures)
    c.log.ensures.log
    (c.sent.ensures ∙ (ap (λ (k : Looped). k.sent) c.link.ensures ∙ ap (λ (h : HubParts Looped). h.link.sent) c.hub-hub.ensures))
    (c.taken.ensures ∙ (ap (λ (k : Looped). k.taken) c.link-2.ensures ∙ ap (λ (h : HubParts Looped). h.link.taken) c.hub-hub.ensures))
    c.new-text.ensures.items put.2
