use Rattle.std.proofs.Common.{refl}
use Rattle.tmc_tool.proofs.Limits.{line_followed, all_followed}
use Rattle.tmc_tool.proofs.script.follow.Goals as goal

pub lines-preserved : goal.lines-preserved
lines-preserved c =
    line_followed c.args.piece.now c.lines.rest.now c.in-Some.line.now c.in-Some.more.now c.args.place c.lines.at c.inside.result c.behind_nl-at.result
    c.lines.invariant c.in-Some.ensures.0 c.in-Some.ensures.1 (λ bytes at. c.inside.ensures bytes c.in-Some.line.now c.in-Some.ensures.0 refl at) c.behind_nl-at.ensures

pub returns : goal.returns
returns c =
    all_followed c.args.piece.now c.lines.rest.now c.args.place c.lines.at c.inside-2.result c.lines.invariant
    (λ bytes at. c.inside-2.ensures bytes c.lines.rest.now c.in_default.ensures refl at)
