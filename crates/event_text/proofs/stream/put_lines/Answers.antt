use Rattle.std.proofs.Common.{◌<◌, length, arith, sym, ◌∙◌}
use Rattle.std.proofs.lemmas.Bool.Decides.{nat_tests}
use Rattle.event_text.specs.Report.{stream_letter}
use Rattle.event_text.proofs.Decoding.{none_left}
use Rattle.event_text.proofs.StreamLines.{begun, line_more, lines_end}
use Rattle.event_text.proofs.stream.put_lines.Goals as goal

pub lines-init : goal.lines-init
lines-init c = begun (stream_letter c.args.way) c.args.bytes.now c.args.text.now.items

pub lines-preserved : goal.lines-preserved
lines-preserved c =
    let some : 0 < length c.lines.rest.now = grind (arith, nat_tests, c.is_empty.ensures, c.lines-test.true) in
    line_more (stream_letter c.args.way) c.args.bytes.now c.lines.rest.now c.args.text.now.items c.lines.text.items c.min.result _ _ _ c.lines.invariant
    c.split_at.ensures.front c.split_at.ensures.back c.min.ensures some c.in_ok-put_line.ensures

pub returns : goal.returns
returns c =
    lines_end (stream_letter c.args.way) c.args.bytes.now c.lines.rest.now c.args.text.now.items c.lines.text.items c.lines.invariant
    (none_left c.lines.rest.now (sym c.is_empty.ensures ∙ c.lines-test.false))
