use Rattle.std.proofs.Common.{refl, arith}
use Rattle.event_text.proofs.EventProgress.{none_read, line_read}
use Rattle.event_text.proofs.event_script.script_of.Goals as goal

pub lines-init : goal.lines-init
lines-init c = record { progress = none_read c.args.source.now c.new.result c.new.ensures; few = omega arith }

pub lines-preserved : goal.lines-preserved
lines-preserved c = record {
  progress =
      line_read c.args.source.now c.lines.rest.now c.first_line.result.0.now c.first_line.result.1.now c.lines.number _ c.lines.place c.in-Ok.next c.lines.script _
      c.lines.invariant.progress c.first_line.ensures.cut c.in-Ok.ensures refl;
  few = omega (arith, c.in-Ok.ensures.0);
}
