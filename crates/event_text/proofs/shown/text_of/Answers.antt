use Rattle.std.proofs.Common.{refl, sym, arith}
use Rattle.event_text.specs.Read.{standing_of}
use Rattle.event_text.proofs.Progress.{first_read, line_read}
use Rattle.event_text.proofs.shown.text_of.Goals as goal

pub lines-init : goal.lines-init
lines-init c = record {
  progress =
      first_read c.args.way c.args.source.now c.first_line.result.0.now c.first_line.result.1.now c.in-Ok.phase
      (standing_of c.in_ok-reading.reading.reader c.in_ok-reading.reading.dirs) 2 _ c.first_line.ensures.cut (sym c.in-Ok.ensures) c.in_ok-reading.ensures.begun refl c.new-text.ensures.items;
  sound = c.in_ok-reading.ensures.sound;
  few = omega arith;
}

pub lines-preserved : goal.lines-preserved
lines-preserved c =
    let invariant = c.lines.invariant in
    record {
      progress =
          line_read c.args.way c.args.source.now c.lines.rest.now c.first_line-in-lines.result.0.now c.first_line-in-lines.result.1.now c.lines.number _
          (standing_of c.lines.reading.reader c.lines.reading.dirs) _ (standing_of c.put_line.new.reading.reader c.put_line.new.reading.dirs) _
          invariant.progress c.first_line-in-lines.ensures.cut c.in-Ok-put_line.ensures.put refl;
      sound = c.in-Ok-put_line.ensures.sound;
      few = omega (arith, c.in-Ok-put_line.ensures.put.0);
    }
