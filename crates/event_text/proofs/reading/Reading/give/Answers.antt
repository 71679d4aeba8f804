use Rattle.std.proofs.Common.{subst}
use Rattle.event_text.specs.Read.{standing_of, Stepped}
use Rattle.event_text.proofs.Given.{one_given, last_given}
use Rattle.event_text.proofs.reading.Reading.give.Goals as goal

pub loop-used-preserved : goal.loop-used-preserved
loop-used-preserved c =
    let stepped = c.in_ok-used.ensures.stepped in
    let now = standing_of c.loop-used.self.reader c.loop-used.self.dirs in
    let new = standing_of c.step.new.self.reader c.step.new.self.dirs in
    record {
      given =
          one_given _ c.args.piece.now c.loop-used.left.now now _ c.loop-used.text.items c.in-Message.used stepped.0 new _ c.loop-used.invariant.given
          (subst (λ s. Stepped now c.loop-used.left.now s stepped.0 new) c.in-Message.is stepped.2) stepped.1;
      sound = c.in_ok-used.ensures.sound;
    }

pub returns : goal.returns
returns c =
    let stepped = c.in_ok-used.ensures.stepped in
    let now = standing_of c.loop-used.self.reader c.loop-used.self.dirs in
    let new = standing_of c.step.new.self.reader c.step.new.self.dirs in
    record {
      printed =
          last_given _ c.args.piece.now c.loop-used.left.now now _ c.loop-used.text.items c.in_ok-used.field-0 stepped.0 new _ c.in_default.not-Message
          c.loop-used.invariant.given stepped.2 stepped.1;
      sound = c.in_ok-used.ensures.sound;
    }
