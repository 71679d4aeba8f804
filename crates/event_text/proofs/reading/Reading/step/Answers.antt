use Rattle.std.proofs.Common.{sym, subst}
use Rattle.event_text.specs.Read.{IsMarked, standing_of}
use Rattle.event_text.proofs.Sound.{settled_after, marked_after}
use Rattle.event_text.proofs.reading.Reading.step.Goals as goal

pub returns-clause-sound : goal.returns-clause-sound
returns-clause-sound c =
    let stepped = c.in_ok-step.ensures.stepped in
    let old = standing_of c.args.self.now.reader c.args.self.now.dirs in
    let new = standing_of c.feed.new.self.reader c.feed.new.self.dirs in
    let marked = marked_after old c.args.piece.now c.in_ok-step.step stepped.0 new c.requires.good stepped.2 in
    (subst (λ b. IsMarked b new) (sym c.is_bad-self.ensures) marked, c.in_ok-step.ensures.ours, settled_after old c.args.piece.now c.in_ok-step.step stepped.0 new stepped.2)
