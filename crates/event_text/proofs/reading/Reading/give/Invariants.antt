use Rattle.std.proofs.Common.{length}
use Rattle.event_text.specs.Read.{standing_of, IsSound}
use Rattle.event_text.proofs.Given.{Given}
use Rattle.event_text.proofs.reading.Reading.give.Given as goal

-- what is read so far of the piece is printed
abbrev pub invariant-loop-used : goal.invariant-loop-used
invariant-loop-used l = record {
  given : Given (standing_of l.fn.self.reader l.fn.self.dirs) l.fn.piece l.left (standing_of l.self.reader l.self.dirs) l.fn.text.items l.text.items;
  sound : IsSound l.self.reader l.self.dirs l.self.refused;
}

abbrev pub decreases-loop-used : goal.decreases-loop-used
decreases-loop-used l = length l.left
