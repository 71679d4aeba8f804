use Rattle.std.proofs.Common.{◌≤◌, ◌+◌, length}
use Rattle.event_text.specs.Read.{IsSound, standing_of}
use Rattle.event_text.specs.Script.{lines_most}
use Rattle.event_text.proofs.Progress.{Progress}
use Rattle.event_text.proofs.shown.text_of.Given as goal

-- the lines before the rest are read
abbrev pub invariant-lines : goal.invariant-lines
invariant-lines l = record {
  progress : Progress l.way l.source l.rest l.number (standing_of l.reading.reader l.reading.dirs) l.text.items;
  sound : IsSound l.reading.reader l.reading.dirs l.reading.refused;
  few : l.number ≤ lines_most + 1;
}

abbrev pub decreases-lines : goal.decreases-lines
decreases-lines l = length l.rest
