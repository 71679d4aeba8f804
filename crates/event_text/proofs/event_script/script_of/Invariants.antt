use Rattle.std.proofs.Common.{◌≤◌, ◌+◌, length}
use Rattle.event_text.specs.Script.{lines_most}
use Rattle.event_text.proofs.EventProgress.{Progress}
use Rattle.event_text.proofs.event_script.script_of.Given as goal

-- the lines before the rest are read
abbrev pub invariant-lines : goal.invariant-lines
invariant-lines l = record {
  progress : Progress l.source l.rest l.number l.place l.script;
  few : l.number ≤ lines_most + 1;
}

abbrev pub decreases-lines : goal.decreases-lines
decreases-lines l = length l.rest
