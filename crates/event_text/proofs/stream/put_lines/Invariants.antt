use Rattle.std.proofs.Common.{length}
use Rattle.event_text.specs.Report.{stream_letter}
use Rattle.event_text.proofs.StreamLines.{Progress}
use Rattle.event_text.proofs.stream.put_lines.Given as goal

abbrev pub invariant-lines : goal.invariant-lines
invariant-lines l = Progress (stream_letter l.way) l.bytes l.rest l.fn.text.items l.text.items

abbrev pub decreases-lines : goal.decreases-lines
decreases-lines l = length l.rest
