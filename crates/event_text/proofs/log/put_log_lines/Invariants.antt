use Rattle.std.proofs.Common.{◌≡◌, ◌+◌, ◌++◌, take}
use Rattle.event_text.specs.Report.{numbered, log_line}
use Rattle.event_text.proofs.log.put_log_lines.Given as goal

abbrev pub invariant-entries : goal.invariant-entries
invariant-entries l = record {
  number : l.number ≡ 1 + l.entry-index;
  text : l.text.items ≡ l.fn.text.items ++ numbered log_line 1 (take l.entry-index l.entries);
}
