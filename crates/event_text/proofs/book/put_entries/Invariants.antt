use Rattle.std.proofs.Common.{◌≡◌, ◌+◌, ◌++◌, take}
use Rattle.event_text.specs.Report.{numbered, entry_line}
use Rattle.event_text.proofs.book.put_entries.Given as goal

abbrev pub invariant-entries : goal.invariant-entries
invariant-entries l = record {
  number : l.number ≡ 1 + l.entry-index;
  text : l.text.items ≡ l.fn.text.items ++ numbered entry_line 1 (take l.entry-index l.entries);
}
