use Rattle.std.proofs.Common.{arith, refl}
use Rattle.event_text.specs.Report.{entry_line}
use Rattle.event_text.proofs.Numbered.{numbered_more, numbered_all}
use Rattle.event_text.proofs.book.put_entries.Goals as goal

pub entries-preserved : goal.entries-preserved
entries-preserved c = record {
  number = omega arith;
  text =
      numbered_more entry_line c.args.entries.now _ _ c.entries.entry-index c.entries.number c.args.text.now.items c.entries.text.items _ c.entries.invariant.text (omega arith) refl c.entries.invariant.number
      c.in_ok-put_entry.ensures;
}

pub returns : goal.returns
returns c = numbered_all entry_line c.args.entries.now c.entries.entry-index c.args.text.now.items c.entries.text.items c.entries.invariant.text (omega arith)
