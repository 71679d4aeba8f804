use Rattle.std.proofs.Common.{arith}
use Rattle.event_text.specs.Report.{log_line}
use Rattle.event_text.proofs.Numbered.{numbered_more, numbered_all}
use Rattle.event_text.proofs.log.put_log_lines.Goals as goal

pub entries-preserved : goal.entries-preserved
entries-preserved c = record {
  number = omega arith;
  text =
      numbered_more log_line c.args.entries.now c.entry-item.result c.entry-item.result c.entries.entry-index c.entries.number c.args.text.now.items c.entries.text.items _ c.entries.invariant.text (omega arith) c.entry-item.is c.entries.invariant.number
      c.in_ok-put_entry.ensures;
}

pub returns : goal.returns
returns c = numbered_all log_line c.args.entries.now c.entries.entry-index c.args.text.now.items c.entries.text.items c.entries.invariant.text (omega arith)
