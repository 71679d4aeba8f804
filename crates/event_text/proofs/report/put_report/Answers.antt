use Rattle.std.proofs.Common.{◌∙◌, ap, List, ℕ, ◌++◌}
use Rattle.instr_plain.specs.declared.log.LogEntry.{LogEntry}
use Rattle.event_text.specs.Report.{numbered, answer_line, log_line}
use Rattle.event_text.proofs.Reported.{report_put}
use Rattle.event_text.proofs.report.put_report.Goals as goal

pub returns-clause-put : goal.returns-clause-put
returns-clause-put c =
    report_put c.args.answers.now c.args.end c.args.book.now c.args.log.now.entries c.args.up.now c.args.down.now c.args.out.now.items _ _ _ _ _ _ c.hand_over.result
    (c.in_ok-put_answers.ensures ∙ ap (λ (z : List ℕ). z ++ numbered answer_line 1 c.args.answers.now) c.new-text.ensures.items)
    c.in_ok-put_book_lines.ensures (c.in_ok-put_log_lines.ensures ∙ ap (λ (z : List LogEntry). c.put_book_lines.new.text.items ++ numbered log_line 1 z) c.entries.ensures)
    c.in_ok-put_stream_lines.ensures c.in_ok-put_stream_lines-2.ensures c.hand_over.ensures.put
