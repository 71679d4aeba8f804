use Rattle.std.proofs.Common.{◌≡◌, ◌+◌, ◌++◌, take}
use Rattle.event_text.specs.Report.{numbered, answer_line}
use Rattle.event_text.proofs.answer.put_answers.Given as goal

abbrev pub invariant-answers : goal.invariant-answers
invariant-answers l = record {
  number : l.number ≡ 1 + l.answer-index;
  text : l.text.items ≡ l.fn.text.items ++ numbered answer_line 1 (take l.answer-index l.answers);
}
