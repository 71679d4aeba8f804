use Rattle.std.proofs.Common.{arith, refl}
use Rattle.event_text.specs.Report.{answer_line}
use Rattle.event_text.proofs.Numbered.{numbered_more, numbered_all}
use Rattle.event_text.proofs.answer.put_answers.Goals as goal

pub answers-preserved : goal.answers-preserved
answers-preserved c = record {
  number = omega arith;
  text =
      numbered_more answer_line c.args.answers.now _ _ c.answers.answer-index c.answers.number c.args.text.now.items c.answers.text.items _ c.answers.invariant.text (omega arith) refl c.answers.invariant.number
      c.in_ok-put_answer.ensures;
}

pub returns : goal.returns
returns c = numbered_all answer_line c.args.answers.now c.answers.answer-index c.args.text.now.items c.answers.text.items c.answers.invariant.text (omega arith)
