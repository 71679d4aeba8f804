use Rattle.std.proofs.Common.{◌∙◌, sym, ap}
use Rattle.instr_plain.specs.Output.{is_too_long}
use Rattle.instr_plain.proofs.Answers.{told_short, told_too_long}
use Rattle.instr_plain.proofs.run.tell.Goals as goal

pub returns-then-put : goal.returns-then-put
returns-then-put c = λ before at.
    let long = ap (λ w. is_too_long c.args.answer.now w) at.output_is ∙ sym c.put.ensures.too_long ∙ c.if-put.true in
    rw (c.set_event.ensures, c.put.ensures.output, ← at.state_is, ← at.output_is) (told_too_long c.args.answer.now before long)

pub returns-else-put : goal.returns-else-put
returns-else-put c = λ before at.
    let short = ap (λ w. is_too_long c.args.answer.now w) at.output_is ∙ sym c.put.ensures.too_long ∙ c.if-put.false in
    rw (c.put.ensures.output, ← at.state_is, ← at.output_is) (told_short c.args.answer.now before short)
