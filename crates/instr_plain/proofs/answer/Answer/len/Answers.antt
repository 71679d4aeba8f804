use Rattle.std.proofs.Common.{length, arith}
use Rattle.std.specs.Fmt.{decimal}
use Rattle.instr_plain.proofs.Answers.{length-block}
use Rattle.instr_plain.proofs.Decimals.{one_digit}
use Rattle.instr_plain.proofs.answer.Answer.len.Goals as goal

pub returns-in-Block-clause-value : goal.returns-in-Block-clause-value
returns-in-Block-clause-value c =
    let digit = one_digit (length (decimal c.in-Block.size)) (omega (arith, c.decimal_len-in-Block.ensures.value, c.decimal_len-in-Block.ensures.short)) in
    let size = c.from-in-Block.ensures in
    rw c.in-Block.is (omega (arith, length-block c.in-Block.acquisitions c.in-Block.conf c.in-Block.size, c.decimal_len-in-Block.ensures.value))
