use Rattle.std.proofs.Common.{ℕ, ap, length, arith, length-append, [], ◌∷◌}
use Rattle.std.specs.Fmt.{decimal}
use Rattle.instr_plain.proofs.Answers.{length-block}
use Rattle.instr_plain.proofs.output.put_answer.Goals as goal

pub put_samples-requires : goal.put_samples-requires
put_samples-requires c =
    let room = rw c.in-Block.is at c.requires in
    let first = ap length c.put_byte.ensures.items in
    let second = ap length c.put_decimal-in-Block.ensures.items in
    let third = ap length c.put_decimal-in-Block-2.ensures.items in
    let digits = ap (λ (n : ℕ). length (decimal n)) c.decimal_len.ensures.value in
    omega (arith, length-append c.args.output.now.items (35 ∷ []), length-append c.put_byte.new.output.items (decimal c.decimal_len.result), length-append c.put_decimal-in-Block.new.output.items (decimal c.in-Block.size), room, digits, length-block c.in-Block.acquisitions c.in-Block.conf c.in-Block.size)
