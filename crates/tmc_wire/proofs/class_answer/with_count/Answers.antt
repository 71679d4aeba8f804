use Rattle.std.proofs.Common.{ℕ, ◌<◌, get_or, arith}
use Rattle.tmc_wire.proofs.Layouts.{count_given}
use Rattle.tmc_wire.proofs.class_answer.with_count.Goals as goal

pub returns-in-len8-up : goal.returns-in-len8-up
returns-in-len8-up c =
    let fits : (k : ℕ) → get_or c.args.bytes.now k 0 < 256 = λ k. omega (arith, c.type_inv.bytes k) in
    count_given c.args.bytes.now c.from_le_bytes.result c.in-len8-up.len_at_least fits (omega arith) c.from_le_bytes.ensures
