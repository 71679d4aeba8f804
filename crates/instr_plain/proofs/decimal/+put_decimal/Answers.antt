use Rattle.std.proofs.Common.{◌≡◌, ◌++◌, ◌+◌, ◌/◌, ◌%◌, [], ◌∷◌, ap, sym, arith, length, append_assoc, length-append}
use Rattle.std.specs.Fmt.{decimal}
use Rattle.std.proofs.lemmas.Fmt.{decimal_digit, decimal_step}
use Rattle.instr_plain.proofs.Decimals.{one_digit, more_digits}
use Rattle.instr_plain.proofs.decimal.+put_decimal.Goals as goal
use Rattle.instr_plain.proofs.decimal.+put_decimal.Goals.{then-n-ge10, else-n-ge10}

pub put_decimal-requires : goal.put_decimal-requires
put_decimal-requires t c =
    (omega arith, omega (arith, more_digits c.args.n (omega arith) (omega arith), c.requires))

pub put_byte-requires : goal.put_byte-requires
put_byte-requires t c =
    elim c.if-n-ge10.branch [
      | then-n-ge10 w ↦ rw w.output-is (omega (arith, more_digits c.args.n (omega arith) (omega arith), ap length w.put_decimal.ensures.items, length-append c.args.output.now.items (decimal (c.args.n / 10)), w.put_decimal.ensures.capacity, c.requires))
      | else-n-ge10 w ↦ rw w.output-is (omega (arith, one_digit c.args.n (omega arith), c.requires))
    ]

pub returns-clause-items : goal.returns-clause-items
returns-clause-items t c =
    elim c.if-n-ge10.branch [
      | then-n-ge10 w ↦
          let step = decimal_step c.args.n (omega arith) (omega arith) in
          let joined = append_assoc c.args.output.now.items (decimal (c.args.n / 10)) ((48 + c.args.n % 10) ∷ []) in
          rw (c.put_byte.ensures.items, w.output-is, w.put_decimal.ensures.items, joined) (ap (λ ds. c.args.output.now.items ++ ds) (sym step))
      | else-n-ge10 w ↦
          let small : c.args.n % 10 ≡ c.args.n = omega arith in
          rw (c.put_byte.ensures.items, w.output-is, small) (ap (λ ds. c.args.output.now.items ++ ds) (sym (decimal_digit c.args.n (omega arith))))
    ]
