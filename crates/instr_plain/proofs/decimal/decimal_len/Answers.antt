use Rattle.std.proofs.Common.{sym, arith}
use Rattle.instr_plain.proofs.Decimals.{one_digit, two_digits, three_digits, four_digits, five_digits}
use Rattle.instr_plain.proofs.decimal.decimal_len.Goals as goal

pub returns-in-0-to-9-clause-value : goal.returns-in-0-to-9-clause-value
returns-in-0-to-9-clause-value c = sym (one_digit c.args.n (omega arith))

pub returns-in-10-to-99-clause-value : goal.returns-in-10-to-99-clause-value
returns-in-10-to-99-clause-value c = sym (two_digits c.args.n (omega arith) (omega arith))

pub returns-in-100-to-999-clause-value : goal.returns-in-100-to-999-clause-value
returns-in-100-to-999-clause-value c = sym (three_digits c.args.n (omega arith) (omega arith))

pub returns-in-1000-to-9999-clause-value : goal.returns-in-1000-to-9999-clause-value
returns-in-1000-to-9999-clause-value c = sym (four_digits c.args.n (omega arith) (omega arith))

pub returns-in_default-clause-value : goal.returns-in_default-clause-value
returns-in_default-clause-value c = sym (five_digits c.args.n (omega arith) (omega arith))
