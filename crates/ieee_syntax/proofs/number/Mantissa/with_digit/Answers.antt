use Rattle.std.proofs.Common.{ℕ, ◌+◌, ◌*◌, ◌^◌, ◌<◌, ◌≤◌, arith}
use Rattle.std.proofs.Math.Nat.{pow-le-pow_right}
use Rattle.ieee_syntax.proofs.number.Mantissa.with_digit.Goals as goal

-- one more digit than 31 makes a number below 10 ^ 32
room : (digits count : ℕ) → digits < 10 ^ count → count < 32 → 10 * digits + 9 < 2 ^ 128
room digits count small few =
    let power : 10 ^ count ≤ 10 ^ 31 = pow-le-pow_right {n = 10} (omega arith) {j = 31} (omega arith) in
    omega arith

pub overflow_mul-result : goal.overflow_mul-result
overflow_mul-result c =
    let fits = room c.args.self.digits c.args.self.count c.requires.fits.digits c.requires.room in search (arith, fits)

pub overflow_add-result : goal.overflow_add-result
overflow_add-result c =
    let fits = room c.args.self.digits c.args.self.count c.requires.fits.digits c.requires.room in search (arith, fits)
