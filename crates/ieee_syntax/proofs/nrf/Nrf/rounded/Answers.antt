use Rattle.std.proofs.Common.{◌≡◌, ◌∙◌, arith, neg_ℤ, pos, true, false, SFits, w32, w64, of_z, to_z, rules, ◌-ℤ◌, subst, sym}
use Rattle.std.proofs.lemmas.Int.{ints, to_z-of_z}
use Rattle.ieee_syntax.proofs.Rounding.{rounded_from, Rounds-rounded}
use Rattle.ieee_syntax.specs.Rounded.{Rounds}
use Rattle.ieee_syntax.proofs.nrf.Nrf.rounded.Goals as goal

pub returns-then-self-clause-value : goal.returns-then-self-clause-value
returns-then-self-clause-value c =
    let fits : SFits w32 c.args.self.now.exponent = search rules in
    let value = simp to_z-of_z at c.magnitude.ensures.value in
    let turned : to_z w64 (of_z w64 (pos 0 -ℤ to_z w64 (of_z w64 c.from-magnitude.result))) ≡ neg_ℤ (pos c.magnitude.result) = omega (arith, ints) in
    turned ∙ rounded_from c.args.self.now c.magnitude.result true value c.if-self.true

pub returns-else-self-clause-value : goal.returns-else-self-clause-value
returns-else-self-clause-value c =
    let fits : SFits w32 c.args.self.now.exponent = search rules in
    let value = simp to_z-of_z at c.magnitude.ensures.value in
    let same : to_z w64 (of_z w64 c.from-magnitude.result) ≡ pos c.magnitude.result = omega (arith, ints) in
    same ∙ rounded_from c.args.self.now c.magnitude.result false value c.if-self.false

pub returns-then-self-clause-nearest : goal.returns-then-self-clause-nearest
returns-then-self-clause-nearest c = subst (Rounds c.args.self.now) (sym (returns-then-self-clause-value c)) (Rounds-rounded c.args.self.now)

pub returns-else-self-clause-nearest : goal.returns-else-self-clause-nearest
returns-else-self-clause-nearest c = subst (Rounds c.args.self.now) (sym (returns-else-self-clause-value c)) (Rounds-rounded c.args.self.now)
