use Rattle.std.proofs.Common.{refl, sym, arith}
use Rattle.host_urbs.proofs.Basics.{clash}
use Rattle.host_urbs.proofs.laws.a_read_is_unlinked.Goals as goal

pub returns-clause-lawful : goal.returns-clause-lawful
returns-clause-lawful c = (((tt, record { next = refl; last = omega arith; place = omega arith }), record { next = refl; place = omega arith; named = refl; once = refl }), refl)

pub returns-clause-left : goal.returns-clause-left
returns-clause-left c = refl

pub returns-clause-twice : goal.returns-clause-twice
returns-clause-twice c = λ h. clash (sym h.1.once)

pub returns-clause-behind : goal.returns-clause-behind
returns-clause-behind c = λ h. clash h.1.named

pub returns-clause-skipped : goal.returns-clause-skipped
returns-clause-skipped c = λ h. omega (arith, h.1.next)
