use Rattle.ieee_syntax.proofs.Faults.{one-fault}
use Rattle.ieee_syntax.proofs.laws.one_fault.Goals as goal

pub returns : goal.returns
returns c = one-fault
