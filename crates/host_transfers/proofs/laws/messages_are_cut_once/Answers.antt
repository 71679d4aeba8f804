use Rattle.std.proofs.Common.{arith}
use Rattle.host_transfers.proofs.Cuts.{some_cut, one_cut, parts_enough, parts_few}
use Rattle.host_transfers.proofs.Parting.{is_part}
use Rattle.host_transfers.proofs.laws.messages_are_cut_once.Goals as goal

pub returns-clause-some : goal.returns-clause-some
returns-clause-some c = λ message least. some_cut 1024 1 message (omega arith) least

pub returns-clause-one : goal.returns-clause-one
returns-clause-one c = one_cut 1024 1

pub returns-clause-enough : goal.returns-clause-enough
returns-clause-enough c = parts_enough

pub returns-clause-few : goal.returns-clause-few
returns-clause-few c = parts_few

pub returns-clause-by_number : goal.returns-clause-by_number
returns-clause-by_number c = is_part
