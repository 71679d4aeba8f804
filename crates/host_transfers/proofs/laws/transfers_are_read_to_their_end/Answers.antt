use Rattle.std.proofs.Common.{arith}
use Rattle.host_transfers.proofs.Cuts.{some_cut, one_cut, reads_enough, reads_few}
use Rattle.host_transfers.proofs.laws.transfers_are_read_to_their_end.Goals as goal

pub returns-clause-some : goal.returns-clause-some
returns-clause-some c = λ bytes. some_cut 4096 0 bytes (omega arith) (omega arith)

pub returns-clause-one : goal.returns-clause-one
returns-clause-one c = one_cut 4096 0

pub returns-clause-enough : goal.returns-clause-enough
returns-clause-enough c = reads_enough

pub returns-clause-few : goal.returns-clause-few
returns-clause-few c = reads_few
