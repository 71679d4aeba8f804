use Rattle.tmc_law.proofs.WorkedRefused.{comes_twice, comes_wrong}
use Rattle.tmc_law.proofs.WorkedMany.{comes_many}
use Rattle.tmc_law.proofs.worked.refused_bytes_close.Goals as goal

pub returns-clause-number : goal.returns-clause-number
returns-clause-number c = comes_twice

pub returns-clause-command : goal.returns-clause-command
returns-clause-command c = comes_wrong

pub returns-clause-many : goal.returns-clause-many
returns-clause-many c = comes_many
