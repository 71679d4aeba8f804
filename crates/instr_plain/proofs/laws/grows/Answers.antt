use Rattle.instr_plain.specs.Standing.{at_power_on}
use Rattle.instr_plain.proofs.Logs.{grows_by}
use Rattle.instr_plain.proofs.laws.grows.Goals as goal

pub returns : goal.returns
returns c = λ log entry before after p q. grows_by at_power_on log entry before after p q
