use Rattle.instr_plain.specs.Standing.{at_power_on}
use Rattle.instr_plain.proofs.Logs.{responds_last}
use Rattle.instr_plain.proofs.laws.responds.Goals as goal

pub returns : goal.returns
returns c = λ log seq message before after p q. responds_last at_power_on log seq message before after p q
