use Rattle.instr_plain.specs.Standing.{at_power_on}
use Rattle.instr_plain.proofs.Logs.{responds_one}
use Rattle.instr_plain.proofs.laws.one_response.Goals as goal

pub returns : goal.returns
returns c = λ log i response other p q. responds_one c.one_reading.ensures at_power_on log i response other p q
