use Rattle.instr_plain.specs.Standing.{at_power_on}
use Rattle.instr_plain.proofs.Logs.{follows_one}
use Rattle.instr_plain.proofs.laws.one_standing.Goals as goal

pub returns : goal.returns
returns c = λ log a b p q. follows_one c.one_reading.ensures at_power_on log a b p q
