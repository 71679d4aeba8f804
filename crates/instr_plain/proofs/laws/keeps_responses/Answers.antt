use Rattle.instr_plain.specs.Standing.{at_power_on}
use Rattle.instr_plain.proofs.Logs.{keeps}
use Rattle.instr_plain.proofs.laws.keeps_responses.Goals as goal

pub returns : goal.returns
returns c = λ log more i response within. keeps at_power_on log more i response within
