use Rattle.std.proofs.Common.{arith}
use Rattle.instr_plain.specs.Standing.{at_power_on}
use Rattle.instr_plain.proofs.Totals.{follows_short}
use Rattle.instr_plain.proofs.laws.what_is_unread_is_short.Goals as goal

pub returns : goal.returns
returns c log standing stands = follows_short log at_power_on standing (omega arith) stands
