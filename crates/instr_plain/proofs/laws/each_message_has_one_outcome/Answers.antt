use Rattle.instr_plain.proofs.Logs.{exec_one}
use Rattle.instr_plain.proofs.Totals.{executed, short}
use Rattle.instr_plain.proofs.laws.each_message_has_one_outcome.Goals as goal

pub returns-clause-every : goal.returns-clause-every
returns-clause-every c = executed c.a_message_or_a_fault.ensures.either

pub returns-clause-one : goal.returns-clause-one
returns-clause-one c before after other message response different = exec_one c.one_reading.ensures before message after other response different

pub returns-clause-short : goal.returns-clause-short
returns-clause-short c = short
