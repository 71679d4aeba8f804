use Rattle.instr_plain.proofs.Logs.{after_one}
use Rattle.instr_plain.proofs.Totals.{leads_on, stays_short}
use Rattle.instr_plain.proofs.laws.each_entry_leads_to_one_standing.Goals as goal

pub returns-clause-every : goal.returns-clause-every
returns-clause-every c = leads_on c.each_message_has_one_outcome.ensures.every

pub returns-clause-one : goal.returns-clause-one
returns-clause-one c before after other entry = after_one c.one_reading.ensures before entry after other

pub returns-clause-short : goal.returns-clause-short
returns-clause-short c = stays_short
