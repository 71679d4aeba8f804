use Rattle.tmc_law.proofs.Refused.{takes_spellings}
use Rattle.tmc_law.proofs.laws.runs_take_in_messages.Goals as goal

pub returns : goal.returns
returns c = takes_spellings
