use Rattle.tmc_law.proofs.WorkedAbortOut.{aborts_out}
use Rattle.tmc_law.proofs.worked.a_split_message_is_aborted.Goals as goal

pub returns : goal.returns
returns c = aborts_out
