use Rattle.tmc_law.proofs.WorkedParts.{sends_parts}
use Rattle.tmc_law.proofs.worked.a_message_comes_in_parts.Goals as goal

pub returns : goal.returns
returns c = sends_parts
