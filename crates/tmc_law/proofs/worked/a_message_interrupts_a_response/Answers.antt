use Rattle.tmc_law.proofs.WorkedInterrupt.{interrupts}
use Rattle.tmc_law.proofs.worked.a_message_interrupts_a_response.Goals as goal

pub returns : goal.returns
returns c = interrupts
