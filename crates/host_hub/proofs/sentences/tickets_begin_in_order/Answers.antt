use Rattle.host_hub.proofs.Starts.{begun_started, started_begun, starts_in_order}
use Rattle.host_hub.proofs.sentences.tickets_begin_in_order.Goals as goal

pub returns-clause-rise : goal.returns-clause-rise
returns-clause-rise c = λ setting past ticket other lawful. starts_in_order setting past lawful ticket other

pub returns-clause-begun : goal.returns-clause-begun
returns-clause-begun c = λ setting past ticket lawful first. begun_started setting past lawful first ticket

pub returns-clause-started : goal.returns-clause-started
returns-clause-started c = λ past ticket. started_begun ticket past
