use Rattle.host_hub.proofs.Within.{asks_alone, never_passes}
use Rattle.host_hub.proofs.sentences.bytes_keep_the_limit.Goals as goal

pub returns-clause-within : goal.returns-clause-within
returns-clause-within c = λ setting past ticket asking lawful. never_passes setting past lawful ticket asking

pub returns-clause-asks : goal.returns-clause-asks
returns-clause-asks c = λ setting past ticket asking lawful. asks_alone setting past lawful ticket asking
