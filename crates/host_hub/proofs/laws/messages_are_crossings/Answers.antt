use Rattle.host_hub.proofs.Messages.{written_same, taken_same, next_same}
use Rattle.host_hub.proofs.laws.messages_are_crossings.Goals as goal

pub returns-clause-written : goal.returns-clause-written
returns-clause-written c = written_same

pub returns-clause-taken : goal.returns-clause-taken
returns-clause-taken c = taken_same

pub returns-clause-next : goal.returns-clause-next
returns-clause-next c = next_same
