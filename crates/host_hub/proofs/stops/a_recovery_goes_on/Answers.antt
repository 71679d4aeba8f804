use Rattle.host_hub.proofs.Recovering.{recovery_begins, recovery_writes, recovery_answered, letters_grow}
use Rattle.host_hub.proofs.stops.a_recovery_goes_on.Goals as goal

pub returns-clause-begins : goal.returns-clause-begins
returns-clause-begins c = recovery_begins

pub returns-clause-writes : goal.returns-clause-writes
returns-clause-writes c = recovery_writes

pub returns-clause-answered : goal.returns-clause-answered
returns-clause-answered c = recovery_answered

pub returns-clause-letter : goal.returns-clause-letter
returns-clause-letter c = letters_grow
