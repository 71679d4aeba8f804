use Rattle.tmc_law.specs.State.{start}
use Rattle.tmc_law.specs.WorkedRemote.{locking, releasing}
use Rattle.tmc_law.proofs.WorkedJoined.{joined}
use Rattle.tmc_law.proofs.WorkedRemote.{operates, locked, locks, released, releases}
use Rattle.tmc_law.proofs.worked.a_remote_act_is_logged.Goals as goal

pub returns-clause-remote : goal.returns-clause-remote
returns-clause-remote c = operates

pub returns-clause-locked : goal.returns-clause-locked
returns-clause-locked c = locks

pub returns-clause-released : goal.returns-clause-released
returns-clause-released c = joined locking releasing start locked released locks releases
