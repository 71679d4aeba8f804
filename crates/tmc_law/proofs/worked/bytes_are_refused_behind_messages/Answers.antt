use Rattle.tmc_law.specs.WorkedSession.{devid}
use Rattle.tmc_law.proofs.WorkedBehind.{comes_behind, takes_behind, tells_behind, tells_in_parts, no_fine_bytes}
use Rattle.tmc_law.proofs.worked.bytes_are_refused_behind_messages.Goals as goal

pub returns-clause-runs : goal.returns-clause-runs
returns-clause-runs c = comes_behind

pub returns-clause-takes : goal.returns-clause-takes
returns-clause-takes c = takes_behind

pub returns-clause-told : goal.returns-clause-told
returns-clause-told c = tells_behind

pub returns-clause-in_parts : goal.returns-clause-in_parts
returns-clause-in_parts c = tells_in_parts

pub returns-clause-others : goal.returns-clause-others
returns-clause-others c = no_fine_bytes (c.urbs_are_determined.ensures.free devid)
