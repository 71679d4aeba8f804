use Rattle.tmc_law.proofs.WorkedSpoiled.{sends_unknown, sends_long, sends_short, sends_rest}
use Rattle.tmc_law.proofs.worked.spoiled_submits_halt.Goals as goal

pub returns-clause-header : goal.returns-clause-header
returns-clause-header c = sends_unknown

pub returns-clause-size : goal.returns-clause-size
returns-clause-size c = sends_long

pub returns-clause-short : goal.returns-clause-short
returns-clause-short c = sends_short

pub returns-clause-rest : goal.returns-clause-rest
returns-clause-rest c = sends_rest
