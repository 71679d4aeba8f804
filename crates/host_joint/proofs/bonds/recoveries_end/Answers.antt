use Rattle.host_joint.proofs.Recovering.{ends, cleared_rests}
use Rattle.host_joint.proofs.bonds.recoveries_end.Goals as goal

pub returns-clause-rest : goal.returns-clause-rest
returns-clause-rest c next ups downs s outs ins bound = ends _ next ups downs s outs ins bound.bond.held bound.bond

pub returns-clause-cleared : goal.returns-clause-cleared
returns-clause-cleared c next ups downs s outs ins bound = ends _ next ups downs s outs ins (cleared_rests s bound.bond.held) bound.bond
