use Rattle.host_transfers.proofs.Refusals.{none_goes_on, none_is_whole, one_field}
use Rattle.host_transfers.proofs.laws.refusals_are_exact.Goals as goal

pub returns-clause-goes_on : goal.returns-clause-goes_on
returns-clause-goes_on c = none_goes_on

pub returns-clause-ended : goal.returns-clause-ended
returns-clause-ended c = none_is_whole

pub returns-clause-one : goal.returns-clause-one
returns-clause-one c = one_field
