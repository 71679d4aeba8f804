use Rattle.host_transfers.proofs.Given.{given_is}
use Rattle.host_transfers.proofs.laws.reads_give_the_data.Goals as goal

pub returns : goal.returns
returns c = given_is
