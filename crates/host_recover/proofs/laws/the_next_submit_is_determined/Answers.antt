use Rattle.host_recover.proofs.Words.{determined}
use Rattle.host_recover.proofs.laws.the_next_submit_is_determined.Goals as goal

pub returns : goal.returns
returns c = determined
