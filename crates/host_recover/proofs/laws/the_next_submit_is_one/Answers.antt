use Rattle.host_recover.proofs.Next.{next_is_one}
use Rattle.host_recover.proofs.laws.the_next_submit_is_one.Goals as goal

pub returns : goal.returns
returns c = next_is_one
