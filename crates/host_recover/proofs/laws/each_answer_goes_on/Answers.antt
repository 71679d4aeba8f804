use Rattle.host_recover.proofs.Words.{answered}
use Rattle.host_recover.proofs.laws.each_answer_goes_on.Goals as goal

pub returns : goal.returns
returns c = answered
