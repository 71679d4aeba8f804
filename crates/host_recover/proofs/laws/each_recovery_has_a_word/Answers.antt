use Rattle.host_recover.proofs.Some.{has_word}
use Rattle.host_recover.proofs.laws.each_recovery_has_a_word.Goals as goal

pub returns : goal.returns
returns c = has_word
