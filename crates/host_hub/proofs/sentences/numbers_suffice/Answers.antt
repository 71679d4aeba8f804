use Rattle.host_hub.proofs.Numbered.{numbers_suffice}
use Rattle.host_hub.proofs.sentences.numbers_suffice.Goals as goal

pub returns : goal.returns
returns c = numbers_suffice c.each_submit_is_unlinked_once.ensures.none
