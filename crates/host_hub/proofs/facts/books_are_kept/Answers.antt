use Rattle.host_hub.proofs.Sound.{book_ok}
use Rattle.host_hub.proofs.facts.books_are_kept.Goals as goal

pub returns : goal.returns
returns c = book_ok
