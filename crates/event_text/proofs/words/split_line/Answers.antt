use Rattle.event_text.proofs.Cuts.{nl_some}
use Rattle.event_text.proofs.words.split_line.Goals as goal

pub returns : goal.returns
returns c = nl_some c.args.bytes.now c.in_ok-at.at c.in_ok-at.ensures
