use Rattle.host_hub.proofs.Going.{bytes_good}
use Rattle.host_hub.proofs.ownership.no_bytes_end_a_hub.Goals as goal

pub returns : goal.returns
returns c = bytes_good c.no_answer_is_refused.ensures.bad
