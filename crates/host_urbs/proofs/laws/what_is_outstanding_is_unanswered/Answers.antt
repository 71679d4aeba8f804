use Rattle.host_urbs.proofs.Known.{known}
use Rattle.host_urbs.proofs.laws.what_is_outstanding_is_unanswered.Goals as goal

pub returns : goal.returns
returns c = λ first past h. (known first past h).due
