use Rattle.host_urbs.proofs.Known.{known}
use Rattle.host_urbs.proofs.laws.numbers_are_in_a_row.Goals as goal

pub returns : goal.returns
returns c = λ first past h. (known first past h).row
