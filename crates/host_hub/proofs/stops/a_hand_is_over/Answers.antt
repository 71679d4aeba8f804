use Rattle.host_hub.proofs.Recovering.{none_begun}
use Rattle.host_hub.proofs.stops.a_hand_is_over.Goals as goal

pub returns : goal.returns
returns c = λ setting past ticket lawful over. none_begun setting past lawful over ticket
