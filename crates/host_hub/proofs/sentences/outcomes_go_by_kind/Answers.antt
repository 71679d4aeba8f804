use Rattle.host_hub.proofs.Outcomes.{settles_as}
use Rattle.host_hub.proofs.sentences.outcomes_go_by_kind.Goals as goal

pub returns : goal.returns
returns c = λ setting past ticket asking outcome lawful. settles_as setting past lawful ticket asking outcome
