use Rattle.host_hub.proofs.Cancelling.{completes_kept, races_kept}
use Rattle.host_hub.proofs.stops.an_answer_races.Goals as goal

pub returns-clause-unmade : goal.returns-clause-unmade
returns-clause-unmade c = races_kept

pub returns-clause-made : goal.returns-clause-made
returns-clause-made c = completes_kept
