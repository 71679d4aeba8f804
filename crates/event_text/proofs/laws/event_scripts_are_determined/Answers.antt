use Rattle.event_text.proofs.EventsDetermined.{scripts_one, refusals_one, not_both}
use Rattle.event_text.proofs.laws.event_scripts_are_determined.Goals as goal

pub returns-clause-script : goal.returns-clause-script
returns-clause-script c = λ source script other a b. scripts_one source script other a b

pub returns-clause-line : goal.returns-clause-line
returns-clause-line c = λ source number second what other a b. refusals_one source number second what other a b

pub returns-clause-either : goal.returns-clause-either
returns-clause-either c = λ source script number what a b. not_both source script number what a b
