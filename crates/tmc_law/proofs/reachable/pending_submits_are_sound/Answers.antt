use Rattle.tmc_law.proofs.Reaching.{reached, stand, distinct, few}
use Rattle.tmc_law.proofs.PolledFor.{polled_for}
use Rattle.tmc_law.proofs.reachable.pending_submits_are_sound.Goals as goal

pub returns-clause-halted : goal.returns-clause-halted
returns-clause-halted c = λ run s goes. (reached run s goes).halts

pub returns-clause-first : goal.returns-clause-first
returns-clause-first c = λ run s e goes. (reached run s goes).first e

pub returns-clause-stand : goal.returns-clause-stand
returns-clause-stand c = stand

pub returns-clause-distinct : goal.returns-clause-distinct
returns-clause-distinct c = distinct

pub returns-clause-few : goal.returns-clause-few
returns-clause-few c = few

pub returns-clause-polled : goal.returns-clause-polled
returns-clause-polled c = polled_for
