use Rattle.std.proofs.Common.{[], refl, subst}
use Rattle.tmc_law.specs.State.{Pending}
use Rattle.endpoint_pipes.specs.Outcome.{Ends}
use Rattle.endpoint_pipes.proofs.pipes.Pipes.answer.Goals as goal

pub returns-clause-over : goal.returns-clause-over
returns-clause-over c submit behind stood = subst (λ (p : Pending). Ends p c.end.result) (c.take_at.ensures.taken [] submit behind stood refl) c.end.ensures

pub returns-clause-left : goal.returns-clause-left
returns-clause-left c submit behind stood = c.take_at.ensures.left [] submit behind stood refl
