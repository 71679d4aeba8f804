use Rattle.std.proofs.Common.{◌≡◌, ◌∙◌, ap, sym}
use Rattle.tmc_law.specs.State.{State, Plugged, Unplugged}
use Rattle.host_joint.proofs.asks.unplugging_is_the_end.Goals as goal

pub returns-clause-answered : goal.returns-clause-answered
returns-clause-answered c s t puts step = (step.leads.answered, ap (λ (x : State). x.log) step.leads.is, ap (λ (x : State). x.standing) step.leads.is)

pub returns-clause-last : goal.returns-clause-last
returns-clause-last c s t later puts more move step next =
    let e : Unplugged ≡ Plugged = sym (ap (λ (x : State). x.presence) step.leads.is) ∙ next.plugged in cc
