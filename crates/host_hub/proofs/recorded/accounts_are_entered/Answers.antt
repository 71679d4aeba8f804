use Rattle.host_hub.proofs.Entering.{account_asked, account_given}
use Rattle.host_hub.proofs.Viewing.{has_view}
use Rattle.host_hub.proofs.recorded.accounts_are_entered.Goals as goal

pub returns-clause-asked : goal.returns-clause-asked
returns-clause-asked c = account_asked (record { device = c.hubs_stay_joined.ensures.device; hub = c.hubs_stay_joined.ensures.hub; free = c.answers_are_determined.ensures.free })

pub returns-clause-view : goal.returns-clause-view
returns-clause-view c = has_view

pub returns-clause-given : goal.returns-clause-given
returns-clause-given c = account_given (record { device = c.hubs_stay_joined.ensures.device; hub = c.hubs_stay_joined.ensures.hub; free = c.answers_are_determined.ensures.free })
