use Rattle.host_hub.proofs.AccountTurns.{account_tended}
use Rattle.host_hub.proofs.recorded.accounts_are_tended.Goals as goal

pub returns : goal.returns
returns c = account_tended (record { device = c.hubs_stay_joined.ensures.device; hub = c.hubs_stay_joined.ensures.hub; free = c.answers_are_determined.ensures.free })
