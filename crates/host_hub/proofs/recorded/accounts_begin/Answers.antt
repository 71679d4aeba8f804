use Rattle.host_hub.proofs.Accounts.{account_begins}
use Rattle.host_hub.proofs.recorded.accounts_begin.Goals as goal

pub returns : goal.returns
returns c = account_begins c.hubs_begin_joined.ensures
