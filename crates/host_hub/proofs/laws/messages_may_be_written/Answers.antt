use Rattle.host_hub.proofs.Entries.{submit_may, unlink_may}
use Rattle.host_hub.proofs.laws.messages_may_be_written.Goals as goal

pub returns-clause-submit : goal.returns-clause-submit
returns-clause-submit c = submit_may

pub returns-clause-unlink : goal.returns-clause-unlink
returns-clause-unlink c = unlink_may
