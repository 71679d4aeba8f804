use Rattle.host_hub.proofs.Owns.{owned}
use Rattle.host_hub.proofs.ownership.tickets_own_their_bytes.Goals as goal

pub returns : goal.returns
returns c = owned (record { own = c.ties_own.ensures })
