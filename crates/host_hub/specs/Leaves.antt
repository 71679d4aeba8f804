-- what a step of a hub's core does not change
use Rattle.std.specs.Prelude.{◌≡◌, ◌≤◌, length}
use Rattle.host_urbs.specs.declared.limits.TheConstants.{OUTBOX_MAX}
use Rattle.host_hub.specs.declared.hub_core.HubCore.{HubCore}

-- what it was made with, its turns, and at which of them its tickets were asked; and that its outbox keeps its bound
pub record Keeps (old new : HubCore) : Type 0 where
  pub first : new.first ≡ old.first
  pub ends : new.ends ≡ old.ends
  pub turned : new.turned ≡ old.turned
  pub births : new.notes.births ≡ old.notes.births
  pub short : length old.urbs.outbox ≤ OUTBOX_MAX → length new.urbs.outbox ≤ OUTBOX_MAX

-- and what its reader holds
pub record Leaves (old new : HubCore) : Type 0 where
  pub keeps : Keeps old new
  pub reader : new.reader ≡ old.reader
