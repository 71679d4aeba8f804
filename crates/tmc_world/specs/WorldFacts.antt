-- what holds of each world that stands behind a hub
use Rattle.std.specs.Prelude.{◌≡◌, ◌≤◌}
use Rattle.tmc_law.specs.State.{start}
use Rattle.host_joint.specs.Joint.{TellsCalmly}
use Rattle.host_hub.specs.Behind.{HubParts}
use Rattle.host_hub.specs.Facts.{BookOk, Caused, Recovered, Traffic, Unlinked, Waiting}
use Rattle.host_hub.specs.Hand.{ended}
use Rattle.host_hub.specs.Law.{Kept}
use Rattle.host_hub.specs.Order.{Setting}
use Rattle.host_hub.specs.Shown.{ShowsBook}
use Rattle.host_hub.specs.Undisturbed.{AllOwned, IsFaultless}
use Rattle.usbip_export.specs.Identity.{devid}
use Rattle.usbip_export.specs.Seen.{standing}
use Rattle.tmc_world.specs.LoopLink.{Looped, IsTold}
use Rattle.tmc_world.specs.World.{Worldly}

-- The run that the link tells led the instrument to where it is, and nothing disturbed it: no endpoint was halted but by what the hub
-- wrote, and the instrument was not unplugged.
abbrev pub IsCalm : Worldly → Type 0
IsCalm world = TellsCalmly devid start world.link.run (standing world.link.node)

-- The record keeps the laws of a hub, the hub shows what its record says, and the link tells a lawful run from power-on that fits the bytes
-- sent and taken. In a calm world each view is owned by the instrument's log, and the hub has not ended with a fault of the instrument.
pub record WorldFacts (s : Setting) (world : Worldly) (hub : HubParts Looped) : Type 0 where
  pub kept : Kept s world.past
  pub book : BookOk world.past
  pub caused : Caused s world.past
  pub unlinked : Unlinked s world.past
  pub traffic : Traffic s world.past
  pub recovered : Recovered world.past
  pub waiting : Waiting world.past
  pub shown : ShowsBook s world.past hub.core.book
  pub over : hub.core.end ≡ ended world.past
  pub told : IsTold world.link
  pub owned : 1 ≤ s.first → IsCalm world → AllOwned hub.core.book.tickets (standing world.link.node).log
  pub faultless : 1 ≤ s.first → IsCalm world → IsFaultless hub.core.end
