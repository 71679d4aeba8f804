-- how one connection was served
use Rattle.std.specs.Prelude.{◌≡◌, ◌≢◌, ◌↔◌, ◌⊎◌, ℕ, false, List, Some}
use Rattle.tmc_base.specs.declared.field.Field.{Field}
use Rattle.tmc_base.specs.declared.link.SendStep.{SendStep}
use Rattle.tmc_base.specs.declared.link.PollStep.{PollStep}
use Rattle.tmc_base.specs.Faults.{Rose}
use Rattle.tmc_base.specs.Link.{Counts}
use Rattle.tmc_base.specs.Told.{Told}
use Rattle.usbip_export.specs.declared.serving.ServeEnd.{ServeEnd}
use Rattle.usbip_export.specs.declared.serving.ServeEnd.TheVariants.{Closed, Refused, LinkFault, Spent, Memory}
use Rattle.usbip_export.specs.Events.{IsCalm}
use Rattle.usbip_export.specs.Seen.{Seen, begun}
use Rattle.usbip_export.specs.Serving.{Crosses, IsUnplugged, IsSentOff}
use Rattle.usbip_export.specs.Ending.{Calls, Ends}

-- A node that nothing was fed served the link in at most 1,000,000 calls on it, and this is the node behind them: what it
-- was fed, took in and answered is `crosses`, what ended it, behind which calls on the link, is `ends`, each end has its
-- cause, and behind `Closed` and `Spent` the node is calm.
pub record ByNode {A : Type 0} (tells : A → Told) (counts : A → Counts)
    (sends : A → List ℕ → SendStep → A → Type 0) (polls : A → ℕ → PollStep → List ℕ → A → Type 0)
    (link : A) (end : ServeEnd) (after : A) : Type 0 where
  pub node : Seen
  pub crosses : Crosses tells (end ≢ Memory) (begun false) link node after
  pub ends : Ends counts sends polls 1000000 end link node after
  pub closed : end ≡ Closed → Rose (counts link).closings (counts after).closings ⊎ IsUnplugged node
  pub unclosed : end ≢ Closed → (counts after).closings ≡ (counts link).closings
  pub refused : (f : Field) → end ≡ Refused f ↔ node.refused ≡ Some f
  pub fault : end ≡ LinkFault → Rose (counts link).faults (counts after).faults
  pub faultless : end ≢ LinkFault → (counts after).faults ≡ (counts link).faults
  pub spent : end ≡ Spent → Calls counts sends polls link 1000000 after
  pub calm : (end ≡ Closed) ⊎ (end ≡ Spent) → IsCalm node
  pub sent : end ≡ Closed → IsSentOff node

-- a link was served so, or memory was wanting for the node, and the link is as it was
abbrev pub IsServed : {A : Type 0} → (A → Told) → (A → Counts) → (A → List ℕ → SendStep → A → Type 0) → (A → ℕ → PollStep → List ℕ → A → Type 0)
    → A → ServeEnd → A → Type 0
IsServed tells counts sends polls link end after =
    ByNode tells counts sends polls link end after ⊎ ((end ≡ Memory) × (after ≡ link))
