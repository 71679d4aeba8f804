-- how a serving ends: the calls on the link, and what came of each
use Rattle.std.specs.Prelude.{◌≡◌, ◌≢◌, ℕ, ◌+◌, ◌<◌, ◌≤◌, ◌⊎◌, true, List, [], Option, Some, None}
use Rattle.tmc_base.specs.declared.link.SendStep.{SendStep}
use Rattle.tmc_base.specs.declared.link.SendStep.TheVariants as send
use Rattle.tmc_base.specs.declared.link.PollStep.{PollStep}
use Rattle.tmc_base.specs.declared.link.PollStep.TheVariants as poll
use Rattle.tmc_base.specs.Link.{Counts, SendCounts, PollCounts}
use Rattle.tmc_base.specs.Told.{Told}
use Rattle.tmc_device.specs.Seen.{is_closed}
use Rattle.usbip_export.specs.declared.serving.ServeEnd.{ServeEnd}
use Rattle.usbip_export.specs.declared.serving.ServeEnd.TheVariants as end
use Rattle.usbip_export.specs.Seen.{Seen, standing}
use Rattle.usbip_export.specs.Events.{IsCalm}
use Rattle.usbip_export.specs.Serving.{Crosses, IsUnplugged, IsSentOff}

-- ---- the node, between two calls on the link

-- it is calm, and has something to send or may take something in
pub record IsGoing (node : Seen) : Type 0 where
  pub unrefused : node.refused ≡ None
  pub spelled : node.puts ≡ []
  pub unended : is_closed (standing node).presence ≡ true → node.out ≡ [] → ⊥
  pub calm : IsCalm node

-- it is calm, the instrument was unplugged, and all was sent
pub record IsOver (node : Seen) : Type 0 where
  pub unplugged : IsUnplugged node
  pub sent : IsSentOff node
  pub calm : IsCalm node

-- The node ends the serving: it refused a field; or the instrument was unplugged; or memory is wanting; or it might go on,
-- and no more calls may be made.
abbrev pub Stops : ServeEnd → Seen → Type 0
Stops (end.Refused f) node = node.refused ≡ Some f
Stops end.Closed node = IsOver node
Stops end.Memory node = node.refused ≡ None
Stops end.Spent node = IsGoing node
Stops end.LinkFault node = ⊥

-- neither a fault nor a closing was counted
pub record IsFaultless (old new : Counts) : Type 0 where
  pub faults : new.faults ≡ old.faults
  pub closings : new.closings ≡ old.closings

-- ---- the calls on a link, by what it says of each and by its counts

module _ {A : Type 0} (counts : A → Counts) (sends : A → List ℕ → SendStep → A → Type 0) (polls : A → ℕ → PollStep → List ℕ → A → Type 0) where
  -- a call that moved a byte or was idle
  pub data IsCall (old new : A) : Type 0 where
    Sent : (piece : List ℕ) (count : ℕ) → 0 < count → sends old piece (send.Took count) new → IsFaultless (counts old) (counts new) → IsCall old new
    Unsent : (piece : List ℕ) → sends old piece send.Idle new → IsFaultless (counts old) (counts new) → IsCall old new
    Got : (room count : ℕ) (bytes : List ℕ) → 0 < count → polls old room (poll.Got count) bytes new → IsFaultless (counts old) (counts new)
        → IsCall old new
    Quiet : (room : ℕ) (bytes : List ℕ) → polls old room poll.Idle bytes new → IsFaultless (counts old) (counts new) → IsCall old new

  -- so many such calls, one behind the other
  pub data Calls (old : A) : ℕ → A → Type 0 where
    none : Calls old 0 old
    more : (count : ℕ) (mid new : A) → Calls old count mid → IsCall mid new → Calls old (count + 1) new

  -- a call that answered Closed
  pub data Closes (old new : A) : Type 0 where
    Closed : (room : ℕ) (bytes : List ℕ) → polls old room poll.Closed bytes new → PollCounts poll.Closed (counts old) (counts new) → Closes old new

  -- a call that failed
  pub data Fails (old new : A) : Type 0 where
    SendFailed : (piece : List ℕ) → sends old piece send.Failed new → SendCounts send.Failed (counts old) (counts new) → Fails old new
    PollFailed : (room : ℕ) (bytes : List ℕ) → polls old room poll.Failed bytes new → PollCounts poll.Failed (counts old) (counts new) → Fails old new

  -- a call for which memory was wanting
  pub data Wants (old new : A) : Type 0 where
    SendWants : (piece : List ℕ) → sends old piece send.Memory new → SendCounts send.Memory (counts old) (counts new) → Wants old new
    PollWants : (room : ℕ) (bytes : List ℕ) → polls old room poll.Memory bytes new → PollCounts poll.Memory (counts old) (counts new) → Wants old new

  -- one more call ends the serving: it answered Closed, and all is sent; or it failed; or memory was wanting for it
  abbrev pub IsLast : ServeEnd → A → Seen → A → Type 0
  IsLast end.Closed old node new = Closes old new × IsSentOff node × IsCalm node
  IsLast end.LinkFault old node new = Fails old new
  IsLast end.Memory old node new = Wants old new
  IsLast _ old node new = ⊥

  -- What ended a serving in at most so many calls, behind those that moved a byte or were idle.
  pub data Ends (turns : ℕ) (ended : ServeEnd) (old : A) (node : Seen) (new : A) : Type 0 where
    BetweenCalls : (made : ℕ) → made ≤ turns → (ended ≡ end.Spent → made ≡ turns) → Calls old made new → Stops ended node
        → Ends turns ended old node new
    AtCall : (made : ℕ) (mid : A) → made < turns → Calls old made mid → IsLast ended mid node new → node.refused ≡ None
        → Ends turns ended old node new

  -- what one call came to: the serving goes on, or it ends so
  abbrev pub CameTo : Option ServeEnd → Seen → A → Seen → A → Type 0
  CameTo None node link later after = IsCall link after × (later.refused ≡ None)
  CameTo (Some (end.Refused f)) node link later after = IsCall link after × (later.refused ≡ Some f)
  CameTo (Some end.Closed) node link later after = Closes link after × (later ≡ node) × (node.out ≡ [])
  CameTo (Some end.LinkFault) node link later after = Fails link after × (later.refused ≡ None)
  CameTo (Some end.Memory) node link later after = (IsCall link after ⊎ Wants link after) × (later.refused ≡ None)
  CameTo (Some end.Spent) node link later after = ⊥

  -- one call, and what crossed the link in it
  pub record Called (tells : A → Told) (ended : Option ServeEnd) (node : Seen) (link : A) (later : Seen) (after : A) : Type 0 where
    pub crosses : Crosses tells (ended ≢ Some end.Memory) node link later after
    pub came : CameTo ended node link later after
