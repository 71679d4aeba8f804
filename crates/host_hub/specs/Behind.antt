-- the records behind a hub: what happened at it since it was made, with the bytes that its link sent and took since then
use Rattle.std.specs.Prelude.{◌≡◌, ◌≤◌, ℕ, Some, None, List, length}
use Rattle.tmc_base.specs.Link.{Counts}
use Rattle.tmc_base.specs.Told.{Told, Exchanged}
use Rattle.usbip_wire.specs.declared.dirs.TheConstants.{DIRS_MAX}
use Rattle.host_urbs.specs.declared.limits.TheConstants.{OUTBOX_MAX}
use Rattle.tmc_law.specs.State.{State}
use Rattle.host_hub.specs.declared.hub_core.HubCore.{HubCore}
use Rattle.host_hub.specs.declared.limits.TheConstants.{LIMITS_MAX, MESSAGE_MAX, TICKETS_MAX}
use Rattle.host_hub.specs.Fed.{Reads}
use Rattle.host_hub.specs.Calls.{All}
use Rattle.host_hub.specs.Joined.{IsPlain}
use Rattle.host_hub.specs.Facts.{BookOk, Caused, Recovered, Traffic, Unlinked, Waiting}
use Rattle.host_hub.specs.Outstanding.{outstanding}
use Rattle.host_hub.specs.Order.{Setting}
use Rattle.host_hub.specs.Record.{Asking, Past, next}
use Rattle.host_hub.specs.Book.{asking_of, tickets}
use Rattle.host_hub.specs.Hand.{ended}
use Rattle.host_hub.specs.Refusals.{limits}
use Rattle.host_hub.specs.Shown.{Births, ShowsBook}
use Rattle.host_hub.specs.Stands.{Rests}
use Rattle.host_hub.specs.Tied.{AllTaken, AreSent, EndShows, Tied}
use Rattle.host_hub.specs.Undisturbed.{AllOwned, IsFaultless, IsJoinedOver, Undisturbed}

-- what a hub is made of
pub record HubParts (A : Type 0) : Type 0 where
  pub link : A
  pub core : HubCore

-- how many turns found it running, and when each ticket was asked
abbrev pub births_of : HubCore → Births
births_of core = record { turned = core.turned; born = core.notes.births }

-- A record behind a hub of this setting, which was made when its link told `start`, and tells `now`, with these counts. Since then these
-- bytes were sent, and these were taken.
pub record Account (start now : Told) (counts : Counts) (s : Setting) (past : Past) (sent received : List ℕ) (core : HubCore) : Type 0 where
  -- so the link tells, where it tells its bytes
  pub told : Exchanged sent received start now
  -- the fields of the hub say this record, and its laws were kept
  pub rests : Rests s past sent core
  -- the bytes are its messages and answers, and a rest, which the reader holds while the hub runs
  pub rest : List ℕ
  pub tied : Tied s past sent core.urbs.outbox received rest
  pub held : core.end ≡ None → Reads rest core
  -- so many messages were sent whole: all that came whole to these was taken, and nothing bad lies in the rest
  pub count : ℕ
  pub whole : AreSent s past sent count
  pub taken : AllTaken s past count rest
  -- an end by the link, or by refused bytes, shows there
  pub shows : EndShows s past count rest counts.faults counts.closings
  pub sum : limits past ≤ LIMITS_MAX
  pub short : length core.urbs.outbox ≤ OUTBOX_MAX
  -- asks and tells alone were asked, and nothing was cancelled or cleared: there is no call of that yet
  pub plain : All IsPlain past
  -- over a lawful device that nothing disturbs, the two are joined
  pub joined : (state : State) → Undisturbed s past start now state → IsJoinedOver s past core.urbs.outbox rest now state

abbrev pub Behind : {A : Type 0} → (A → Told) → (A → Counts) → (start : Told) → Setting → Past → (sent received : List ℕ) → HubParts A → Type 0
Behind tells counts start s past sent received hub = Account start (tells hub.link) (counts hub.link) s past sent received hub.core

-- there is one
pub record IsRecorded {A : Type 0} (tells : A → Told) (counts : A → Counts) (hub : HubParts A) : Type 0 where
  pub start : Told
  pub setting : Setting
  pub past : Past
  pub sent : List ℕ
  pub received : List ℕ
  pub behind : Behind tells counts start setting past sent received hub

-- ---- what holds of a hub, by every record behind it

-- the limits of a hub, whatever its peer does
pub record IsBounded (past : Past) (core : HubCore) : Type 0 where
  pub unanswered : length (outstanding past) ≤ DIRS_MAX
  pub unsent : length core.urbs.outbox ≤ OUTBOX_MAX
  pub asked : tickets past ≤ TICKETS_MAX
  pub sum : limits past ≤ LIMITS_MAX
  pub messages : (ticket : ℕ) (asking : Asking) → asking_of ticket past ≡ Some asking → length asking.message ≤ MESSAGE_MAX

pub record HubFacts (start now : Told) (s : Setting) (past : Past) (core : HubCore) : Type 0 where
  pub book : BookOk past
  pub caused : Caused s past
  pub unlinked : Unlinked s past
  pub traffic : Traffic s past
  pub recovered : Recovered past
  pub waiting : Waiting past
  -- asks and tells alone were asked, and nothing was cancelled or cleared: there is no call of that yet
  pub plain : All IsPlain past
  pub bounded : IsBounded past core
  -- what the hub shows is what its record says
  pub shown : ShowsBook s past core.book
  pub over : core.end ≡ ended past
  pub number : core.urbs.next ≡ next s.first past
  -- over a lawful device that nothing disturbs, each view is owned by the device's log, and the hub has not ended with a fault
  pub owned : (state : State) → Undisturbed s past start now state → AllOwned core.book.tickets state.log
  pub faultless : (state : State) → Undisturbed s past start now state → IsFaultless core.end

abbrev pub Holds : {A : Type 0} → (A → Told) → (A → Counts) → HubParts A → Type 0
Holds tells counts hub = (start : Told) (s : Setting) (past : Past) (sent received : List ℕ) → Behind tells counts start s past sent received hub
    → HubFacts start (tells hub.link) s past hub.core
