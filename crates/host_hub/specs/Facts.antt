-- what the laws of a record say, by subject
use Rattle.std.specs.Prelude.{◌≡◌, ℕ, true, Some, None, List, [], ◌∷◌, is_some}
use Rattle.host_hub.specs.Order.{Order, Unlink, Setting, message_of}
use Rattle.host_hub.specs.Record.{Happening, Past, Wrote, Took, Fell, Stopped, Settled, Recovers, Of, Recovery}
use Rattle.host_hub.specs.Crossings.{crossings}
use Rattle.host_hub.specs.Hand.{is_begun, in_hand, ended}
use Rattle.host_hub.specs.Outstanding.{outstanding, busy}
use Rattle.host_hub.specs.Book.{BookLaw, active, asking_of}
use Rattle.host_hub.specs.Status.{is_status, status_tag}
use Rattle.host_hub.specs.Causes.{SettleLaw, AreCaused}
use Rattle.host_hub.specs.Unlinks.{unlinks_due}
use Rattle.host_hub.specs.Ends.{ends_by}
use Rattle.host_hub.specs.Recovery.{AreRecovered}
use Rattle.host_hub.specs.Law.{WriteLaw, MayRecover, StopLaw, Planned, WaitsFor}
use Rattle.host_urbs.specs.Law.{MayWrite}

-- the law holds of each happening, judged by what stands behind it
abbrev pub Each : (Past → Happening → Type 0) → Past → Type 0
Each Law [] = Unit {0}
Each Law (x ∷ past) = Each Law past × Law past x

-- ---- the book

abbrev pub BookOk : Past → Type 0
BookOk past = Each BookLaw past

-- ---- causes: a ticket settles by its cause, the hub ends by one, and no cause is left

abbrev pub CauseLaw : Setting → Past → Happening → Type 0
CauseLaw s past (Settled t outcome) = SettleLaw s past t outcome
CauseLaw s past (Took answer) = ends_by s past answer ≡ None
CauseLaw s past (Fell answer e) = ends_by s past answer ≡ Some e
CauseLaw s past (Stopped e) = StopLaw s past e
CauseLaw s past _ = Unit {0}

pub record Caused (s : Setting) (past : Past) : Type 0 where
  pub each : Each (CauseLaw s) past
  pub all : AreCaused s past

-- ---- unlinks: each was due, the first of those that were, and none is due

abbrev pub UnlinkLaw : Setting → Past → Happening → Type 0
UnlinkLaw s past (Wrote number (Of t) (Unlink target)) = (in_hand past ≡ Some t) × (rest : List ℕ) × (unlinks_due s (ended past) past ≡ target ∷ rest)
UnlinkLaw s past (Wrote number Recovery (Unlink target)) = ⊥
UnlinkLaw s past _ = Unit {0}

pub record Unlinked (s : Setting) (past : Past) : Type 0 where
  pub each : Each (UnlinkLaw s) past
  pub none : unlinks_due s (ended past) past ≡ []

-- ---- traffic: each message might be written and was due, and none of a ticket is due

abbrev pub TrafficLaw : Setting → Past → Happening → Type 0
TrafficLaw s past (Wrote number owner order) = MayWrite s.first (crossings s past) (message_of s number order) × WriteLaw s past owner order
TrafficLaw s past _ = Unit {0}

pub record Traffic (s : Setting) (past : Past) : Type 0 where
  pub each : Each (TrafficLaw s) past
  pub none : ended past ≡ None → (t : ℕ) (order : Order) → Planned s past t order → ⊥

-- ---- recoveries: each begins where one is called for, and all are over where nothing is waited for

abbrev pub RecoveryLaw : Past → Happening → Type 0
RecoveryLaw past Recovers = MayRecover past
RecoveryLaw past _ = Unit {0}

pub record Recovered (past : Past) : Type 0 where
  pub each : Each RecoveryLaw past
  pub all : ended past ≡ None → busy (outstanding past) ≡ [] → AreRecovered past

-- ---- what is waited for, while the hub runs: the active ticket for its own messages, or, before it begins, for others;
-- a status read that has begun made its request; and where no message is waited for, all recoveries are over

pub record Waiting (past : Past) : Type 0 where
  pub ticket : ended past ≡ None → WaitsFor (active past) past
  pub polled : ended past ≡ None → (t : ℕ) → active past ≡ Some t → is_begun t past ≡ true → is_status (asking_of t past) ≡ true
      → is_some (status_tag t past) ≡ true
  pub recovered : ended past ≡ None → busy (outstanding past) ≡ [] → AreRecovered past
