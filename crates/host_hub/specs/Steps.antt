-- the steps of a call over the record
use Rattle.std.specs.Prelude.{◌≡◌, ℕ, ◌+◌, Bool, true, false, Some, None, List, [], ◌∷◌}
use Rattle.usbip_wire.specs.declared.ret_submit.RetSubmitHead.{RetSubmitHead}
use Rattle.usbip_wire.specs.Down as down
use Rattle.host_urbs.specs.Law.{MayWrite, MayTake}
use Rattle.host_hub.specs.declared.outcome.End.{End}
use Rattle.host_hub.specs.declared.outcome.Outcome.{Outcome}
use Rattle.host_hub.specs.Order.{Order, Setting, Unlink, is_listen, message_of}
use Rattle.host_hub.specs.Record.{Asked, Asking, Of, Past, Recovery, Settled, Took, Wrote, next}
use Rattle.host_hub.specs.Crossings.{crossings}
use Rattle.host_hub.specs.Hand.{in_hand, ended}
use Rattle.host_hub.specs.Outstanding.{Sent, busy, find, others, outstanding}
use Rattle.host_hub.specs.Book.{active, asking_of, has, live, tickets}
use Rattle.host_hub.specs.Status.{awaits, is_status_kind, listens}
use Rattle.host_hub.specs.Made.{made_at}
use Rattle.host_hub.specs.Causes.{named, reached}
use Rattle.host_hub.specs.Unlinks.{unlinks_due}
use Rattle.host_hub.specs.Needs.{overs, back, is_split, any_faulty}
use Rattle.host_hub.specs.Letters.{letters}
use Rattle.host_hub.specs.Recovery.{is_called, is_served, running}
use Rattle.host_hub.specs.Ends.{ends_by, end_due}
use Rattle.host_hub.specs.Law.{IsHandOver, Lawful, Works}

-- in the midst of a call: the laws were kept, every ticket that has a cause is settled, and no unlink is due
pub record Working (s : Setting) (past : Past) : Type 0 where
  pub lawful : Lawful s past
  pub works : Works s past
  pub unlinked : unlinks_due s (ended past) past ≡ []

-- ---- what a step adds

abbrev pub asked : Past → Asking → Past
asked past asking = Asked (tickets past + 1) asking ∷ past

abbrev pub wrote : Setting → Past → (t : ℕ) → Order → Past
wrote s past t order = Wrote (next s.first past) (Of t) order ∷ past

abbrev pub took : Past → RetSubmitHead → (bytes : List ℕ) → Past
took past head bytes = Took (down.RetSubmit head bytes) ∷ past

-- the tickets settle by the hub's end, one behind another
abbrev pub settle_all : End → List ℕ → Past → Past
settle_all e [] past = past
settle_all e (t ∷ ts) past = settle_all e ts (Settled t (named e) ∷ past)

-- ---- what a step stands on

-- the next message may be written
abbrev pub MayWriteNext : Setting → Past → Order → Type 0
MayWriteNext s past order = MayWrite s.first (crossings s past) (message_of s (next s.first past) order)

-- a ticket that is no status read, by what it asks for
abbrev pub Speaks : Past → (t : ℕ) → Asking → Type 0
Speaks past t asking = (asking_of t past ≡ Some asking) × (is_status_kind asking.kind ≡ false)

-- an answer comes to a submit of the active ticket other than one on Interrupt-IN, and the hub does not end by it
pub record Comes (s : Setting) (past : Past) (t number : ℕ) (order : Order) (head : RetSubmitHead) (bytes : List ℕ) : Type 0 where
  pub turn : active past ≡ Some t
  pub found : find head.seqnum (outstanding past) ≡ Some (record { number = number; owner = Of t; order = order })
  pub plain : is_listen order ≡ false
  pub may : MayTake (crossings s past) (down.RetSubmit head bytes)
  pub good : ends_by s past (down.RetSubmit head bytes) ≡ None

-- an answer comes on Interrupt-IN while a status read is active that has begun, and the hub does not end by it
pub record Notifies (s : Setting) (past : Past) (t : ℕ) (sent : Sent) (head : RetSubmitHead) (bytes : List ℕ) : Type 0 where
  pub turn : active past ≡ Some t
  pub hears : listens t past ≡ true
  pub found : find head.seqnum (outstanding past) ≡ Some sent
  pub is : is_listen sent.order ≡ true
  pub may : MayTake (crossings s past) (down.RetSubmit head bytes)
  pub good : ends_by s past (down.RetSubmit head bytes) ≡ None

-- the ticket in hand had no trouble: none of its submits was taken back, lost or refused, and no recovery runs or is called
-- for; `split` says whether the last part that was accepted is not the one with EOM
pub record IsClean (past : Past) (t : ℕ) (split : Bool) : Type 0 where
  pub hand : in_hand past ≡ Some t
  pub called : is_called past ≡ false
  pub served : is_served past ≡ false
  pub back : back (overs t past) ≡ None
  pub split_now : is_split (overs t past) ≡ split
  pub fine : any_faulty (overs t past) ≡ false
  pub running : running past ≡ None
  pub letters : letters past ≡ []

-- ---- unlinks and recoveries

-- these unlinks of a ticket are written, one behind another
abbrev pub write_unlinks : Setting → (t : ℕ) → List ℕ → Past → Past
write_unlinks s t [] past = past
write_unlinks s t (target ∷ targets) past = write_unlinks s t targets (wrote s past t (Unlink target))

-- a submit of a recovery is written
abbrev pub recovers_with : Setting → Past → Order → Past
recovers_with s past order = Wrote (next s.first past) Recovery order ∷ past

-- the ticket that is stopped settles by that as this answer comes: it was the last that it waited for, and makes nothing
pub record StopsAt (s : Setting) (past : Past) (t : ℕ) (answer : down.Message) (o : Outcome) : Type 0 where
  pub turn : active past ≡ Some t
  pub may : MayTake (crossings s past) answer
  pub good : ends_by s past answer ≡ None
  pub stop : reached t past ≡ Some o
  pub none_left : awaits t (Took answer ∷ past) ≡ []
  pub unmade : (u : ℕ) → has u (live past) ≡ true → made_at s u past (Took answer) ≡ None
  pub free : end_due (Took answer ∷ past) ≡ None

-- an answer comes to the submit of a recovery, which is the only message that is not answered, and the hub does not end by it
pub record HearsRecovery (s : Setting) (past : Past) (number : ℕ) (order : Order) (head : RetSubmitHead) (bytes : List ℕ) : Type 0 where
  pub hand : IsHandOver (in_hand past) past
  pub found : find head.seqnum (outstanding past) ≡ Some (record { number = number; owner = Recovery; order = order })
  pub alone : busy (others head.seqnum (outstanding past)) ≡ []
  pub plain : is_listen order ≡ false
  pub may : MayTake (crossings s past) (down.RetSubmit head bytes)
  pub good : ends_by s past (down.RetSubmit head bytes) ≡ None
  pub free : end_due (took past head bytes) ≡ None
