-- what a reader of a client's messages holds and answers
use Rattle.std.specs.Prelude.{◌≡◌, ℕ, ◌≤◌, Result, Ok, Err, Bool, true, false, Option, Some, None, List, [], ◌++◌, length, take, drop, if◌then◌else◌}
use Rattle.tmc_base.specs.declared.field.Field.{Field}
use Rattle.usbip_wire.specs.declared.urb.TheConstants.{URB_HEADER}
use Rattle.usbip_wire.specs.declared.up.Up.{Up}
use Rattle.usbip_wire.specs.declared.up.Up.TheVariants as up
use Rattle.usbip_wire.specs.declared.up.UpPhase.{UpPhase}
use Rattle.usbip_wire.specs.declared.up.UpPhase.TheVariants.{Ops, Urbs}
use Rattle.usbip_wire.specs.declared.up.UpStep.{UpStep}
use Rattle.usbip_wire.specs.declared.stop.Stop.{Stop}
use Rattle.usbip_wire.specs.declared.room.Last.{Last}
use Rattle.usbip_wire.specs.Room.{is_whole, refused_by}
use Rattle.usbip_wire.specs.OpRequest.{SpellsRequest}
use Rattle.usbip_wire.specs.JudgedFields.{missing_for}
use Rattle.usbip_wire.specs.Up.{Spells, Submit, Unlink}
use Rattle.usbip_wire.specs.Urb.{message_max}
use Rattle.usbip_wire.specs.Stream as stream
use Rattle.usbip_wire.specs.Form as form
use Rattle.usbip_wire.specs.UpForm.{up_form}

-- what the client sends now, the bytes held, whether they are the last message, and which field was refused
pub record Held : Type 0 where
  pub phase : UpPhase
  pub rest : List ℕ
  pub whole : Bool
  pub bad : Option Field

-- the bytes that the next message begins with
abbrev pub kept : Held → List ℕ
kept held = if held.whole then [] else held.rest

-- the data of the message that is held
abbrev pub data_of : Held → List ℕ
data_of held = if held.whole then drop URB_HEADER held.rest else []

-- these bytes are this message; a submit's data stands behind its header
abbrev pub Means : UpPhase → Up → List ℕ → Type 0
Means Ops (up.Op request) bytes = SpellsRequest request bytes
Means (Urbs devid) (up.Submit head) bytes = Spells devid (Submit head (drop URB_HEADER bytes)) bytes
Means (Urbs devid) (up.Unlink head) bytes = Spells devid (Unlink head) bytes
Means phase what bytes = ⊥

-- no front of these bytes is a message of the phase
abbrev pub NoneWhole : UpPhase → List ℕ → Type 0
NoneWhole Ops rest = stream.NoneWhole SpellsRequest rest
NoneWhole (Urbs devid) rest = stream.NoneWhole (Spells devid) rest

-- the first field of these bytes whose value is not accepted
abbrev pub BadAt : UpPhase → List ℕ → Field → Type 0
BadAt phase rest f = form.BadAt (up_form phase) rest f

-- After a piece: a message is whole, the piece was used up, or a field is refused. What is used ends with the message, or
-- with the last byte of the field.
abbrev pub Answers : UpPhase → List ℕ → List ℕ → ℕ → Up → Held → Type 0
Answers phase start piece used up.More new =
    (used ≡ length piece) × NoneWhole phase (start ++ piece) × ((f : Field) → BadAt phase (start ++ piece) f → ⊥)
    × (new ≡ record { phase = phase; rest = start ++ piece; whole = false; bad = None })
Answers phase start piece used (up.Bad f) new =
    (used ≤ length piece) × (used ≡ missing_for f start) × BadAt phase (start ++ piece) f
    × (new ≡ record { phase = phase; rest = start ++ take used piece; whole = false; bad = Some f })
Answers phase start piece used what new =
    (used ≤ length piece) × Means phase what (start ++ take used piece) × ((f : Field) → BadAt phase (start ++ piece) f → ⊥)
    × (new ≡ record { phase = phase; rest = start ++ take used piece; whole = true; bad = None })

-- One call of feed. After a refusal nothing is used, and the answer is the same for good. No more is held than the longest
-- message, before any call and after it.
pub record Fed (old : Held) (piece : List ℕ) (step : UpStep) (new : Held) : Type 0 where
  pub fresh : old.bad ≡ None → Answers old.phase (kept old) piece step.used step.what new
  pub again : (f : Field) → old.bad ≡ Some f → (step ≡ record { used = 0; what = up.Bad f }) × (new ≡ old)
  pub one_held : (length old.rest ≤ message_max) × (length new.rest ≤ message_max)

-- what the held bytes are found to be
abbrev pub Judged : UpPhase → List ℕ → Result Up Stop → Type 0
Judged phase rest (Ok what) = form.read (up_form phase) rest ≡ Ok (what, [])
Judged phase rest (Err stop) = form.read (up_form phase) rest ≡ Err stop

-- no byte stands behind a whole message
abbrev pub Ends : UpPhase → List ℕ → Type 0
Ends phase rest = (what : Up) (left : List ℕ) → form.read (up_form phase) rest ≡ Ok (what, left) → left ≡ []

-- what is held does not pass the end of a message
abbrev pub EndsWhere : UpPhase → List ℕ → Last → Type 0
EndsWhere phase rest last = is_whole last ≡ false → refused_by last ≡ None → Ends phase rest
