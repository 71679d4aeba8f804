-- what a reader of a device's messages holds and answers
use Rattle.std.specs.Prelude.{◌≡◌, ℕ, ◌≤◌, Result, Ok, Err, Bool, true, false, Option, Some, None, List, [], ◌∷◌, ◌++◌, length, take, drop, if◌then◌else◌}
use Rattle.tmc_base.specs.declared.field.Field.{Field}
use Rattle.usbip_wire.specs.declared.urb.TheConstants.{URB_HEADER}
use Rattle.usbip_wire.specs.declared.dirs.Outstanding.{Outstanding}
use Rattle.usbip_wire.specs.declared.down.Down.{Down}
use Rattle.usbip_wire.specs.declared.down.Down.TheVariants as down
use Rattle.usbip_wire.specs.declared.down.DownPhase.{DownPhase}
use Rattle.usbip_wire.specs.declared.down.DownPhase.TheVariants.{Ops, Urbs}
use Rattle.usbip_wire.specs.declared.down.DownStep.{DownStep}
use Rattle.usbip_wire.specs.declared.stop.Stop.{Stop}
use Rattle.usbip_wire.specs.DevList.{SpellsPart}
use Rattle.usbip_wire.specs.Down.{SpellsAnswer, RetSubmit, RetUnlink}
use Rattle.usbip_wire.specs.JudgedFields.{missing_for}
use Rattle.usbip_wire.specs.Stream as stream
use Rattle.usbip_wire.specs.Form as form
use Rattle.usbip_wire.specs.DownForm.{down_form, after}
use Rattle.usbip_wire.specs.Urb.{message_max}

-- what the device sends now, the bytes held, whether they are the last message, and which field was refused
pub record Held : Type 0 where
  pub phase : DownPhase
  pub rest : List ℕ
  pub whole : Bool
  pub bad : Option Field

-- the bytes that the next message begins with
abbrev pub kept : Held → List ℕ
kept held = if held.whole then [] else held.rest

-- the data of the message that is held: an answer's, since no part of the operations tells any
abbrev pub data_in : DownPhase → List ℕ → List ℕ
data_in (Ops devices interfaces) rest = []
data_in Urbs rest = drop URB_HEADER rest

abbrev pub data_of : Held → List ℕ
data_of held = if held.whole then data_in held.phase held.rest else []

-- these bytes are this message; an answer's data stands behind its header
abbrev pub Means : DownPhase → List Outstanding → Down → List ℕ → Type 0
Means (Ops devices interfaces) entries what bytes = SpellsPart devices interfaces what bytes
Means Urbs entries (down.RetSubmit head) bytes = SpellsAnswer entries (RetSubmit head (drop URB_HEADER bytes)) bytes
Means Urbs entries (down.RetUnlink head) bytes = SpellsAnswer entries (RetUnlink head) bytes
Means Urbs entries what bytes = ⊥

-- these bytes are these parts of the operations in a row, each where the one before it left off
abbrev pub SpellsParts : DownPhase → List Down → List ℕ → Type 0
SpellsParts phase [] bytes = bytes ≡ []
SpellsParts phase (what ∷ whats) bytes =
    (front : List ℕ) × (rest : List ℕ) × (bytes ≡ front ++ rest) × Means phase [] what front × SpellsParts (after phase what) whats rest

-- no front of these bytes is a message of the phase
abbrev pub NoneWhole : DownPhase → List Outstanding → List ℕ → Type 0
NoneWhole (Ops devices interfaces) entries rest = stream.NoneWhole (SpellsPart devices interfaces) rest
NoneWhole Urbs entries rest = stream.NoneWhole (SpellsAnswer entries) rest

-- the first field of these bytes whose value is not accepted
abbrev pub BadAt : DownPhase → List Outstanding → List ℕ → Field → Type 0
BadAt phase entries rest f = form.BadAt (down_form phase entries) rest f

-- After a piece: a message is whole, the piece was used up, or a field is refused. What is used ends with the message, or
-- with the last byte of the field.
abbrev pub Answers : DownPhase → List Outstanding → List ℕ → List ℕ → ℕ → Down → Held → Type 0
Answers phase entries start piece used down.More new =
    (used ≡ length piece) × NoneWhole phase entries (start ++ piece) × ((f : Field) → BadAt phase entries (start ++ piece) f → ⊥)
    × (new ≡ record { phase = phase; rest = start ++ piece; whole = false; bad = None })
Answers phase entries start piece used (down.Bad f) new =
    (used ≤ length piece) × (used ≡ missing_for f start) × BadAt phase entries (start ++ piece) f
    × (new ≡ record { phase = phase; rest = start ++ take used piece; whole = false; bad = Some f })
Answers phase entries start piece used what new =
    (used ≤ length piece) × Means phase entries what (start ++ take used piece) × ((f : Field) → BadAt phase entries (start ++ piece) f → ⊥)
    × (new ≡ record { phase = after phase what; rest = start ++ take used piece; whole = true; bad = None })

-- this message stands at the front of the bytes
abbrev pub Begins : DownPhase → List Outstanding → Down → List ℕ → Type 0
Begins phase entries what bytes = (front : List ℕ) × (rest : List ℕ) × (bytes ≡ front ++ rest) × Means phase entries what front

-- The same whatever was kept: where by these entries a message was whole in it already, a message that is given stands at
-- the front of what is held.
abbrev pub Keeps : DownPhase → List Outstanding → List ℕ → List ℕ → ℕ → Down → Held → Type 0
Keeps phase entries start piece used down.More new = Answers phase entries start piece used down.More new
Keeps phase entries start piece used (down.Bad f) new = Answers phase entries start piece used (down.Bad f) new
Keeps phase entries start piece used what new =
    (used ≤ length piece) × Begins phase entries what (start ++ take used piece) × ((f : Field) → BadAt phase entries (start ++ piece) f → ⊥)
    × (new ≡ record { phase = after phase what; rest = start ++ take used piece; whole = true; bad = None })

-- One call of feed. Where by these entries no message is whole in the bytes that were kept, a message that is given is all
-- that is held. After a refusal nothing is used, and the answer is the same for good. No more is held than the longest
-- message, before any call and after it.
pub record Fed (old : Held) (entries : List Outstanding) (piece : List ℕ) (step : DownStep) (new : Held) : Type 0 where
  pub fresh : old.bad ≡ None → NoneWhole old.phase entries (kept old) → Answers old.phase entries (kept old) piece step.used step.what new
  pub always : old.bad ≡ None → Keeps old.phase entries (kept old) piece step.used step.what new
  pub within : step.used ≤ length piece
  pub again : (f : Field) → old.bad ≡ Some f → (step ≡ record { used = 0; what = down.Bad f }) × (new ≡ old)
  pub one_held : (length old.rest ≤ message_max) × (length new.rest ≤ message_max)

-- what the held bytes are found to be
abbrev pub Judged : DownPhase → List Outstanding → List ℕ → Result Down Stop → Type 0
Judged phase entries rest (Ok what) = (left : List ℕ) × (form.read (down_form phase entries) rest ≡ Ok (what, left))
Judged phase entries rest (Err stop) = form.read (down_form phase entries) rest ≡ Err stop

-- no byte stands behind a whole message
abbrev pub Ends : DownPhase → List Outstanding → List ℕ → Type 0
Ends phase entries rest = (what : Down) (left : List ℕ) → form.read (down_form phase entries) rest ≡ Ok (what, left) → left ≡ []
