-- a call of a reader of a device's messages is a step
use Rattle.std.proofs.Common.{◌≡◌, ℕ, ◌≤◌, true, false, Some, None, List, [], ◌++◌, length, take, drop, refl, sym, ap, subst, ◌∙◌}
use Rattle.tmc_base.specs.declared.field.Field.{Field}
use Rattle.usbip_wire.specs.declared.dirs.Outstanding.{Outstanding}
use Rattle.usbip_wire.specs.declared.down.Down.{Down}
use Rattle.usbip_wire.specs.declared.down.Down.TheVariants as got
use Rattle.usbip_wire.specs.declared.down.DownPhase.{DownPhase}
use Rattle.usbip_wire.specs.declared.down.DownPhase.TheVariants.{Ops, Urbs}
use Rattle.usbip_wire.specs.declared.down.DownStep.{DownStep}
use Rattle.usbip_wire.specs.declared.urb.TheConstants.{URB_HEADER}
use Rattle.usbip_wire.specs.DevList.{SpellsPart}
use Rattle.usbip_wire.specs.Down as downward
use Rattle.usbip_wire.specs.DownFed as down_fed
use Rattle.usbip_wire.specs.DownFed.{Held, Fed, Answers, kept, data_of}
use Rattle.usbip_wire.specs.Stream as stream
use Rattle.event_text.specs.declared.reading.Reader.{Reader}
use Rattle.event_text.specs.declared.reading.Reader.TheVariants.{Device}
use Rattle.event_text.specs.declared.reading.Step.{Step}
use Rattle.event_text.specs.declared.reading.Step.TheVariants as step
use Rattle.event_text.specs.Message as message
use Rattle.event_text.specs.Message.{Message, Request, FromClient, Part, Answer, Parts, Spells, NoneWhole}
use Rattle.event_text.specs.Printed.{message_line}
use Rattle.event_text.specs.Read.{Stepped, IsSettled, standing_of, device_stream, device_gave, device_step, device_text, answered, fed_with}
use Rattle.event_text.specs.Shown.{Standing, Stops, taken, stopped}
use Rattle.event_text.proofs.Whole.{whole_stepped}

none_parts : (devices interfaces : ℕ) (entries : List Outstanding) (rest : List ℕ) → stream.NoneWhole (SpellsPart devices interfaces) rest
    → NoneWhole (Parts devices interfaces) entries rest
none_parts devices interfaces entries rest none (Request request) front tail s = absurd s
none_parts devices interfaces entries rest none (FromClient m) front tail s = absurd s
none_parts devices interfaces entries rest none (Part what) front tail s = none what front tail s
none_parts devices interfaces entries rest none (Answer m) front tail s = absurd s

none_answers : (entries : List Outstanding) (rest : List ℕ) → stream.NoneWhole (downward.SpellsAnswer entries) rest → NoneWhole message.Answers entries rest
none_answers entries rest none (Request request) front tail s = absurd s
none_answers entries rest none (FromClient m) front tail s = absurd s
none_answers entries rest none (Part what) front tail s = absurd s
none_answers entries rest none (Answer m) front tail s = none m front tail s

none_unread : (phase : DownPhase) (entries : List Outstanding) (rest : List ℕ) → NoneWhole (device_stream phase) entries rest → down_fed.NoneWhole phase entries rest
none_unread (Ops devices interfaces) entries rest none = λ what front tail s. none (Part what) front tail s
none_unread Urbs entries rest none = λ m front tail s. none (Answer m) front tail s

-- before a call
abbrev before : DownPhase → List Outstanding → List ℕ → Standing
before phase entries start = record { reading = device_stream phase; entries = entries; rest = start; bad = None }

-- a call that used all bytes, one that found a bad field, and one that completed a message
more_stepped : (phase : DownPhase) (entries : List Outstanding) (start piece : List ℕ) (new : Held) → NoneWhole (device_stream phase) entries (start ++ piece)
    → ((f : Field) → message.BadAt (device_stream phase) entries (start ++ piece) f → ⊥)
    → new ≡ record { phase = phase; rest = start ++ piece; whole = false; bad = None }
    → Stepped (before phase entries start) piece step.More [] (standing_of (Device new) entries)
more_stepped phase entries start piece new none calm is = ((none, calm), refl, ap (λ (h : Held). standing_of (Device h) entries) is)

bad_is : (phase : DownPhase) (entries : List Outstanding) (start piece : List ℕ) (used : ℕ) (f : Field) (new : Held)
    → new ≡ record { phase = phase; rest = start ++ take used piece; whole = false; bad = Some f }
    → standing_of (Device new) entries ≡ stopped (fed_with (before phase entries start) piece) (Some f)
bad_is phase entries start piece used f new is = ap (λ (h : Held). standing_of (Device h) entries) is

whole_is : (phase : DownPhase) (entries : List Outstanding) (start piece : List ℕ) (used : ℕ) (new : Held)
    → new ≡ record { phase = phase; rest = start ++ take used piece; whole = true; bad = None }
    → standing_of (Device new) entries ≡ before phase entries []
whole_is phase entries start piece used new is = ap (λ (h : Held). standing_of (Device h) entries) is

part_stepped : (devices interfaces : ℕ) (entries : List Outstanding) (start piece : List ℕ) (used : ℕ) (what : Down) (text : List ℕ) (new : Held) (next : DownPhase)
    → NoneWhole (Parts devices interfaces) entries start → used ≤ length piece → SpellsPart devices interfaces what (start ++ take used piece)
    → text ≡ message_line (Part what) → new ≡ record { phase = next; rest = start ++ take used piece; whole = true; bad = None }
    → before next entries [] ≡ taken (before (Ops devices interfaces) entries start) (Part what) []
    → Stepped (before (Ops devices interfaces) entries start) piece (step.Message used) text (standing_of (Device new) entries)
part_stepped devices interfaces entries start piece used what text new next none within means printed is same =
    whole_stepped (before (Ops devices interfaces) entries start) piece used (Part what) text (standing_of (Device new) entries) none within means printed
    (whole_is next entries start piece used new is ∙ same)

ops_stepped : (devices interfaces : ℕ) (entries : List Outstanding) (start piece : List ℕ) (used : ℕ) (what : Down) (new : Held)
    → NoneWhole (Parts devices interfaces) entries start → Answers (Ops devices interfaces) entries start piece used what new
    → Stepped (before (Ops devices interfaces) entries start) piece (device_gave used what) (device_text what (data_of new)) (standing_of (Device new) (answered entries what))
ops_stepped devices interfaces entries start piece used got.More new none (all, empty, calm, is) =
    more_stepped (Ops devices interfaces) entries start piece new (none_parts devices interfaces entries (start ++ piece) empty) calm is
ops_stepped devices interfaces entries start piece used (got.Bad f) new none (within, ends, bad, is) =
    (f, bad, refl, bad_is (Ops devices interfaces) entries start piece used f new is)
ops_stepped devices interfaces entries start piece used (got.Count status number) new none (within, means, calm, is) =
    part_stepped devices interfaces entries start piece used (got.Count status number) _ new _ none within means refl is refl
ops_stepped devices interfaces entries start piece used (got.Device device) new none (within, means, calm, is) =
    part_stepped devices interfaces entries start piece used (got.Device device) _ new _ none within means refl is refl
ops_stepped devices interfaces entries start piece used (got.Interface class subclass protocol) new none (within, means, calm, is) =
    part_stepped devices interfaces entries start piece used (got.Interface class subclass protocol) _ new _ none within means refl is refl
ops_stepped devices interfaces entries start piece used (got.Import status device) new none (within, means, calm, is) =
    part_stepped devices interfaces entries start piece used (got.Import status device) _ new _ none within means refl is refl
ops_stepped devices interfaces entries start piece used (got.RetSubmit head) new none (within, means, calm, is) = absurd means
ops_stepped devices interfaces entries start piece used (got.RetUnlink head) new none (within, means, calm, is) = absurd means

urbs_stepped : (entries : List Outstanding) (start piece : List ℕ) (used : ℕ) (what : Down) (new : Held)
    → NoneWhole message.Answers entries start → Answers Urbs entries start piece used what new
    → Stepped (before Urbs entries start) piece (device_gave used what) (device_text what (data_of new)) (standing_of (Device new) (answered entries what))
urbs_stepped entries start piece used got.More new none (all, empty, calm, is) =
    more_stepped Urbs entries start piece new (none_answers entries (start ++ piece) empty) calm is
urbs_stepped entries start piece used (got.Bad f) new none (within, ends, bad, is) = (f, bad, refl, bad_is Urbs entries start piece used f new is)
urbs_stepped entries start piece used (got.Count status number) new none (within, means, calm, is) = absurd means
urbs_stepped entries start piece used (got.Device device) new none (within, means, calm, is) = absurd means
urbs_stepped entries start piece used (got.Interface class subclass protocol) new none (within, means, calm, is) = absurd means
urbs_stepped entries start piece used (got.Import status device) new none (within, means, calm, is) = absurd means
urbs_stepped entries start piece used (got.RetSubmit head) new none (within, means, calm, is) =
    whole_stepped (before Urbs entries start) piece used (Answer (downward.RetSubmit head (drop URB_HEADER (start ++ take used piece)))) _
    (standing_of (Device new) (answered entries (got.RetSubmit head))) none within means (ap (λ (h : Held). device_text (got.RetSubmit head) (data_of h)) is)
    (whole_is Urbs (answered entries (got.RetSubmit head)) start piece used new is)
urbs_stepped entries start piece used (got.RetUnlink head) new none (within, means, calm, is) =
    whole_stepped (before Urbs entries start) piece used (Answer (downward.RetUnlink head)) _
    (standing_of (Device new) (answered entries (got.RetUnlink head))) none within means refl
    (whole_is Urbs (answered entries (got.RetUnlink head)) start piece used new is)

phase_stepped : (phase : DownPhase) (entries : List Outstanding) (start piece : List ℕ) (used : ℕ) (what : Down) (new : Held)
    → NoneWhole (device_stream phase) entries start → Answers phase entries start piece used what new
    → Stepped (before phase entries start) piece (device_gave used what) (device_text what (data_of new)) (standing_of (Device new) (answered entries what))
phase_stepped (Ops devices interfaces) entries start piece used what new none answers = ops_stepped devices interfaces entries start piece used what new none answers
phase_stepped Urbs entries start piece used what new none answers = urbs_stepped entries start piece used what new none answers

standing_is : (old : Held) (entries : List Outstanding) → old.bad ≡ None → standing_of (Device old) entries ≡ before old.phase entries (kept old)
standing_is old entries good = rw good refl

settled_none : (old : Held) (entries : List Outstanding) → old.bad ≡ None → IsSettled (standing_of (Device old) entries) → NoneWhole (device_stream old.phase) entries (kept old)
settled_none old entries good settled =
    let stops : Stops (before old.phase entries (kept old)) None = subst (λ s. Stops s None) (standing_is old entries good) (settled good) in
    stops.0

-- what a call requires
pub unread : (reader : Reader) (old : Held) (entries : List Outstanding) → reader ≡ Device old → (standing_of reader entries).bad ≡ None
    → IsSettled (standing_of reader entries) → down_fed.NoneWhole old.phase entries (kept old)
unread reader old entries e good settled =
    let fine : old.bad ≡ None = subst (λ r. (standing_of r entries).bad ≡ None) e good in
    let calm : IsSettled (standing_of (Device old) entries) = subst (λ r. IsSettled (standing_of r entries)) e settled in
    none_unread old.phase entries (kept old) (settled_none old entries fine calm)

device_stepped : (old : Held) (entries : List Outstanding) (piece : List ℕ) (fed : DownStep) (new : Held) → old.bad ≡ None
    → IsSettled (standing_of (Device old) entries) → Fed old entries piece fed new
    → Stepped (standing_of (Device old) entries) piece (device_step fed) (device_text fed.what (data_of new)) (standing_of (Device new) (answered entries fed.what))
device_stepped old entries piece fed new good settled calls =
    let none : NoneWhole (device_stream old.phase) entries (kept old) = settled_none old entries good settled in
    subst (λ s. Stepped s piece (device_step fed) (device_text fed.what (data_of new)) (standing_of (Device new) (answered entries fed.what)))
    (sym (standing_is old entries good))
    (phase_stepped old.phase entries (kept old) piece fed.used fed.what new none (calls.fresh good (none_unread old.phase entries (kept old) none)))

device_call : (reader : Reader) (old : Held) (entries : List Outstanding) (piece : List ℕ) (fed : DownStep) (new : Held) → reader ≡ Device old
    → (standing_of reader entries).bad ≡ None → IsSettled (standing_of reader entries) → Fed old entries piece fed new
    → Stepped (standing_of reader entries) piece (device_step fed) (device_text fed.what (data_of new)) (standing_of (Device new) (answered entries fed.what))
device_call reader old entries piece fed new e good settled calls =
    subst
    (λ r. (standing_of r entries).bad ≡ None → IsSettled (standing_of r entries)
    → Stepped (standing_of r entries) piece (device_step fed) (device_text fed.what (data_of new)) (standing_of (Device new) (answered entries fed.what)))
    (sym e) (λ g s. device_stepped old entries piece fed new g s calls) good settled

-- what a call prints
pub device_prints : (reader : Reader) (old : Held) (entries left : List Outstanding) (piece : List ℕ) (new : Held) (text more : List ℕ) → reader ≡ Device old
    → (standing_of reader entries).bad ≡ None → IsSettled (standing_of reader entries) → (s : Step)
    → (fed : DownStep) × Fed old entries piece fed new × (s ≡ device_step fed) × (left ≡ answered entries fed.what) × (more ≡ text ++ device_text fed.what (data_of new))
    → (printed : List ℕ) × (more ≡ text ++ printed) × Stepped (standing_of reader entries) piece s printed (standing_of (Device new) left)
device_prints reader old entries left piece new text more e good settled s (fed, calls, is, gone, printed) = (
  device_text fed.what (data_of new),
  printed,
  subst (λ t. Stepped (standing_of reader entries) piece t (device_text fed.what (data_of new)) (standing_of (Device new) left)) (sym is)
      (subst (λ l. Stepped (standing_of reader entries) piece (device_step fed) (device_text fed.what (data_of new)) (standing_of (Device new) l)) (sym gone)
      (device_call reader old entries piece fed new e good settled calls)),
)
