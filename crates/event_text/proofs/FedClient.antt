-- a call of a reader of a client's messages is a step
use Rattle.std.proofs.Common.{◌≡◌, ℕ, true, false, Some, None, List, [], ◌++◌, take, drop, refl, sym, ap, subst}
use Rattle.tmc_base.specs.declared.field.Field.{Field}
use Rattle.usbip_wire.specs.declared.dirs.Outstanding.{Outstanding}
use Rattle.usbip_wire.specs.declared.up.Up.{Up}
use Rattle.usbip_wire.specs.declared.up.Up.TheVariants as sent
use Rattle.usbip_wire.specs.declared.up.UpPhase.{UpPhase}
use Rattle.usbip_wire.specs.declared.up.UpPhase.TheVariants.{Ops, Urbs}
use Rattle.usbip_wire.specs.declared.up.UpStep.{UpStep}
use Rattle.usbip_wire.specs.declared.urb.TheConstants.{URB_HEADER}
use Rattle.usbip_wire.specs.OpRequest.{SpellsRequest}
use Rattle.usbip_wire.specs.Stream as stream
use Rattle.usbip_wire.specs.Up as upward
use Rattle.usbip_wire.specs.UpFed.{Held, Fed, Answers, kept, data_of}
use Rattle.event_text.specs.declared.reading.Reader.TheVariants.{Client}
use Rattle.event_text.specs.declared.reading.Reader.{Reader}
use Rattle.event_text.specs.declared.reading.Step.{Step}
use Rattle.event_text.specs.declared.reading.Step.TheVariants as step
use Rattle.event_text.specs.Message as message
use Rattle.event_text.specs.Message.{Message, Request, FromClient, Part, Answer, Spells, NoneWhole, devid}
use Rattle.event_text.specs.Read.{Stepped, IsOurs, IsOurReader, IsSettled, standing_of, client_stream, client_gave, client_step, client_text, fed_with}
use Rattle.event_text.specs.Shown.{Standing, Stops, stopped}
use Rattle.event_text.proofs.Whole.{whole_stepped}

none_requests : (entries : List Outstanding) (rest : List ℕ) → stream.NoneWhole SpellsRequest rest → NoneWhole message.Requests entries rest
none_requests entries rest none (Request request) front tail s = none request front tail s
none_requests entries rest none (FromClient m) front tail s = absurd s
none_requests entries rest none (Part what) front tail s = absurd s
none_requests entries rest none (Answer m) front tail s = absurd s

none_urbs : (entries : List Outstanding) (rest : List ℕ) → stream.NoneWhole (upward.Spells devid) rest → NoneWhole message.Urbs entries rest
none_urbs entries rest none (Request request) front tail s = absurd s
none_urbs entries rest none (FromClient m) front tail s = none m front tail s
none_urbs entries rest none (Part what) front tail s = absurd s
none_urbs entries rest none (Answer m) front tail s = absurd s

-- before a call
abbrev before : UpPhase → List Outstanding → List ℕ → Standing
before phase entries start = record { reading = client_stream phase; entries = entries; rest = start; bad = None }

-- a call that used all bytes, and one that found a bad field
more_stepped : (phase : UpPhase) (entries : List Outstanding) (start piece : List ℕ) (new : Held) → NoneWhole (client_stream phase) entries (start ++ piece)
    → ((f : Field) → message.BadAt (client_stream phase) entries (start ++ piece) f → ⊥)
    → new ≡ record { phase = phase; rest = start ++ piece; whole = false; bad = None }
    → Stepped (before phase entries start) piece step.More [] (standing_of (Client new) entries)
more_stepped phase entries start piece new none calm is = ((none, calm), refl, ap (λ (h : Held). standing_of (Client h) entries) is)

bad_is : (phase : UpPhase) (entries : List Outstanding) (start piece : List ℕ) (used : ℕ) (f : Field) (new : Held)
    → new ≡ record { phase = phase; rest = start ++ take used piece; whole = false; bad = Some f }
    → standing_of (Client new) entries ≡ stopped (fed_with (before phase entries start) piece) (Some f)
bad_is phase entries start piece used f new is = ap (λ (h : Held). standing_of (Client h) entries) is

whole_is : (phase : UpPhase) (entries : List Outstanding) (start piece : List ℕ) (used : ℕ) (new : Held)
    → new ≡ record { phase = phase; rest = start ++ take used piece; whole = true; bad = None }
    → standing_of (Client new) entries ≡ before phase entries []
whole_is phase entries start piece used new is = ap (λ (h : Held). standing_of (Client h) entries) is

ops_stepped : (entries : List Outstanding) (start piece : List ℕ) (used : ℕ) (what : Up) (new : Held) → NoneWhole message.Requests entries start
    → Answers Ops start piece used what new → Stepped (before Ops entries start) piece (client_gave used what) (client_text what (data_of new)) (standing_of (Client new) entries)
ops_stepped entries start piece used sent.More new none (all, empty, calm, is) =
    more_stepped Ops entries start piece new (none_requests entries (start ++ piece) empty) calm is
ops_stepped entries start piece used (sent.Bad f) new none (within, ends, bad, is) = (f, bad, refl, bad_is Ops entries start piece used f new is)
ops_stepped entries start piece used (sent.Op request) new none (within, means, calm, is) =
    whole_stepped (before Ops entries start) piece used (Request request) _ (standing_of (Client new) entries) none within means refl
    (whole_is Ops entries start piece used new is)
ops_stepped entries start piece used (sent.Submit head) new none (within, means, calm, is) = absurd means
ops_stepped entries start piece used (sent.Unlink head) new none (within, means, calm, is) = absurd means

urbs_stepped : (entries : List Outstanding) (start piece : List ℕ) (used : ℕ) (what : Up) (new : Held) → NoneWhole message.Urbs entries start
    → Answers (Urbs devid) start piece used what new
    → Stepped (before (Urbs devid) entries start) piece (client_gave used what) (client_text what (data_of new)) (standing_of (Client new) entries)
urbs_stepped entries start piece used sent.More new none (all, empty, calm, is) =
    more_stepped (Urbs devid) entries start piece new (none_urbs entries (start ++ piece) empty) calm is
urbs_stepped entries start piece used (sent.Bad f) new none (within, ends, bad, is) = (f, bad, refl, bad_is (Urbs devid) entries start piece used f new is)
urbs_stepped entries start piece used (sent.Op request) new none (within, means, calm, is) = absurd means
urbs_stepped entries start piece used (sent.Submit head) new none (within, means, calm, is) =
    whole_stepped (before (Urbs devid) entries start) piece used (FromClient (upward.Submit head (drop URB_HEADER (start ++ take used piece)))) _
    (standing_of (Client new) entries) none within means (ap (λ (h : Held). client_text (sent.Submit head) (data_of h)) is)
    (whole_is (Urbs devid) entries start piece used new is)
urbs_stepped entries start piece used (sent.Unlink head) new none (within, means, calm, is) =
    whole_stepped (before (Urbs devid) entries start) piece used (FromClient (upward.Unlink head)) _ (standing_of (Client new) entries) none within means refl
    (whole_is (Urbs devid) entries start piece used new is)

phase_stepped : (phase : UpPhase) (entries : List Outstanding) (start piece : List ℕ) (used : ℕ) (what : Up) (new : Held) → IsOurs phase
    → NoneWhole (client_stream phase) entries start → Answers phase start piece used what new
    → Stepped (before phase entries start) piece (client_gave used what) (client_text what (data_of new)) (standing_of (Client new) entries)
phase_stepped Ops entries start piece used what new ours none answers = ops_stepped entries start piece used what new none answers
phase_stepped (Urbs device) entries start piece used what new ours none answers =
    urbs_stepped entries start piece used what new none (subst (λ d. Answers (Urbs d) start piece used what new) ours answers)

-- a good reader's standing
standing_is : (old : Held) (entries : List Outstanding) → old.bad ≡ None → standing_of (Client old) entries ≡ before old.phase entries (kept old)
standing_is old entries good = rw good refl

pub client_stepped : (old : Held) (entries : List Outstanding) (piece : List ℕ) (fed : UpStep) (new : Held) → old.bad ≡ None → IsOurs old.phase
    → IsSettled (standing_of (Client old) entries) → Fed old piece fed new
    → Stepped (standing_of (Client old) entries) piece (client_step fed) (client_text fed.what (data_of new)) (standing_of (Client new) entries)
client_stepped old entries piece fed new good ours settled calls =
    let is : standing_of (Client old) entries ≡ before old.phase entries (kept old) = standing_is old entries good in
    let stops : Stops (before old.phase entries (kept old)) None = subst (λ s. Stops s None) is (settled good) in
    subst (λ s. Stepped s piece (client_step fed) (client_text fed.what (data_of new)) (standing_of (Client new) entries)) (sym is)
    (phase_stepped old.phase entries (kept old) piece fed.used fed.what new ours stops.0 (calls.fresh good))

client_call : (reader : Reader) (old : Held) (entries : List Outstanding) (piece : List ℕ) (fed : UpStep) (new : Held) → reader ≡ Client old
    → (standing_of reader entries).bad ≡ None → IsOurReader reader → IsSettled (standing_of reader entries) → Fed old piece fed new
    → Stepped (standing_of reader entries) piece (client_step fed) (client_text fed.what (data_of new)) (standing_of (Client new) entries)
client_call reader old entries piece fed new e good ours settled calls =
    subst
    (λ r. (standing_of r entries).bad ≡ None → IsOurReader r → IsSettled (standing_of r entries)
    → Stepped (standing_of r entries) piece (client_step fed) (client_text fed.what (data_of new)) (standing_of (Client new) entries))
    (sym e) (λ g o s. client_stepped old entries piece fed new g o s calls) good ours settled

-- what a call prints
pub client_prints : (reader : Reader) (old : Held) (entries : List Outstanding) (piece : List ℕ) (new : Held) (text more : List ℕ) → reader ≡ Client old
    → (standing_of reader entries).bad ≡ None → IsOurReader reader → IsSettled (standing_of reader entries) → (s : Step)
    → (fed : UpStep) × Fed old piece fed new × (s ≡ client_step fed) × (more ≡ text ++ client_text fed.what (data_of new))
    → (printed : List ℕ) × (more ≡ text ++ printed) × Stepped (standing_of reader entries) piece s printed (standing_of (Client new) entries)
client_prints reader old entries piece new text more e good ours settled s (fed, calls, is, printed) = (
  client_text fed.what (data_of new),
  printed,
  subst (λ t. Stepped (standing_of reader entries) piece t (client_text fed.what (data_of new)) (standing_of (Client new) entries)) (sym is)
      (client_call reader old entries piece fed new e good ours settled calls),
)
