-- the laws of the spellings, for each stream
use Rattle.std.proofs.Common.{◌≡◌, ◌⊎◌, inl, inr, ℕ, List, ◌++◌, refl, sym, ap, ◌∙◌, arith}
use Rattle.std.proofs.lemmas.Bool.{cases_lt}
use Rattle.tmc_base.specs.declared.field.Field.{Field}
use Rattle.usbip_wire.specs.declared.dirs.Outstanding.{Outstanding}
use Rattle.usbip_wire.specs.declared.down.DownPhase.TheVariants as down_phase
use Rattle.usbip_wire.specs.declared.up.UpPhase.TheVariants as up_phase
use Rattle.usbip_wire.specs.DevList.{SpellsPart}
use Rattle.usbip_wire.specs.Down as downward
use Rattle.usbip_wire.specs.DownFed as down_fed
use Rattle.usbip_wire.specs.JudgedFields.{missing_for}
use Rattle.usbip_wire.specs.Laws.{ArePrefixFree, AreAlone, AreBadFromTheirLast}
use Rattle.usbip_wire.specs.OpRequest.{SpellsRequest}
use Rattle.usbip_wire.specs.Up as upward
use Rattle.usbip_wire.specs.UpFed as up_fed
use Rattle.event_text.specs.Message.{Stream, Message, Requests, Urbs, Parts, Answers, Request, FromClient, Part, Answer, Spells, BadAt, devid}

pub record Lawful : Type 0 where
  pub requests : ArePrefixFree SpellsRequest
  pub urbs : ArePrefixFree (upward.Spells devid)
  pub parts : (devices interfaces : ℕ) → ArePrefixFree (SpellsPart devices interfaces)
  pub answers : (entries : List Outstanding) → ArePrefixFree (downward.SpellsAnswer entries)
  pub bad_request : AreAlone SpellsRequest (up_fed.BadAt up_phase.Ops)
  pub bad_urb : AreAlone (upward.Spells devid) (up_fed.BadAt (up_phase.Urbs devid))
  pub bad_part : (devices interfaces : ℕ) (entries : List Outstanding) → AreAlone (SpellsPart devices interfaces) (down_fed.BadAt (down_phase.Ops devices interfaces) entries)
  pub bad_answer : (entries : List Outstanding) → AreAlone (downward.SpellsAnswer entries) (down_fed.BadAt down_phase.Urbs entries)
  pub request_stays : AreBadFromTheirLast (up_fed.BadAt up_phase.Ops)
  pub urb_stays : AreBadFromTheirLast (up_fed.BadAt (up_phase.Urbs devid))
  pub part_stays : (devices interfaces : ℕ) (entries : List Outstanding) → AreBadFromTheirLast (down_fed.BadAt (down_phase.Ops devices interfaces) entries)
  pub answer_stays : (entries : List Outstanding) → AreBadFromTheirLast (down_fed.BadAt down_phase.Urbs entries)

-- what a message of a stream is
Is : {M : Type 0} → (M → Message) → (M → List ℕ → Type 0) → Message → List ℕ → Type 0
Is {M} wrap S m bytes = (x : M) × (m ≡ wrap x) × S x bytes

a_request : (entries : List Outstanding) (m : Message) (bytes : List ℕ) → Spells Requests entries m bytes → Is (λ x. Request x) SpellsRequest m bytes
unfolding Is
a_request entries (Request x) bytes s = (x, refl, s)
a_request entries (FromClient x) bytes s = absurd s
a_request entries (Part x) bytes s = absurd s
a_request entries (Answer x) bytes s = absurd s

an_urb : (entries : List Outstanding) (m : Message) (bytes : List ℕ) → Spells Urbs entries m bytes → Is (λ x. FromClient x) (upward.Spells devid) m bytes
unfolding Is
an_urb entries (Request x) bytes s = absurd s
an_urb entries (FromClient x) bytes s = (x, refl, s)
an_urb entries (Part x) bytes s = absurd s
an_urb entries (Answer x) bytes s = absurd s

a_part : (devices interfaces : ℕ) (entries : List Outstanding) (m : Message) (bytes : List ℕ) → Spells (Parts devices interfaces) entries m bytes
    → Is (λ x. Part x) (SpellsPart devices interfaces) m bytes
unfolding Is
a_part devices interfaces entries (Request x) bytes s = absurd s
a_part devices interfaces entries (FromClient x) bytes s = absurd s
a_part devices interfaces entries (Part x) bytes s = (x, refl, s)
a_part devices interfaces entries (Answer x) bytes s = absurd s

an_answer : (entries : List Outstanding) (m : Message) (bytes : List ℕ) → Spells Answers entries m bytes → Is (λ x. Answer x) (downward.SpellsAnswer entries) m bytes
unfolding Is
an_answer entries (Request x) bytes s = absurd s
an_answer entries (FromClient x) bytes s = absurd s
an_answer entries (Part x) bytes s = absurd s
an_answer entries (Answer x) bytes s = (x, refl, s)

free_by : {M : Type 0} (wrap : M → Message) (S : M → List ℕ → Type 0) (T : Message → List ℕ → Type 0) → ((m : Message) (bytes : List ℕ) → T m bytes → Is wrap S m bytes)
    → ArePrefixFree S → ArePrefixFree T
unfolding Is
free_by {M} wrap S T is free = λ m n a b x y s t e.
    let p = is m a s in
    let q = is n b t in
    let same = free p.0 q.0 a b x y p.2 q.2 e in
    (p.1 ∙ (ap wrap same.0 ∙ sym q.1), same.1, same.2)

alone_by : {M : Type 0} (wrap : M → Message) (S : M → List ℕ → Type 0) (T : Message → List ℕ → Type 0) (Bad : List ℕ → Field → Type 0)
    → ((m : Message) (bytes : List ℕ) → T m bytes → Is wrap S m bytes) → AreAlone S Bad → AreAlone T Bad
unfolding Is
alone_by {M} wrap S T Bad is alone = λ rest f bad. (
  λ m front tail s e. let p = is m front s in (alone rest f bad).0 p.0 front tail p.2 e,
  (alone rest f bad).1,
)

-- no message of a stream begins another
pub free : Lawful → (reading : Stream) (entries : List Outstanding) → ArePrefixFree (Spells reading entries)
free laws Requests entries = free_by (λ x. Request x) SpellsRequest (Spells Requests entries) (a_request entries) laws.requests
free laws Urbs entries = free_by (λ x. FromClient x) (upward.Spells devid) (Spells Urbs entries) (an_urb entries) laws.urbs
free laws (Parts devices interfaces) entries =
    free_by (λ x. Part x) (SpellsPart devices interfaces) (Spells (Parts devices interfaces) entries) (a_part devices interfaces entries) (laws.parts devices interfaces)
free laws Answers entries = free_by (λ x. Answer x) (downward.SpellsAnswer entries) (Spells Answers entries) (an_answer entries) (laws.answers entries)

-- a bad field is alone
pub alone : Lawful → (reading : Stream) (entries : List Outstanding) → AreAlone (Spells reading entries) (BadAt reading entries)
alone laws Requests entries = alone_by (λ x. Request x) SpellsRequest (Spells Requests entries) (BadAt Requests entries) (a_request entries) laws.bad_request
alone laws Urbs entries = alone_by (λ x. FromClient x) (upward.Spells devid) (Spells Urbs entries) (BadAt Urbs entries) (an_urb entries) laws.bad_urb
alone laws (Parts devices interfaces) entries =
    alone_by (λ x. Part x) (SpellsPart devices interfaces) (Spells (Parts devices interfaces) entries) (BadAt (Parts devices interfaces) entries)
    (a_part devices interfaces entries) (laws.bad_part devices interfaces entries)
alone laws Answers entries =
    alone_by (λ x. Answer x) (downward.SpellsAnswer entries) (Spells Answers entries) (BadAt Answers entries) (an_answer entries) (laws.bad_answer entries)

-- a field is bad from its last byte on
pub stays : Lawful → (reading : Stream) (entries : List Outstanding) → AreBadFromTheirLast (BadAt reading entries)
stays laws Requests entries = laws.request_stays
stays laws Urbs entries = laws.urb_stays
stays laws (Parts devices interfaces) entries = laws.part_stays devices interfaces entries
stays laws Answers entries = laws.answer_stays entries

-- it stays bad when more follows
pub more_bad : Lawful → (reading : Stream) (entries : List Outstanding) (rest more : List ℕ) (f : Field) → BadAt reading entries rest f → BadAt reading entries (rest ++ more) f
more_bad laws reading entries rest more f bad = ((stays laws reading entries rest more f).0 bad).0

-- where it is bad when more follows, it is bad already, or not yet
pub back_bad : Lawful → (reading : Stream) (entries : List Outstanding) (rest more : List ℕ) (f : Field) → BadAt reading entries (rest ++ more) f
    → BadAt reading entries rest f ⊎ (BadAt reading entries rest f → ⊥)
back_bad laws reading entries rest more f bad =
    elim (cases_lt 0 (missing_for f rest)) [
      | inl some ↦ inr (λ now. let none = ((stays laws reading entries rest more f).0 now).1 in omega (arith, none, some))
      | inr none ↦ inl ((stays laws reading entries rest more f).1 (bad, omega (arith, none)))
    ]
