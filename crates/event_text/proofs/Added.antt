-- an entry more makes no message whole in a rest, and no field bad
use Rattle.std.proofs.Common.{◌≡◌, ℕ, Bool, true, false, List, [], ◌∷◌, ◌++◌, refl, sym, subst}
use Rattle.tmc_base.specs.declared.field.Field.{Field}
use Rattle.usbip_wire.specs.declared.dirs.Outstanding.{Outstanding}
use Rattle.usbip_wire.specs.declared.down.DownPhase.TheVariants as down_phase
use Rattle.usbip_wire.specs.Down.{SpellsAnswer}
use Rattle.usbip_wire.specs.DownFed as down_fed
use Rattle.usbip_wire.specs.Laws.{AreNeither}
use Rattle.usbip_wire.specs.Stream as stream
use Rattle.usbip_wire.specs.UpFed as up_fed
use Rattle.event_text.specs.declared.reading.Reader.{Reader}
use Rattle.event_text.specs.declared.reading.Reader.TheVariants.{Client, Device}
use Rattle.event_text.specs.Read.{standing_of, IsSound, IsSettled, IsMarked, client_stream, device_stream, kept_by}
use Rattle.event_text.specs.Message.{Stream, Message, Requests, Urbs, Parts, Answers, Request, FromClient, Part, Answer, Spells, NoneWhole, BadAt}

-- what usbip_wire says of added entries
abbrev pub MayBeAdded : Type 0
MayBeAdded = (entries more : List Outstanding) (rest : List ℕ) → AreNeither (SpellsAnswer entries) (down_fed.BadAt down_phase.Urbs entries) rest
    → AreNeither (SpellsAnswer (entries ++ more)) (down_fed.BadAt down_phase.Urbs (entries ++ more)) rest

-- no message is whole, and no field is bad
abbrev IsNeither : Stream → List Outstanding → List ℕ → Type 0
IsNeither reading entries rest = NoneWhole reading entries rest × ((f : Field) → BadAt reading entries rest f → ⊥)

-- all messages but answers are the same whatever is outstanding
spelled_same : (reading : Stream) (entries more : List Outstanding) (m : Message) (bytes : List ℕ) → (reading ≡ Answers → ⊥) → Spells reading more m bytes → Spells reading entries m bytes
spelled_same Requests entries more (Request request) bytes other s = s
spelled_same Requests entries more (FromClient m) bytes other s = absurd s
spelled_same Requests entries more (Part what) bytes other s = absurd s
spelled_same Requests entries more (Answer m) bytes other s = absurd s
spelled_same Urbs entries more (Request request) bytes other s = absurd s
spelled_same Urbs entries more (FromClient m) bytes other s = s
spelled_same Urbs entries more (Part what) bytes other s = absurd s
spelled_same Urbs entries more (Answer m) bytes other s = absurd s
spelled_same (Parts devices interfaces) entries more (Request request) bytes other s = absurd s
spelled_same (Parts devices interfaces) entries more (FromClient m) bytes other s = absurd s
spelled_same (Parts devices interfaces) entries more (Part what) bytes other s = s
spelled_same (Parts devices interfaces) entries more (Answer m) bytes other s = absurd s
spelled_same Answers entries more m bytes other s = absurd (other refl)

none_same : (reading : Stream) (entries more : List Outstanding) (rest : List ℕ) → (reading ≡ Answers → ⊥) → NoneWhole reading entries rest → NoneWhole reading more rest
none_same reading entries more rest other none m front tail s = none m front tail (spelled_same reading entries more m front other s)

-- of answers
none_of : (entries : List Outstanding) (rest : List ℕ) → NoneWhole Answers entries rest → stream.NoneWhole (SpellsAnswer entries) rest
none_of entries rest none m front tail s = none (Answer m) front tail s

of_none : (entries : List Outstanding) (rest : List ℕ) → stream.NoneWhole (SpellsAnswer entries) rest → NoneWhole Answers entries rest
of_none entries rest none (Request request) front tail s = absurd s
of_none entries rest none (FromClient m) front tail s = absurd s
of_none entries rest none (Part what) front tail s = absurd s
of_none entries rest none (Answer m) front tail s = none m front tail s

stops_more : MayBeAdded → (reading : Stream) (entries more : List Outstanding) (rest : List ℕ) → IsNeither reading entries rest → IsNeither reading (entries ++ more) rest
stops_more may Requests entries more rest (none, calm) = (none_same Requests entries (entries ++ more) rest (λ e. cc e) none, calm)
stops_more may Urbs entries more rest (none, calm) = (none_same Urbs entries (entries ++ more) rest (λ e. cc e) none, calm)
stops_more may (Parts devices interfaces) entries more rest (none, calm) = (none_same (Parts devices interfaces) entries (entries ++ more) rest (λ e. cc e) none, calm)
stops_more may Answers entries more rest (none, calm) =
    let r = may entries more rest (none_of entries rest none, calm) in
    (of_none (entries ++ more) rest r.0, r.1)

-- ---- a reading

marked_more : (reader : Reader) (entries more : List Outstanding) (refused : Bool) → IsMarked refused (standing_of reader entries) → IsMarked refused (standing_of reader more)
marked_more (Client held) entries more true marked = marked
marked_more (Client held) entries more false marked = marked
marked_more (Device held) entries more true marked = marked
marked_more (Device held) entries more false marked = marked

settled_more : MayBeAdded → (reader : Reader) (entries more : List Outstanding) → IsSettled (standing_of reader entries) → IsSettled (standing_of reader (entries ++ more))
settled_more may (Client held) entries more settled = λ good. stops_more may (client_stream held.phase) entries more (kept_by held.bad (up_fed.kept held)) (settled good)
settled_more may (Device held) entries more settled = λ good. stops_more may (device_stream held.phase) entries more (kept_by held.bad (down_fed.kept held)) (settled good)

pub sound_added : MayBeAdded → (reader : Reader) (entries : List Outstanding) (entry : Outstanding) (more : List Outstanding) (refused : Bool) → more ≡ entries ++ entry ∷ []
    → IsSound reader entries refused → IsSound reader more refused
sound_added may reader entries entry more refused e sound =
    subst (λ xs. IsSound reader xs refused) (sym e) (
      marked_more reader entries (entries ++ entry ∷ []) refused sound.0,
      sound.1,
      settled_more may reader entries (entry ∷ []) sound.2,
    )
