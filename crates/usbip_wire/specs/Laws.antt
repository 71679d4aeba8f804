-- what holds of spellings
use Rattle.std.specs.Prelude.{◌≡◌, ◌≢◌, ◌↔◌, ◌⊎◌, ℕ, ◌<◌, List, [], ◌∷◌, ◌++◌, length, Contains}
use Rattle.tmc_base.specs.declared.field.Field.{Field}
use Rattle.usbip_wire.specs.Given.{IsBytes}
use Rattle.usbip_wire.specs.JudgedFields.{field_size, missing_for}
use Rattle.usbip_wire.specs.Stream.{NoneWhole, Reads}

-- no spelling begins another, and the bytes determine the message
abbrev pub ArePrefixFree : {M : Type 0} → (M → List ℕ → Type 0) → Type 0
ArePrefixFree {M} Spells =
    (m n : M) (a b x y : List ℕ) → Spells m a → Spells n b → a ++ x ≡ b ++ y → (m ≡ n) × (a ≡ b) × (x ≡ y)

-- the bytes determine the messages and the rest
abbrev pub AreDetermined : {M : Type 0} → (M → List ℕ → Type 0) → Type 0
AreDetermined {M} Spells =
    (bytes : List ℕ) (ms ns : List M) (rest other : List ℕ) → Reads Spells bytes ms rest → Reads Spells bytes ns other → (ms ≡ ns) × (rest ≡ other)

-- bytes are messages in a row, and then a rest in which no message is whole
abbrev pub AreRead : {M : Type 0} → (M → List ℕ → Type 0) → Type 0
AreRead {M} Spells = (bytes : List ℕ) → IsBytes bytes → (messages : List M) × (rest : List ℕ) × Reads Spells bytes messages rest

-- a spelling is read again, whatever follows it
abbrev pub AreReadAgain : {M : Type 0} → (M → List ℕ → Type 0) → Type 0
AreReadAgain {M} Spells =
    (m : M) (front tail : List ℕ) (ms : List M) (rest : List ℕ) → Spells m front → Reads Spells (front ++ tail) ms rest
    → (others : List M) × (ms ≡ m ∷ others) × Reads Spells tail others rest

-- the bytes hold this field whole at its place, and no spelling that begins with the bytes before it has this value in it
pub record RefusedAt {M : Type 0} (Spells : M → List ℕ → Type 0) (rest : List ℕ) (f : Field) : Type 0 where
  pub front : List ℕ
  pub value : List ℕ
  pub tail : List ℕ
  pub holds : rest ≡ front ++ (value ++ tail)
  pub placed : length front ≡ f.offset
  pub whole : length value ≡ field_size f
  pub refused : (m : M) (bytes more : List ℕ) → Spells m bytes → bytes ≢ front ++ (value ++ more)

-- of these fields it is the first that is refused
pub record IsFirstRefused {M : Type 0} (Spells : M → List ℕ → Type 0) (fields : List Field) (rest : List ℕ) (f : Field) : Type 0 where
  pub listed : Contains fields f
  pub refused : RefusedAt Spells rest f
  pub first : (g : Field) → Contains fields g → g.offset < f.offset → RefusedAt Spells rest g → ⊥

-- a message begins with these bytes
abbrev pub CanGoOn : {M : Type 0} → (M → List ℕ → Type 0) → List ℕ → Type 0
CanGoOn {M} Spells front = (m : M) × (more : List ℕ) × Spells m (front ++ more)

-- one of these fields begins at this place, and these bytes are too few for it
abbrev pub Begins : List Field → ℕ → List ℕ → Type 0
Begins fields at part = (f : Field) × Contains fields f × (f.offset ≡ at) × (length part < field_size f)

-- a message begins with these bytes, or, where they end within one of these fields, with those before that field
pub record GoesOn {M : Type 0} (Spells : M → List ℕ → Type 0) (fields : List Field) (rest : List ℕ) : Type 0 where
  pub front : List ℕ
  pub part : List ℕ
  pub holds : rest ≡ front ++ part
  pub can : CanGoOn Spells front
  pub within : (part ≡ []) ⊎ Begins fields (length front) part

-- bytes with a bad field begin with no spelling, and have no other first bad field
abbrev pub AreAlone : {M : Type 0} → (M → List ℕ → Type 0) → (List ℕ → Field → Type 0) → Type 0
AreAlone {M} Spells Bad = (rest : List ℕ) (f : Field) → Bad rest f → NoneWhole Spells rest × ((g : Field) → Bad rest g → f ≡ g)

-- a field is bad from its last byte on, whatever follows it, and not before
abbrev pub AreBadFromTheirLast : (List ℕ → Field → Type 0) → Type 0
AreBadFromTheirLast Bad = (rest more : List ℕ) (f : Field) → Bad rest f ↔ (Bad (rest ++ more) f × (missing_for f rest ≡ 0))

-- no message is whole in the bytes, and no field is bad
abbrev pub AreNeither : {M : Type 0} → (M → List ℕ → Type 0) → (List ℕ → Field → Type 0) → List ℕ → Type 0
AreNeither {M} Spells Bad rest = NoneWhole Spells rest × ((f : Field) → Bad rest f → ⊥)

-- each message in range is spelled by these bytes, each that is spelled is in range, and its bytes are so many
pub record HaveSpellings {M : Type 0} (InRange : M → Type 0) (written : M → List ℕ) (size : M → ℕ) (Spells : M → List ℕ → Type 0) : Type 0 where
  pub spelled : (m : M) → InRange m → Spells m (written m)
  pub ranged : (m : M) (bytes : List ℕ) → Spells m bytes → InRange m
  pub sized : (m : M) (bytes : List ℕ) → Spells m bytes → length bytes ≡ size m
