-- program messages (IEEE 488.2, section 7): the grammar, and where bytes leave it
use Rattle.std.specs.Prelude.{◌≡◌, ℕ, ◌+◌, ◌<◌, ◌≤◌, Bool, true, false, List, [], ◌∷◌, ◌++◌, length, map, take}
use Rattle.ieee_syntax.specs.declared.kind.Kind.{Kind}
use Rattle.ieee_syntax.specs.declared.kind.Kind.TheVariants.{NewLine, Digit, Letter, Underscore, Star, Question, Comma, Semicolon}
use Rattle.ieee_syntax.specs.declared.nrf.Nrf.{Nrf}
use Rattle.ieee_syntax.specs.declared.unit.Unit.{Unit}
use Rattle.ieee_syntax.specs.Kind.{kinds}
use Rattle.ieee_syntax.specs.Number.{spaces, IsNumber}

-- letter | digit | "_": what is read, and what the name has, in upper case
pub data NameByte : Type 0 where
  letter : ℕ → NameByte
  digit : ℕ → NameByte
  underscore : NameByte

abbrev pub kind_in : NameByte → Kind
kind_in (letter code) = Letter code
kind_in (digit value) = Digit value
kind_in underscore = Underscore

abbrev pub byte_in : NameByte → ℕ
byte_in (letter code) = code
byte_in (digit value) = value + 48
byte_in underscore = 95

-- [ "*" ]: what is read, and what the name has
abbrev pub star_text : Bool → List Kind
star_text true = Star ∷ []
star_text false = []

abbrev pub star_name : Bool → List ℕ
star_name true = 42 ∷ []
star_name false = []

-- head = [ "*" ] letter ( letter | digit | "_" )*, of at most 12 bytes without the "*" (7.6.1)
pub record IsHead (text : List Kind) (name : List ℕ) : Type 0 where
  pub star : Bool
  pub first : ℕ
  pub more : List NameByte
  pub spelled : text ≡ star_text star ++ Letter first ∷ map kind_in more
  pub few : length more < 12
  pub named : name ≡ star_name star ++ first ∷ map byte_in more

-- item ( ws* separator ws* item )*, where a separator is ";" between units (7.4.1) and "," between numbers (7.4.2)
abbrev pub Separated : {A : Type 0} → Kind → (List Kind → A → Type 0) → List Kind → List A → Type 0
Separated separator Item text [] = ⊥
Separated separator Item text (x ∷ []) = Item text x
Separated separator Item text (x ∷ y ∷ ys) =
    (item rest : List Kind) × (before behind : ℕ)
    × (text ≡ item ++ (spaces before ++ (separator ∷ (spaces behind ++ rest))))
    × Item item x × Separated separator Item rest (y ∷ ys)

-- data = [ ws+ number ( ws* "," ws* number )* ] (7.4.3, 7.7)
abbrev pub IsData : List Kind → List Nrf → Type 0
IsData text [] = text ≡ []
IsData text (n ∷ ns) =
    (gap : ℕ) × (numbers : List Kind) × (0 < gap) × (text ≡ spaces gap ++ numbers) × Separated Comma IsNumber numbers (n ∷ ns)

-- [ "?" ], which makes a query of a head (7.6.2)
abbrev pub query_text : Bool → List Kind
query_text true = Question ∷ []
query_text false = []

-- unit = head [ "?" ] data (7.3)
pub record IsUnit (text : List Kind) (unit : Unit) : Type 0 where
  pub head : List Kind
  pub numbers : List Kind
  pub spelled : text ≡ head ++ (query_text unit.query ++ numbers)
  pub named : IsHead head unit.head
  pub given : IsData numbers unit.args

-- message = ws* [ unit ( ws* ";" ws* unit )* ws* ]
abbrev pub IsMessage : List Kind → List Unit → Type 0
IsMessage text [] = (gap : ℕ) × (text ≡ spaces gap)
IsMessage text (u ∷ us) =
    (before behind : ℕ) × (parts : List Kind)
    × (text ≡ spaces before ++ (parts ++ spaces behind)) × Separated Semicolon IsUnit parts (u ∷ us)

-- one NL as the last byte is dropped (7.5)
abbrev pub end_text : Bool → List Kind
end_text true = NewLine ∷ []
end_text false = []

-- the bytes are a message of these units, and an NL or none
pub record Program (bytes : List ℕ) (units : List Unit) : Type 0 where
  pub text : List Kind
  pub ended : Bool
  pub spelled : kinds bytes ≡ text ++ end_text ended
  pub message : IsMessage text units

-- some message begins with the bytes
pub record Begins (bytes : List ℕ) : Type 0 where
  pub more : List ℕ
  pub units : List Unit
  pub whole : Program (bytes ++ more) units

-- The bytes are no message. What stands before the place begins one, and with the byte at the place nothing
-- does; where the bytes end too early, the place is their length.
pub record FaultAt (bytes : List ℕ) (place : ℕ) : Type 0 where
  pub none : (units : List Unit) → Program bytes units → ⊥
  pub within : place ≤ length bytes
  pub front : Begins (take place bytes)
  pub stops : place < length bytes → Begins (take (place + 1) bytes) → ⊥
