-- the words of a recovery (USBTMC 1.0, sections 4.2.1.2 to 4.2.1.7)
use Rattle.std.specs.Prelude.{◌≡◌, ◌⊎◌, ℕ, true, false, List, [], ◌∷◌, ◌++◌}
use Rattle.tmc_wire.specs.declared.class_request.ClassRequest.{ClassRequest}
use Rattle.tmc_wire.specs.declared.class_request.ClassRequest.TheVariants as class
use Rattle.host_recover.specs.declared.need.Need.{Need}
use Rattle.host_recover.specs.declared.need.Need.TheVariants as need
use Rattle.host_recover.specs.Letter.{Letter, Asked, Cleared, Drained, Says, Success, Pending, Queued, Failed, Otherwise, Full, Short, Faulty, BulkIn, Notify, BulkOut}

infixr 5 ◌then◌
infixr 4 ◌or◌
-- sets of words
pub data Words : Type 0 where
  Empty : Words
  One : (letter : Letter) → Words
  ◌then◌ : (first second : Words) → Words
  ◌or◌ : (one other : Words) → Words
  Many : (words : Words) → Words

-- so many words of a set, one behind another
abbrev pub InTurn : (List Letter → Type 0) → List (List Letter) → List Letter → Type 0
InTurn Is [] letters = letters ≡ []
InTurn Is (word ∷ words) letters = (rest : List Letter) × (letters ≡ word ++ rest) × Is word × InTurn Is words rest

-- the letters are a word of the set
abbrev pub Has : Words → List Letter → Type 0
Has Empty letters = letters ≡ []
Has (One letter) letters = letters ≡ letter ∷ []
Has (first then second) letters = (front rest : List Letter) × (letters ≡ front ++ rest) × Has first front × Has second rest
Has (one or other) letters = Has one letters ⊎ Has other letters
Has (Many words) letters = (each : List (List Letter)) × InTurn (Has words) each letters

-- the letters begin a word of the set
abbrev pub Begins : Words → List Letter → Type 0
Begins words letters = (rest : List Letter) × Has words (letters ++ rest)

abbrev pub asked : ClassRequest → Says → Words
asked request says = One (Asked request says)

-- reads up to one that is answered short
abbrev pub drain : Words
drain = Many (One (Drained Full)) then One (Drained Short)

-- a drain in which a read failed
abbrev pub failed_drain : Words
failed_drain = Many (One (Drained Full)) then One (Drained Faulty)

-- ---- the full clear

-- checks, while the clear is pending
abbrev pub checks : Words
checks = Many (asked class.CheckClear Pending or (asked class.CheckClear Queued then drain))

-- the halts that were seen, and that of Bulk-OUT, which each clear makes
abbrev pub halts : Words
halts = (Empty or One (Cleared BulkIn)) then (Empty or One (Cleared Notify)) then One (Cleared BulkOut)

-- a clear in which a read failed
abbrev pub failed_clear : Words
failed_clear = asked class.Clear Success then checks then asked class.CheckClear Queued then failed_drain

-- it is begun again where a read failed
abbrev pub full : Words
full = Many failed_clear then asked class.Clear Success then checks then asked class.CheckClear Success then halts

-- ---- the abort of a message

abbrev pub checks_out : Words
checks_out =
    Many (asked class.CheckOut Pending)
    then ((asked class.CheckOut Success then One (Cleared BulkOut)) or ((asked class.CheckOut Failed or asked class.CheckOut Otherwise) then full))

abbrev pub out : (tag : ℕ) → Words
out tag = (asked (class.AbortOut tag) Success then checks_out) or (asked (class.AbortOut tag) Otherwise then full)

-- a device that knows no such transfer has nothing to abort; but where it accepted an earlier part, that has to go
abbrev pub unknown_out : (tag : ℕ) → Words
unknown_out tag = asked (class.AbortOut tag) Failed

-- ---- the abort of a response

abbrev pub checks_in : Words
checks_in =
    Many (asked class.CheckIn Pending or (asked class.CheckIn Queued then drain))
    then (asked class.CheckIn Success
    or ((asked class.CheckIn Failed or asked class.CheckIn Otherwise) then full)
    or (asked class.CheckIn Queued then failed_drain then full))

abbrev pub into : (tag : ℕ) → Words
into tag =
    asked (class.AbortIn tag) Failed
    or (asked (class.AbortIn tag) Otherwise then full)
    or (asked (class.AbortIn tag) Success then failed_drain then full)
    or (asked (class.AbortIn tag) Success then drain then checks_in)

-- the words of the recovery that is called for
abbrev pub words_of : Need → Words
words_of (need.Out tag false) = out tag or unknown_out tag
words_of (need.Out tag true) = out tag or (unknown_out tag then full)
words_of (need.In tag) = into tag
words_of need.Full = full
