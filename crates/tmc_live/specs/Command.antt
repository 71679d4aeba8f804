-- the words behind the program's name
use Rattle.std.specs.Prelude.{◌≡◌, ℕ, ◌≤◌, nat_le, Bool, false, ◌&&◌, List, [], ◌∷◌, Option, Some, None, codes, map}
use Rattle.std.specs.Fmt.{decimal}

-- a word is a number of connections, from 1 to 1,000, in decimal without a sign or a leading zero
pub record IsCount (word : List ℕ) (count : ℕ) : Type 0 where
  pub spelled : word ≡ decimal count
  pub some : 1 ≤ count
  pub few : count ≤ 1000

-- a word begins with a digit above 0
abbrev pub begins_above_zero : List ℕ → Bool
begins_above_zero [] = false
begins_above_zero (first ∷ others) = nat_le 49 first && nat_le first 57

-- the words ask to serve so many connections that come to this address
pub record Asks (words : List (List ℕ)) (address : List ℕ) (count : ℕ) : Type 0 where
  pub spelled : words ≡ codes "serve" ∷ address ∷ decimal count ∷ []
  pub some : 1 ≤ count
  pub few : count ≤ 1000

-- the words name a command
abbrev pub IsCommand : List (List ℕ) → Type 0
IsCommand words = (address : List ℕ) × (count : ℕ) × Asks words address count
