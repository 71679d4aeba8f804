-- messages in a row
use Rattle.std.specs.Prelude.{◌≡◌, ◌≢◌, ℕ, List, [], ◌∷◌, ◌++◌}

-- no front of these bytes is a spelling
abbrev pub NoneWhole : {M : Type 0} → (M → List ℕ → Type 0) → List ℕ → Type 0
NoneWhole {M} Spells rest = (m : M) (front tail : List ℕ) → Spells m front → rest ≢ front ++ tail

-- these bytes are spellings of these messages in a row, and then this rest
abbrev pub InRow : {M : Type 0} → (M → List ℕ → Type 0) → List M → List ℕ → List ℕ → Type 0
InRow Spells [] bytes rest = bytes ≡ rest
InRow Spells (m ∷ ms) bytes rest =
    (front : List ℕ) × (after : List ℕ) × (bytes ≡ front ++ after) × Spells m front × InRow Spells ms after rest

-- the same, and no front of the rest is a spelling
pub record Reads {M : Type 0} (Spells : M → List ℕ → Type 0) (bytes : List ℕ) (messages : List M) (rest : List ℕ) : Type 0 where
  pub row : InRow Spells messages bytes rest
  pub none_whole : NoneWhole Spells rest
