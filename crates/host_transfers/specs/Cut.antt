-- bytes that are cut into pieces of one size, the last one of another
use Rattle.std.specs.Prelude.{◌≡◌, ℕ, ◌+◌, ◌<◌, ◌≤◌, List, [], ◌∷◌, ◌++◌, length}
use Rattle.host_transfers.specs.declared.limits.TheConstants.{PART_MAX}
use Rattle.tmc_base.specs.declared.limits.TheConstants.{BULK_IN_SUBMIT}

-- All but the last have this size. The last one has at least so many bytes, and fewer than that and a whole piece more.
abbrev pub AreCut : (size least : ℕ) → List (List ℕ) → List ℕ → Type 0
AreCut size least [] bytes = ⊥
AreCut size least (piece ∷ []) bytes = (bytes ≡ piece) × (least ≤ length piece) × (length piece < least + size)
AreCut size least (piece ∷ (next ∷ pieces)) bytes = (rest : List ℕ) × (bytes ≡ piece ++ rest) × (length piece ≡ size) × AreCut size least (next ∷ pieces) rest

-- the parts of a message, each the data of one transfer: the last one has 1 to 1,024 bytes (USBTMC 1.0, section 3.2.1.1)
abbrev pub AreParts : List (List ℕ) → List ℕ → Type 0
AreParts = AreCut PART_MAX 1

-- the answers to the reads of a transfer: all are full but the last, which is short (USB 2.0, section 5.8.3)
abbrev pub AreReads : List (List ℕ) → List ℕ → Type 0
AreReads = AreCut BULK_IN_SUBMIT 0
