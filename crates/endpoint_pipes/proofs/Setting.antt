-- a slot is written
use Rattle.std.proofs.Common.{◌≡◌, ℕ, suc, zero, List, [], ◌∷◌, set, Option, Some, refl}
use Rattle.endpoint_pipes.specs.declared.entry.Entry.{Entry}
use Rattle.endpoint_pipes.specs.Kept.{entry_at}

pub set_at : (slots : List (Option Entry)) (key : ℕ) (entry later : Entry) → entry_at slots key ≡ Some entry → entry_at (set slots key (Some later)) key ≡ Some later
set_at [] key entry later is = absurd (cc)
set_at (slot ∷ slots) zero entry later is = refl
set_at (slot ∷ slots) (suc key) entry later is = set_at slots key entry later is
