-- submits of a list that are no longer than a reader accepts
use Rattle.std.proofs.Common.{ℕ, zero, suc, ◌+◌, ◌<◌, List, [], ◌∷◌, ◌++◌, length, take, get_or, arith}
use Rattle.std.proofs.Math.ListN.{set}
use Rattle.std.proofs.lemmas.List.{take_more_set}
use Rattle.usbip_wire.specs.declared.dirs.Outstanding.{Outstanding}
use Rattle.usbip_wire.specs.Dirs.{IsShort, AreShort}

short_push : (xs : List Outstanding) (e : Outstanding) → AreShort xs → IsShort e → AreShort (xs ++ e ∷ [])
short_push [] e h g = (g, tt)
short_push (x ∷ xs) e h g = (h.0, short_push xs e h.1 g)

pub short_set : (xs : List Outstanding) (n : ℕ) (e : Outstanding) → n < length xs → AreShort (take n xs) → IsShort e → AreShort (take (n + 1) (set xs n e))
short_set xs n e lt h g = rw (take_more_set xs n e lt) (short_push (take n xs) e h g)

pub short_at : (xs : List Outstanding) (i : ℕ) (d : Outstanding) → AreShort xs → i < length xs → IsShort (get_or xs i d)
short_at [] i d h lt = absurd (omega (arith, lt))
short_at (x ∷ xs) zero d h lt = h.0
short_at (x ∷ xs) (suc i) d h lt = short_at xs i d h.1 (omega (arith, lt))
