-- fields of four bytes, one by one
use Rattle.std.proofs.Common.{ℕ, zero, suc, ◌<◌, ◌^◌, List, [], ◌∷◌, lit<}
use Rattle.usbip_wire.specs.Urb.{AreWide}

abbrev pub EachWide : List ℕ → Type 0
EachWide [] = Unit {0}
EachWide (word ∷ words) = (word < 2 ^ 32) × EachWide words

pub each_wide : (words : List ℕ) → EachWide words → AreWide words
each_wide [] t i = lit< tt
each_wide (w ∷ ws) t zero = t.0
each_wide (w ∷ ws) t (suc i) = each_wide ws t.1 i
