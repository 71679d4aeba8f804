-- what a function of the code gave, beside what reading gives
use Rattle.std.specs.Prelude.{◌≡◌, ℕ, ◌<◌, List, Result, Ok, Err, slice_index}
use Rattle.usbip_wire.specs.declared.stop.Stop.{Stop}

-- the code gave what reading gives, seen by this view
abbrev pub Gives : {X Y : Type 0} → (X → Y) → Result X Stop → Result Y Stop → Type 0
Gives view (Ok x) read = read ≡ Ok (view x)
Gives view (Err e) read = read ≡ Err e

-- each of these is a byte
abbrev pub IsBytes : List ℕ → Type 0
IsBytes bytes = (i : ℕ) → slice_index bytes i < 256
