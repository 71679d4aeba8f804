-- outstanding submits and unlinks
use Rattle.std.specs.Prelude.{ℕ, ◌<◌, ◌≤◌, ◌==◌, length, Bool, true, false, Option, Some, None, List, [], ◌∷◌, if◌then◌else◌}
use Rattle.tmc_base.specs.declared.limits.TheConstants.{SUBMIT_MAX}
use Rattle.usbip_wire.specs.declared.urb.Dir.{Dir}
use Rattle.usbip_wire.specs.declared.dirs.TheConstants.{DIRS_MAX}
use Rattle.usbip_wire.specs.declared.dirs.Outstanding.{Outstanding}
use Rattle.usbip_wire.specs.declared.dirs.Outstanding.TheVariants.{Submit, Unlink}

-- the sequence number of an entry
abbrev pub number_of : Outstanding → ℕ
number_of (Submit seqnum dir size) = seqnum
number_of (Unlink seqnum) = seqnum

-- a submit is no longer than a reader accepts
abbrev pub IsShort : Outstanding → Type 0
IsShort (Submit seqnum dir size) = size ≤ SUBMIT_MAX
IsShort (Unlink seqnum) = Unit {0}

abbrev pub AreShort : List Outstanding → Type 0
AreShort [] = Unit {0}
AreShort (entry ∷ entries) = IsShort entry × AreShort entries

-- there is a free place
abbrev pub HasRoom : List Outstanding → Type 0
HasRoom entries = length entries < DIRS_MAX

-- the entry of this number
abbrev pub find : ℕ → List Outstanding → Option Outstanding
find seqnum [] = None
find seqnum (entry ∷ entries) = if number_of entry == seqnum then Some entry else find seqnum entries

-- the entries of other numbers
abbrev pub others : ℕ → List Outstanding → List Outstanding
others seqnum [] = []
others seqnum (entry ∷ entries) = if number_of entry == seqnum then others seqnum entries else entry ∷ others seqnum entries

-- the direction and the length of a submit
abbrev pub submit_of : Option Outstanding → Option (Dir × ℕ)
submit_of None = None
submit_of (Some (Submit seqnum dir size)) = Some (dir, size)
submit_of (Some (Unlink seqnum)) = None

abbrev pub is_unlink : Option Outstanding → Bool
is_unlink None = false
is_unlink (Some (Submit seqnum dir size)) = false
is_unlink (Some (Unlink seqnum)) = true
