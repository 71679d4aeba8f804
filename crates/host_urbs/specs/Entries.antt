-- what a client keeps of a message until it is answered
use Rattle.std.specs.Prelude.{ℕ, ◌-◌, ◌==◌, Option, Some, None, List, [], ◌∷◌, if◌then◌else◌}
use Rattle.host_urbs.specs.declared.entry.Entry.{Entry}
use Rattle.host_urbs.specs.declared.entry.Unanswered.{Unanswered}
use Rattle.host_urbs.specs.declared.entry.Unanswered.TheVariants.{Submit, Unlink}
use Rattle.host_urbs.specs.Unanswered.{AreRising}
use Rattle.usbip_wire.specs.Awaited as wire
use Rattle.usbip_wire.specs.Awaited.{Awaited, entries_of}
use Rattle.usbip_wire.specs.Dirs.{AreShort}
use Rattle.usbip_wire.specs.Up as up

-- what is outstanding of it
abbrev pub awaited_of : Unanswered → Awaited
awaited_of (Submit seqnum dir size) = wire.Submit seqnum dir size
awaited_of (Unlink seqnum target) = wire.Unlink seqnum (Some target)

abbrev pub number_of : Unanswered → ℕ
number_of (Submit seqnum dir size) = seqnum
number_of (Unlink seqnum target) = seqnum

-- what is kept of a message
abbrev pub unanswered_of : up.Message → Unanswered
unanswered_of (up.Submit head transferred) = Submit head.seqnum head.dir head.length
unanswered_of (up.Unlink head) = Unlink head.seqnum head.target

-- what is outstanding, in the order in which it was written
abbrev pub awaited : List Entry → List Awaited
awaited [] = []
awaited (entry ∷ entries) = awaited_of entry.message ∷ awaited entries

-- those whose bytes were all sent
abbrev pub sent : List Entry → List Awaited
sent [] = []
sent (entry ∷ entries) = if entry.unsent == 0 then awaited_of entry.message ∷ sent entries else sent entries

-- when n more bytes were sent
abbrev pub moved : ℕ → List Entry → List Entry
moved n [] = []
moved n (entry ∷ entries) = record { message = entry.message; unsent = entry.unsent - n } ∷ moved n entries

-- the entries of other numbers
abbrev pub others : ℕ → List Entry → List Entry
others seqnum [] = []
others seqnum (entry ∷ entries) = if number_of entry.message == seqnum then others seqnum entries else entry ∷ others seqnum entries

-- the submit that the unlink of this number names
abbrev pub named_by : Unanswered → Option ℕ
named_by (Submit seqnum dir size) = None
named_by (Unlink seqnum target) = Some target

abbrev pub target_of : ℕ → List Entry → Option ℕ
target_of seqnum [] = None
target_of seqnum (entry ∷ entries) = if number_of entry.message == seqnum then named_by entry.message else target_of seqnum entries

-- without the unlink of this number, and without the submit that it names
abbrev pub others_of : Option ℕ → List Entry → List Entry
others_of None entries = entries
others_of (Some seqnum) entries = others seqnum entries

abbrev pub unlinked : ℕ → List Entry → List Entry
unlinked seqnum entries = others_of (target_of seqnum entries) (others seqnum entries)

-- the numbers rise and are below the next one, and no submit is longer than a reader accepts
pub record AreKept (next : ℕ) (entries : List Entry) : Type 0 where
  pub rising : AreRising 0 next (awaited entries)
  pub short : AreShort (entries_of (awaited entries))
