-- the Bulk-IN submits of a host, and where the bytes of a piece are (USBTMC 1.0, section 3.3)
use Rattle.std.specs.Prelude.{◌≡◌, ℕ, ◌*◌, ◌<◌, Bool, true, false, List, [], ◌∷◌, ◌++◌, length}
use Rattle.usbip_wire.specs.declared.submit.SubmitHead.{SubmitHead}
use Rattle.usbip_wire.specs.declared.urb.Dir.TheVariants.{In}
use Rattle.tmc_law.specs.Endpoint.{BulkIn, number_of, packet_size}
use Rattle.tmc_law.specs.State.{Pending, arrived}
use Rattle.tmc_law.specs.Put.{success, stalled}
use Rattle.host_joint.specs.Lines.{Sent, Event, Gives, Drops}

-- a host reads 4,096 bytes at a time: a whole number of packets
abbrev pub read_size : ℕ
read_size = 4096

-- a submit to Bulk-IN of that length
pub record IsRead (head : SubmitHead) : Type 0 where
  pub number : head.ep ≡ number_of BulkIn
  pub way : head.dir ≡ In
  pub size : head.length ≡ read_size

abbrev pub AreReads : List SubmitHead → Type 0
AreReads [] = Unit {0}
AreReads (head ∷ heads) = IsRead head × AreReads heads

-- reads that are pending, and have no bytes
abbrev pub unfilled : List SubmitHead → List Pending
unfilled [] = []
unfilled (head ∷ heads) = arrived head [] ∷ unfilled heads

-- a pending read that has these bytes
abbrev pub filled_with : SubmitHead → List ℕ → Pending
filled_with head moved = record { head = head; left = []; moved = moved; polled = false }

-- a read that was answered with these bytes
pub record Answered : Type 0 where
  pub head : SubmitHead
  pub bytes : List ℕ

abbrev pub answer : Answered → Event
answer a = Gives a.head (record { seqnum = a.head.seqnum; status = success; actual = length a.bytes }) a.bytes

abbrev pub answers : List Answered → List Event
answers [] = []
answers (a ∷ more) = answer a ∷ answers more

abbrev pub contents : List Answered → List ℕ
contents [] = []
contents (a ∷ more) = a.bytes ++ contents more

-- they are full
abbrev pub AreFull : List Answered → Type 0
AreFull [] = Unit {0}
AreFull (a ∷ more) = (length a.bytes ≡ read_size) × AreFull more

-- how far the Bulk-IN transfer of the piece in hand is
pub data Flow : Type 0 where
  -- it has not begun
  Still : Flow
  -- these bytes of it were given, and more follow
  Giving : (bytes : List ℕ) → Flow
  -- these bytes were given, and are the whole of it
  Over : (bytes : List ℕ) → Flow
  -- these bytes were given, and the rest was dropped, since Bulk-IN halted
  Torn : (bytes : List ℕ) → Flow

-- these bytes of a transfer were given, and no last packet
pub data IsPartial (flow : Flow) (bytes : List ℕ) : Type 0 where
  Gave : flow ≡ Giving bytes → IsPartial flow bytes
  Tore : flow ≡ Torn bytes → IsPartial flow bytes

-- The answers that come next have these bytes of a transfer, of which the host has read the first.
pub data InFront (flow : Flow) (read : List ℕ) (events : List Event) : Type 0 where
  -- nothing was given, and none comes
  NoneOf : flow ≡ Still → read ≡ [] → events ≡ [] → InFront flow read events
  -- full reads come; what was given behind them is lost
  Front : (bytes lost : List ℕ) (full : List Answered) → IsPartial flow bytes → AreFull full → bytes ≡ read ++ (contents full ++ lost) → events ≡ answers full
      → InFront flow read events
  -- full reads come, and a short one that ends the transfer
  Whole : (bytes : List ℕ) (full : List Answered) (short : Answered) → flow ≡ Over bytes → AreFull full → length short.bytes < read_size
      → bytes ≡ read ++ (contents full ++ short.bytes) → events ≡ answers full ++ answer short ∷ [] → InFront flow read events

-- all of these answers tell of a halt
abbrev pub IsHalted : List Event → Type 0
IsHalted [] = Unit {0}
IsHalted (Gives head answer transferred ∷ events) = (answer.status ≡ stalled) × IsHalted events
IsHalted (Drops n ∷ events) = ⊥

-- the answers without those to unlinks
abbrev pub gives : List Event → List Event
gives [] = []
gives (Gives head answer transferred ∷ events) = Gives head answer transferred ∷ gives events
gives (Drops n ∷ events) = gives events

-- Where the bytes of a piece's transfer are that the device gave: the host has read the first of them, then come those in the
-- answers on their way, and the last ones stand in the first pending read. A transfer ends with an answer that is not full.
-- `shut` says whether Bulk-IN is halted, `gone` whether the host has unlinked submits.
pub data InLine (shut gone : Bool) (flow : Flow) (read : List ℕ) (events : List Event) (coming : List Sent) (queue : List Pending) : Type 0 where
  -- nothing was given
  Unread : (heads : List SubmitHead) → shut ≡ false → flow ≡ Still → read ≡ [] → events ≡ [] → queue ≡ unfilled heads → AreReads heads
      → InLine shut gone flow read events coming queue
  -- all that was given stands in full reads
  Between : (bytes : List ℕ) (full : List Answered) (heads : List SubmitHead) → shut ≡ false → flow ≡ Giving bytes → AreFull full → bytes ≡ read ++ contents full
      → events ≡ answers full → queue ≡ unfilled heads → AreReads heads → InLine shut gone flow read events coming queue
  -- the first pending read has packets of it
  Inside : (bytes moved : List ℕ) (packets : ℕ) (full : List Answered) (first : SubmitHead) (heads : List SubmitHead) → shut ≡ false → flow ≡ Giving bytes → AreFull full
      → bytes ≡ read ++ (contents full ++ moved) → events ≡ answers full → length moved ≡ packets * packet_size → length moved < read_size
      → queue ≡ filled_with first moved ∷ unfilled heads → AreReads (first ∷ heads) → InLine shut gone flow read events coming queue
  -- its last packet was given, in a short read
  Behind : (bytes : List ℕ) (full : List Answered) (short : Answered) (heads : List SubmitHead) → shut ≡ false → flow ≡ Over bytes → AreFull full
      → length short.bytes < read_size → bytes ≡ read ++ (contents full ++ short.bytes) → events ≡ answers full ++ answer short ∷ []
      → queue ≡ unfilled heads → AreReads heads → InLine shut gone flow read events coming queue
  -- the read with its last packets was unlinked, and they are lost
  Lost : (bytes lost : List ℕ) (full : List Answered) → gone ≡ true → shut ≡ false → flow ≡ Giving bytes → AreFull full → bytes ≡ read ++ (contents full ++ lost)
      → events ≡ answers full → coming ≡ [] → queue ≡ [] → InLine shut gone flow read events coming queue
  -- Bulk-IN halted: behind what was given before come answers that tell of it
  Closed : (front rest : List Event) → shut ≡ true → events ≡ front ++ rest → InFront flow read front → IsHalted rest → queue ≡ []
      → InLine shut gone flow read events coming queue
