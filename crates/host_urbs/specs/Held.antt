-- what a client holds, and the record of messages that leads there
use Rattle.std.specs.Prelude.{◌≡◌, ℕ, ◌+◌, ◌-◌, ◌<◌, ◌≤◌, List, [], ◌∷◌, ◌++◌, length, replicate, leb, if◌then◌else◌}
use Rattle.host_urbs.specs.declared.entry.Entry.{Entry}
use Rattle.host_urbs.specs.declared.limits.TheConstants.{OUTBOX_MAX}
use Rattle.host_urbs.specs.Entries.{awaited, number_of, unanswered_of}
use Rattle.host_urbs.specs.Law.{Lawful}
use Rattle.host_urbs.specs.Record.{Past, written, next, outstanding}
use Rattle.host_urbs.specs.Unanswered.{seqnum_of}
use Rattle.usbip_wire.specs.declared.dirs.TheConstants.{DIRS_MAX}
use Rattle.usbip_wire.specs.declared.urb.Dir.{Dir}
use Rattle.usbip_wire.specs.declared.urb.Dir.TheVariants.{Out}
use Rattle.usbip_wire.specs.declared.urb.TheConstants.{URB_HEADER}
use Rattle.usbip_wire.specs.Submit as submit
use Rattle.usbip_wire.specs.Submit.{submit_bytes}
use Rattle.usbip_wire.specs.Unlink as unlink
use Rattle.usbip_wire.specs.Unlink.{unlink_bytes}
use Rattle.usbip_wire.specs.Up as up
use Rattle.usbip_wire.specs.Up.{SpellsAll}

pub record Held : Type 0 where
  -- the device's
  pub devid : ℕ
  -- the number of the next message
  pub next : ℕ
  -- what is not answered, in the order in which it was written
  pub entries : List Entry
  -- the bytes that were not sent yet
  pub outbox : List ℕ

-- there is a free place
abbrev pub HasPlace : Held → Type 0
HasPlace held = length held.entries < DIRS_MAX

-- the outbox has room for a message with this data
abbrev pub HasRoom : Held → List ℕ → Type 0
HasRoom held transferred = length held.outbox + (URB_HEADER + length transferred) ≤ OUTBOX_MAX

-- the messages that are written next
abbrev pub submit_by : Held → Dir → (ep size : ℕ) → (setup transferred : List ℕ) → up.Message
submit_by held dir ep size setup transferred =
    up.Submit (record { seqnum = held.next; devid = held.devid; dir = dir; ep = ep; length = size; setup = setup }) transferred

-- on an endpoint other than 0: the setup packet is zeros
abbrev pub submit_out : Held → (ep : ℕ) → (transferred : List ℕ) → up.Message
submit_out held ep transferred = submit_by held Out ep (length transferred) (replicate 8 0) transferred

-- three pieces, one behind the other
abbrev pub joined : (front text behind : List ℕ) → List ℕ
joined front text behind = front ++ (text ++ behind)

abbrev pub unlink_by : Held → (target : ℕ) → up.Message
unlink_by held target = up.Unlink (record { seqnum = held.next; devid = held.devid; target = target })

-- a message as this product writes it
abbrev pub bytes_of : up.Message → List ℕ
bytes_of (up.Submit head transferred) = submit_bytes head submit.unused transferred
bytes_of (up.Unlink head) = unlink_bytes head unlink.unused

abbrev pub all_bytes : List up.Message → List ℕ
all_bytes [] = []
all_bytes (message ∷ messages) = bytes_of message ++ all_bytes messages

-- behind this message, which ends the outbox
abbrev pub wrote : up.Message → Held → Held
wrote message held = record {
  devid = held.devid;
  next = held.next + 1;
  entries = held.entries ++ record { message = unanswered_of message; unsent = length (held.outbox ++ bytes_of message) } ∷ [];
  outbox = held.outbox ++ bytes_of message;
}

-- ---- the record

-- the messages of this number and of lower ones
abbrev pub up_to : ℕ → List up.Message → List up.Message
up_to n [] = []
up_to n (message ∷ messages) = if leb (seqnum_of message) n then message ∷ up_to n messages else up_to n messages

-- Of each entry, so many bytes are still to be sent until its last one is, where these messages were written and so many
-- bytes were sent: its own, and those in front of them. So it is sent from the byte on that completes it.
abbrev pub AreUnsent : List up.Message → (count : ℕ) → List Entry → Type 0
AreUnsent messages count [] = Unit {0}
AreUnsent messages count (entry ∷ entries) =
    (entry.unsent ≡ length (all_bytes (up_to (number_of entry.message) messages)) - count) × AreUnsent messages count entries

-- This is held behind this record of messages, when these bytes were sent. The messages written stand in a row in what was
-- sent and what the outbox holds.
pub record Follows (first : ℕ) (past : Past) (bytes : List ℕ) (held : Held) : Type 0 where
  pub lawful : Lawful first past
  pub number : held.next ≡ next first past
  pub awaits : awaited held.entries ≡ outstanding past
  pub unsent : AreUnsent (written past) (length bytes) held.entries
  pub stands : bytes ++ held.outbox ≡ all_bytes (written past)
  pub spelled : SpellsAll held.devid (written past) (bytes ++ held.outbox)
