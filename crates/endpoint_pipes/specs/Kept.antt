-- how the pipes keep their submits: each lies in a slot of a slab, and a queue is a list of keys
use Rattle.std.specs.Prelude.{◌≡◌, ℕ, ◌+◌, ◌≤◌, false, ◌==◌, if◌then◌else◌, List, [], ◌∷◌, ◌++◌, length, take, drop, Option, Some, None, slice_index_or, vec_capacity}
use Rattle.usbip_wire.specs.declared.urb.Dir.{Dir}
use Rattle.usbip_wire.specs.declared.urb.Dir.TheVariants.{Out, In}
use Rattle.tmc_law.specs.Endpoint.{Endpoint}
use Rattle.tmc_law.specs.State.{Pending, Halted}
use Rattle.tmc_law.specs.Queues.{pending_most}
use Rattle.endpoint_pipes.specs.declared.entry.Entry.{Entry}
use Rattle.endpoint_pipes.specs.Keys.{Keys, keys_at}
use Rattle.endpoint_pipes.specs.Held.{Held}

-- the submit that an entry is
abbrev pub submit_of : Entry → Pending
submit_of entry =
    record { head = entry.head; left = drop entry.index entry.bytes.items; moved = take entry.index entry.bytes.items; polled = false }

-- the entry under a key
abbrev pub entry_at : List (Option Entry) → ℕ → Option Entry
entry_at slots key = slice_index_or slots key None

abbrev pub in_front : Option Entry → List Pending → List Pending
in_front None submits = submits
in_front (Some entry) submits = submit_of entry ∷ submits

-- the submits under these keys
abbrev pub submits_of : List (Option Entry) → List ℕ → List Pending
submits_of slots [] = []
submits_of slots (key ∷ keys) = in_front (entry_at slots key) (submits_of slots keys)

abbrev pub held_of : List (Option Entry) → Keys → Halted → Held
held_of slots keys halted = record {
  control = submits_of slots keys.control;
  bulk_out = submits_of slots keys.bulk_out;
  bulk_in = submits_of slots keys.bulk_in;
  interrupt_in = submits_of slots keys.interrupt_in;
  halted = halted;
}

-- the bytes of an IN submit were all moved, and the room for those that it asks for is reserved
abbrev pub Reserved : Dir → Entry → Type 0
Reserved Out entry = Unit {0}
Reserved In entry = (entry.index ≡ length entry.bytes.items) × (entry.head.length ≤ vec_capacity entry.bytes)

pub record IsWhole (entry : Entry) : Type 0 where
  pub within : entry.index ≤ length entry.bytes.items
  pub short : length entry.bytes.items ≤ entry.head.length
  pub reserved : Reserved entry.head.dir entry

abbrev pub IsThere : Option Entry → Type 0
IsThere None = ⊥
IsThere (Some entry) = IsWhole entry

-- each key has an entry
abbrev pub AreThere : List (Option Entry) → List ℕ → Type 0
AreThere slots [] = Unit {0}
AreThere slots (key ∷ keys) = IsThere (entry_at slots key) × AreThere slots keys

-- how many of these submits have the number
abbrev pub count_of : ℕ → List Pending → ℕ
count_of seqnum [] = 0
count_of seqnum (submit ∷ submits) = (if submit.head.seqnum == seqnum then 1 else 0) + count_of seqnum submits

-- how many pending submits have the number
abbrev pub total : List (Option Entry) → Keys → ℕ → ℕ
total slots keys seqnum =
    count_of seqnum (submits_of slots keys.control) + (count_of seqnum (submits_of slots keys.bulk_out)
    + (count_of seqnum (submits_of slots keys.bulk_in) + count_of seqnum (submits_of slots keys.interrupt_in)))

-- how many keys there are
abbrev pub size : Keys → ℕ
size keys = length keys.control + (length keys.bulk_out + (length keys.bulk_in + length keys.interrupt_in))

-- Each key has an entry, no number is pending twice, and few submits are pending.
pub record IsSound (slots : List (Option Entry)) (keys : Keys) : Type 0 where
  pub there : (endpoint : Endpoint) → AreThere slots (keys_at endpoint keys)
  pub once : (seqnum : ℕ) → total slots keys seqnum ≤ 1
  pub few : size keys ≤ pending_most

-- a submit with this number stands at this place of the list
pub record StandsAt (seqnum : ℕ) (list : List Pending) (place : ℕ) : Type 0 where
  pub before : List Pending
  pub submit : Pending
  pub behind : List Pending
  pub stands : list ≡ before ++ submit ∷ behind
  pub at : length before ≡ place
  pub number : submit.head.seqnum ≡ seqnum
