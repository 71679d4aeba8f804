-- the steps of a lawful device: what may happen to it and what it may do, from a state to a state
use Rattle.std.specs.Prelude.{◌≡◌, ℕ, ◌<◌, ◌≤◌, List, [], ◌++◌, length, None}
use Rattle.tmc_base.specs.declared.field.Field.{Field}
use Rattle.tmc_base.specs.declared.field.Layer.TheVariants.{Urb}
use Rattle.tmc_base.specs.declared.field.Name.TheVariants as name
use Rattle.usbip_wire.specs.declared.submit.SubmitHead.{SubmitHead}
use Rattle.usbip_wire.specs.declared.up.UpPhase.TheVariants.{Urbs}
use Rattle.usbip_wire.specs.Up as up
use Rattle.usbip_wire.specs.UpFed.{BadAt}
use Rattle.tmc_law.specs.Endpoint.{Endpoint}
use Rattle.tmc_law.specs.State.{State, Plugged, Closed, pending, Avoids}
use Rattle.tmc_law.specs.Put.{Put}
use Rattle.tmc_law.specs.Queues.{IsSubmit, IsUnlink, Arrives, Unlinks, pending_most}
use Rattle.tmc_law.specs.BulkOut.{Takes, Executes}
use Rattle.tmc_law.specs.BulkIn.{Begins, Fills}
use Rattle.tmc_law.specs.Class.{Answers, Postpones, PollsFirst}
use Rattle.tmc_law.specs.Status.{Notifies}
use Rattle.tmc_law.specs.Halts.{HaltsItself, Unplugs}

-- What happens. The numbers, the order of the steps and PENDING are the device's free choice.
pub data Move : Type 0 where
  -- a message arrives
  Comes : (message : up.Message) → Move
  -- bytes, read as messages to the device with this devid, are refused at a field
  Refuses : (devid : ℕ) (bytes : List ℕ) (f : Field) → Move
  -- so many packets of the first Bulk-OUT submit are taken
  Take : (count : ℕ) → Move
  -- the message that waits is executed
  Exec : Move
  -- a piece of so many bytes begins
  Begin : (count : ℕ) → Move
  -- so many packets go into the first Bulk-IN submit
  Fill : (count : ℕ) → Move
  -- the first control submit is answered
  Answer : Move
  -- the first control submit is answered with PENDING
  Pend : Move
  -- the status byte is polled for the first control submit
  Poll : Move
  -- the first packet goes into the first Interrupt-IN submit
  Notify : Move
  -- an endpoint halts
  Halt : (endpoint : Endpoint) → Move
  -- the device is unplugged
  Unplug : Move

-- a submit that the device cannot take, although its fields are accepted: there are too many, or its number is pending
pub data IsOver (s : State) (head : SubmitHead) (f : Field) : Type 0 where
  TooMany : pending_most ≤ length (pending s) → f ≡ record { layer = Urb; name = name.Pending; offset = 4 } → IsOver s head f
  Twice : length (pending s) < pending_most → ¬ Avoids head.seqnum (pending s)
      → f ≡ record { layer = Urb; name = name.Seqnum; offset = 4 } → IsOver s head f

-- the bytes are refused at this field: by the spelling of the messages to the device with this devid, or by what is
-- pending
pub data IsRefused (devid : ℕ) (s : State) (bytes : List ℕ) (f : Field) : Type 0 where
  ByField : BadAt (Urbs devid) bytes f → IsRefused devid s bytes f
  ByPending : (head : SubmitHead) (transferred front rest : List ℕ) → bytes ≡ front ++ rest
      → up.Spells devid (up.Submit head transferred) front → IsOver s head f → IsRefused devid s bytes f

-- The law: what each move leads to, and what it puts out.
abbrev pub Leads : State → Move → List Put → State → Type 0
-- a submit arrives: its number is not pending, and there are not too many
Leads s (Comes (up.Submit head transferred)) puts t =
    IsSubmit head transferred
    × Avoids head.seqnum (pending s) × (length (pending s) < pending_most) × Arrives s head transferred puts t
Leads s (Comes (up.Unlink head)) puts t = IsUnlink head × Unlinks s head puts t
-- the device closes, and no step follows
Leads s (Refuses devid bytes f) puts t = IsRefused devid s bytes f × (puts ≡ []) × (t ≡ record s { presence = Closed f })
Leads s (Take count) puts t = (s.waiting ≡ None) × Takes s count puts t
Leads s Exec puts t = Executes s t × (puts ≡ [])
Leads s (Begin count) puts t = Begins s count t × (puts ≡ [])
Leads s (Fill count) puts t = Fills s count puts t
Leads s Answer puts t = Answers s puts t
Leads s Pend puts t = Postpones s puts t
Leads s Poll puts t = PollsFirst s t × (puts ≡ [])
Leads s Notify puts t = Notifies s puts t
Leads s (Halt endpoint) puts t = HaltsItself s endpoint puts t
Leads s Unplug puts t = Unplugs s puts t

-- a step: the device is plugged, and the move is lawful
pub record Steps (s : State) (move : Move) (puts : List Put) (t : State) : Type 0 where
  pub plugged : s.presence ≡ Plugged
  pub leads : Leads s move puts t
