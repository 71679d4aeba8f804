-- the messages of a stream that is shown
use Rattle.std.specs.Prelude.{ℕ, ◌-◌, List}
use Rattle.tmc_base.specs.declared.field.Field.{Field}
use Rattle.usbip_wire.specs.declared.dirs.Outstanding.{Outstanding}
use Rattle.usbip_wire.specs.declared.down.Down.{Down}
use Rattle.usbip_wire.specs.declared.down.Down.TheVariants.{Count, Device, Interface}
use Rattle.usbip_wire.specs.declared.down.DownPhase.TheVariants as down_phase
use Rattle.usbip_wire.specs.declared.op_request.OpRequest.{OpRequest}
use Rattle.usbip_wire.specs.declared.up.UpPhase.TheVariants as up_phase
use Rattle.usbip_wire.specs.Awaited.{entries_left}
use Rattle.usbip_wire.specs.DevList.{SpellsPart}
use Rattle.usbip_wire.specs.Down as down
use Rattle.usbip_wire.specs.DownFed as down_fed
use Rattle.usbip_wire.specs.OpRequest.{SpellsRequest}
use Rattle.usbip_wire.specs.Stream as stream
use Rattle.usbip_wire.specs.Up as up
use Rattle.usbip_wire.specs.UpFed as up_fed
use Rattle.event_text.specs.declared.way.Way.{Way}
use Rattle.event_text.specs.declared.way.Way.TheVariants as ways
use Rattle.event_text.specs.declared.script.Phase.{Phase}
use Rattle.event_text.specs.declared.script.Phase.TheVariants.{Op, Urb}

-- what is read: operations' requests, a client's URB messages, the parts of operations' answers, of which so many
-- devices and interfaces are still awaited, or answers to URB messages
pub data Stream : Type 0 where
  Requests : Stream
  Urbs : Stream
  Parts : (devices interfaces : ℕ) → Stream
  Answers : Stream

pub data Message : Type 0 where
  Request : (request : OpRequest) → Message
  FromClient : (message : up.Message) → Message
  Part : (what : Down) → Message
  Answer : (message : down.Message) → Message

-- the stream of a script
abbrev pub stream_of : Way → Phase → Stream
stream_of ways.Up Op = Requests
stream_of ways.Up Urb = Urbs
stream_of ways.Down Op = Parts 0 0
stream_of ways.Down Urb = Answers

-- the device that URB messages go to: bus 1, device 2
abbrev pub devid : ℕ
devid = 0x00010002

-- these bytes are this message of the stream, where these are outstanding
abbrev pub Spells : Stream → List Outstanding → Message → List ℕ → Type 0
Spells Requests entries (Request request) bytes = SpellsRequest request bytes
Spells Urbs entries (FromClient message) bytes = up.Spells devid message bytes
Spells (Parts devices interfaces) entries (Part what) bytes = SpellsPart devices interfaces what bytes
Spells Answers entries (Answer message) bytes = down.SpellsAnswer entries message bytes
Spells reading entries message bytes = ⊥

-- no front of these bytes is a message of the stream
abbrev pub NoneWhole : Stream → List Outstanding → List ℕ → Type 0
NoneWhole reading entries rest = stream.NoneWhole (Spells reading entries) rest

-- the first field of these bytes whose value is not accepted
abbrev pub BadAt : Stream → List Outstanding → List ℕ → Field → Type 0
BadAt Requests entries rest f = up_fed.BadAt up_phase.Ops rest f
BadAt Urbs entries rest f = up_fed.BadAt (up_phase.Urbs devid) rest f
BadAt (Parts devices interfaces) entries rest f = down_fed.BadAt (down_phase.Ops devices interfaces) entries rest f
BadAt Answers entries rest f = down_fed.BadAt down_phase.Urbs entries rest f

-- what is awaited behind a message
abbrev pub behind : Stream → Message → Stream
behind (Parts devices interfaces) (Part (Count status number)) = Parts number 0
behind (Parts devices interfaces) (Part (Device device)) = Parts (devices - 1) device.interfaces
behind (Parts devices interfaces) (Part (Interface class subclass protocol)) = Parts devices (interfaces - 1)
behind reading message = reading

-- what is outstanding behind a message: an answered submit or unlink is so no longer
abbrev pub left_by : List Outstanding → Message → List Outstanding
left_by entries (Answer message) = entries_left entries message
left_by entries message = entries
