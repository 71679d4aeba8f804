-- what the steps of a device rest on: facts of the states that can be reached
use Rattle.std.specs.Prelude.{◌≡◌, ℕ, ◌+◌, ◌<◌, ◌≤◌, true, List, ◌∷◌, length, take, Some}
use Rattle.tmc_wire.specs.Standard.{header_size}
use Rattle.tmc_wire.specs.Header.{IsOutHeader}
use Rattle.tmc_wire.specs.Transfer.{data_size}
use Rattle.tmc_law.specs.Endpoint.{Endpoint}
use Rattle.tmc_law.specs.State.{State, Pending, Transfer, Owed, Packet, StatusPacket, queue_of}
use Rattle.tmc_law.specs.BulkOut.{message_most}
use Rattle.tmc_law.specs.Reached.{FirstBegins, AllFit, IsInOrder, AreFew, AsksStatus}

-- A Bulk-OUT transfer in progress is of a message, begins with its header, and its message fits behind the unfinished
-- one.
pub record IsUnderWay (s : State) (transfer : Transfer) : Type 0 where
  pub headed : IsOutHeader transfer.header (take header_size transfer.taken)
  pub long : header_size ≤ length transfer.taken
  pub fits : length s.part + data_size transfer.header ≤ message_most

-- a request that is owed has a tag and asks for bytes
pub record IsRequested (tag size : ℕ) : Type 0 where
  pub tagged : 0 < tag
  pub sized : 0 < size

pub record IsSound (s : State) : Type 0 where
  pub first : (endpoint : Endpoint) → FirstBegins (queue_of endpoint s)
  pub stand : (endpoint : Endpoint) → AllFit endpoint (queue_of endpoint s)
  pub order : IsInOrder s
  pub few : AreFew s.packets
  pub under_way : (transfer : Transfer) → s.transfer ≡ Some transfer → IsUnderWay s transfer
  pub polled : (submit : Pending) (behind : List Pending) → s.control ≡ submit ∷ behind → submit.polled ≡ true → AsksStatus submit
  pub tagged : (tag byte : ℕ) (behind : List Packet) → s.packets ≡ StatusPacket tag byte ∷ behind → tag ≤ 127
  pub asked : (tag size : ℕ) → s.side ≡ Owed tag size → IsRequested tag size
