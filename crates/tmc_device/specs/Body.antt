-- the state of the law, as a device keeps it
use Rattle.std.specs.Prelude.{◌≡◌, ℕ, ◌+◌, ◌<◌, ◌≤◌, false, List, length, take, drop, Option, Some, None}
use Rattle.tmc_law.specs.Endpoint.{Control}
use Rattle.tmc_law.specs.State.{State, Pending, Transfer}
use Rattle.tmc_law.specs.BulkOut.{message_most, Spoils, Belongs, TakesEffect}
use Rattle.tmc_wire.specs.Standard.{header_size}
use Rattle.tmc_wire.specs.Transfer.{OutText, data_size}
use Rattle.tmc_law.specs.AnswerFits.{FitsAsked, AllAnswers}
use Rattle.tmc_wire.specs.declared.header.OutHeader.{OutHeader}
use Rattle.endpoint_pipes.specs.Held.{all_of}
use Rattle.endpoint_pipes.specs.Part.{queue_from}
use Rattle.tmc_device.specs.declared.body.Body.{Body}
use Rattle.tmc_device.specs.Parts.{running_of, presence_of, transfer_of, taken_in, bytes_of}
use Rattle.tmc_device.specs.Seen.{Seen, IsReached}
use Rattle.tmc_device.specs.Sound.{IsSound}

-- the Bulk-OUT transfer in progress
abbrev pub transfer_in : Body → Option Transfer
transfer_in body = transfer_of body.transfer body.exchange.coming

abbrev pub state_of : Body → State
state_of body = record {
  control = queue_from Control body.polled body.pipes.control;
  bulk_out = body.pipes.bulk_out;
  bulk_in = body.pipes.bulk_in;
  interrupt_in = body.pipes.interrupt_in;
  halted = body.pipes.halted;
  transfer = transfer_in body;
  part = body.exchange.held.part;
  waiting = body.exchange.held.waiting;
  side = body.side;
  running = running_of body.running;
  packets = body.packets;
  presence = presence_of body.unplugged;
  log = body.exchange.held.log;
  standing = body.exchange.held.standing;
}

abbrev pub seen_of : Body → Seen
seen_of body = record { state = state_of body; puts = body.outputs.puts }

-- there is room for a log entry, and for the answers to all pending submits and two more
pub record HasRoom (body : Body) : Type 0 where
  pub log : 0 < body.exchange.room
  pub outputs : length (all_of body.pipes) + 2 ≤ body.outputs.room

-- memory was taken, and nothing else has changed
pub record IsPrepared (old new : Body) : Type 0 where
  pub exchange : new.exchange.held ≡ old.exchange.held
  pub coming : new.exchange.coming ≡ old.exchange.coming
  pub outputs : new.outputs.puts ≡ old.outputs.puts
  pub pipes : new.pipes ≡ old.pipes
  pub polled : new.polled ≡ old.polled
  pub transfer : new.transfer ≡ old.transfer
  pub side : new.side ≡ old.side
  pub running : new.running ≡ old.running
  pub packets : new.packets ≡ old.packets
  pub unplugged : new.unplugged ≡ old.unplugged
  pub seen : seen_of new ≡ seen_of old

-- the memory of a step was taken, and it may begin
pub record IsReady (body : Body) : Type 0 where
  pub sound : IsSound (state_of body)
  pub plugged : body.unplugged ≡ false
  pub room : HasRoom body

-- the first Bulk-OUT submit was judged: it spoils the endpoint, or its next packet belongs to the transfer with this header
abbrev pub IsJudged : Body → Pending → Option OutHeader → Type 0
IsJudged body submit None = Spoils (state_of body) submit
IsJudged body submit (Some header) =
    (¬ Spoils (state_of body) submit) × Belongs (state_of body) submit (record { header = header; taken = taken_in (transfer_in body) })

-- the bytes of the transfer that takes effect
abbrev pub whole_of : Body → List ℕ
whole_of body = bytes_of (transfer_in body) body.pipes.bulk_out

-- They are a whole transfer with this header, and its message fits behind the unfinished one.
pub record IsWhole (body : Body) (header : OutHeader) : Type 0 where
  pub text : OutText header (take (data_size header) (drop header_size (whole_of body))) (whole_of body)
  pub fits : length body.exchange.held.part + data_size header ≤ message_most

-- that transfer took effect
abbrev pub HasEffect : (seqnum : ℕ) → OutHeader → (old new : Body) → Type 0
HasEffect seqnum header old new =
    TakesEffect seqnum (record { header = header; taken = whole_of old }) (record (state_of old) { transfer = None }) (state_of new)

-- a lawful run leads to the state, and what was put out fits what it answers
pub record IsLawful (body : Body) : Type 0 where
  pub reached : IsReached (state_of body)
  pub fit : AllAnswers FitsAsked body.outputs.puts
