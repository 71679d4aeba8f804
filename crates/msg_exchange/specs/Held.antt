-- what an exchange keeps of a device's state
use Rattle.std.specs.Prelude.{◌≡◌, ℕ, List, [], Option, None}
use Rattle.instr_plain.specs.declared.log.LogEntry.{LogEntry}
use Rattle.instr_plain.specs.Standing.{Standing, at_power_on}
use Rattle.tmc_law.specs.State.{State, Waiting}
use Rattle.tmc_law.specs.Logging.{with_service}

pub record Held : Type 0 where
  -- the message that its parts make, up to the one that ends it
  pub part : List ℕ
  -- the message that waits for execution
  pub waiting : Option Waiting
  -- what happened at the instrument, and where that led it
  pub log : List LogEntry
  pub standing : Standing

-- an exchange, as contracts see it: beside that what has come of the transfer of the next part, behind its header, and how
-- many log entries there is room for
pub record Kept : Type 0 where
  pub held : Held
  pub coming : List ℕ
  pub room : ℕ

-- at power-on
abbrev pub nothing_held : Held
nothing_held = record { part = []; waiting = None; log = []; standing = at_power_on }

-- this is the exchange's part of the state of a device
pub record Holds (s : State) (held : Held) : Type 0 where
  pub part : s.part ≡ held.part
  pub waiting : s.waiting ≡ held.waiting
  pub log : s.log ≡ held.log
  pub standing : s.standing ≡ held.standing

-- The state of the device when its exchange holds this. Where RQS became set, a request for service is queued, as behind
-- each entry of the log.
abbrev pub led_to : State → Held → State
led_to s held = record s {
  part = held.part;
  waiting = held.waiting;
  log = held.log;
  standing = held.standing;
  packets = with_service s.standing held.standing s.packets;
}
