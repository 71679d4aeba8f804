-- a clear, once it was logged
use Rattle.std.proofs.Common.{◌≡◌, sym, ap, ℕ, List}
use Rattle.instr_plain.specs.declared.log.LogEntry.TheVariants as entry
use Rattle.tmc_law.specs.Endpoint.{BulkOut}
use Rattle.tmc_law.specs.State.{State, Idle, Clears}
use Rattle.tmc_law.specs.Logging.{Logs, with_service}
use Rattle.tmc_law.specs.Halts.{halts}
use Rattle.tmc_law.specs.Aborts.{cleared, without_part}
use Rattle.msg_exchange.specs.Held.{Held, led_to}

-- what a clear leaves of a state, when the exchange holds this
abbrev pub left_of : Held → State → State
left_of held s = record (halts BulkOut s) {
  bulk_in = without_part s.bulk_in;
  waiting = held.waiting;
  log = held.log;
  standing = held.standing;
  packets = with_service s.standing held.standing s.packets;
  side = Idle;
  running = Clears;
}

-- it is what is logged
pub is_logged : (held : Held) (s : State) → Logs entry.Clear (cleared s) (led_to (cleared s) held) → left_of held s ≡ led_to (cleared s) held
is_logged held s logs = ap (λ (p : List ℕ). record (left_of held s) { part = p }) (sym (ap (λ (z : State). z.part) logs.is))
