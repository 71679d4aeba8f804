-- what each command does and answers
use Rattle.std.specs.Prelude.{ℕ, ◌+◌, ◌%◌, ◌^◌, ℤ, pos, negsuc, Bool, Option, Some, None, if◌then◌else◌, nat_le, bit_and}
use Rattle.ieee_syntax.specs.declared.nrf.Nrf.{Nrf}
use Rattle.ieee_syntax.specs.Rounded.{rounded}
use Rattle.instr_plain.specs.declared.plain.Plain.{Plain}
use Rattle.instr_plain.specs.declared.remote.RemoteState.{RemoteState}
use Rattle.instr_plain.specs.declared.remote.RemoteState.TheVariants.{Local, Remote, LocalLockout, RemoteLockout}
use Rattle.instr_plain.specs.declared.answer.Answer.{Answer}
use Rattle.instr_plain.specs.declared.answer.Answer.TheVariants.{Identity, Number, Block}
use Rattle.instr_plain.specs.declared.command.Command.{Command}
use Rattle.instr_plain.specs.declared.command.Command.TheVariants.{ClearStatus, EventEnable, EventEnableQuery, EventStatusQuery, IdentificationQuery, OperationComplete, OperationCompleteQuery, Reset, ServiceEnable, ServiceEnableQuery, StatusByteQuery, SelfTestQuery, Wait, Trigger, Configure, ConfigureQuery, ReadQuery, RemoteQuery}
use Rattle.instr_plain.specs.Status.{operation_complete, execution_error, with_event, requests_service, status_byte}

-- the state behind a command, and its answer if it has one
pub record Outcome : Type 0 where
  pub state : Plain
  pub answer : Option Answer

abbrev pub obeys : Plain → Outcome
obeys state = record { state = state; answer = None }

abbrev pub answers : Answer → Plain → Outcome
answers answer state = record { state = state; answer = Some answer }

-- a number, rounded, where it is from 0 to the most
abbrev pub within : (most : ℕ) → ℤ → Option ℕ
within most (pos value) = if nat_le value most then Some value else None
within most (negsuc value) = None

abbrev pub in_range : (most : ℕ) → Nrf → Option ℕ
in_range most number = within most (rounded number)

-- a number out of its range sets EXE, and the unit is passed over (11.5.1.1.5)
abbrev pub ranged : Option ℕ → Plain → (ℕ → Outcome) → Outcome
ranged (Some value) state act = act value
ranged None state act = obeys (with_event execution_error state)

-- one more acquisition; the count is kept modulo 2^32
abbrev pub triggered : Plain → Plain
triggered state = record state { acquisitions = (state.acquisitions + 1) % 2 ^ 32 }

-- the number of a remote and local state
abbrev pub number_of : RemoteState → ℕ
number_of Local = 0
number_of Remote = 1
number_of LocalLockout = 2
number_of RemoteLockout = 3

-- the table of commands; `available` is MAV
abbrev pub outcome_of : Command → (available : Bool) → Plain → Outcome
outcome_of ClearStatus available state = obeys (record state { esr = 0 })
outcome_of (EventEnable n) available state = ranged (in_range 255 n) state (λ value. obeys (record state { ese = value }))
outcome_of EventEnableQuery available state = answers (Number state.ese) state
outcome_of EventStatusQuery available state = answers (Number state.esr) (record state { esr = 0 })
outcome_of IdentificationQuery available state = answers Identity state
outcome_of OperationComplete available state = obeys (with_event operation_complete state)
outcome_of OperationCompleteQuery available state = answers (Number 1) state
outcome_of Reset available state = obeys (record state { conf = 0; acquisitions = 0 })
outcome_of (ServiceEnable n) available state = ranged (in_range 255 n) state (λ value. obeys (record state { sre = bit_and value 0xbf }))
outcome_of ServiceEnableQuery available state = answers (Number state.sre) state
outcome_of StatusByteQuery available state = answers (Number (status_byte state available (requests_service state available))) state
outcome_of SelfTestQuery available state = answers (Number 0) state
outcome_of Wait available state = obeys state
outcome_of Trigger available state = obeys (triggered state)
outcome_of (Configure n) available state = ranged (in_range 9 n) state (λ value. obeys (record state { conf = value }))
outcome_of ConfigureQuery available state = answers (Number state.conf) state
outcome_of (ReadQuery n) available state = ranged (in_range 60000 n) state (λ size. answers (Block state.acquisitions state.conf size) state)
outcome_of RemoteQuery available state = answers (Number (number_of state.remote)) state
