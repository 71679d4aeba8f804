-- status reporting (IEEE 488.2, section 11)
use Rattle.std.specs.Prelude.{ℕ, ◌+◌, ◌==◌, Bool, true, false, not, if◌then◌else◌, List, [], ◌∷◌, bit_and, bit_or}
use Rattle.instr_plain.specs.declared.plain.Plain.{Plain}

-- the bits of the standard event status register that this instrument sets (11.5.1.1): OPC, QYE, EXE, CME and PON
abbrev pub operation_complete : ℕ
operation_complete = 1

abbrev pub query_error : ℕ
query_error = 4

abbrev pub execution_error : ℕ
execution_error = 16

abbrev pub command_error : ℕ
command_error = 32

abbrev pub power_on_event : ℕ
power_on_event = 128

-- the state with a bit of the standard event status register set, which stays until the register is read or
-- cleared (11.5.1)
abbrev pub with_event : ℕ → Plain → Plain
with_event bit state = record state { esr = bit_or state.esr bit }

-- what a bit of a status byte counts
abbrev pub weight : Bool → ℕ → ℕ
weight true bit = bit
weight false bit = 0

-- ESB: an event of the standard event status register is enabled (11.2.1.1)
abbrev pub has_event : Plain → Bool
has_event state = not (bit_and state.esr state.ese == 0)

-- the status byte without bit 6: bit 4 is MAV, which says whether output is available (11.2.1.2), and bit 5 is ESB
abbrev pub summary_byte : Plain → (available : Bool) → ℕ
summary_byte state available = weight available 16 + weight (has_event state) 32

-- its bits that may request service (11.3.2)
abbrev pub enabled : Plain → (available : Bool) → ℕ
enabled state available = bit_and (summary_byte state available) state.sre

-- MSS: one of them is set (11.2.2.2)
abbrev pub requests_service : Plain → (available : Bool) → Bool
requests_service state available = not (enabled state available == 0)

-- the status byte, whose bit 6 is MSS to `*STB?` and RQS to a poll (11.2.2)
abbrev pub status_byte : Plain → (available : Bool) → (request : Bool) → ℕ
status_byte state available request = summary_byte state available + weight request 64

-- RQS behind a change of the enabled bits: without any there is no request, one that was not set before makes a
-- request, and else RQS stays (11.2.2.1)
abbrev pub request_behind : (before now : ℕ) → Bool → Bool
request_behind before now request =
    if now == 0 then false else if bit_and now before == now then request else true

-- whether bytes of a response were not read
abbrev pub is_unread : List ℕ → Bool
is_unread [] = false
is_unread (byte ∷ bytes) = true
