-- the plain instrument, as it stands between two entries of its log
use Rattle.std.specs.Prelude.{ℕ, Bool, false, List, []}
use Rattle.instr_plain.specs.declared.plain.Plain.{Plain}
use Rattle.instr_plain.specs.declared.remote.RemoteState.TheVariants.{Local}
use Rattle.instr_plain.specs.Status.{power_on_event, status_byte, is_unread}

-- its state, the bytes of a response that were not read, and RQS
pub record Standing : Type 0 where
  pub state : Plain
  pub unread : List ℕ
  pub rqs : Bool

-- at power-on bit 7 of the standard event status register, PON, is set (IEEE 488.2, section 11.5.1.1.2), and
-- all else is 0
abbrev pub power_on : Plain
power_on = record { esr = power_on_event; ese = 0; sre = 0; conf = 0; acquisitions = 0; remote = Local }

abbrev pub at_power_on : Standing
at_power_on = record { state = power_on; unread = []; rqs = false }

-- the status byte that a poll reads, with RQS as bit 6 (section 11.2.2.1)
abbrev pub polled_byte : Standing → ℕ
polled_byte standing = status_byte standing.state (is_unread standing.unread) standing.rqs
