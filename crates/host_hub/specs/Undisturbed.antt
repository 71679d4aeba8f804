-- a hub over a lawful device that nothing disturbs
use Rattle.std.specs.Prelude.{◌≡◌, ℕ, Option, Some, None, List, ◌++◌}
use Rattle.tmc_base.specs.declared.run_step.RunStep.{RunStep}
use Rattle.tmc_base.specs.Told.{Fits, Told, Peer}
use Rattle.instr_plain.specs.declared.log.LogEntry.{LogEntry}
use Rattle.tmc_law.specs.State.{State}
use Rattle.host_joint.specs.Hand.{Free}
use Rattle.host_joint.specs.Joint.{Joint, TellsCalmly}
use Rattle.host_hub.specs.declared.outcome.End.{End}
use Rattle.host_hub.specs.declared.outcome.End.TheVariants as end
use Rattle.host_hub.specs.BookSeen.{Seen, ticket_of}
use Rattle.host_hub.specs.Calls.{All}
use Rattle.host_hub.specs.Joined.{IsJoined, IsPlain, IsSimple}
use Rattle.host_hub.specs.Order.{Setting}
use Rattle.host_hub.specs.Owned.{Owned}
use Rattle.host_hub.specs.Record.{Past}

-- When the hub was made, its link told the steps of a device, which was in this state then: nothing of a host was in hand, and all
-- that was sent was answered, and taken.
abbrev pub BeginsAt : Setting → Told → State → Type 0
BeginsAt s (Peer sent taken run) state = Joint s.devid Free None s.first sent taken run state
BeginsAt s told state = ⊥

-- From there to here its link told these steps, which nothing disturbed: no endpoint was halted but by what the host wrote, and the
-- device was not unplugged.
abbrev pub WentCalmly : (devid : ℕ) → Told → State → Told → State → Type 0
WentCalmly devid (Peer sent taken run) state (Peer out into all) later =
    (more : List RunStep) × (all ≡ run ++ more) × TellsCalmly devid state more later
WentCalmly devid start state now later = ⊥

-- What is left out until cancels, clears, status reads, recoveries and halts come: of the hub, of its record, and of the run that its
-- link told from the start until now.
pub record Undisturbed (s : Setting) (past : Past) (start now : Told) (state : State) : Type 0 where
  pub simple : IsSimple s
  pub plain : All IsPlain past
  pub first : State
  pub begun : BeginsAt s start first
  pub calm : WentCalmly s.devid start first now state

-- the hub is joined to the device: what it wrote is what was sent and the outbox, and what it read is what was taken but for the rest;
-- the device took in nothing that was not sent, and put out all that was taken
pub record IsJoinedTo (s : Setting) (past : Past) (outbox rest sent taken : List ℕ) (run : List RunStep) (state : State) : Type 0 where
  pub read : List ℕ
  pub cut : taken ≡ read ++ rest
  pub fits : Fits sent taken run
  pub joined : IsJoined s past (sent ++ outbox) read run state

abbrev pub IsJoinedOver : Setting → Past → (outbox rest : List ℕ) → Told → State → Type 0
IsJoinedOver s past outbox rest (Peer sent taken run) state = IsJoinedTo s past outbox rest sent taken run state
IsJoinedOver s past outbox rest told state = ⊥

-- each ticket has what the device's log gave to its message
abbrev pub AllOwned : List Seen → List LogEntry → Type 0
AllOwned tickets log = (ticket : ℕ) (seen : Seen) → ticket_of ticket tickets ≡ Some seen → Owned seen log

-- the hub did not end by what the device said: neither by an answer nor by refused bytes
abbrev pub IsFaultless : Option End → Type 0
IsFaultless (Some (end.PeerFault field)) = ⊥
IsFaultless (Some (end.DeviceFault status)) = ⊥
IsFaultless (Some (end.DeviceSays status)) = ⊥
IsFaultless ended = Unit {0}
