-- what arrives at a device
use Rattle.std.specs.Prelude.{◌≡◌, ℕ, ◌<◌, ◌≤◌, List, [], length}
use Rattle.usbip_wire.specs.Up as up
use Rattle.usbip_wire.specs.Submit.{Carries}
use Rattle.tmc_law.specs.declared.input.Input.{Input}
use Rattle.tmc_law.specs.declared.input.Input.TheVariants as input
use Rattle.tmc_law.specs.State.{State, pending, Avoids}
use Rattle.tmc_law.specs.Queues.{pending_most}
use Rattle.tmc_device.specs.declared.device_fault.DeviceFault.{DeviceFault}
use Rattle.tmc_device.specs.declared.device_fault.DeviceFault.TheVariants.{Full, Twice, Memory}

-- the message, with the data of an OUT submit
abbrev pub message_of : Input → (bytes : List ℕ) → up.Message
message_of (input.Submit head) bytes = up.Submit head bytes
message_of (input.Unlink head) bytes = up.Unlink head

-- the data of an OUT submit comes with it, and nothing with anything else
abbrev pub Brings : Input → (bytes : List ℕ) → Type 0
Brings (input.Submit head) bytes = Carries head.dir head.length bytes
Brings (input.Unlink head) bytes = bytes ≡ []

-- there is a place for a submit, and none with its number is pending
abbrev pub IsAcceptable : State → Input → Type 0
IsAcceptable s (input.Submit head) = Avoids head.seqnum (pending s) × (length (pending s) < pending_most)
IsAcceptable s (input.Unlink head) = Unit {0}

-- why what arrives is not taken in: 256 submits are pending; fewer are, but one has this number; or neither, and memory is
-- wanting
abbrev pub Refuses : State → Input → DeviceFault → Type 0
Refuses s (input.Submit head) Full = pending_most ≤ length (pending s)
Refuses s (input.Submit head) Twice = (length (pending s) < pending_most) × ¬ Avoids head.seqnum (pending s)
Refuses s arrival Memory = IsAcceptable s arrival
Refuses s (input.Unlink head) _ = ⊥
