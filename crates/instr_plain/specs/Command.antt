-- the program message units that the instrument knows
use Rattle.std.specs.Prelude.{◌≡◌, Bool, true, false, [], ◌∷◌, codes}
use Rattle.ieee_syntax.specs.declared.unit.Unit.{Unit}
use Rattle.instr_plain.specs.declared.command.Command.{Command}
use Rattle.instr_plain.specs.declared.command.Command.TheVariants.{ClearStatus, EventEnable, EventEnableQuery, EventStatusQuery, IdentificationQuery, OperationComplete, OperationCompleteQuery, Reset, ServiceEnable, ServiceEnableQuery, StatusByteQuery, SelfTestQuery, Wait, Trigger, Configure, ConfigureQuery, ReadQuery, RemoteQuery}

-- a command's unit: its header, whether it is a query, and its numbers. The common commands are those of IEEE 488.2,
-- section 10; the others are this instrument's own.
abbrev pub unit_of : Command → Unit
unit_of ClearStatus = record { head = codes "*CLS"; query = false; args = [] }
unit_of (EventEnable n) = record { head = codes "*ESE"; query = false; args = n ∷ [] }
unit_of EventEnableQuery = record { head = codes "*ESE"; query = true; args = [] }
unit_of EventStatusQuery = record { head = codes "*ESR"; query = true; args = [] }
unit_of IdentificationQuery = record { head = codes "*IDN"; query = true; args = [] }
unit_of OperationComplete = record { head = codes "*OPC"; query = false; args = [] }
unit_of OperationCompleteQuery = record { head = codes "*OPC"; query = true; args = [] }
unit_of Reset = record { head = codes "*RST"; query = false; args = [] }
unit_of (ServiceEnable n) = record { head = codes "*SRE"; query = false; args = n ∷ [] }
unit_of ServiceEnableQuery = record { head = codes "*SRE"; query = true; args = [] }
unit_of StatusByteQuery = record { head = codes "*STB"; query = true; args = [] }
unit_of SelfTestQuery = record { head = codes "*TST"; query = true; args = [] }
unit_of Wait = record { head = codes "*WAI"; query = false; args = [] }
unit_of Trigger = record { head = codes "*TRG"; query = false; args = [] }
unit_of (Configure n) = record { head = codes "CONF"; query = false; args = n ∷ [] }
unit_of ConfigureQuery = record { head = codes "CONF"; query = true; args = [] }
unit_of (ReadQuery n) = record { head = codes "READ"; query = true; args = n ∷ [] }
unit_of RemoteQuery = record { head = codes "RL"; query = true; args = [] }

abbrev pub is_query : Command → Bool
is_query command = (unit_of command).query

-- an unknown header, or a wrong number of numbers
abbrev pub IsUnknown : Unit → Type 0
IsUnknown unit = (command : Command) → unit ≡ unit_of command → ⊥
