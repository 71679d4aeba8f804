-- the judgement of a header and of a length
use Rattle.std.specs.Prelude.{◌≡◌, ℕ, ◌+◌, ◌≤◌, List, [], length, Option, Some, None}
use Rattle.tmc_wire.specs.declared.header.OutHeader.{OutHeader}
use Rattle.tmc_wire.specs.declared.header.OutHeader.TheVariants.{Message, Request, Trigger}
use Rattle.tmc_law.specs.State.{Pending, Transfer}
use Rattle.tmc_law.specs.BulkOut.{message_most, Misfits}

-- what a header begins may come behind this unfinished message
abbrev pub HasPlace : OutHeader → (part : List ℕ) → Type 0
HasPlace (Message tag size eom) part = length part + size ≤ message_most
HasPlace (Request tag size) part = part ≡ []
HasPlace (Trigger tag) part = part ≡ []

-- the length of a submit suits the transfer, or does not
abbrev pub Suits : Pending → Transfer → Option OutHeader → Type 0
Suits submit transfer None = (submit.moved ≡ []) × Misfits submit transfer
Suits submit transfer (Some header) = (header ≡ transfer.header) × (submit.moved ≡ [] → Misfits submit transfer → ⊥)
