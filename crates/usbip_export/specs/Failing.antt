-- where what a client sent fails
use Rattle.std.specs.Prelude.{◌≡◌, ℕ, true, false, List, ◌++◌}
use Rattle.tmc_base.specs.declared.field.Field.{Field}
use Rattle.usbip_wire.specs.declared.op_request.OpRequest.{OpRequest}
use Rattle.usbip_wire.specs.declared.op_request.OpRequest.TheVariants.{Import}
use Rattle.usbip_wire.specs.declared.up.UpPhase.TheVariants.{Ops}
use Rattle.usbip_wire.specs.OpRequest.{SpellsRequest}
use Rattle.usbip_wire.specs.UpFed.{BadAt}
use Rattle.tmc_law.specs.State.{State, start}
use Rattle.tmc_law.specs.Run.{Entry, SpellAll}
use Rattle.tmc_law.specs.Laws.{EndsRefused}
use Rattle.usbip_export.specs.Identity.{busid, devid}
use Rattle.usbip_export.specs.Operations.{ImportNone}
use Rattle.usbip_export.specs.Seen.{Seen, standing}

-- These bytes, of which the node took none in, fail at this field: behind messages that are taken in stand bytes that are
-- refused there, by the spelling or by what is pending.
pub data FailsAt (node : Seen) (bytes : List ℕ) (f : Field) : Type 0 where
  AtOperation : (requests : List OpRequest) (front rest : List ℕ) → node.imported ≡ false → bytes ≡ front ++ rest
      → SpellAll SpellsRequest requests front → ImportNone requests → BadAt Ops rest f → FailsAt node bytes f
  BehindImport : (requests : List OpRequest) (front request rest : List ℕ) (run : List Entry) (t : State) → node.imported ≡ false
      → bytes ≡ front ++ (request ++ rest) → SpellAll SpellsRequest requests front → ImportNone requests
      → SpellsRequest (Import busid) request → EndsRefused devid start run t rest f → FailsAt node bytes f
  AtMessage : (run : List Entry) (t : State) → node.imported ≡ true → EndsRefused devid (standing node) run t bytes f → FailsAt node bytes f
