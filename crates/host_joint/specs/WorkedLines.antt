-- example lists of submits that are not answered: none, and one read; and a read that is written before its piece is requested
use Rattle.std.specs.Prelude.{List, [], ◌∷◌, true, false}
use Rattle.usbip_wire.specs.declared.submit.SubmitHead.{SubmitHead}
use Rattle.tmc_law.specs.Endpoint.{Endpoint, Control, BulkOut, BulkIn, InterruptIn}
use Rattle.tmc_law.specs.State.{State}
use Rattle.tmc_law.specs.Put.{stalled}
use Rattle.tmc_law.specs.Step.{Halt}
use Rattle.tmc_law.specs.Run.{Entry}
use Rattle.tmc_law.specs.WorkedSession.{in_submit, submits, step, answered}
use Rattle.host_joint.specs.WorkedPieces.{behind_first}

abbrev pub none_asked : Endpoint → List SubmitHead
none_asked e = []

abbrev pub one_asked : Endpoint → List SubmitHead
one_asked Control = []
one_asked BulkOut = []
one_asked BulkIn = in_submit 6 4096 ∷ []
one_asked InterruptIn = []

-- behind the first piece Bulk-IN halts
abbrev pub halting_between : List Entry
halting_between = submits (in_submit 5 4096) [] ∷ step (Halt BulkIn) (answered (in_submit 5 4096) stalled 0 [] ∷ []) ∷ []

abbrev pub halted_between : State
halted_between = record behind_first { halted = record { bulk_out = false; bulk_in = true; interrupt_in = false } }
