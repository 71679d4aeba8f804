-- behind the first piece a submit to Interrupt-IN is written, and its endpoint halts
use Rattle.std.specs.Prelude.{[], ◌∷◌, true, false}
use Rattle.tmc_law.specs.State.{State, arrived}
use Rattle.tmc_law.specs.WorkedSession.{notify_submit}
use Rattle.host_joint.specs.WorkedPieces.{behind_first}

abbrev pub notice_came : State
notice_came = record behind_first { interrupt_in = arrived (notify_submit 5 2) [] ∷ [] }

abbrev pub deaf : State
deaf = record behind_first { halted = record { bulk_out = false; bulk_in = false; interrupt_in = true } }
