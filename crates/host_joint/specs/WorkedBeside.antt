-- a submit to Interrupt-IN from power-on, beside a message of two transfers, and where its endpoint halts
use Rattle.std.specs.Prelude.{[], ◌∷◌, List, true, false}
use Rattle.tmc_law.specs.Endpoint.{InterruptIn}
use Rattle.tmc_law.specs.State.{State, start, arrived}
use Rattle.tmc_law.specs.Put.{stalled}
use Rattle.tmc_law.specs.Step.{Halt}
use Rattle.tmc_law.specs.Run.{Entry}
use Rattle.tmc_law.specs.WorkedSession.{notify_submit, out_submit, submits, step, answered}
use Rattle.tmc_law.specs.WorkedParts.{spaces_text}

-- it comes, and then the first transfer of the message does
abbrev pub both_come : List Entry
both_come = submits (notify_submit 0 8) [] ∷ submits (out_submit 1 112) spaces_text ∷ []

abbrev pub notice_pends : State
notice_pends = record start { interrupt_in = arrived (notify_submit 0 8) [] ∷ [] }

abbrev pub both_pend : State
both_pend = record notice_pends { bulk_out = arrived (out_submit 1 112) spaces_text ∷ [] }

-- it comes, and its endpoint halts
abbrev pub notice_halts : List Entry
notice_halts = submits (notify_submit 0 8) [] ∷ step (Halt InterruptIn) (answered (notify_submit 0 8) stalled 0 [] ∷ []) ∷ []

abbrev pub deafened : State
deafened = record start { halted = record { bulk_out = false; bulk_in = false; interrupt_in = true } }
