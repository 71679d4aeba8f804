-- how `replay` ends
use Rattle.std.proofs.Common.{◌⊎◌, ⊎_elim, ℕ, Bool, List}
use Rattle.tmc_base.specs.Reading.{Last}
use Rattle.event_text.specs.declared.event.Script.{Script}
use Rattle.event_text.specs.EventScript.{IsEventScript}
use Rattle.tmc_tool.specs.declared.status.Status.{Status}
use Rattle.tmc_tool.specs.declared.command.Command.TheVariants.{Replay}
use Rattle.tmc_tool.specs.Command.{Names}
use Rattle.tmc_tool.specs.Script.{KeepsLimits}
use Rattle.tmc_tool.specs.Told.{Replayed}
use Rattle.tmc_tool.specs.Tool.{Outside, ReadsAll, ReadsScript, Ends, Prints}
use Rattle.tmc_tool.proofs.Limits.{script_keeps}
use Rattle.tmc_tool.proofs.Ending.{printed_ends}

-- what keeps the limits was read to its end
pub all_read : (reads : Last → List ℕ → Type 0) (bytes : List ℕ) (before after : Outside) → ReadsScript reads bytes before after → KeepsLimits bytes → ReadsAll reads bytes before after
all_read reads bytes before after read keeps =
    ⊎_elim
    (λ ended. record { first = read.first; ended = ended.0; run = ended.1; counts = read.counts })
    (λ passed. absurd (passed.0 keeps))
    read.enough

pub replay_ends : (reads : Last → List ℕ → Type 0) (writes : Bool → List ℕ → Type 0) (words : List (List ℕ)) (before after : Outside) (bytes : List ℕ) (script : Script) (result : Status)
    → Names words Replay → ReadsScript reads bytes before after → IsEventScript bytes script
    → Prints writes (Replayed script) result before.put before.write_faults after.put after.write_faults → Ends reads writes words result before after
replay_ends reads writes words before after bytes script result names read is printed =
    printed_ends reads writes words Replay before after bytes result (Replayed script) names
    (all_read reads bytes before after read (script_keeps bytes script is)) read (λ text replayed. record { script = script; is = is; replayed = replayed }) printed
