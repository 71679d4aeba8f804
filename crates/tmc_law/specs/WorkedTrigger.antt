-- a trigger
use Rattle.std.specs.Prelude.{ℕ, List, [], ◌∷◌}
use Rattle.instr_plain.specs.declared.log.LogEntry.{LogEntry}
use Rattle.instr_plain.specs.declared.log.LogEntry.TheVariants as entry
use Rattle.tmc_law.specs.Put.{success}
use Rattle.tmc_law.specs.Step.{Take}
use Rattle.tmc_law.specs.Run.{Entry}
use Rattle.tmc_law.specs.WorkedSession.{out_submit, submits, step, answered}

-- TRIGGER, tag 1
abbrev pub trigger_text : List ℕ
trigger_text = 0x80 ∷ 0x01 ∷ 0xfe ∷ 0x00 ∷ 0x00 ∷ 0x00 ∷ 0x00 ∷ 0x00 ∷ 0x00 ∷ 0x00 ∷ 0x00 ∷ 0x00 ∷ []

abbrev pub triggering : List Entry
triggering = submits (out_submit 1 12) trigger_text ∷ step (Take 1) (answered (out_submit 1 12) success 12 [] ∷ []) ∷ []

abbrev pub trigger_log : List LogEntry
trigger_log = entry.Trigger 1 ∷ []
