use Rattle.std.proofs.Common.{◌≡◌, ◌⊎◌, ℕ, List, [], ◌∷◌, sym, subst}
use Rattle.instr_plain.specs.declared.log.LogEntry.{LogEntry}
use Rattle.instr_plain.specs.declared.log.LogEntry.TheVariants.{Exec as exec_entry}
use Rattle.instr_plain.specs.Log.{Response}
use Rattle.tmc_tool.proofs.Causes.{Laws, ends_usage, ends_refused, ends_printed}
use Rattle.tmc_tool.proofs.FirstLine.{OneAnswer}
use Rattle.tmc_tool.proofs.tool.tool_main.Goals as goal

-- a message alone is the log of an instrument at power-on
one_answer : ((log : List LogEntry) (i : ℕ) (response other : List ℕ) → Response log i response → Response log i other → response ≡ other) → OneAnswer
one_answer one message response other first second = one (exec_entry 0 message ∷ []) 0 response other first second

pub returns-clause-usage : goal.returns-clause-usage
returns-clause-usage g c = λ others calm_sink.
    subst (λ code. code ≡ 1) (sym c.code.ensures) (ends_usage _ _ _ _ _ _ c.run.ensures others calm_sink)

pub returns-clause-refused : goal.returns-clause-refused
returns-clause-refused g c = λ command named calm_source calm_sink bytes line what told refused.
    let laws : Laws = record { one = one_answer c.one_response.ensures; shown = c.scripts_are_determined.ensures.either; replayed = c.event_scripts_are_determined.ensures.either } in
    subst (λ code. (code ≡ 2) ⊎ (code ≡ 5)) (sym c.code.ensures)
    (ends_refused laws _ _ _ command _ _ _ bytes line what c.run.ensures named told refused calm_source calm_sink)

pub returns-clause-printed : goal.returns-clause-printed
returns-clause-printed g c = λ command named calm_source calm_sink bytes told takes.
    let laws : Laws = record { one = one_answer c.one_response.ensures; shown = c.scripts_are_determined.ensures.either; replayed = c.event_scripts_are_determined.ensures.either } in
    subst (λ code. (code ≡ 0) ⊎ (code ≡ 5)) (sym c.code.ensures)
    (ends_printed laws _ _ _ command _ _ _ bytes c.run.ensures named told takes calm_source calm_sink)
