use Rattle.std.proofs.Common.{List, sym, subst}
use Rattle.std.specs.Prelude.{◌↔◌}
use Rattle.instr_plain.specs.declared.log.LogEntry.{LogEntry}
use Rattle.instr_plain.specs.Standing.{at_power_on}
use Rattle.instr_plain.specs.Log.{Response, Stands}
use Rattle.tmc_law.specs.State.{start}
use Rattle.tmc_law.proofs.Grown.{follows}
use Rattle.tmc_law.proofs.Logged.{runs}
use Rattle.tmc_law.proofs.laws.the_log_grows.Goals as goal

pub returns-clause-grows : goal.returns-clause-grows
returns-clause-grows c = λ run s t does. let grown = runs run s t does in (grown.0, grown.1)

pub returns-clause-stands : goal.returns-clause-stands
returns-clause-stands c = λ run s does.
    let grown = runs run start s does in
    subst (λ (log : List LogEntry). Stands log s.standing) (sym grown.1) (follows at_power_on grown.0 s.standing grown.2)

pub returns-clause-responses : goal.returns-clause-responses
returns-clause-responses c = λ run s t i response does within.
    let grown = runs run s t does in
    subst (λ (log : List LogEntry). Response log i response ↔ Response s.log i response) (sym grown.1)
    (c.keeps_responses.ensures s.log grown.0 i response within)
