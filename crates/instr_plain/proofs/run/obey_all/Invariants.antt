use Rattle.std.proofs.Common.{drop}
use Rattle.instr_plain.specs.Exec.{Progress}
use Rattle.instr_plain.specs.Output.{IsAt}
use Rattle.instr_plain.proofs.Running.{Reaches}
use Rattle.instr_plain.proofs.run.obey_all.Given as goal

abbrev pub invariant-loop-unit : goal.invariant-loop-unit
invariant-loop-unit l =
    (before : Progress) → IsAt before l.fn.state l.fn.output → Reaches before l.units (drop l.unit-index l.units) l.state l.output
