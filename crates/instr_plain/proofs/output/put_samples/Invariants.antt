use Rattle.std.proofs.Common.{◌≡◌, ◌++◌, ◌≤◌, vec_capacity}
use Rattle.instr_plain.specs.Answer.{samples}
use Rattle.instr_plain.proofs.output.put_samples.Given as goal

abbrev pub invariant-loop-k : goal.invariant-loop-k
invariant-loop-k l = record {
  items : l.output.items ≡ l.initial.output.items ++ samples l.acquisitions l.conf l.k;
  capacity : vec_capacity l.initial.output ≤ vec_capacity l.output;
}
