use Rattle.std.proofs.Common.{sym, ap, refl}
use Rattle.instr_plain.specs.Exec.{begun}
use Rattle.instr_plain.specs.Output.{Written}
use Rattle.instr_plain.proofs.run.execute_units.Goals as goal

pub returns : goal.returns
returns c =
    let run = c.obey_all.ensures (begun c.args.state.now) (record { state_is = refl; output_is = sym c.begin.ensures }) in
    record {
      end = run.0;
      executes = run.1;
      leaves = sym run.2.state_is;
      answers = c.finish.ensures run.0 (ap (λ (w : Written). w.bytes) run.2.output_is);
    }
