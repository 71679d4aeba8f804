use Rattle.std.proofs.Common.{List, [], ◌∷◌, ◌++◌, sym, subst}
use Rattle.instr_plain.specs.declared.log.LogEntry.{LogEntry}
use Rattle.instr_plain.specs.Standing.{at_power_on}
use Rattle.instr_plain.specs.Log.{Stands}
use Rattle.tmc_law.specs.State.{start}
use Rattle.tmc_law.proofs.Grown.{follows}
use Rattle.tmc_law.proofs.Logged.{runs}
use Rattle.tmc_law.proofs.Sound.{sound}
use Rattle.tmc_law.proofs.OneEffect.{Once}
use Rattle.tmc_law.proofs.OneOutcome.{leads_one}
use Rattle.tmc_law.proofs.determined.steps_are_determined.Goals as goal

pub returns : goal.returns
returns c = λ run s t other move puts others goes step again.
    let grown = runs run start s goes in
    let stands : Stands s.log s.standing = subst (λ (log : List LogEntry). Stands log s.standing) (sym grown.1) (follows at_power_on grown.0 s.standing grown.2) in
    let once : Once s.standing = record {
      meaning = record { asks = c.setups_have_one_meaning.ensures.one; row = c.setups_have_one_meaning.ensures.class };
      after = λ entry a b p q. c.one_standing.ensures (s.log ++ entry ∷ []) a b (c.grows.ensures s.log entry s.standing a stands p) (c.grows.ensures s.log entry s.standing b stands q);
      header = c.headers_are_read_again.ensures.out_one;
    } in
    leads_one s move puts others t other (sound run s goes) once step.leads again.leads
