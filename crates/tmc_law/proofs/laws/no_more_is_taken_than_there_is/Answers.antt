use Rattle.std.proofs.Common.{List, ◌∷◌, ◌++◌, length, ap, ◌∙◌, sym, subst, arith}
use Rattle.instr_plain.specs.declared.log.LogEntry.{LogEntry}
use Rattle.instr_plain.specs.declared.log.LogEntry.TheVariants.{Exec}
use Rattle.instr_plain.specs.Standing.{at_power_on}
use Rattle.instr_plain.specs.Log.{Response}
use Rattle.tmc_law.specs.State.{start}
use Rattle.tmc_law.proofs.Grown.{Within, follows}
use Rattle.tmc_law.proofs.Logged.{runs}
use Rattle.tmc_law.proofs.Spared.{apart, all, responds_at}
use Rattle.tmc_law.proofs.laws.no_more_is_taken_than_there_is.Goals as goal

pub returns : goal.returns
returns c = λ run t before between behind seq message response does log old responds.
    let grown = runs run start t does in
    let within : Within at_power_on (before ++ Exec seq message ∷ (between ++ behind)) t.standing =
    subst (λ (entries : List LogEntry). Within at_power_on entries t.standing) (sym grown.1 ∙ log) grown.2 in
    let front = apart at_power_on before (Exec seq message ∷ (between ++ behind)) t.standing within in
    let back = apart front.2.0 between behind t.standing front.2.3 in
    let unread = responds_at at_power_on before seq message (between ++ behind) front.0 front.2.0 (follows at_power_on before front.0 front.1) front.2.2 in
    let same = c.one_response.ensures t.log (length before) front.2.0.unread response
    (subst (λ (entries : List LogEntry). Response entries (length before) front.2.0.unread) (sym log) unread) responds in
    omega (arith, all front.2.0 between back.0 back.1 old, ap length same)
