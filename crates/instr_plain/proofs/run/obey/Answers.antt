use Rattle.std.proofs.Common.{◌≡◌, ◌∙◌, ◌==◌, ◌&&◌, false, not, length, sym, ap, subst, refl}
use Rattle.instr_plain.specs.Command.{is_query}
use Rattle.instr_plain.specs.Outcome.{outcome_of}
use Rattle.instr_plain.specs.Exec.{Progress}
use Rattle.instr_plain.specs.Output.{Written, IsAt}
use Rattle.instr_plain.proofs.Answers.{some_stand-parts_of}
use Rattle.instr_plain.proofs.Running.{acts, false-and, ended-false}
use Rattle.instr_plain.proofs.run.obey.Goals as goal
use Rattle.instr_plain.proofs.run.obey.Goals.{else-is_query-via-then-is_query+else-is_ended, else-is_query-via-else-is_query}

pub returns-in-Some : goal.returns-in-Some
returns-in-Some c = λ before at.
    let idle : (is_query c.args.command.now && before.ended) ≡ false =
    elim c.else-is_query.branch [
      | else-is_query-via-then-is_query+else-is_ended w ↦
          ended-false (is_query c.args.command.now) before.ended (ap (λ (o : Written). o.ended) at.output_is ∙ sym w.is_ended.ensures ∙ w.if-is_ended.false)
      | else-is_query-via-else-is_query w ↦
          false-and (is_query c.args.command.now) before.ended (sym c.is_query.ensures ∙ w.if-is_query.false)
    ] in
    let bytes = ap (λ (o : Written). o.bytes) at.output_is ∙ sym c.bytes.ensures.written in
    let stands = sym (some_stand-parts_of before.answers) ∙ ap (λ bs. not (length bs == 0)) bytes ∙ ap not (sym c.is_empty-available.ensures) in
    let outcome = ap (λ available. outcome_of c.args.command.now available before.state) stands
    ∙ ap (λ state. outcome_of c.args.command.now (not c.is_empty-available.result) state) at.state_is ∙ c.in-Some.ensures in
    let same = acts c.args.command.now before _ _ idle outcome in
    subst (λ (progress : Progress). IsAt progress c.tell.new.state c.tell.new.output) (sym same)
    (c.tell.ensures (record before { state = c.perform.new.self }) (record { state_is = refl; output_is = at.output_is }))
