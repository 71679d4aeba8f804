use Rattle.std.proofs.Common.{rules, subst}
use Rattle.std.specs.Prelude.{IfErr}
use Rattle.event_text.specs.Shown.{IsFaultOf, SourceShown}
use Rattle.event_text.specs.Way.{way_of}
use Rattle.event_text.proofs.Answered.{shown_answer, refused_answer}
use Rattle.event_text.proofs.shown.put_shown.Goals as goal

pub returns-in_err-text-clause-all_shown : goal.returns-in_err-text-clause-all_shown
returns-in_err-text-clause-all_shown c = λ text shown.
    let fault : IfErr c.from_residual.result (IsFaultOf c.args.way c.args.source.now) = search rules in
    shown_answer (way_of c.args.way) c.args.source.now text c.from_residual.result
    (λ number what s r. c.scripts_are_determined.ensures.either c.args.way c.args.source.now text number what s r) fault shown

pub returns-in_err-text-clause-all_refused : goal.returns-in_err-text-clause-all_refused
returns-in_err-text-clause-all_refused c = λ number what refused.
    let fault : IfErr c.from_residual.result (IsFaultOf c.args.way c.args.source.now) = search rules in
    refused_answer (way_of c.args.way) c.args.source.now number what c.from_residual.result
    (λ second other r s. c.scripts_are_determined.ensures.line c.args.way c.args.source.now second number other what r s) c.from_residual.ensures.0 fault refused

pub returns-clause-all_refused : goal.returns-clause-all_refused
returns-clause-all_refused c = λ number what refused.
    absurd (c.scripts_are_determined.ensures.either c.args.way c.args.source.now c.in_ok-text.text.items number what (subst (λ w. SourceShown w c.args.source.now c.in_ok-text.text.items) c.of.ensures c.in_ok-text.ensures.shown) refused)

pub returns-then-is_empty-clause-all_refused : goal.returns-then-is_empty-clause-all_refused
returns-then-is_empty-clause-all_refused c = λ number what refused.
    absurd (c.scripts_are_determined.ensures.either c.args.way c.args.source.now c.in_ok-text.text.items number what (subst (λ w. SourceShown w c.args.source.now c.in_ok-text.text.items) c.of.ensures c.in_ok-text.ensures.shown) refused)
