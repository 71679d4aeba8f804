use Rattle.std.proofs.Common.{⊎_elim, ◌++◌, ◌∙◌, sym, ap, subst, append-nil, arith}
use Rattle.tmc_tool.specs.Script.{IsAt, Stands}
use Rattle.tmc_tool.proofs.Lines.{empty}
use Rattle.tmc_tool.proofs.Limits.{past_some, past_line, past_stays}
use Rattle.tmc_tool.proofs.script.Place.inside.Goals as goal

pub returns-then-count-eq0 : goal.returns-then-count-eq0
returns-then-count-eq0 c = λ bytes line inside size at.
    subst (λ xs. Stands xs c.args.self) (sym (ap (λ xs. bytes ++ xs) (empty line (omega (arith, size, c.if-count-eq0.true))) ∙ append-nil bytes)) at

pub returns-then-begun-gt-LINE : goal.returns-then-begun-gt-LINE
returns-then-begun-gt-LINE c = λ bytes line inside size at.
    let here : IsAt bytes c.in-Within.ended c.in-Within.begun = subst (λ place. Stands bytes place) c.in-Within.is at in
    ⊎_elim
    (λ many. past_some bytes line c.in-Within.ended c.in-Within.begun many (omega (arith, size, c.if-count-eq0.false)) here)
    (λ long. past_line bytes line c.in-Within.ended c.in-Within.begun c.args.count (omega (arith, long, c.saturating_add-begun.ensures)) inside size here)
    c.if-begun-gt-LINE.either

pub returns-in-Past : goal.returns-in-Past
returns-in-Past c = λ bytes line inside size at. past_stays bytes line (subst (λ place. Stands bytes place) c.in-Past.is at)
