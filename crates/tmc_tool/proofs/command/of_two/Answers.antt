use Rattle.std.proofs.Common.{◌≡◌, inr, [], ◌∷◌, codes, refl, ap}
use Rattle.tmc_tool.specs.declared.command.Command.TheVariants.{Ask}
use Rattle.tmc_tool.specs.Command.{IsLimitWord}
use Rattle.tmc_tool.proofs.Words.{is_text, named_alone}
use Rattle.tmc_tool.proofs.command.of_two.Goals as goal

pub returns-in_ok-limit_of : goal.returns-in_ok-limit_of
returns-in_ok-limit_of c = λ command.
    let limit = c.in_ok-limit_of.field-0 in
    let word : c.args.word.now ≡ codes "ask" = is_text _ _ _ _ refl c.eq.ensures c.if-eq.true in
    let named : IsLimitWord limit c.args.second.now = (c.limit_of.ensures limit).0 c.in_ok-limit_of.was in
    named_alone _ (Ask limit) command (inr (c.args.second.now, ap (λ w. w ∷ c.args.second.now ∷ []) word, named))
