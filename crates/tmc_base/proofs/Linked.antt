-- a link in memory, polled
use Rattle.std.proofs.Common.{◌≡◌, ℕ, ◌+◌, List, ◌++◌, take, drop, sym, ap, ◌∙◌, take-add}
use Rattle.std.proofs.lemmas.List.{drop-drop}
use Rattle.tmc_base.specs.FailPlan.{Plan, after_call}
use Rattle.tmc_base.specs.MemLink.{Linked}

-- the first n of the bytes that were left went over to those that were taken
pub polled : (old : Linked) (gives : List ℕ) (at n : ℕ) (plan : Plan) → take at gives ≡ old.taken → drop at gives ≡ old.left → plan ≡ after_call old.poll_plan
    → record old { taken = take (at + n) gives; left = drop (at + n) gives; poll_plan = plan }
    ≡ record old { taken = old.taken ++ take n old.left; left = drop n old.left; poll_plan = after_call old.poll_plan }
polled old gives at n plan taken left counted =
    ap (λ xs. record old { taken = xs; left = drop (at + n) gives; poll_plan = plan })
    (take-add at n gives ∙ (ap (λ xs. xs ++ take n (drop at gives)) taken ∙ ap (λ xs. old.taken ++ take n xs) left))
    ∙ (ap (λ xs. record old { taken = old.taken ++ take n old.left; left = xs; poll_plan = plan }) (sym (drop-drop n at gives) ∙ ap (drop n) left)
    ∙ ap (λ p. record old { taken = old.taken ++ take n old.left; left = drop n old.left; poll_plan = p }) counted)
