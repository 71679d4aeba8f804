use Rattle.std.proofs.Common.{◌≡◌, ◌∙◌, sym, ap, List, ℕ, ◌<◌, ◌+◌, ◌∷◌, [], ◌++◌, append_assoc, arith}
use Rattle.std.specs.Prelude.{◌%◌, ◌/◌}
use Rattle.std.specs.Fmt.{decimal}
use Rattle.std.proofs.lemmas.Fmt.{decimal_digit}
use Rattle.event_text.proofs.Texts.{decimal_step}
use Rattle.event_text.proofs.text.+put_number.Goals as goal
use Rattle.event_text.proofs.text.+put_number.Goals.{then-number-ge10+in_ok-put_number, else-number-ge10}

pub returns : goal.returns
returns t c =
    let n = c.args.number in
    let old = c.args.out.now.items in
    elim c.if-number-ge10.branch [
      | then-number-ge10+in_ok-put_number w ↦
          (rw w.out-is at c.in_ok-push.ensures.items)
          ∙ (ap (λ (l : List ℕ). l ++ (48 + n % 10) ∷ []) w.in_ok-put_number.ensures
          ∙ (append_assoc old (decimal (n / 10)) ((48 + n % 10) ∷ [])
          ∙ ap (λ (l : List ℕ). old ++ l) (sym (decimal_step n w.if-number-ge10.true c.ranges.number.fits))))
      | else-number-ge10 w ↦
          (rw w.out-is at c.in_ok-push.ensures.items)
          ∙ (ap (λ (d : ℕ). old ++ (48 + d) ∷ []) (small n w.if-number-ge10.false)
          ∙ ap (λ (l : List ℕ). old ++ l) (sym (decimal_digit n w.if-number-ge10.false)))
    ]
  where
    small : (n : ℕ) → n < 10 → n % 10 ≡ n
    small n below = omega (arith, below)
