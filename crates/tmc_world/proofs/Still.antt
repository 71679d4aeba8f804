-- a hub that a turn left as it was has the record that it had
use Rattle.std.proofs.Common.{◌≡◌, ◌∙◌, ℕ, ◌+◌, ◌≤◌, List, [], ◌∷◌, ◌++◌, length, Option, None, refl, sym, ap, arith, length-append}
use Rattle.host_hub.specs.declared.book.BookEntry.TheVariants as entry
use Rattle.host_hub.specs.declared.outcome.End.{End}
use Rattle.host_hub.specs.Calls.{All, IsOfTurn}
use Rattle.host_hub.specs.Hand.{ended}
use Rattle.host_hub.specs.Joined.{IsPlain}
use Rattle.host_hub.specs.Knows.{Knows, marks_in}
use Rattle.host_hub.specs.Order.{Setting}
use Rattle.host_hub.specs.Record.{Asked, Cancelled, Cleared, Fell, GaveUp, Happening, Marked, Past, Recovers, Settled, Stopped, Took, Wrote, book, next, taken, written}

-- how many messages, answers and entries there are
abbrev sum : Setting → Past → ℕ
sum s past = next s.first past + (length (taken past) + length (book s past))

one_more : {A : Type 0} (xs : List A) (x : A) → length (xs ++ x ∷ []) ≡ length xs + 1
one_more xs x = length-append xs (x ∷ [])

sum_grows : (s : Setting) (more past : Past) → All IsOfTurn more → All IsPlain (more ++ past) → ended (more ++ past) ≡ None → sum s past + length more ≤ sum s (more ++ past)
sum_grows s [] past a p runs = omega arith
sum_grows s (Wrote n o k ∷ more) past a p runs = omega (arith, sum_grows s more past a.1 p.1 runs)
sum_grows s (Took m ∷ more) past a p runs = omega (arith, sum_grows s more past a.1 p.1 runs, one_more (taken (more ++ past)) m)
sum_grows s (Settled t o ∷ more) past a p runs =
    omega (arith, sum_grows s more past a.1 p.1 runs, one_more (book s (more ++ past)) (record { entry = entry.Settled t; written = length (written s (more ++ past)); taken = length (taken (more ++ past)) }))
sum_grows s (Fell m e ∷ more) past a p runs = cc
sum_grows s (Stopped e ∷ more) past a p runs = cc
sum_grows s (Asked t b ∷ more) past a p runs = absurd a.0
sum_grows s (Cancelled t ∷ more) past a p runs = absurd a.0
sum_grows s (Cleared w ∷ more) past a p runs = absurd a.0
sum_grows s (GaveUp ∷ more) past a p runs = absurd a.0
sum_grows s (Recovers ∷ more) past a p runs = absurd p.0

none_more : {A : Type 0} (xs : List A) → length xs ≡ 0 → xs ≡ []
none_more [] is = refl
none_more (x ∷ xs) is = absurd (omega (arith, is))

marks_count : (xs : List Marked) → length (marks_in xs) ≡ length xs
marks_count [] = refl
marks_count (x ∷ xs) = omega (arith, marks_count xs)

-- as many of each as before: so nothing was added
pub nothing_came : (s : Setting) (past more : Past) → All IsOfTurn more → All IsPlain (more ++ past) → ended (more ++ past) ≡ None → next s.first (more ++ past) ≡ next s.first past
    → length (taken (more ++ past)) ≡ length (taken past) → marks_in (book s (more ++ past)) ≡ marks_in (book s past) → more ≡ []
nothing_came s past more a p runs numbers answers marks =
    none_more more (omega (
      arith,
      sum_grows s more past a p runs,
      numbers,
      answers,
      sym (marks_count (book s (more ++ past))) ∙ ap length marks ∙ marks_count (book s past),
    ))
