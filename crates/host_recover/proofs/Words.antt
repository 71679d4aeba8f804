-- what holds of the words
use Rattle.std.proofs.Common.{◌≡◌, List, [], ◌∷◌, ◌++◌, Option, Some, None, inl, inr, refl, sym, subst, ◌∙◌, ap, append_assoc}
use Rattle.std.proofs.lemmas.List.{append-nil}
use Rattle.host_recover.specs.declared.need.Need.{Need}
use Rattle.host_recover.specs.declared.need.Need.TheVariants as need
use Rattle.host_recover.specs.Letter.{Letter, Asked, Cleared, Drained, Submit, Ask, Clear, Read, submit_of}
use Rattle.host_recover.specs.Words.{Has, Begins, words_of}
use Rattle.host_recover.specs.Goes.{GoesOn, AreOfOne, BothClear}
use Rattle.host_recover.proofs.Phases.{Phase, Done, go, all, all_join, all_none, none_some, submit_at, FitsIn, Clearing, fits, total}
use Rattle.host_recover.proofs.Leads.{start, words_lead}
use Rattle.host_recover.proofs.Lefts.{left, goes, all_go, some_word, ends}

-- the letters lead to this phase
pub record At (n : Need) (letters : List Letter) (letter : Letter) : Type 0 where
  pub phase : Phase
  pub next : Phase
  pub at : all (Some (start n)) letters ≡ Some phase
  pub goes : go phase letter ≡ Some next

pub at : (n : Need) (letters : List Letter) (l : Letter) → Begins (words_of n) (letters ++ l ∷ []) → At n letters l
at n letters l (rest, h) = behind (all (Some (start n)) letters) refl whole
  where
    whole : all (all (Some (start n)) letters) (l ∷ rest) ≡ Some Done
    whole =
        sym (all_join (Some (start n)) letters (l ∷ rest))
        ∙ (ap (λ (ls : List Letter). all (Some (start n)) ls) (sym (append_assoc letters (l ∷ []) rest)) ∙ (words_lead n).run ((letters ++ l ∷ []) ++ rest) h)

    next : (p : Phase) → all (Some (start n)) letters ≡ Some p → (o : Option Phase) → go p l ≡ o → all o rest ≡ Some Done → At n letters l
    next p e None f k = none_some Done (sym (all_none rest) ∙ k)
    next p e (Some q) f k = record { phase = p; next = q; at = e; goes = f }

    behind : (o : Option Phase) → all (Some (start n)) letters ≡ o → all o (l ∷ rest) ≡ Some Done → At n letters l
    behind None e k = none_some Done (sym (all_none rest) ∙ k)
    behind (Some p) e k = next p e (go p l) refl k

left_start : (n : Need) (letters : List Letter) → Has (left (start n)) letters → Has (words_of n) letters
left_start (need.Out tag parts) letters h = h
left_start (need.In tag) letters h = h
left_start need.Full letters h = h

pub begins : (n : Need) (letters : List Letter) (l : Letter) (p q : Phase) → all (Some (start n)) letters ≡ Some p → go p l ≡ Some q → Begins (words_of n) (letters ++ l ∷ [])
begins n letters l p q e f = (
  some_word q,
  subst (λ (ls : List Letter). Has (words_of n) ls) (sym (append_assoc letters (l ∷ []) (some_word q)))
      (left_start n (letters ++ l ∷ some_word q) (all_go (start n) letters p e (l ∷ some_word q) (goes p l q f (some_word q) (ends q)))),
)

same : (p r : Phase) (n : Need) (letters : List Letter) → all (Some (start n)) letters ≡ Some p → all (Some (start n)) letters ≡ Some r → r ≡ p
same p r n letters e f = some_same (sym f ∙ e)
  where
    some_same : Some r ≡ Some p → r ≡ p
    some_same g = cc

both_clear : (l m : Letter) → Clearing l → Clearing m → BothClear l m
both_clear (Cleared a) (Cleared b) h k = tt
both_clear (Cleared a) (Asked request says) h k = k
both_clear (Cleared a) (Drained ending) h k = k
both_clear (Asked request says) m h k = absurd h
both_clear (Drained ending) m h k = absurd h

pub determined : (n : Need) (letters : List Letter) (l m : Letter) → Begins (words_of n) (letters ++ l ∷ []) → Begins (words_of n) (letters ++ m ∷ []) → AreOfOne l m
determined n letters l m h k =
    let a = at n letters l h in
    let b = at n letters m k in
    let e : go a.phase m ≡ Some b.next = subst (λ (p : Phase). go p m ≡ Some b.next) (same a.phase b.phase n letters a.at b.at) b.goes in
    both (submit_at a.phase) (fits a.phase l a.next a.goes) (fits a.phase m b.next e)
  where
    both : (o : Option Submit) → FitsIn o l → FitsIn o m → AreOfOne l m
    both (Some submit) f g = inl (f ∙ sym g)
    both None f g = inr (both_clear l m f g)

pub answered : (n : Need) (letters : List Letter) (l m : Letter) → Begins (words_of n) (letters ++ l ∷ []) → submit_of m ≡ submit_of l → GoesOn m → Begins (words_of n) (letters ++ m ∷ [])
answered n letters l m h e g =
    let a = at n letters l h in
    by a (submit_at a.phase) refl (fits a.phase l a.next a.goes)
  where
    cleared_same : (l m : Letter) → Clearing l → submit_of m ≡ submit_of l → m ≡ l
    cleared_same (Cleared a) (Cleared b) h e = ap (λ (x : Submit). letter x) e
      where
        letter : Submit → Letter
        letter (Clear c) = Cleared c
        letter x = Cleared a
    cleared_same (Cleared a) (Asked request says) h e = absurd (no e)
      where
        no : Ask request ≡ Clear a → ⊥
        no f = cc
    cleared_same (Cleared a) (Drained ending) h e = absurd (no e)
      where
        no : Read ≡ Clear a → ⊥
        no f = cc
    cleared_same (Asked request says) m h e = absurd h
    cleared_same (Drained ending) m h e = absurd h

    by : (a : At n letters l) (o : Option Submit) → submit_at a.phase ≡ o → FitsIn o l → Begins (words_of n) (letters ++ m ∷ [])
    by a (Some submit) f fit = let t = total a.phase submit m f (e ∙ fit) g in begins n letters m a.phase t.0 a.at t.1
    by a None f fit = subst (λ (x : Letter). Begins (words_of n) (letters ++ x ∷ [])) (sym (cleared_same l m fit e)) h

pub whole_ends : (n : Need) (letters : List Letter) (l : Letter) → Has (words_of n) letters → Begins (words_of n) (letters ++ l ∷ []) → ⊥
whole_ends n letters l h k =
    let a = at n letters l k in
    let e = same Done a.phase n letters ((words_lead n).run letters h) a.at in
    done (subst (λ (p : Phase). go p l ≡ Some a.next) e a.goes)
  where
    done : None ≡ Some (at n letters l k).next → ⊥
    done f = none_some _ f

pub none_empty : (n : Need) → Has (words_of n) [] → ⊥
none_empty n h = at_start n ((words_lead n).run [] h)
  where
    at_start : (n : Need) → Some (start n) ≡ Some Done → ⊥
    at_start (need.Out tag parts) e = cc
    at_start (need.In tag) e = cc
    at_start need.Full e = cc

-- letters that lead to the end are a word
pub is_word : (n : Need) (letters : List Letter) → all (Some (start n)) letters ≡ Some Done → Has (words_of n) letters
is_word n letters e = left_start n letters (subst (λ (ls : List Letter). Has (left (start n)) ls) (append-nil letters) (all_go (start n) letters Done e [] refl))
