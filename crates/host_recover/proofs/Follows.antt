-- what a recovery wants follows from the letters that it heard
use Rattle.std.proofs.Common.{◌≡◌, ℕ, Bool, List, [], ◌∷◌, ◌++◌, Option, Some, None, Result, Ok, Err, refl, sym, subst, ◌∙◌, ap, append_assoc}
use Rattle.std.proofs.lemmas.List.{append-nil}
use Rattle.usb_setup.specs.declared.ends.Ends.{Ends}
use Rattle.host_recover.specs.declared.need.Need.{Need}
use Rattle.host_recover.specs.declared.stage.Stage.{Stage}
use Rattle.host_recover.specs.declared.stage.Stage.TheVariants as stage
use Rattle.host_recover.specs.declared.want.Heard.{Heard}
use Rattle.host_recover.specs.declared.want.Want.{Want}
use Rattle.host_recover.specs.declared.want.Want.TheVariants as want
use Rattle.host_recover.specs.Letter.{Letter, Submit}
use Rattle.host_recover.specs.Next.{IsNext, ClearsOnly, due_halt}
use Rattle.host_recover.specs.Recover.{Answer, Recovering, MayAnswer, HasHeard, IsAwaited, behind, MayCome, Follows}
use Rattle.host_recover.specs.Stage.{awaits_at, awaits_of, left_at, left_of, wanted_by, first_of, behind_heard, step_of}
use Rattle.host_recover.specs.Words.{Has, words_of}
use Rattle.host_recover.proofs.Lefts.{left, some_word, ends}
use Rattle.host_recover.proofs.Phases.{Phase, Done, go, all, all_none, none_some}
use Rattle.host_recover.proofs.Some.{has_word}
use Rattle.host_recover.proofs.Stages.{phase_at, left_is, left_runs, has_left, is_answered, over_at, first_left, clears_none, first_clears_none, first_not_over, led, answers_at}
use Rattle.host_recover.proofs.Steps.{Goes, Comes, hears_of}
use Rattle.host_recover.proofs.Words.{whole_ends, none_empty}

abbrev pub kept : Need → Ends → Option Stage → Recovering
kept n e o = record { need = n; ends = e; awaits = awaits_of o; left = left_of n o }

-- what is left of a stage leads to the end
runs_at : (s : Stage) (letters : List Letter) → Has (left_at s) letters → all (Some (phase_at s)) letters ≡ Some Done
runs_at s letters h = left_runs (phase_at s) letters (subst (λ w. Has w letters) (left_is s) h)

has_at : (s : Stage) (letters : List Letter) → Has (left (phase_at s)) letters → Has (left_at s) letters
has_at s letters h = subst (λ w. Has w letters) (sym (left_is s)) h

-- a word of the stage's phase begins with an answer that leads on
leads_on : (s : Stage) (letter : Letter) (q : Phase) (rest : List Letter) → go (phase_at s) letter ≡ Some q → Has (left_at s) (letter ∷ rest) → all (Some q) rest ≡ Some Done
leads_on s letter q rest e h = subst (λ (o : Option Phase). all o rest ≡ Some Done) e (runs_at s (letter ∷ rest) h)

-- ... and any word behind it is one behind the answer
led_from : (s : Stage) (letter : Letter) (q : Phase) (rest : List Letter) → go (phase_at s) letter ≡ Some q → Has (left q) rest → Has (left_at s) (letter ∷ rest)
led_from s letter q rest e h = has_at s (letter ∷ rest)
    (has_left (phase_at s) (letter ∷ rest) (subst (λ (o : Option Phase). all o rest ≡ Some Done) (sym e) (left_runs q rest h)))

not_on : (s : Stage) (letter : Letter) (rest : List Letter) → go (phase_at s) letter ≡ None → Has (left_at s) (letter ∷ rest) → ⊥
not_on s letter rest e h = none_some Done (sym (all_none rest) ∙ subst (λ (o : Option Phase). all o rest ≡ Some Done) e (runs_at s (letter ∷ rest) h))

joined_once : (letters rest : List Letter) (x : Letter) → (letters ++ x ∷ []) ++ rest ≡ letters ++ x ∷ rest
joined_once letters rest x = append_assoc letters (x ∷ []) rest

-- two letters behind the others
twice : (letters : List Letter) (x letter : Letter) (rest : List Letter) (n : Need) → Has (words_of n) (((letters ++ letter ∷ []) ++ x ∷ []) ++ rest) → Has (words_of n) (letters ++ letter ∷ x ∷ rest)
twice letters x letter rest n w = subst (λ (ls : List Letter). Has (words_of n) ls) (joined_once (letters ++ letter ∷ []) rest x ∙ joined_once letters (x ∷ rest) letter) w

some_end : (q : Phase) → Some q ≡ Some Done → q ≡ Done
some_end q e = cc

-- ---- a submit comes next

goes_on : (n : Need) (e : Ends) (s next : Stage) (letter : Letter) (i k : Bool) → Goes s letter i k next → MayAnswer (awaits_at s) letter → (letters : List Letter)
    → HasHeard letters (kept n e (Some s)) → Follows (letters ++ letter ∷ []) i k (wanted_by e (awaits_at next)) (kept n e (Some next))
goes_on n e s next letter i k g m letters h = record {
  heard = λ _. heard;
  begins = λ _. (some_word (phase_at next), heard.goes_on (some_word (phase_at next)) (has_at next (some_word (phase_at next)) (ends (phase_at next))));
  may_come = may_come;
  next = λ submit a seen. let c = may_come submit a in record { letter = c.letter; is = c.is; begins = c.begins; halt = g.halt letters seen submit a };
  exact = exact;
  done = (λ d. whole (over_at e next d), over);
}
  where
    heard : HasHeard (letters ++ letter ∷ []) (kept n e (Some next))
    heard = record {
      goes_on = λ rest w. subst (λ (ls : List Letter). Has (words_of n) ls) (sym (joined_once letters rest letter))
          (h.goes_on (letter ∷ rest) (led_from s letter g.phase rest g.goes (g.less rest w)));
      only = λ x rest x_answers w. g.only x rest x_answers
          (has_left g.phase (x ∷ rest) (leads_on s letter g.phase (x ∷ rest) g.goes
          (h.only letter (x ∷ rest) m (subst (λ (ls : List Letter). Has (words_of n) ls) (joined_once letters (x ∷ rest) letter) w))));
    }

    may_come : (submit : Submit) → awaits_at next ≡ Answer submit → MayCome n (letters ++ letter ∷ []) submit
    may_come submit a =
        let x = is_answered next submit a in
        record {
          letter = x.letter;
          is = x.is;
          begins = (x.rest, subst (λ (ls : List Letter). Has (words_of n) ls) (sym (joined_once (letters ++ letter ∷ []) x.rest x.letter)) (heard.goes_on (x.letter ∷ x.rest) x.left));
        }

    exact : (submit : Submit) → IsNext n (letters ++ letter ∷ []) i k submit → awaits_at next ≡ Answer submit
    exact submit x =
        g.exact letters x.letter (led g.phase x.letter x.begins.0 (has_left g.phase (x.letter ∷ x.begins.0) (leads_on s letter g.phase (x.letter ∷ x.begins.0) g.goes
        (h.only letter (x.letter ∷ x.begins.0) m (twice letters x.letter letter x.begins.0 n x.begins.1))))) (subst (λ (y : Submit). ClearsOnly (due_halt (letters ++ letter ∷ []) i k) y) (sym x.is) x.halt)
        ∙ ap Answer x.is

    whole : next ≡ stage.Over → Has (words_of n) (letters ++ letter ∷ [])
    whole o = subst (λ (ls : List Letter). Has (words_of n) ls) (append-nil (letters ++ letter ∷ [])) (heard.goes_on [] (subst (λ (s : Stage). Has (left_at s) []) (sym o) refl))

    over : Has (words_of n) (letters ++ letter ∷ []) → wanted_by e (awaits_at next) ≡ want.Done
    over w = subst (λ (s : Stage). wanted_by e (awaits_at s) ≡ want.Done) (sym (g.done (some_end g.phase (leads_on s letter g.phase [] g.goes (h.only letter [] m w))))) refl

-- ---- the clear is refused

is_stuck_at : (n : Need) (e : Ends) (s : Stage) (letter : Letter) (i k : Bool) (status : ℕ) → go (phase_at s) letter ≡ None → MayAnswer (awaits_at s) letter → (letters : List Letter)
    → HasHeard letters (kept n e (Some s)) → Follows (letters ++ letter ∷ []) i k (want.Stuck status) (kept n e (Some stage.Over))
is_stuck_at n e s letter i k status none m letters h = record {
  heard = λ stuck. absurd (stuck tt);
  begins = λ stuck. absurd (stuck tt);
  may_come = λ submit a. cc;
  next = λ submit a seen. cc;
  exact = λ submit x. absurd (not_on s letter (x.letter ∷ x.begins.0) none (h.only letter (x.letter ∷ x.begins.0) m (twice letters x.letter letter x.begins.0 n x.begins.1)));
  done = (λ d. cc, λ w. absurd (not_on s letter [] none (h.only letter [] m w)));
}

-- ---- it begins

begins_with : (n : Need) (e : Ends) (i k : Bool) (letters : List Letter) → HasHeard letters (kept n e None) → Follows letters i k (wanted_by e (awaits_at (first_of n))) (kept n e (Some (first_of n)))
begins_with n e i k letters h = record {
  heard = λ _. heard;
  begins = λ _. (some_word (phase_at (first_of n)), heard.goes_on (some_word (phase_at (first_of n))) (has_at (first_of n) (some_word (phase_at (first_of n))) (ends (phase_at (first_of n)))));
  may_come = may_come;
  next = λ submit a seen. let c = may_come submit a in record { letter = c.letter; is = c.is; begins = c.begins; halt = clears_none (first_of n) (first_clears_none n) submit _ a };
  exact = λ submit x. answers_at (first_of n) (first_clears_none n) x.letter (led (phase_at (first_of n)) x.letter x.begins.0 (subst (λ w. Has w (x.letter ∷ x.begins.0)) (sym (first_left n) ∙ left_is (first_of n))
      (h.only x.letter x.begins.0 tt (subst (λ (ls : List Letter). Has (words_of n) ls) (joined_once letters x.begins.0 x.letter) x.begins.1)))) ∙ ap Answer x.is;
  done = (λ d. absurd (first_not_over n (over_at e (first_of n) d)), λ w. absurd (not_whole w));
}
  where
    heard : HasHeard letters (kept n e (Some (first_of n)))
    heard = record {
      goes_on = λ rest w. h.goes_on rest (subst (λ ws. Has ws rest) (first_left n) w);
      only = λ x rest _ w. subst (λ ws. Has ws (x ∷ rest)) (sym (first_left n)) (h.only x rest tt w);
    }

    may_come : (submit : Submit) → awaits_at (first_of n) ≡ Answer submit → MayCome n letters submit
    may_come submit a =
        let x = is_answered (first_of n) submit a in
        record {
          letter = x.letter;
          is = x.is;
          begins = (x.rest, subst (λ (ls : List Letter). Has (words_of n) ls) (sym (joined_once letters x.rest x.letter)) (heard.goes_on (x.letter ∷ x.rest) x.left));
        }

    -- no word is empty, and no whole word goes on
    not_whole : Has (words_of n) letters → ⊥
    not_whole w = at (has_word n).0 (has_word n).1
      where
        at : (rest : List Letter) → Has (words_of n) rest → ⊥
        at [] r = none_empty n r
        at (x ∷ rest) r = whole_ends n letters x w (rest, subst (λ (ls : List Letter). Has (words_of n) ls) (sym (joined_once letters rest x)) (h.goes_on (x ∷ rest) r))

-- ---- each call

-- what a step says and leaves
abbrev pub said : Ends → Result Stage ℕ → Want
said e (Ok next) = wanted_by e (awaits_at next)
said e (Err status) = want.Stuck status

abbrev pub stage_in : Result Stage ℕ → Stage
stage_in (Ok next) = next
stage_in (Err status) = stage.Over

pub follows : (n : Need) (e : Ends) (o : Option Stage) (hears : Heard) (i k : Bool) → IsAwaited (awaits_of o) hears → (letters : List Letter) → HasHeard letters (kept n e o)
    → Follows (behind letters (awaits_of o) hears) i k (said e (step_of n o hears i k)) (kept n e (Some (stage_in (step_of n o hears i k))))
follows n e None hears i k w letters h = begins_with n e i k letters h
follows n e (Some s) hears i k w letters h =
    let x = hears_of s hears i k w in
    subst (λ (ls : List Letter). Follows ls i k (said e (behind_heard s hears i k)) (kept n e (Some (stage_in (behind_heard s hears i k))))) (sym (x.added letters))
    (by (behind_heard s hears i k) x.letter x.answers x.comes)
  where
    by : (r : Result Stage ℕ) (letter : Letter) → MayAnswer (awaits_at s) letter → Comes s letter i k r → Follows (letters ++ letter ∷ []) i k (said e r) (kept n e (Some (stage_in r)))
    by (Ok next) letter m g = goes_on n e s next letter i k g m letters h
    by (Err status) letter m none = is_stuck_at n e s letter i k status none m letters h

-- as a call sees the recovery before it
pub follows_next : (n : Need) (e : Ends) (o : Option Stage) (hears : Heard) (i k : Bool) (before : Recovering) (next : Stage) (wants : Want) → kept n e o ≡ before → IsAwaited before.awaits hears
    → step_of n o hears i k ≡ Ok next → wants ≡ wanted_by e (awaits_at next) → (letters : List Letter) → HasHeard letters before
    → Follows (behind letters before.awaits hears) i k wants (kept n e (Some next))
follows_next n e o hears i k before next wants seen w r s letters h =
    subst (λ (v : Recovering). Follows (behind letters v.awaits hears) i k wants (kept n e (Some next))) seen
    (subst (λ (x : Want). Follows (behind letters (awaits_of o) hears) i k x (kept n e (Some next))) (sym s)
    (subst (λ (x : Result Stage ℕ). Follows (behind letters (awaits_of o) hears) i k (said e x) (kept n e (Some (stage_in x)))) r
    (follows n e o hears i k (subst (λ (v : Recovering). IsAwaited v.awaits hears) (sym seen) w) letters (subst (λ (v : Recovering). HasHeard letters v) (sym seen) h))))

pub follows_stuck : (n : Need) (e : Ends) (o : Option Stage) (hears : Heard) (i k : Bool) (before : Recovering) (status : ℕ) → kept n e o ≡ before → IsAwaited before.awaits hears
    → step_of n o hears i k ≡ Err status → (letters : List Letter) → HasHeard letters before
    → Follows (behind letters before.awaits hears) i k (want.Stuck status) (kept n e (Some stage.Over))
follows_stuck n e o hears i k before status seen w r letters h =
    subst (λ (v : Recovering). Follows (behind letters v.awaits hears) i k (want.Stuck status) (kept n e (Some stage.Over))) seen
    (subst (λ (x : Result Stage ℕ). Follows (behind letters (awaits_of o) hears) i k (said e x) (kept n e (Some (stage_in x)))) r
    (follows n e o hears i k (subst (λ (v : Recovering). IsAwaited v.awaits hears) (sym seen) w) letters (subst (λ (v : Recovering). HasHeard letters v) (sym seen) h)))
