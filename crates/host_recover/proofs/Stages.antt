-- the phase in which each submit is answered
use Rattle.std.proofs.Common.{◌≡◌, Bool, true, false, List, [], ◌∷◌, Option, Some, None, refl, sym, subst, ◌∙◌, ap}
use Rattle.std.proofs.lemmas.List.{append-nil}
use Rattle.usb_setup.specs.declared.ends.Ends.{Ends}
use Rattle.host_recover.specs.declared.need.Need.{Need}
use Rattle.host_recover.specs.declared.need.Need.TheVariants as need
use Rattle.host_recover.specs.declared.stage.Stage.{Stage}
use Rattle.host_recover.specs.declared.stage.Stage.TheVariants as stage
use Rattle.host_recover.specs.declared.want.Want.TheVariants as want
use Rattle.host_recover.specs.Letter.{Letter, Cleared, Endpoint, Submit, submit_of, BulkIn, Notify, BulkOut}
use Rattle.host_recover.specs.Next.{ClearsOnly}
use Rattle.host_recover.specs.Recover.{Answer}
use Rattle.host_recover.specs.Stage.{awaits_at, left_at, first_of, wanted_by}
use Rattle.host_recover.specs.Words.{Has, words_of}
use Rattle.host_recover.proofs.Leads.{left_leads}
use Rattle.host_recover.proofs.Lefts.{left, all_go, ends, goes}
use Rattle.host_recover.proofs.Phases.{Phase, AbortsOut, ChecksOut, AbortsIn, DrainsIn, ChecksIn, Clears, Checks, Drains, Halts, BehindIn, BehindNotify, Done, go, all, all_none, none_some, clash, fits}

abbrev pub phase_at : Stage → Phase
phase_at (stage.AbortsOut tag parts) = AbortsOut tag parts
phase_at stage.ChecksOut = ChecksOut
phase_at (stage.AbortsIn tag) = AbortsIn tag
phase_at stage.DrainsIn = DrainsIn
phase_at stage.ChecksIn = ChecksIn
phase_at stage.Clears = Clears
phase_at stage.ChecksClear = Checks
phase_at stage.DrainsClear = Drains
phase_at stage.FreesIn = Halts
phase_at stage.FreesNotify = BehindIn
phase_at stage.FreesOut = BehindNotify
phase_at stage.Over = Done

pub left_is : (s : Stage) → left_at s ≡ left (phase_at s)
left_is (stage.AbortsOut tag parts) = refl
left_is stage.ChecksOut = refl
left_is (stage.AbortsIn tag) = refl
left_is stage.DrainsIn = refl
left_is stage.ChecksIn = refl
left_is stage.Clears = refl
left_is stage.ChecksClear = refl
left_is stage.DrainsClear = refl
left_is stage.FreesIn = refl
left_is stage.FreesNotify = refl
left_is stage.FreesOut = refl
left_is stage.Over = refl

-- letters are left of a phase exactly where they lead from it to the end
pub has_left : (p : Phase) (letters : List Letter) → all (Some p) letters ≡ Some Done → Has (left p) letters
has_left p letters e = subst (λ (ls : List Letter). Has (left p) ls) (append-nil letters) (all_go p letters Done e [] refl)

pub left_runs : (p : Phase) (letters : List Letter) → Has (left p) letters → all (Some p) letters ≡ Some Done
left_runs p letters h = (left_leads p).run letters h

-- a stage whose submit clears a halt
abbrev pub clears_halt : Stage → Bool
clears_halt stage.FreesIn = true
clears_halt stage.FreesNotify = true
clears_halt stage.FreesOut = true
clears_halt s = false

pub same_submit : (a b : Submit) → Answer a ≡ Answer b → b ≡ a
same_submit a b e = cc

pub clears_none : (s : Stage) → clears_halt s ≡ false → (submit : Submit) (endpoint : Endpoint) → awaits_at s ≡ Answer submit → ClearsOnly endpoint submit
clears_none (stage.AbortsOut tag parts) f submit endpoint e = subst (λ (x : Submit). ClearsOnly endpoint x) (sym (same_submit _ submit e)) tt
clears_none stage.ChecksOut f submit endpoint e = subst (λ (x : Submit). ClearsOnly endpoint x) (sym (same_submit _ submit e)) tt
clears_none (stage.AbortsIn tag) f submit endpoint e = subst (λ (x : Submit). ClearsOnly endpoint x) (sym (same_submit _ submit e)) tt
clears_none stage.DrainsIn f submit endpoint e = subst (λ (x : Submit). ClearsOnly endpoint x) (sym (same_submit _ submit e)) tt
clears_none stage.ChecksIn f submit endpoint e = subst (λ (x : Submit). ClearsOnly endpoint x) (sym (same_submit _ submit e)) tt
clears_none stage.Clears f submit endpoint e = subst (λ (x : Submit). ClearsOnly endpoint x) (sym (same_submit _ submit e)) tt
clears_none stage.ChecksClear f submit endpoint e = subst (λ (x : Submit). ClearsOnly endpoint x) (sym (same_submit _ submit e)) tt
clears_none stage.DrainsClear f submit endpoint e = subst (λ (x : Submit). ClearsOnly endpoint x) (sym (same_submit _ submit e)) tt
clears_none stage.Over f submit endpoint e = cc
clears_none stage.FreesIn f submit endpoint e = clash (sym f)
clears_none stage.FreesNotify f submit endpoint e = clash (sym f)
clears_none stage.FreesOut f submit endpoint e = clash (sym f)

-- a letter that is left of a phase leads on from it
pub record Led (p : Phase) (x : Letter) : Type 0 where
  pub next : Phase
  pub goes : go p x ≡ Some next

pub led : (p : Phase) (x : Letter) (rest : List Letter) → Has (left p) (x ∷ rest) → Led p x
led p x rest h = at (go p x) refl (left_runs p (x ∷ rest) h)
  where
    at : (o : Option Phase) → go p x ≡ o → all o rest ≡ Some Done → Led p x
    at None e k = none_some Done (sym (all_none rest) ∙ k)
    at (Some next) e k = record { next = next; goes = e }

-- it answers the submit of the stage
pub answers_at : (s : Stage) → clears_halt s ≡ false → (x : Letter) → Led (phase_at s) x → awaits_at s ≡ Answer (submit_of x)
answers_at (stage.AbortsOut tag parts) f x l = ap Answer (sym (fits (AbortsOut tag parts) x l.next l.goes))
answers_at stage.ChecksOut f x l = ap Answer (sym (fits ChecksOut x l.next l.goes))
answers_at (stage.AbortsIn tag) f x l = ap Answer (sym (fits (AbortsIn tag) x l.next l.goes))
answers_at stage.DrainsIn f x l = ap Answer (sym (fits DrainsIn x l.next l.goes))
answers_at stage.ChecksIn f x l = ap Answer (sym (fits ChecksIn x l.next l.goes))
answers_at stage.Clears f x l = ap Answer (sym (fits Clears x l.next l.goes))
answers_at stage.ChecksClear f x l = ap Answer (sym (fits Checks x l.next l.goes))
answers_at stage.DrainsClear f x l = ap Answer (sym (fits Drains x l.next l.goes))
answers_at stage.FreesIn f x l = clash (sym f)
answers_at stage.FreesNotify f x l = clash (sym f)
answers_at stage.FreesOut f x l = clash (sym f)
answers_at stage.Over f x l = none_some l.next l.goes

-- some answer to the submit of a stage, with some letters behind it, is left
pub record Answered (s : Stage) (submit : Submit) : Type 0 where
  pub letter : Letter
  pub rest : List Letter
  pub is : submit_of letter ≡ submit
  pub left : Has (left_at s) (letter ∷ rest)

by_letter : (s : Stage) (own submit : Submit) (letter : Letter) (rest : List Letter) → submit_of letter ≡ own → Answer own ≡ Answer submit → Has (left (phase_at s)) (letter ∷ rest) → Answered s submit
by_letter s own submit letter rest is e h =
    record { letter = letter; rest = rest; is = is ∙ sym (same_submit own submit e); left = subst (λ w. Has w (letter ∷ rest)) (sym (left_is s)) h }

pub is_answered : (s : Stage) (submit : Submit) → awaits_at s ≡ Answer submit → Answered s submit
is_answered (stage.AbortsOut tag parts) submit e = by_letter (stage.AbortsOut tag parts) _ submit _ _ refl e (ends (AbortsOut tag parts))
is_answered stage.ChecksOut submit e = by_letter stage.ChecksOut _ submit _ _ refl e (ends ChecksOut)
is_answered (stage.AbortsIn tag) submit e = by_letter (stage.AbortsIn tag) _ submit _ _ refl e (ends (AbortsIn tag))
is_answered stage.DrainsIn submit e = by_letter stage.DrainsIn _ submit _ _ refl e (ends DrainsIn)
is_answered stage.ChecksIn submit e = by_letter stage.ChecksIn _ submit _ _ refl e (ends ChecksIn)
is_answered stage.Clears submit e = by_letter stage.Clears _ submit _ _ refl e (ends Clears)
is_answered stage.ChecksClear submit e = by_letter stage.ChecksClear _ submit _ _ refl e (ends Checks)
is_answered stage.DrainsClear submit e = by_letter stage.DrainsClear _ submit _ _ refl e (ends Drains)
is_answered stage.FreesIn submit e = by_letter stage.FreesIn _ submit (Cleared BulkIn) (Cleared BulkOut ∷ []) refl e (goes Halts (Cleared BulkIn) BehindIn refl (Cleared BulkOut ∷ []) (ends BehindIn))
is_answered stage.FreesNotify submit e =
    by_letter stage.FreesNotify _ submit (Cleared Notify) (Cleared BulkOut ∷ []) refl e (goes BehindIn (Cleared Notify) BehindNotify refl (Cleared BulkOut ∷ []) (ends BehindNotify))
is_answered stage.FreesOut submit e = by_letter stage.FreesOut _ submit _ _ refl e (ends BehindNotify)
is_answered stage.Over submit e = cc

-- a recovery is done where nothing is left
pub over_at : (ends : Ends) (s : Stage) → wanted_by ends (awaits_at s) ≡ want.Done → s ≡ stage.Over
over_at ends stage.Over e = refl
over_at ends (stage.AbortsOut tag parts) e = cc
over_at ends stage.ChecksOut e = cc
over_at ends (stage.AbortsIn tag) e = cc
over_at ends stage.DrainsIn e = cc
over_at ends stage.ChecksIn e = cc
over_at ends stage.Clears e = cc
over_at ends stage.ChecksClear e = cc
over_at ends stage.DrainsClear e = cc
over_at ends stage.FreesIn e = cc
over_at ends stage.FreesNotify e = cc
over_at ends stage.FreesOut e = cc

pub done_at : (s : Stage) → phase_at s ≡ Done → s ≡ stage.Over
done_at stage.Over e = refl
done_at (stage.AbortsOut tag parts) e = cc
done_at stage.ChecksOut e = cc
done_at (stage.AbortsIn tag) e = cc
done_at stage.DrainsIn e = cc
done_at stage.ChecksIn e = cc
done_at stage.Clears e = cc
done_at stage.ChecksClear e = cc
done_at stage.DrainsClear e = cc
done_at stage.FreesIn e = cc
done_at stage.FreesNotify e = cc
done_at stage.FreesOut e = cc

-- the first submit of a recovery
pub first_left : (n : Need) → left_at (first_of n) ≡ words_of n
first_left (need.Out tag parts) = refl
first_left (need.In tag) = refl
first_left need.Full = refl

pub first_clears_none : (n : Need) → clears_halt (first_of n) ≡ false
first_clears_none (need.Out tag parts) = refl
first_clears_none (need.In tag) = refl
first_clears_none need.Full = refl

pub first_not_over : (n : Need) → first_of n ≡ stage.Over → ⊥
first_not_over (need.Out tag parts) e = cc
first_not_over (need.In tag) e = cc
first_not_over need.Full e = cc
