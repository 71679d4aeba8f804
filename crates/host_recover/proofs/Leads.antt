-- each word of a set leads from one phase to another
use Rattle.std.proofs.Common.{◌≡◌, ℕ, Bool, true, false, List, [], ◌∷◌, ◌++◌, Option, Some, None, inl, inr, refl, sym, subst, ◌∙◌, ap}
use Rattle.std.specs.Prelude.{◌==◌, if◌then◌else◌}
use Rattle.std.proofs.lemmas.Bool.{eq-eqb}
use Rattle.host_recover.specs.declared.need.Need.{Need}
use Rattle.host_recover.specs.declared.need.Need.TheVariants as need
use Rattle.host_recover.specs.Letter.{Letter, Cleared, Success, Failed, Otherwise, BulkIn, Notify, BulkOut}
use Rattle.host_recover.specs.Words.{Words, Empty, One, Many, ◌then◌, ◌or◌, InTurn, Has, drain, failed_drain, checks, halts, failed_clear, full, checks_out, out, checks_in, into, words_of}
use Rattle.host_recover.proofs.Lefts.{left}
use Rattle.host_recover.proofs.Phases.{Phase, AbortsOut, ChecksOut, AbortsIn, DrainsIn, ChecksIn, Clears, Checks, Drains, Halts, BehindIn, BehindNotify, Done, said_abort_out, said_abort_in, go, all, all_join}

pub record Leads (p : Phase) (words : Words) (q : Phase) : Type 0 where
  pub run : (letters : List Letter) → Has words letters → all (Some p) letters ≡ Some q

joined : (p q r : Phase) (front rest letters : List Letter) → letters ≡ front ++ rest → all (Some p) front ≡ Some q → all (Some q) rest ≡ Some r → all (Some p) letters ≡ Some r
joined p q r front rest letters e f g =
    subst (λ (l : List Letter). all (Some p) l ≡ Some r) (sym e) (all_join (Some p) front rest ∙ (ap (λ (o : Option Phase). all o rest) f ∙ g))

one : {p q : Phase} {letter : Letter} → go p letter ≡ Some q → Leads p (One letter) q
one {p} {q} e = record { run = λ letters h. subst (λ (l : List Letter). all (Some p) l ≡ Some q) (sym h) e }

behind : {p q r : Phase} {a b : Words} → Leads p a q → Leads q b r → Leads p (a then b) r
behind {p} {q} {r} x y = record { run = λ letters h. joined p q r h.0 h.1 letters h.2 (x.run h.0 h.3) (y.run h.1 h.4) }

either_of : {p q : Phase} {a b : Words} → Leads p a q → Leads p b q → Leads p (a or b) q
either_of {p} {q} {a} {b} x y = record { run = either }
  where
    either : (letters : List Letter) → Has (a or b) letters → all (Some p) letters ≡ Some q
    either letters (inl h) = x.run letters h
    either letters (inr h) = y.run letters h

in_turn : (p : Phase) (a : Words) → Leads p a p → (each : List (List Letter)) (letters : List Letter) → InTurn (Has a) each letters → all (Some p) letters ≡ Some p
in_turn p a x [] letters h = subst (λ (l : List Letter). all (Some p) l ≡ Some p) (sym h) refl
in_turn p a x (word ∷ each) letters (rest, e, h, t) = joined p p p word rest letters e (x.run word h) (in_turn p a x each rest t)

many : {p : Phase} {a : Words} → Leads p a p → Leads p (Many a) p
many {p} {a} x = record { run = λ letters h. in_turn p a x h.0 letters h.1 }

-- ---- the full clear

halts_lead : Leads Halts halts Done
halts_lead = record { run = λ letters h. at letters h.0 h.1 h.2 h.3 h.4.0 h.4.1 h.4.2 h.4.3 h.4.4 }
  where
    at : (letters a b : List Letter) → letters ≡ a ++ b → Has (Empty or One (Cleared BulkIn)) a → (c d : List Letter) → b ≡ c ++ d → Has (Empty or One (Cleared Notify)) c
        → Has (One (Cleared BulkOut)) d → all (Some Halts) letters ≡ Some Done
    at letters a b e (inl f) c d g (inl h) i = joined Halts Halts Done a b letters e (rw f refl) (joined Halts Halts Done c d b g (rw h refl) (rw i refl))
    at letters a b e (inl f) c d g (inr h) i = joined Halts Halts Done a b letters e (rw f refl) (joined Halts BehindNotify Done c d b g (rw h refl) (rw i refl))
    at letters a b e (inr f) c d g (inl h) i = joined Halts BehindIn Done a b letters e (rw f refl) (joined BehindIn BehindIn Done c d b g (rw h refl) (rw i refl))
    at letters a b e (inr f) c d g (inr h) i = joined Halts BehindIn Done a b letters e (rw f refl) (joined BehindIn BehindNotify Done c d b g (rw h refl) (rw i refl))

checks_lead : Leads Checks checks Checks
checks_lead = many (either_of (one refl) (behind {q = Drains} (one refl) (behind {q = Drains} (many (one refl)) (one refl))))

failed_clear_leads : Leads Clears failed_clear Clears
failed_clear_leads = behind {q = Checks} (one refl) (behind {q = Checks} checks_lead (behind {q = Drains} (one refl) (behind {q = Drains} (many (one refl)) (one refl))))

full_leads : Leads Clears full Done
full_leads = behind {q = Clears} (many failed_clear_leads) (behind {q = Checks} (one refl) (behind {q = Checks} checks_lead (behind {q = Halts} (one refl) halts_lead)))

-- ---- the aborts

own_out : (tag : ℕ) (parts : Bool) (o : Option Phase) → (if tag == tag then o else None) ≡ o
own_out tag parts o = rw (eq-eqb tag tag refl) refl

checks_out_lead : Leads ChecksOut checks_out Done
checks_out_lead =
    behind {q = ChecksOut} (many (one refl)) (either_of (behind {q = BehindNotify} (one refl) (one refl)) (behind {q = Clears} (either_of (one refl) (one refl)) full_leads))

out_leads : (tag : ℕ) (parts : Bool) → Leads (AbortsOut tag parts) (out tag) Done
out_leads tag parts =
    either_of (behind {q = ChecksOut} (one (own_out tag parts (said_abort_out parts Success))) checks_out_lead)
    (behind {q = Clears} (one (own_out tag parts (said_abort_out parts Otherwise))) full_leads)

failed_in : Leads DrainsIn failed_drain Clears
failed_in = behind {q = DrainsIn} (many (one refl)) (one refl)

drain_in : Leads DrainsIn drain ChecksIn
drain_in = behind {q = DrainsIn} (many (one refl)) (one refl)

checks_in_lead : Leads ChecksIn checks_in Done
checks_in_lead =
    behind {q = ChecksIn} (many (either_of (one refl) (behind {q = DrainsIn} (one refl) drain_in)))
    (either_of (one refl) (either_of (behind {q = Clears} (either_of (one refl) (one refl)) full_leads) (behind {q = DrainsIn} (one refl) (behind {q = Clears} failed_in full_leads))))

in_leads : (tag : ℕ) → Leads (AbortsIn tag) (into tag) Done
in_leads tag =
    either_of (one (own_out tag true (said_abort_in Failed)))
    (either_of (behind {q = Clears} (one (own_out tag true (said_abort_in Otherwise))) full_leads)
    (either_of (behind {q = DrainsIn} (one (own_out tag true (said_abort_in Success))) (behind {q = Clears} failed_in full_leads))
    (behind {q = DrainsIn} (one (own_out tag true (said_abort_in Success))) (behind {q = ChecksIn} drain_in checks_in_lead))))

abbrev pub start : Need → Phase
start (need.Out tag parts) = AbortsOut tag parts
start (need.In tag) = AbortsIn tag
start need.Full = Clears

pub words_lead : (n : Need) → Leads (start n) (words_of n) Done
words_lead (need.Out tag false) = either_of (out_leads tag false) (one (own_out tag false (said_abort_out false Failed)))
words_lead (need.Out tag true) = either_of (out_leads tag true) (behind {q = Clears} (one (own_out tag true (said_abort_out true Failed))) full_leads)
words_lead (need.In tag) = in_leads tag
words_lead need.Full = full_leads

-- ---- the words that are left of each phase

drain_clears : Leads Drains drain Checks
drain_clears = behind {q = Drains} (many (one refl)) (one refl)

failed_clears : Leads Drains failed_drain Clears
failed_clears = behind {q = Drains} (many (one refl)) (one refl)

left_checks_lead : Leads Checks (left Checks) Done
left_checks_lead =
    either_of (behind {q = Checks} checks_lead (behind {q = Drains} (one refl) (behind {q = Clears} failed_clears full_leads)))
    (behind {q = Checks} checks_lead (behind {q = Halts} (one refl) halts_lead))

behind_in_lead : Leads BehindIn (left BehindIn) Done
behind_in_lead = record { run = λ letters h. at letters h.0 h.1 h.2 h.3 h.4 }
  where
    at : (letters a b : List Letter) → letters ≡ a ++ b → Has (Empty or One (Cleared Notify)) a → Has (One (Cleared BulkOut)) b → all (Some BehindIn) letters ≡ Some Done
    at letters a b e (inl f) g = joined BehindIn BehindIn Done a b letters e (rw f refl) (rw g refl)
    at letters a b e (inr f) g = joined BehindIn BehindNotify Done a b letters e (rw f refl) (rw g refl)

pub left_leads : (p : Phase) → Leads p (left p) Done
left_leads (AbortsOut tag parts) = words_lead (need.Out tag parts)
left_leads ChecksOut = checks_out_lead
left_leads (AbortsIn tag) = words_lead (need.In tag)
left_leads DrainsIn = either_of (behind {q = Clears} failed_in full_leads) (behind {q = ChecksIn} drain_in checks_in_lead)
left_leads ChecksIn = checks_in_lead
left_leads Clears = full_leads
left_leads Checks = left_checks_lead
left_leads Drains = either_of (behind {q = Checks} drain_clears left_checks_lead) (behind {q = Clears} failed_clears full_leads)
left_leads Halts = halts_lead
left_leads BehindIn = behind_in_lead
left_leads BehindNotify = one refl
left_leads Done = record { run = λ letters h. rw h refl }
