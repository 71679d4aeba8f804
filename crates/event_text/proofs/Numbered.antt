-- a line each, one more at the end
use Rattle.std.proofs.Common.{◌≡◌, ℕ, zero, suc, ◌+◌, ◌<◌, ◌≤◌, List, [], ◌∷◌, ◌++◌, length, take, get_or, ◌-◌, Bool, true, false, cond, eqb, None, Some, refl, sym, ap, subst, ◌∙◌, add-one, append-nil, append_assoc, arith}
use Rattle.std.proofs.lemmas.Bool.{eqb-true}
use Rattle.std.proofs.lemmas.List.{take_all}
use Rattle.std.proofs.lemmas.Option.{get_or_from_slice_get}
use Rattle.std.specs.List.{slice_get}
use Rattle.host_hub.specs.BookSeen.{Seen, ticket_of}
use Rattle.event_text.specs.Report.{numbered}

numbered_step : {A : Type 0} (line : ℕ → A → List ℕ) (number i : ℕ) (xs : List A) (d : A) → i < length xs
    → numbered line number (take (suc i) xs) ≡ numbered line number (take i xs) ++ line (number + i) (get_or xs i d)
numbered_step {A} line number i [] d within = absurd (omega (arith, within))
numbered_step {A} line number zero (y ∷ ys) d within =
    let here : number + 0 ≡ number = omega arith in
    append-nil (line number y) ∙ ap (λ (k : ℕ). line k y) (sym here)
numbered_step {A} line number (suc i) (y ∷ ys) d within =
    let again = numbered_step line (number + 1) i ys d (omega (arith, within)) in
    let place : number + 1 + i ≡ number + suc i = omega arith in
    ap (λ (z : List ℕ). line number y ++ z) (again ∙ ap (λ (k : ℕ). numbered line (number + 1) (take i ys) ++ line k (get_or ys i d)) place)
    ∙ sym (append_assoc (line number y) (numbered line (number + 1) (take i ys)) (line (number + suc i) (get_or ys i d)))

pub numbered_more : {A : Type 0} (line : ℕ → A → List ℕ) (xs : List A) (d x : A) (i number : ℕ) (old text new : List ℕ)
    → text ≡ old ++ numbered line 1 (take i xs) → i < length xs → x ≡ get_or xs i d → number ≡ 1 + i → new ≡ text ++ line number x
    → new ≡ old ++ numbered line 1 (take (i + 1) xs)
numbered_more {A} line xs d x i number old text new before within is place appended =
    let step : numbered line 1 (take (i + 1) xs) ≡ numbered line 1 (take i xs) ++ line (1 + i) (get_or xs i d) =
    ap (λ (k : ℕ). numbered line 1 (take k xs)) (add-one i) ∙ numbered_step line 1 i xs d within in
    appended
    ∙ (ap (λ (z : List ℕ). z ++ line number x) before
    ∙ (ap (λ (k : ℕ). (old ++ numbered line 1 (take i xs)) ++ line k x) place
    ∙ (ap (λ (z : A). (old ++ numbered line 1 (take i xs)) ++ line (1 + i) z) is
    ∙ (append_assoc old (numbered line 1 (take i xs)) (line (1 + i) (get_or xs i d))
    ∙ ap (λ (z : List ℕ). old ++ z) (sym step)))))

pub numbered_all : {A : Type 0} (line : ℕ → A → List ℕ) (xs : List A) (i : ℕ) (old text : List ℕ)
    → text ≡ old ++ numbered line 1 (take i xs) → length xs ≤ i → text ≡ old ++ numbered line 1 xs
numbered_all {A} line xs i old text before all = before ∙ ap (λ (z : List A). old ++ numbered line 1 z) (take_all i xs all)

-- the ticket of a number stands before that place
ticket_by : (tickets : List Seen) (i n : ℕ) (seen : Seen) (b : Bool) → eqb (i + 1) 0 ≡ b → n ≡ i → cond b None (slice_get tickets n) ≡ Some seen → slice_get tickets i ≡ Some seen
ticket_by tickets i n seen true e same found = absurd (omega (arith, eqb-true (i + 1) 0 e))
ticket_by tickets i n seen false e same found = subst (λ (k : ℕ). slice_get tickets k ≡ Some seen) same found

pub ticket_here : (tickets : List Seen) (i : ℕ) (seen : Seen) → ticket_of (i + 1) tickets ≡ Some seen → seen ≡ get_or tickets i seen
ticket_here tickets i seen found =
    sym (get_or_from_slice_get tickets i seen seen (ticket_by tickets i (i + 1 - 1) seen _ refl (omega arith) found))
