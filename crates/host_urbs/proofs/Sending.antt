-- the entries that were sent, one by one
use Rattle.std.proofs.Common.{◌≡◌, ℕ, zero, suc, ◌+◌, ◌<◌, ◌≤◌, Bool, true, false, None, List, [], ◌∷◌, ◌++◌, length, take, get_or, refl, ◌∙◌, ap, arith, add-one}
use Rattle.std.specs.Prelude.{◌==◌, if◌then◌else◌}
use Rattle.std.proofs.lemmas.Bool.{eq-eqb}
use Rattle.usbip_wire.specs.declared.dirs.Outstanding.{Outstanding}
use Rattle.usbip_wire.specs.Awaited as wire
use Rattle.usbip_wire.specs.Awaited.{Awaited, entry_of, entries_of}
use Rattle.usbip_wire.specs.Dirs as dirs
use Rattle.usbip_wire.specs.Dirs.{IsShort, AreShort, find}
use Rattle.host_urbs.specs.declared.entry.Entry.{Entry}
use Rattle.host_urbs.specs.declared.entry.Unanswered.{Unanswered}
use Rattle.host_urbs.specs.declared.entry.Unanswered.TheVariants.{Submit, Unlink}
use Rattle.host_urbs.specs.Entries.{awaited_of, number_of, awaited, sent}
use Rattle.host_urbs.specs.Unanswered.{AreRising}
use Rattle.host_urbs.proofs.Basics.{differ}
use Rattle.host_urbs.proofs.Lists.{skipped}

pub entries_more : (xs : List Awaited) (y : Awaited) → entries_of (xs ++ y ∷ []) ≡ entries_of xs ++ entry_of y ∷ []
entries_more [] y = refl
entries_more (x ∷ xs) y = ap (λ (l : List Outstanding). entry_of x ∷ l) (entries_more xs y)

sent_more : (es : List Entry) (i : ℕ) (d : Entry) → i < length es
    → sent (take (suc i) es) ≡ (if (get_or es i d).unsent == 0 then sent (take i es) ++ awaited_of (get_or es i d).message ∷ [] else sent (take i es))
sent_more [] i d h = absurd (omega (arith, h))
sent_more (e ∷ es) zero d h = refl
sent_more (e ∷ es) (suc i) d h = step (e.unsent == 0) ((get_or es i d).unsent == 0) (sent_more es i d (omega (arith, h)))
  where
    step : (a b : Bool) → sent (take (suc i) es) ≡ (if b then sent (take i es) ++ awaited_of (get_or es i d).message ∷ [] else sent (take i es))
        → (if a then awaited_of e.message ∷ sent (take (suc i) es) else sent (take (suc i) es))
        ≡ (if b then (if a then awaited_of e.message ∷ sent (take i es) else sent (take i es)) ++ awaited_of (get_or es i d).message ∷ [] else (if a then awaited_of e.message ∷ sent (take i es) else sent (take i es)))
    step true true f = ap (λ (l : List Awaited). awaited_of e.message ∷ l) f
    step true false f = ap (λ (l : List Awaited). awaited_of e.message ∷ l) f
    step false true f = f
    step false false f = f

pub next_sent : (es : List Entry) (i : ℕ) (d : Entry) (old new : List Outstanding) → i < length es → old ≡ entries_of (sent (take i es)) → (get_or es i d).unsent ≡ 0
    → new ≡ old ++ entry_of (awaited_of (get_or es i d).message) ∷ [] → new ≡ entries_of (sent (take (i + 1) es))
next_sent es i d old new h e none f =
    rw add-one (rw (sent_more es i d h) (rw (eq-eqb (get_or es i d).unsent 0 none) (rw (entries_more (sent (take i es)) (awaited_of (get_or es i d).message)) (rw (← e) f))))

pub next_unsent : (es : List Entry) (i : ℕ) (d : Entry) (old : List Outstanding) → i < length es → old ≡ entries_of (sent (take i es)) → ((get_or es i d).unsent ≡ 0 → ⊥)
    → old ≡ entries_of (sent (take (i + 1) es))
next_unsent es i d old h e some = rw add-one (rw (sent_more es i d h) (rw (differ (get_or es i d).unsent 0 some) e))

pub short_at : (es : List Entry) (i : ℕ) (d : Entry) → i < length es → AreShort (entries_of (awaited es)) → IsShort (entry_of (awaited_of (get_or es i d).message))
short_at [] i d h s = absurd (omega (arith, h))
short_at (e ∷ es) zero d h s = s.0
short_at (e ∷ es) (suc i) d h s = short_at es i d (omega (arith, h)) s.1

pub number_is : (m : Unanswered) → wire.number_of (awaited_of m) ≡ number_of m
number_is (Submit seqnum dir size) = refl
number_is (Unlink seqnum target) = refl

rising_at : (a below : ℕ) (es : List Entry) (i : ℕ) (d : Entry) → i < length es → AreRising a below (awaited es) → a ≤ number_of (get_or es i d).message
rising_at a below [] i d h r = absurd (omega (arith, h))
rising_at a below (e ∷ es) zero d h r = omega (arith, number_is e.message, r.0)
rising_at a below (e ∷ es) (suc i) d h r = omega (arith, r.0, rising_at (wire.number_of (awaited_of e.message) + 1) below es i d (omega (arith, h)) r.2)

pub new_at : (a below : ℕ) (es : List Entry) (i : ℕ) (d : Entry) → i < length es → AreRising a below (awaited es)
    → find (number_of (get_or es i d).message) (entries_of (sent (take i es))) ≡ None
new_at a below [] i d h r = absurd (omega (arith, h))
new_at a below (e ∷ es) zero d h r = refl
new_at a below (e ∷ es) (suc i) d h r = step (e.unsent == 0) (new_at (wire.number_of (awaited_of e.message) + 1) below es i d (omega (arith, h)) r.2)
  where
    n : ℕ
    n = number_of (get_or es i d).message

    more : wire.number_of (awaited_of e.message) + 1 ≤ n
    more = rising_at (wire.number_of (awaited_of e.message) + 1) below es i d (omega (arith, h)) r.2

    other : (m : Unanswered) → wire.number_of (awaited_of m) + 1 ≤ n → (dirs.number_of (entry_of (awaited_of m)) == n) ≡ false
    other (Submit seqnum dir size) g = differ seqnum n (λ f. omega (arith, f, g))
    other (Unlink seqnum target) g = differ seqnum n (λ f. omega (arith, f, g))

    step : (b : Bool) → find n (entries_of (sent (take i es))) ≡ None → find n (entries_of (if b then awaited_of e.message ∷ sent (take i es) else sent (take i es))) ≡ None
    step true f = skipped n (entry_of (awaited_of e.message)) (entries_of (sent (take i es))) (other e.message more) ∙ f
    step false f = f
