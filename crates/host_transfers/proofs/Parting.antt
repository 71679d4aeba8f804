-- the parts of a message by their numbers
use Rattle.std.proofs.Common.{◌≡◌, ℕ, zero, suc, ◌+◌, ◌-◌, ◌*◌, ◌<◌, ◌≤◌, Bool, true, false, Some, List, [], ◌∷◌, ◌++◌, length, take, drop, refl, sym, subst, ◌∙◌, ap, arith, length-append, nat_le}
use Rattle.std.specs.Prelude.{◌==◌}
use Rattle.std.proofs.lemmas.Bool.{leb-true, le-leb, eqb-true, eq-eqb}
use Rattle.std.proofs.lemmas.List.{take_all}
use Rattle.std.proofs.Math.Seq.{drop-append-add}
use Rattle.host_transfers.specs.Cut.{AreParts}
use Rattle.host_transfers.specs.Part.{IsPart}
use Rattle.host_transfers.proofs.Cuts.{long}
use Rattle.host_transfers.proofs.Transfers.{front}

clash : {P : Type 0} → true ≡ false → P
clash e = absurd (apart e)
  where
    apart : true ≡ false → ⊥
    apart h = cc

-- two tests of one fact
same_test : (x y : Bool) → (x ≡ true → y ≡ true) → (y ≡ true → x ≡ true) → x ≡ y
same_test true true f g = refl
same_test true false f g = clash (sym (f refl))
same_test false true f g = clash (sym (g refl))
same_test false false f g = refl

last_one : (text : List ℕ) → length text ≤ 1024 → nat_le (length text) (1024 * (0 + 1)) ≡ (1 == 0 + 1)
last_one text h = le-leb (length text) (1024 * (0 + 1)) (omega (arith, h))

not_last : (a b : ℕ) → 1024 < a → nat_le a (1024 * (0 + 1)) ≡ (suc (suc b) == 0 + 1)
not_last a b h = same_test (nat_le a (1024 * (0 + 1))) (suc (suc b) == 0 + 1) (λ e. absurd (omega (arith, h, leb-true a (1024 * (0 + 1)) e))) (λ e. absurd (omega (arith, eqb-true (suc (suc b)) (0 + 1) e)))

later : (a b k n : ℕ) → a ≡ 1024 + b → nat_le b (1024 * (k + 1)) ≡ (n == k + 1) → nat_le a (1024 * (suc k + 1)) ≡ (suc n == suc k + 1)
later a b k n e same = same_test (nat_le a (1024 * (suc k + 1))) (suc n == suc k + 1) there back
  where
    there : nat_le a (1024 * (suc k + 1)) ≡ true → (suc n == suc k + 1) ≡ true
    there h =
        let small : b ≤ 1024 * (k + 1) = omega (arith, leb-true a (1024 * (suc k + 1)) h, e) in
        let one : (n == k + 1) ≡ true = sym same ∙ le-leb b (1024 * (k + 1)) small in
        eq-eqb (suc n) (suc k + 1) (omega (arith, eqb-true n (k + 1) one))

    back : (suc n == suc k + 1) ≡ true → nat_le a (1024 * (suc k + 1)) ≡ true
    back h =
        let one : (n == k + 1) ≡ true = eq-eqb n (k + 1) (omega (arith, eqb-true (suc n) (suc k + 1) h)) in
        let small : b ≤ 1024 * (k + 1) = leb-true b (1024 * (k + 1)) (same ∙ one) in
        le-leb a (1024 * (suc k + 1)) (omega (arith, small, e))

pub same_le : (a b d : ℕ) → d ≡ b + 1024 → b < a → nat_le (a - b) 1024 ≡ nat_le a d
same_le a b d e h =
    same_test (nat_le (a - b) 1024) (nat_le a d) (λ t. le-leb a d (omega (arith, e, leb-true (a - b) 1024 t))) (λ t. le-leb (a - b) 1024 (omega (arith, e, h, leb-true a d t)))

pub is_part : (parts : List (List ℕ)) (message : List ℕ) (count : ℕ) → AreParts parts message → 1024 * count < length message
    → IsPart parts count (take 1024 (drop (1024 * count) message)) (nat_le (length message) (1024 * (count + 1)))
is_part [] message count cut there = absurd cut
is_part (p ∷ []) message zero cut there = record {
  here = ap Some (sym (ap (λ (l : List ℕ). take 1024 l) cut.0 ∙ take_all 1024 p (omega (arith, cut.2))));
  last = subst (λ (l : List ℕ). nat_le (length l) (1024 * (0 + 1)) ≡ (1 == 0 + 1)) (sym cut.0) (last_one p (omega (arith, cut.2)));
}
is_part (p ∷ []) message (suc k) cut there = absurd (omega (arith, there, ap (λ (l : List ℕ). length l) cut.0, cut.2))
is_part (p ∷ (n ∷ ps)) message zero (rest, e, l, cut) there =
    let whole : length message ≡ length (p ++ rest) = ap (λ (x : List ℕ). length x) e in
    record {
      here = ap Some (sym (ap (λ (x : List ℕ). take 1024 x) e ∙ front 1024 p rest l));
      last = not_last (length message) (length ps) (omega (arith, whole, length-append p rest, l, long 1024 1 (n ∷ ps) rest cut));
    }
is_part (p ∷ (n ∷ ps)) message (suc k) (rest, e, l, cut) there =
    let whole : length message ≡ length (p ++ rest) = ap (λ (x : List ℕ). length x) e in
    let sum = length-append p rest in
    let again = is_part (n ∷ ps) rest k cut (omega (arith, whole, sum, l, there)) in
    let behind : length p + 1024 * k ≡ 1024 * suc k = omega (arith, l) in
    let same : drop (1024 * suc k) message ≡ drop (1024 * k) rest =
    ap (λ (x : List ℕ). drop (1024 * suc k) x) e ∙ (ap (λ (i : ℕ). drop i (p ++ rest)) (sym behind) ∙ drop-append-add p rest (1024 * k)) in
    record {
      here = again.here ∙ ap Some (sym (ap (λ (x : List ℕ). take 1024 x) same));
      last = later (length message) (length rest) k (length (n ∷ ps)) (omega (arith, whole, sum, l)) again.last;
    }
