-- pieces of one size, and a last one
use Rattle.std.proofs.Common.{◌≡◌, ℕ, zero, suc, ◌+◌, ◌*◌, ◌<◌, ◌≤◌, ◌⊎◌, inl, inr, List, [], ◌∷◌, ◌++◌, length, take, drop, refl, sym, subst, ◌∙◌, ap, arith, length-append, length-drop}
use Rattle.std.proofs.lemmas.List.{append_cancel_left, length-take-le, take-append-drop}
use Rattle.std.proofs.lemmas.Bool.{cases_lt}
use Rattle.std.proofs.Math.Seq.{take-append_seam}
use Rattle.host_transfers.specs.Cut.{AreCut}

pub long : (size least : ℕ) (pieces : List (List ℕ)) (bytes : List ℕ) → AreCut size least pieces bytes → least ≤ length bytes
long size least [] bytes h = absurd h
long size least (piece ∷ []) bytes (e, l, k) = subst (λ (b : List ℕ). least ≤ length b) (sym e) l
long size least (piece ∷ (next ∷ pieces)) bytes (rest, e, l, h) =
    omega (arith, ap (λ (b : List ℕ). length b) e, length-append piece rest, long size least (next ∷ pieces) rest h)

longer : (size least : ℕ) (piece next : List ℕ) (pieces : List (List ℕ)) (bytes : List ℕ) → AreCut size least (piece ∷ (next ∷ pieces)) bytes → size + least ≤ length bytes
longer size least piece next pieces bytes (rest, e, l, h) =
    omega (arith, ap (λ (b : List ℕ). length b) e, length-append piece rest, l, long size least (next ∷ pieces) rest h)

front : (n : ℕ) (xs ys : List ℕ) → length xs ≡ n → take n (xs ++ ys) ≡ xs
front n xs ys e = subst (λ (m : ℕ). take m (xs ++ ys) ≡ xs) e (take-append_seam xs ys)

pub one_cut : (size least : ℕ) (pieces others : List (List ℕ)) (bytes : List ℕ) → AreCut size least pieces bytes → AreCut size least others bytes → pieces ≡ others
one_cut size least [] others bytes h k = absurd h
one_cut size least (p ∷ []) [] bytes h k = absurd k
one_cut size least (p ∷ (n ∷ ps)) [] bytes h k = absurd k
one_cut size least (p ∷ []) (q ∷ []) bytes h k = ap (λ (x : List ℕ). x ∷ []) (sym h.0 ∙ k.0)
one_cut size least (p ∷ []) (q ∷ (m ∷ qs)) bytes h k = absurd (omega (arith, h.2, ap (λ (b : List ℕ). length b) h.0, longer size least q m qs bytes k))
one_cut size least (p ∷ (n ∷ ps)) (q ∷ []) bytes h k = absurd (omega (arith, k.2, ap (λ (b : List ℕ). length b) k.0, longer size least p n ps bytes h))
one_cut size least (p ∷ (n ∷ ps)) (q ∷ (m ∷ qs)) bytes (r, e, l, h) (s, f, j, k) =
    let same : p ≡ q = sym (front size p r l) ∙ (ap (λ (b : List ℕ). take size b) (sym e ∙ f) ∙ front size q s j) in
    let rest : r ≡ s = append_cancel_left q r s (subst (λ (x : List ℕ). x ++ r ≡ q ++ s) same (sym e ∙ f)) in
    ap (λ (x : List ℕ). x ∷ (n ∷ ps)) same ∙ ap (λ (xs : List (List ℕ)). q ∷ xs) (one_cut size least (n ∷ ps) (m ∷ qs) s (subst (λ (b : List ℕ). AreCut size least (n ∷ ps) b) rest h) k)

abbrev Cut : (size least : ℕ) → List ℕ → Type 0
Cut size least bytes = (pieces : List (List ℕ)) × AreCut size least pieces bytes

onto : (size least : ℕ) (piece bytes rest : List ℕ) → bytes ≡ piece ++ rest → length piece ≡ size → Cut size least rest → Cut size least bytes
onto size least piece bytes rest e l ([], h) = absurd h
onto size least piece bytes rest e l (next ∷ pieces, h) = (piece ∷ (next ∷ pieces), (rest, e, l, h))

cut_within : (fuel size least : ℕ) (bytes : List ℕ) → 1 ≤ size → length bytes < fuel → least ≤ length bytes → Cut size least bytes
cut_within zero size least bytes one h k = absurd (omega (arith, h))
cut_within (suc fuel) size least bytes one h k = step (cut_within fuel size least (drop size bytes) one) (cases_lt (length bytes) (least + size))
  where
    step : (length (drop size bytes) < fuel → least ≤ length (drop size bytes) → Cut size least (drop size bytes))
        → (length bytes < least + size) ⊎ (least + size ≤ length bytes) → Cut size least bytes
    step again (inl l) = (bytes ∷ [], (refl, k, l))
    step again (inr l) =
        onto size least (take size bytes) bytes (drop size bytes) (sym (take-append-drop size bytes)) (length-take-le size bytes (omega (arith, l)))
        (again (omega (arith, length-drop size bytes, h, one, l)) (omega (arith, length-drop size bytes, l)))

pub some_cut : (size least : ℕ) (bytes : List ℕ) → 1 ≤ size → least ≤ length bytes → Cut size least bytes
some_cut size least bytes one k = cut_within (suc (length bytes)) size least bytes one (omega arith) k

-- ---- how many

pub parts_enough : (parts : List (List ℕ)) (m : List ℕ) → AreCut 1024 1 parts m → length m ≤ 1024 * length parts
parts_enough [] m h = absurd h
parts_enough (p ∷ []) m h = omega (arith, ap (λ (b : List ℕ). length b) h.0, h.2)
parts_enough (p ∷ (n ∷ ps)) m (r, e, l, h) = omega (arith, ap (λ (b : List ℕ). length b) e, length-append p r, l, parts_enough (n ∷ ps) r h)

pub parts_few : (parts : List (List ℕ)) (m : List ℕ) → AreCut 1024 1 parts m → 1024 * length parts < length m + 1024
parts_few [] m h = absurd h
parts_few (p ∷ []) m h = omega (arith, ap (λ (b : List ℕ). length b) h.0, h.1)
parts_few (p ∷ (n ∷ ps)) m (r, e, l, h) = omega (arith, ap (λ (b : List ℕ). length b) e, length-append p r, l, parts_few (n ∷ ps) r h)

pub reads_enough : (reads : List (List ℕ)) (m : List ℕ) → AreCut 4096 0 reads m → length m < 4096 * length reads
reads_enough [] m h = absurd h
reads_enough (p ∷ []) m h = omega (arith, ap (λ (b : List ℕ). length b) h.0, h.2)
reads_enough (p ∷ (n ∷ ps)) m (r, e, l, h) = omega (arith, ap (λ (b : List ℕ). length b) e, length-append p r, l, reads_enough (n ∷ ps) r h)

pub reads_few : (reads : List (List ℕ)) (m : List ℕ) → AreCut 4096 0 reads m → 4096 * length reads ≤ length m + 4096
reads_few [] m h = absurd h
reads_few (p ∷ []) m h = omega (arith, ap (λ (b : List ℕ). length b) h.0, h.1)
reads_few (p ∷ (n ∷ ps)) m (r, e, l, h) = omega (arith, ap (λ (b : List ℕ). length b) e, length-append p r, l, reads_few (n ∷ ps) r h)
