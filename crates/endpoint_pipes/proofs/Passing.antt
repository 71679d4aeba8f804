-- bytes are taken from a submit, or given to it
use Rattle.std.proofs.Common.{◌≡◌, ◌∙◌, ℕ, ◌+◌, ◌-◌, min, List, ◌++◌, length, take, drop, false, ap, sym, arith}
use Rattle.std.proofs.lemmas.List.{take_min, drop_min, drop-drop, drop-take, take-take, take-append-drop, length-drop}
use Rattle.usbip_wire.specs.declared.submit.SubmitHead.{SubmitHead}
use Rattle.tmc_law.specs.State.{Pending}

-- the first bytes of a list, and the next
take_both : (xs : List ℕ) (i n : ℕ) → take (i + n) xs ≡ take i xs ++ take n (drop i xs)
take_both xs i n =
    sym (take-append-drop i (take (i + n) xs)) ∙ ap (λ (l : List ℕ). l ++ drop i (take (i + n) xs)) (take-take i (i + n) xs (omega arith))
    ∙ ap (λ (l : List ℕ). take i xs ++ l) (drop-take i n xs)

pub passed : (head : SubmitHead) (bytes : List ℕ) (i n k : ℕ) → k ≡ min n (length bytes - i)
    → (let p : Pending = record { head = head; left = drop (i + k) bytes; moved = take (i + k) bytes; polled = false } in p)
    ≡ record { head = head; left = drop n (drop i bytes); moved = take i bytes ++ take n (drop i bytes); polled = false }
passed head bytes i n k least =
    let size : k ≡ min n (length (drop i bytes)) = least ∙ ap (λ (m : ℕ). min n m) (sym (length-drop i bytes)) in
    let left : drop (i + k) bytes ≡ drop n (drop i bytes) = sym (drop-drop k i bytes) ∙ ap (λ (m : ℕ). drop m (drop i bytes)) size ∙ drop_min n (drop i bytes) in
    let moved : take (i + k) bytes ≡ take i bytes ++ take n (drop i bytes) =
    take_both bytes i k ∙ ap (λ (m : ℕ). take i bytes ++ take m (drop i bytes)) size ∙ ap (λ (l : List ℕ). take i bytes ++ l) (take_min n (drop i bytes)) in
    ap (λ (l : List ℕ). record { head = head; left = l; moved = take (i + k) bytes; polled = false }) left
    ∙ ap (λ (l : List ℕ). record { head = head; left = drop n (drop i bytes); moved = l; polled = false }) moved
