-- bytes that go from a list to another in pieces
use Rattle.std.proofs.Common.{◌≡◌, ℕ, ◌+◌, ◌≤◌, List, ◌++◌, length, take, drop, Option, Some, None, refl, sym, ap, ◌∙◌, append_assoc, append-nil, take-add}
use Rattle.std.proofs.lemmas.List.{take-append-drop, take_at, drop-drop, length-take-le}
use Rattle.tmc_base.specs.Sink.{PutsFront, put_after}

-- a copy of the first n bytes of what is left is what leaves
pub left-copied : (all left buf copied : List ℕ) (at n : ℕ) → left ≡ drop at all → copied ≡ take n left → n ≤ length left → left ≡ take n (copied ++ buf) ++ drop (at + n) all
left-copied all left buf copied at n begins copy fits =
    let size : length copied ≡ n = ap length copy ∙ length-take-le n left fits in
    sym (ap (λ xs. xs ++ drop (at + n) all) (take_at copied buf n size ∙ copy)
    ∙ (ap (λ xs. take n left ++ xs) (sym (drop-drop n at all) ∙ ap (drop n) (sym begins)) ∙ take-append-drop n left))

-- what a sink was given before the first piece
pub put_none : (old : Option (List ℕ)) (bytes : List ℕ) → old ≡ put_after (take 0 bytes) old
put_none None bytes = refl
put_none (Some put) bytes = ap (λ xs. Some xs) (sym (append-nil put))

-- what a sink was given, after two pieces of one text
pub put_further : (old mid new : Option (List ℕ)) (bytes : List ℕ) (at n : ℕ) → mid ≡ put_after (take at bytes) old → new ≡ put_after (take n (drop at bytes)) mid → new ≡ put_after (take (at + n) bytes) old
put_further None mid new bytes at n e f = f ∙ ap (put_after (take n (drop at bytes))) e
put_further (Some put) mid new bytes at n e f =
    f ∙ (ap (put_after (take n (drop at bytes))) e
    ∙ ap (λ xs. Some xs) (append_assoc put (take at bytes) (take n (drop at bytes)) ∙ ap (λ xs. put ++ xs) (sym (take-add at n bytes))))

-- the front of a text that a sink was given
pub front_put : (old new : Option (List ℕ)) (bytes : List ℕ) (at : ℕ) → new ≡ put_after (take at bytes) old → PutsFront bytes old new
front_put old new bytes at e = record {
  front = take at bytes;
  rest = drop at bytes;
  cut = sym (take-append-drop at bytes);
  put = e;
}

-- the front of a buffer into which the first n bytes of what is left were copied
pub front-copied : (left buf copied : List ℕ) (n : ℕ) → copied ≡ take n left → n ≤ length left → take n (copied ++ buf) ≡ take n left
front-copied left buf copied n copy fits = take_at copied buf n (ap length copy ∙ length-take-le n left fits) ∙ copy
