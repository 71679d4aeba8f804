-- the header of a submit, whose length is set when it was written
use Rattle.std.proofs.Common.{◌≡◌, ℕ, zero, suc, ◌+◌, ◌<◌, ◌^◌, List, [], ◌++◌, length, take, drop, refl, sym, ◌∙◌, ap, arith, append_assoc, length-append, lit<}
use Rattle.std.specs.Int.{w32, to_be_bytes}
use Rattle.std.proofs.lemmas.List.{length-take-le, take-append-le, take_all, append-nil, length-drop}
use Rattle.std.proofs.lemmas.List.Edits.{paste_all}
use Rattle.std.proofs.lemmas.Slice.{put_mid-paste}
use Rattle.std.proofs.Math.Seq.{drop-append-add, take-append-add}
use borrow.Rule.Slice.PartMut.{put_mid}
use Rattle.usbip_wire.specs.declared.submit.SubmitHead.{SubmitHead}
use Rattle.usbip_wire.specs.Submit.{Rest, submit_bytes, submit_words, unused}
use Rattle.usbip_wire.specs.Urb.{AreWide, fields}

-- ---- the four bytes that are set

pub length_set : (head : SubmitHead)
    → take 24 (submit_bytes (record head { length = 0 }) unused []) ++ (to_be_bytes w32 head.length ++ drop 28 (submit_bytes (record head { length = 0 }) unused [])) ≡ submit_bytes head unused []
unfolding submit_bytes fields
length_set head = refl

pub data_behind : (head : SubmitHead) (transferred : List ℕ) → submit_bytes head unused transferred ≡ submit_bytes head unused [] ++ transferred
unfolding submit_bytes fields
data_behind head transferred = ap (λ (l : List ℕ). fields (submit_words head unused) ++ l) (ap (λ (l : List ℕ). l ++ transferred) (sym (append-nil head.setup))) ∙ sym (append_assoc (fields (submit_words head unused)) (head.setup ++ []) transferred)

pub wide_set : (head : SubmitHead) (rest : Rest) → head.length < 2 ^ 32 → AreWide (submit_words (record head { length = 0 }) rest) → AreWide (submit_words head unused)
wide_set head rest h wide zero = lit< tt
wide_set head rest h wide (suc zero) = wide 1
wide_set head rest h wide (suc (suc zero)) = wide 2
wide_set head rest h wide (suc (suc (suc zero))) = wide 3
wide_set head rest h wide (suc (suc (suc (suc zero)))) = wide 4
wide_set head rest h wide (suc (suc (suc (suc (suc zero))))) = lit< tt
wide_set head rest h wide (suc (suc (suc (suc (suc (suc zero)))))) = h
wide_set head rest h wide (suc (suc (suc (suc (suc (suc (suc zero))))))) = lit< tt
wide_set head rest h wide (suc (suc (suc (suc (suc (suc (suc (suc zero)))))))) = lit< tt
wide_set head rest h wide (suc (suc (suc (suc (suc (suc (suc (suc (suc zero))))))))) = lit< tt
wide_set head rest h wide (suc (suc (suc (suc (suc (suc (suc (suc (suc (suc n)))))))))) = lit< tt

-- ---- in the buffer

module _ (old x size copy items now : List ℕ) (at k : ℕ) (whole : items ≡ old ++ x) (same : now ≡ items) (place : at ≡ length old) (long : length x ≡ 48) (four : length size ≡ 4) (copied : copy ≡ size) (part : k ≡ 4) where
  set_length : length (old ++ (take 24 x ++ (size ++ drop 28 x))) ≡ length items
  set_length =
      let all : length items ≡ length (old ++ x) = ap (λ (l : List ℕ). length l) whole in
      omega (arith, all, length-append old x, length-append old (take 24 x ++ (size ++ drop 28 x)), length-append (take 24 x) (size ++ drop 28 x), length-append size (drop 28 x), length-take-le 24 x (omega (arith, long)), length-drop 28 x, long, four)

  written : put_mid (at + 24) k now copy ≡ old ++ (take 24 x ++ (size ++ drop 28 x))
  written =
      put_mid-paste (at + 24) k now copy size 4 copied (sym part) (sym four)
      ∙ (paste_all now (at + 24) size 4 (sym four)
      ∙ (ap (λ (l : List ℕ). take (at + 24) l ++ (size ++ drop (at + 24 + 4) l)) (same ∙ whole)
      ∙ (ap (λ (n : ℕ). take (n + 24) (old ++ x) ++ (size ++ drop (n + 24 + 4) (old ++ x))) place
      ∙ (ap (λ (l : List ℕ). l ++ (size ++ drop (length old + 24 + 4) (old ++ x))) (take-append-add old x 24)
      ∙ (ap (λ (n : ℕ). (old ++ take 24 x) ++ (size ++ drop n (old ++ x))) later
      ∙ (ap (λ (l : List ℕ). (old ++ take 24 x) ++ (size ++ l)) (drop-append-add old x 28)
      ∙ append_assoc old (take 24 x) (size ++ drop 28 x)))))))
    where
      later : length old + 24 + 4 ≡ length old + 28
      later = omega arith

  pub put_back : take (length items) (put_mid (at + 24) k now copy ++ drop (length (put_mid (at + 24) k now copy)) items) ≡ old ++ (take 24 x ++ (size ++ drop 28 x))
  put_back =
      ap (λ (l : List ℕ). take (length items) (l ++ drop (length l) items)) written
      ∙ (take-append-le (length items) (old ++ (take 24 x ++ (size ++ drop 28 x))) (drop (length (old ++ (take 24 x ++ (size ++ drop 28 x)))) items) (omega (arith, set_length))
      ∙ take_all (length items) (old ++ (take 24 x ++ (size ++ drop 28 x))) (omega (arith, set_length)))
