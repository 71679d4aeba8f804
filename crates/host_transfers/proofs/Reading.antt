-- a transfer as far as its reads came
use Rattle.std.proofs.Common.{◌≡◌, ◌⊎◌, inl, inr, ℕ, zero, suc, ◌+◌, ◌-◌, ◌<◌, ◌≤◌, min, Bool, List, [], ◌∷◌, ◌++◌, length, take, drop, replicate, refl, sym, subst, ◌∙◌, ap, arith, append_assoc, length-append, length-drop}
use Rattle.std.specs.List.{slice_range}
use Rattle.std.proofs.lemmas.Bool.{cases_lt}
use Rattle.std.proofs.lemmas.List.{append-nil, drop-append-le, length-replicate, length-take, length-take-le, take_all, take_min, take-append-drop, take-append-le}
use Rattle.std.proofs.Math.ListN.{drop_of_length-le}
use Rattle.std.proofs.Math.Seq.{drop-append-add, take-append-add}
use Rattle.tmc_wire.specs.declared.header.InHeader.{InHeader}
use Rattle.tmc_wire.specs.Header.{IsInHeader, prefix, sized}
use Rattle.tmc_wire.specs.HeaderFault.{TransferSize}
use Rattle.tmc_wire.specs.Transfer.{InText}
use Rattle.host_transfers.specs.Answer.{Answers, GoesOn, Fits}
use Rattle.host_transfers.specs.Assembly.{Gives, Held, Holds}
use Rattle.host_transfers.specs.Piece.{data_of}
use Rattle.host_transfers.proofs.Transfers.{size_there}

-- ---- lists

pub take_over : (n : ℕ) (xs ys : List ℕ) → length xs ≤ n → take n (xs ++ ys) ≡ xs ++ take (n - length xs) ys
take_over n xs ys h =
    let e : length xs + (n - length xs) ≡ n = omega arith in
    subst (λ (m : ℕ). take m (xs ++ ys) ≡ xs ++ take (n - length xs) ys) e (take-append-add xs ys (n - length xs))

drop_over : (n : ℕ) (xs ys : List ℕ) → length xs ≤ n → drop n (xs ++ ys) ≡ drop (n - length xs) ys
drop_over n xs ys h =
    let e : length xs + (n - length xs) ≡ n = omega arith in
    subst (λ (m : ℕ). drop m (xs ++ ys) ≡ drop (n - length xs) ys) e (drop-append-add xs ys (n - length xs))

-- both take all, or as many
pub take_same : (n m : ℕ) (xs : List ℕ) → min n (length xs) ≡ min m (length xs) → take n xs ≡ take m xs
take_same n m xs e = sym (take_min n xs) ∙ (ap (λ (k : ℕ). take k xs) e ∙ take_min m xs)

take_none : (n : ℕ) → take {A = ℕ} n [] ≡ []
take_none zero = refl
take_none (suc n) = refl

-- ---- the header

-- what is kept of a header is that of all bytes
pub filled : (old bytes self : List ℕ) (n i : ℕ) → length old ≤ 12 → n ≡ min (12 - length old) (length bytes) → self ≡ old ++ take i (take n bytes) → length (take n bytes) ≤ i
    → self ≡ take 12 (old ++ bytes)
filled old bytes self n i few e f all =
    f ∙ (ap (λ (l : List ℕ). old ++ l) (take_all i (take n bytes) all ∙ (ap (λ (k : ℕ). take k bytes) e ∙ take_min (12 - length old) bytes)) ∙ sym (take_over 12 old bytes few))

pub header_more : (head all bytes : List ℕ) → head ≡ take 12 all → take 12 (head ++ bytes) ≡ take 12 (all ++ bytes)
header_more head all bytes e = subst (λ (h : List ℕ). take 12 (h ++ bytes) ≡ take 12 (all ++ bytes)) (sym e) (step (cases_lt (length all) 12))
  where
    step : (length all < 12) ⊎ (12 ≤ length all) → take 12 (take 12 all ++ bytes) ≡ take 12 (all ++ bytes)
    step (inr h) = take_over 12 (take 12 all) bytes (omega (arith, length-take-le 12 all h))
        ∙ (ap (λ (k : ℕ). take 12 all ++ take k bytes) whole ∙ (append-nil (take 12 all) ∙ sym (take-append-le 12 all bytes h)))
      where
        whole : 12 - length (take 12 all) ≡ 0
        whole = omega (arith, length-take-le 12 all h)
    step (inl h) = ap (λ (l : List ℕ). take 12 (l ++ bytes)) (take_all 12 all (omega (arith, h)))

pub head_alone : (bytes : List ℕ) → take 12 (take 12 bytes) ≡ take 12 bytes
head_alone bytes = take_all 12 (take 12 bytes) (omega (arith, length-take 12 bytes))

pub header_length : (header : InHeader) (bytes : List ℕ) → IsInHeader header bytes → length bytes ≡ 12
header_length header bytes h = ap (λ (l : List ℕ). length l) h.layout

pub long : (header : InHeader) (bytes : List ℕ) → IsInHeader header (take 12 bytes) → 12 ≤ length bytes
long header bytes h = step (cases_lt (length bytes) 12)
  where
    step : (length bytes < 12) ⊎ (12 ≤ length bytes) → 12 ≤ length bytes
    step (inr e) = e
    step (inl e) = omega (arith, header_length header (take 12 bytes) h, ap (λ (l : List ℕ). length l) (take_all 12 bytes (omega (arith, e))))

pub size_is : (header : InHeader) (bytes : List ℕ) → IsInHeader header (take 12 bytes) → TransferSize bytes ≡ header.size
size_is header bytes h =
    subst (λ (l : List ℕ). TransferSize l ≡ header.size) (sym whole) (size_there 2 header.tag h.reserved header.size h.attributes h.ninth h.tenth h.eleventh (drop 12 bytes) h.counted.1)
  where
    whole : bytes ≡ (prefix 2 header.tag h.reserved ++ sized header.size h.attributes h.ninth h.tenth h.eleventh) ++ drop 12 bytes
    whole = sym (take-append-drop 12 bytes) ∙ ap (λ (l : List ℕ). l ++ drop 12 bytes) h.layout

pub holds_more : (held : Held) (all read head : List ℕ) (over : Bool) → Holds all held → head ≡ take 12 (held.head ++ read)
    → Holds (all ++ read) (record { tag = held.tag; size = held.size; head = head; count = held.count + length read; over = over })
holds_more held all read head over h e = record {
  header = e ∙ header_more held.head all read h.header;
  counted = omega (arith, h.counted, length-append all read);
}

-- ---- the data of a read

data_at : (bytes : List ℕ) (size : ℕ) → TransferSize bytes ≡ size → data_of bytes ≡ take size (drop 12 bytes)
data_at bytes size e = ap (λ (n : ℕ). take n (drop 12 bytes)) e

no_data : (bytes : List ℕ) → length bytes ≤ 12 → data_of bytes ≡ []
no_data bytes h = ap (λ (l : List ℕ). take (TransferSize bytes) l) (drop_of_length-le bytes h) ∙ take_none (TransferSize bytes)

-- the size is the same where the header was whole already
size_before : (all read : List ℕ) → 12 ≤ length all → TransferSize (all ++ read) ≡ TransferSize all
size_before (a ∷ (b ∷ (c ∷ (d ∷ (e ∷ (f ∷ (g ∷ (h ∷ rest)))))))) read l = refl
size_before [] read l = absurd (omega (arith, l))
size_before (a ∷ []) read l = absurd (omega (arith, l))
size_before (a ∷ (b ∷ [])) read l = absurd (omega (arith, l))
size_before (a ∷ (b ∷ (c ∷ []))) read l = absurd (omega (arith, l))
size_before (a ∷ (b ∷ (c ∷ (d ∷ [])))) read l = absurd (omega (arith, l))
size_before (a ∷ (b ∷ (c ∷ (d ∷ (e ∷ []))))) read l = absurd (omega (arith, l))
size_before (a ∷ (b ∷ (c ∷ (d ∷ (e ∷ (f ∷ [])))))) read l = absurd (omega (arith, l))
size_before (a ∷ (b ∷ (c ∷ (d ∷ (e ∷ (f ∷ (g ∷ []))))))) read l = absurd (omega (arith, l))

-- a read that leaves the header open has no data
pub gives_none : (all read : List ℕ) → length (all ++ read) < 12 → Gives all read 0 0
gives_none all read h =
    let l = length-append all read in
    record {
      ordered = omega arith;
      within = omega arith;
      added = no_data (all ++ read) (omega (arith, h)) ∙ sym (ap (λ (x : List ℕ). x ++ []) (no_data all (omega (arith, h, l))));
    }

take_append : (n : ℕ) (xs ys : List ℕ) → take n (xs ++ ys) ≡ take n xs ++ take (n - length xs) ys
take_append n xs ys = step (cases_lt n (length xs))
  where
    step : (n < length xs) ⊎ (length xs ≤ n) → take n (xs ++ ys) ≡ take n xs ++ take (n - length xs) ys
    step (inr h) = take_over n xs ys h ∙ ap (λ (l : List ℕ). l ++ take (n - length xs) ys) (sym (take_all n xs h))
    step (inl h) =
        let none : n - length xs ≡ 0 = omega (arith, h) in
        take-append-le n xs ys (omega (arith, h)) ∙ (sym (append-nil (take n xs)) ∙ ap (λ (k : ℕ). take n xs ++ take k ys) (sym none))

-- the header was whole before the read
gives_late : (header : InHeader) (all read : List ℕ) (from to : ℕ) → IsInHeader header (take 12 (all ++ read)) → 12 ≤ length all → from ≡ 0
    → min (header.size - (length all - 12)) (length read) ≡ min (to - from) (length read) → data_of (all ++ read) ≡ data_of all ++ slice_range read from to
gives_late header all read from to h whole none same =
    let size = size_is header (all ++ read) h in
    let before = data_at all header.size (sym (size_before all read whole) ∙ size) in
    let length_rest : length (drop 12 all) ≡ length all - 12 = length-drop 12 all in
    data_at (all ++ read) header.size size
    ∙ (ap (λ (l : List ℕ). take header.size l) (drop-append-le 12 all read whole)
    ∙ (take_append header.size (drop 12 all) read
    ∙ (ap (λ (l : List ℕ). l ++ take (header.size - length (drop 12 all)) read) (sym before)
    ∙ ap (λ (l : List ℕ). data_of all ++ l) (ap (λ (k : ℕ). take (header.size - k) read) length_rest
    ∙ (take_same (header.size - (length all - 12)) (to - from) read same ∙ ap (λ (k : ℕ). take (to - from) (drop k read)) (sym none))))))

-- the header ends in the read
gives_early : (header : InHeader) (all read : List ℕ) (from to : ℕ) → IsInHeader header (take 12 (all ++ read)) → length all < 12 → from ≡ 12 - length all
    → min header.size (length read - from) ≡ min (to - from) (length read - from) → data_of (all ++ read) ≡ data_of all ++ slice_range read from to
gives_early header all read from to h cut begins same =
    let size = size_is header (all ++ read) h in
    let rest : length (drop from read) ≡ length read - from = length-drop from read in
    data_at (all ++ read) header.size size
    ∙ (ap (λ (l : List ℕ). take header.size l) (drop_over 12 all read (omega (arith, cut)) ∙ ap (λ (k : ℕ). drop k read) (sym begins))
    ∙ (take_same header.size (to - from) (drop from read) (subst (λ (k : ℕ). min header.size k ≡ min (to - from) k) (sym rest) same)
    ∙ sym (ap (λ (l : List ℕ). l ++ slice_range read from to) (no_data all (omega (arith, cut))))))

pub gives : (header : InHeader) (all read : List ℕ) (before count from to : ℕ) → IsInHeader header (take 12 (all ++ read)) → before ≡ length all → count ≡ length (all ++ read)
    → from ≡ 12 - before → to ≡ min (12 + header.size) count - before → Gives all read from to
gives header all read before count from to h e f begins ends =
    let l : length (all ++ read) ≡ length all + length read = length-append all read in
    let whole : 12 ≤ length (all ++ read) = long header (all ++ read) h in
    let some : 0 < header.size = h.counted.0 in
    record {
      ordered = omega (arith, e, f, l, whole, some, begins, ends);
      within = omega (arith, e, f, l, whole, ends);
      added = step l whole some (cases_lt (length all) 12);
    }
  where
    step : length (all ++ read) ≡ length all + length read → 12 ≤ length (all ++ read) → 0 < header.size → (length all < 12) ⊎ (12 ≤ length all)
        → data_of (all ++ read) ≡ data_of all ++ slice_range read from to
    step l whole some (inr g) = gives_late header all read from to h g (omega (arith, begins, e, g)) (omega (arith, e, f, l, begins, ends, g))
    step l whole some (inl g) = gives_early header all read from to h g (omega (arith, begins, e)) (omega (arith, e, f, l, begins, ends, g, whole))

-- ---- whole transfers

-- what stands behind the header, with bytes that may follow it
module _ (tag size : ℕ) (header : InHeader) (bytes : List ℕ) (fits : Fits tag size bytes header) where
  behind : (more : List ℕ) → header.size ≤ length (drop 12 bytes ++ more) → length (drop 12 bytes ++ more) < header.size + 4
      → InText header (take header.size (drop 12 bytes ++ more)) (bytes ++ more)
  behind more enough few = record {
    head = take 12 bytes;
    alignment = drop header.size (drop 12 bytes ++ more);
    headed = fits.headed;
    counted = length-take-le header.size (drop 12 bytes ++ more) enough;
    least = omega (arith, length-drop header.size (drop 12 bytes ++ more), few);
    layout = ap (λ (l : List ℕ). l ++ more) (sym (take-append-drop 12 bytes)) ∙ (append_assoc (take 12 bytes) (drop 12 bytes) more
        ∙ ap (λ (l : List ℕ). take 12 bytes ++ l) (sym (take-append-drop header.size (drop 12 bytes ++ more))));
  }

  -- a transfer goes on where it is not too long
  pub goes_on : length bytes ≤ 12 + header.size + 3 → GoesOn tag size bytes
  goes_on few =
      let zeros : List ℕ = replicate (header.size - length (drop 12 bytes)) 0 in
      let l = length-append (drop 12 bytes) zeros in
      let z = length-replicate {A = ℕ} (header.size - length (drop 12 bytes)) 0 in
      let d = length-drop 12 bytes in
      record {
        header = header;
        message = take header.size (drop 12 bytes ++ zeros);
        more = zeros;
        answers = record { tagged = fits.tagged; few = fits.few; text = behind zeros (omega (arith, l, z)) (omega (arith, l, z, d, few)) };
      }

  -- it is whole where it is not too short either
  pub is_whole : 12 + header.size ≤ length bytes → length bytes ≤ 12 + header.size + 3 → Answers tag size header (data_of bytes) bytes
  is_whole enough few =
      let d = length-drop 12 bytes in
      let same : drop 12 bytes ++ [] ≡ drop 12 bytes = append-nil (drop 12 bytes) in
      let l : length (drop 12 bytes ++ []) ≡ length (drop 12 bytes) = ap (λ (x : List ℕ). length x) same in
      let text = behind [] (omega (arith, l, d, enough)) (omega (arith, l, d, few)) in
      record {
        tagged = fits.tagged;
        few = fits.few;
        text = subst (λ (x : List ℕ). InText header (data_of bytes) x) (append-nil bytes)
            (subst (λ (x : List ℕ). InText header x (bytes ++ [])) (ap (λ (x : List ℕ). take header.size x) same ∙ sym (data_at bytes header.size (size_is header bytes fits.headed))) text);
      }
