-- a word without an upper-case letter that decodes is what is written of its bytes, and with one it is no HEX
use Rattle.std.proofs.Common.{◌≡◌, ℕ, zero, suc, ◌+◌, ◌-◌, ◌*◌, ◌/◌, ◌%◌, ◌<◌, ◌≤◌, Bool, true, false, cond, leb, ◌&&◌, ◌||◌, Option, Some, None, Result, Ok, Err, List, [], ◌∷◌, length, codes, slice_index, ◌==◌, ◌++◌, take, drop, replicate, length-drop, append-nil, length-append, refl, sym, ap, ◌∙◌, arith}
use Rattle.std.proofs.Math.ListN.{drop_of_length-le}
use Rattle.std.proofs.Math.Seq.{take-append_seam}
use Rattle.std.proofs.lemmas.List.{take_all, length-replicate}
use Rattle.std.proofs.lemmas.Bool.{eqb-true}
use Rattle.std.proofs.lemmas.Slice.Eq.{bytes_eq-Decides}
use Rattle.std.specs.Char.{is_ascii_uppercase}
use Rattle.std.specs.Prelude.{MatchResult}
use Rattle.std.specs.List.{list_any}
use Rattle.std.specs.Str.{bytes_eq}
use Rattle.hex.specs.Hex.{decode_of, decode_pairs, decode_sized, digit_or_error, hex_digit_value, encode_lower, encode_with, lower_digits, value_at, ◌>>=◌}
use Rattle.hex.specs.declared.error.FromHexError.{FromHexError}
use Rattle.hex.specs.declared.error.FromHexError.TheVariants.{OddLength, InvalidStringLength}
use Rattle.tmc_base.specs.declared.memory.Memory.{Memory}
use Rattle.event_text.specs.Read.{Decoded, HexRead}
use Rattle.event_text.specs.Words.{bytes_of, if_written, hex_word}
use Rattle.event_text.proofs.Hexes.{bytes_was}

-- ---- no upper-case letter is written

plain_digit : (d : ℕ) → is_ascii_uppercase (slice_index lower_digits d) ≡ false
plain_digit zero = refl
plain_digit (suc zero) = refl
plain_digit (suc (suc zero)) = refl
plain_digit (suc (suc (suc zero))) = refl
plain_digit (suc (suc (suc (suc zero)))) = refl
plain_digit (suc (suc (suc (suc (suc zero))))) = refl
plain_digit (suc (suc (suc (suc (suc (suc zero)))))) = refl
plain_digit (suc (suc (suc (suc (suc (suc (suc zero))))))) = refl
plain_digit (suc (suc (suc (suc (suc (suc (suc (suc zero)))))))) = refl
plain_digit (suc (suc (suc (suc (suc (suc (suc (suc (suc zero))))))))) = refl
plain_digit (suc (suc (suc (suc (suc (suc (suc (suc (suc (suc zero)))))))))) = refl
plain_digit (suc (suc (suc (suc (suc (suc (suc (suc (suc (suc (suc zero))))))))))) = refl
plain_digit (suc (suc (suc (suc (suc (suc (suc (suc (suc (suc (suc (suc zero)))))))))))) = refl
plain_digit (suc (suc (suc (suc (suc (suc (suc (suc (suc (suc (suc (suc (suc zero))))))))))))) = refl
plain_digit (suc (suc (suc (suc (suc (suc (suc (suc (suc (suc (suc (suc (suc (suc zero)))))))))))))) = refl
plain_digit (suc (suc (suc (suc (suc (suc (suc (suc (suc (suc (suc (suc (suc (suc (suc zero))))))))))))))) = refl
plain_digit (suc (suc (suc (suc (suc (suc (suc (suc (suc (suc (suc (suc (suc (suc (suc (suc d)))))))))))))))) = refl

plain_text : (bytes : List ℕ) → list_any is_ascii_uppercase (encode_lower bytes) ≡ false
unfolding encode_with
plain_text [] = refl
plain_text (b ∷ bytes) = rw (plain_digit (b / 16), plain_digit (b % 16)) (plain_text bytes)

plain_word : (bytes : List ℕ) → list_any is_ascii_uppercase (hex_word bytes) ≡ false
plain_word [] = refl
plain_word (b ∷ bytes) = plain_text (b ∷ bytes)

upper_by : (word : List ℕ) (o : Option (List ℕ)) → bytes_of word ≡ o → list_any is_ascii_uppercase word ≡ true → o ≡ None
upper_by word None e upper = refl
upper_by word (Some bytes) e upper =
    let plain : list_any is_ascii_uppercase word ≡ false = rw (bytes_was word bytes e) (plain_word bytes) in
    absurd (clash (sym upper ∙ plain))
  where
    clash : true ≡ false → ⊥
    clash e = cc

-- a word with an upper-case letter is no HEX
pub upper_none : (word : List ℕ) → list_any is_ascii_uppercase word ≡ true → bytes_of word ≡ None
upper_none word upper = upper_by word (bytes_of word) refl upper

-- no bytes are written as nothing
pub empty_none : (word : List ℕ) → word ≡ [] → bytes_of word ≡ None
unfolding decode_pairs
empty_none word e = rw e refl

-- ---- a digit that is no upper-case letter is the one of its value

letter : (k : ℕ) → k < 6 → slice_index lower_digits (10 + k) ≡ 97 + k
letter zero h = refl
letter (suc zero) h = refl
letter (suc (suc zero)) h = refl
letter (suc (suc (suc zero))) h = refl
letter (suc (suc (suc (suc zero)))) h = refl
letter (suc (suc (suc (suc (suc zero))))) h = refl
letter (suc (suc (suc (suc (suc (suc k)))))) h = absurd (omega (arith, h))

figure : (k : ℕ) → k < 10 → slice_index lower_digits k ≡ 48 + k
figure zero h = refl
figure (suc zero) h = refl
figure (suc (suc zero)) h = refl
figure (suc (suc (suc zero))) h = refl
figure (suc (suc (suc (suc zero)))) h = refl
figure (suc (suc (suc (suc (suc zero))))) h = refl
figure (suc (suc (suc (suc (suc (suc zero)))))) h = refl
figure (suc (suc (suc (suc (suc (suc (suc zero))))))) h = refl
figure (suc (suc (suc (suc (suc (suc (suc (suc zero)))))))) h = refl
figure (suc (suc (suc (suc (suc (suc (suc (suc (suc zero))))))))) h = refl
figure (suc (suc (suc (suc (suc (suc (suc (suc (suc (suc k)))))))))) h = absurd (omega (arith, h))

record IsDigit (c v : ℕ) : Type 0 where
  small : v < 16
  back : slice_index lower_digits v ≡ c

letter_of : (c v : ℕ) → 97 ≤ c → c ≤ 102 → c - 87 ≡ v → IsDigit c v
letter_of c v low high e =
    let place : v ≡ 10 + (c - 97) = omega (arith, low, e) in
    let there : 97 + (c - 97) ≡ c = omega (arith, low) in
    record { small = omega (arith, low, high, e); back = ap (slice_index lower_digits) place ∙ (letter (c - 97) (omega (arith, low, high)) ∙ there) }

figure_of : (c v : ℕ) → 48 ≤ c → c ≤ 57 → c - 48 ≡ v → IsDigit c v
figure_of c v low high e =
    let there : 48 + v ≡ c = omega (arith, low, e) in
    record { small = omega (arith, low, high, e); back = figure v (omega (arith, low, high, e)) ∙ there }

some_one : (x y : ℕ) → Some x ≡ Some y → x ≡ y
some_one x y e = cc

digit_by : (c v : ℕ) (a b d : Bool) → (leb 65 c && leb c 70) ≡ a → (leb 97 c && leb c 102) ≡ b → (leb 48 c && leb c 57) ≡ d → is_ascii_uppercase c ≡ false
    → cond a (Some (c - 55)) (cond b (Some (c - 87)) (cond d (Some (c - 48)) None)) ≡ Some v → IsDigit c v
digit_by c v true b d ea eb ed plain e = absurd (grind (arith, ea, plain))
digit_by c v false true d ea eb ed plain e = grind (arith, letter_of c v, some_one (c - 87) v e, eb)
digit_by c v false false true ea eb ed plain e = grind (arith, figure_of c v, some_one (c - 48) v e, ed)
digit_by c v false false false ea eb ed plain e = absurd (clash e)
  where
    clash : None ≡ Some v → ⊥
    clash e = cc

digit_back : (c v : ℕ) → is_ascii_uppercase c ≡ false → hex_digit_value c ≡ Some v → IsDigit c v
digit_back c v plain e = digit_by c v _ _ _ refl refl refl plain e

value_some : (c i v : ℕ) (o : Option ℕ) → digit_or_error c i o ≡ Ok v → o ≡ Some v
value_some c i v (Some x) e = cc
value_some c i v None e = absurd (clash e)
  where
    clash : digit_or_error c i None ≡ Ok v → ⊥
    clash e = cc

-- ---- words

or_parts : (a b : Bool) → (a || b) ≡ false → (a ≡ false) × (b ≡ false)
or_parts true b e = absurd (clash e)
  where
    clash : true ≡ false → ⊥
    clash e = cc
or_parts false b e = (refl, e)

record Taken (high low i : ℕ) (rest : List ℕ) (bytes : List ℕ) : Type 0 where
  first : ℕ
  second : ℕ
  more : List ℕ
  high_is : value_at high i ≡ Ok first
  low_is : value_at low (i + 1) ≡ Ok second
  rest_is : decode_pairs (i + 2) rest ≡ Ok more
  made : (first * 16 + second) ∷ more ≡ bytes

taken_by : (high low i : ℕ) (rest bytes : List ℕ) (a b : Result ℕ FromHexError) (r : Result (List ℕ) FromHexError)
    → value_at high i ≡ a → value_at low (i + 1) ≡ b → decode_pairs (i + 2) rest ≡ r
    → ((a >>= (λ h. b >>= (λ l. Ok (h * 16 + l)))) >>= (λ byte. r >>= (λ more. Ok (byte ∷ more)))) ≡ Ok bytes → Taken high low i rest bytes
taken_by high low i rest bytes (Ok h) (Ok l) (Ok more) ea eb er e = record {
  first = h;
  second = l;
  more = more;
  high_is = ea;
  low_is = eb;
  rest_is = er;
  made = cc;
}
taken_by high low i rest bytes (Ok h) (Ok l) (Err f) ea eb er e = absurd (clash e)
  where
    clash : Err f ≡ Ok bytes → ⊥
    clash e = cc
taken_by high low i rest bytes (Ok h) (Err f) r ea eb er e = absurd (clash e)
  where
    clash : Err f ≡ Ok bytes → ⊥
    clash e = cc
taken_by high low i rest bytes (Err f) b r ea eb er e = absurd (clash e)
  where
    clash : Err f ≡ Ok bytes → ⊥
    clash e = cc

pairs : (i : ℕ) (word bytes : List ℕ) → list_any is_ascii_uppercase word ≡ false → decode_pairs i word ≡ Ok bytes → word ≡ encode_lower bytes
unfolding decode_pairs encode_with
pairs i [] bytes plain e = cc
pairs i (c ∷ []) bytes plain e = absurd (cc e)
pairs i (high ∷ low ∷ rest) bytes plain e =
    let t = taken_by high low i rest bytes (value_at high i) (value_at low (i + 1)) (decode_pairs (i + 2) rest) refl refl refl e in
    let p = or_parts (is_ascii_uppercase high) _ plain in
    let q = or_parts (is_ascii_uppercase low) _ p.1 in
    let h = digit_back high t.first p.0 (value_some high i t.first (hex_digit_value high) t.high_is) in
    let l = digit_back low t.second q.0 (value_some low (i + 1) t.second (hex_digit_value low) t.low_is) in
    let more = pairs (i + 2) rest t.more q.1 t.rest_is in
    let upper : (t.first * 16 + t.second) / 16 ≡ t.first = omega (arith, h.small, l.small) in
    let lower : (t.first * 16 + t.second) % 16 ≡ t.second = omega (arith, h.small, l.small) in
    rw (sym t.made, upper, lower, h.back, l.back) (ap (λ (z : List ℕ). high ∷ low ∷ z) more)

odd_by : {A : Type 0} (f : FromHexError) (r : Result A FromHexError) (x : A) (b : Bool) → cond b (Err f) r ≡ Ok x → r ≡ Ok x
odd_by {A} f r x true e = absurd (clash e)
  where
    clash : Err f ≡ Ok x → ⊥
    clash e = cc
odd_by {A} f r x false e = e

written_by : (word bytes : List ℕ) → word ≡ hex_word bytes → bytes_eq word (codes "-") ≡ false → decode_of word ≡ Ok bytes → bytes_of word ≡ Some bytes
written_by word bytes e dash decoded =
    let same : bytes_eq (hex_word bytes) word ≡ true = (bytes_eq-Decides (hex_word bytes) word).1 (sym e) in
    rw (dash, decoded, same) refl

longer : (word bytes : List ℕ) → word ≡ encode_lower bytes → (word ≡ [] → ⊥) → word ≡ hex_word bytes
unfolding encode_with
longer word [] e some = absurd (some e)
longer word (b ∷ bytes) e some = e

-- a word of digits without an upper-case letter is HEX of the bytes that it decodes to
pub lower_some : (word bytes : List ℕ) → bytes_eq word (codes "-") ≡ false → (word ≡ [] → ⊥) → list_any is_ascii_uppercase word ≡ false → decode_of word ≡ Ok bytes
    → bytes_of word ≡ Some bytes
lower_some word bytes dash some plain decoded =
    written_by word bytes (longer word bytes (pairs 0 word bytes plain (odd_by _ (decode_pairs 0 word) bytes _ decoded)) some) dash decoded

none_by : (word : List ℕ) (r : Result (List ℕ) FromHexError) → decode_of word ≡ r → ((bytes : List ℕ) → r ≡ Ok bytes → ⊥) → if_written word r ≡ None
none_by word (Ok bytes) e none = absurd (none bytes refl)
none_by word (Err f) e none = refl

-- a word that does not decode is no HEX
pub other_none : (word : List ℕ) → bytes_eq word (codes "-") ≡ false → ((bytes : List ℕ) → decode_of word ≡ Ok bytes → ⊥) → bytes_of word ≡ None
other_none word dash none = rw dash (none_by word (decode_of word) refl none)

sized_by : (word : List ℕ) (r : Result (List ℕ) FromHexError) (n : ℕ) (b : Bool) → (length word % 2 == 1) ≡ b → n ≡ length word / 2
    → cond b (Err OddLength) (cond (length word / 2 == n) r (Err InvalidStringLength)) ≡ cond b (Err OddLength) r
sized_by word r n true e half = refl
sized_by word r n false e half = grind (arith, half)

-- decoding into the right room is decoding
pub sized : (word : List ℕ) (n : ℕ) → n ≡ length word / 2 → decode_sized word n ≡ decode_of word
sized word n half = sized_by word (decode_pairs 0 word) n _ refl half

-- ---- the room behind a text

pub filled : (old room digits behind other : List ℕ) (start all : ℕ) → take start room ≡ old → all ≡ length old + length digits → behind ≡ []
    → take all ((take start room ++ (digits ++ behind)) ++ other) ≡ old ++ digits
filled old room digits behind other start all front full none =
    let same : (take start room ++ (digits ++ behind)) ++ other ≡ (old ++ digits) ++ other =
    ap (λ (z : List ℕ). (z ++ (digits ++ behind)) ++ other) front
    ∙ (ap (λ (z : List ℕ). (old ++ (digits ++ z)) ++ other) none ∙ ap (λ (z : List ℕ). (old ++ z) ++ other) (append-nil digits)) in
    let long : all ≡ length (old ++ digits) = omega (arith, full, length-append old digits) in
    ap (take all) same ∙ (ap (λ (n : ℕ). take n ((old ++ digits) ++ other)) long ∙ take-append_seam (old ++ digits) other)

pub decoded_as : (sized : Result (List ℕ) FromHexError) (result : Result Unit FromHexError) (new : List ℕ)
    → MatchResult sized (λ bytes. (result ≡ Ok tt) × (new ≡ bytes)) (λ fault. result ≡ Err fault) → result ≡ Ok tt → sized ≡ Ok new
decoded_as (Ok bytes) result new p ok = ap (λ (z : List ℕ). Ok z) (sym p.1)
decoded_as (Err fault) result new p ok = absurd (cc (sym p ∙ ok))

-- what was there stands in front of the room
pub room_front : (old room : List ℕ) (start all more : ℕ) → start ≡ length old → room ≡ take all old ++ replicate more 0 → start ≤ all → take start room ≡ old
room_front old room start all more place made within =
    let same : take all old ≡ old = take_all all old (omega (arith, place, within)) in
    ap (take start) (made ∙ ap (λ (z : List ℕ). z ++ replicate more 0) same)
    ∙ (ap (λ (n : ℕ). take n (old ++ replicate more 0)) place ∙ take-append_seam old (replicate more 0))

pub room_length : (old room : List ℕ) (all more : ℕ) → room ≡ take all old ++ replicate more 0 → length old ≤ all → more ≡ all - length old → length room ≡ all
room_length old room all more made within rest =
    let same : take all old ≡ old = take_all all old within in
    let long : length room ≡ length (old ++ replicate more 0) = ap length (made ∙ ap (λ (z : List ℕ). z ++ replicate more 0) same) in
    omega (arith, long, length-append old (replicate more 0), length-replicate {A = ℕ} more 0, rest, within)

pub none_behind : (start : ℕ) (room : List ℕ) → drop (length room - start) (drop start room) ≡ []
none_behind start room =
    drop_of_length-le (drop start room) (omega (arith, length-drop start room))

pub none_left : (l : List ℕ) → (length l == 0) ≡ true → l ≡ []
none_left [] is = refl
none_left (x ∷ l) is = absurd (omega (arith, eqb-true (length (x ∷ l)) 0 is))

pub some_left : (l : List ℕ) → (length l == 0) ≡ false → l ≡ [] → ⊥
some_left [] is none = absurd (clash is)
  where
    clash : true ≡ false → ⊥
    clash e = cc
some_left (x ∷ l) is none = absurd (clash none)
  where
    clash : x ∷ l ≡ [] → ⊥
    clash e = cc

pub hex_read : (word old : List ℕ) (result : Result Bool Memory) (new : List ℕ) → bytes_eq word (codes "-") ≡ false → (word ≡ [] → ⊥)
    → list_any is_ascii_uppercase word ≡ false → Decoded word old result new → HexRead word old result new
hex_read word old (Ok true) new dash some plain (bytes, decoded, appended) = (bytes, lower_some word bytes dash some plain decoded, appended)
hex_read word old (Ok false) new dash some plain (none, same) = (other_none word dash none, same)
hex_read word old (Err memory) new dash some plain same = same
