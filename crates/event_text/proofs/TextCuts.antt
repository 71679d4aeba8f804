-- texts are cut where their parts end
use Rattle.std.proofs.Common.{◌≡◌, ℕ, ◌+◌, ◌<◌, ◌^◌, ◌/◌, ◌%◌, zero, suc, Bool, true, false, eqb, not, Ok, List, [], ◌∷◌, ◌++◌, codes, length, slice_index, refl, sym, ap, ◌∙◌, arith, append_assoc}
use Rattle.std.proofs.lemmas.Bool.{and_parts, ne_eqb}
use Rattle.std.proofs.lemmas.Fmt.{decimal_is_IsNumeral, decimal_injective}
use Rattle.std.proofs.lemmas.Str.Parse.{digit_from_value}
use Rattle.std.specs.Fmt.{decimal}
use Rattle.std.specs.List.{AllByRecursion, list_all}
use Rattle.std.specs.Str.Parse.{AllDigits}
use Rattle.hex.proofs.HexLemmas.{decode_of-encode_lower}
use Rattle.hex.specs.Hex.{IsBytes, decode_of, encode_lower, encode_with, lower_digits}
use Rattle.event_text.specs.declared.way.Way.{Way}
use Rattle.event_text.specs.declared.way.Way.TheVariants as ways
use Rattle.event_text.specs.Report.{numbered, StreamLines, none, rest, full, stream_line, StreamText}
use Rattle.event_text.specs.Told.{AreBytes, MayFill}

pub head_same : {x y : ℕ} {xs ys : List ℕ} → x ∷ xs ≡ y ∷ ys → x ≡ y
head_same e = cc

pub tail_same : {x y : ℕ} {xs ys : List ℕ} → x ∷ xs ≡ y ∷ ys → xs ≡ ys
tail_same e = cc

true_false : true ≡ false → ⊥
true_false e = cc e

-- what stands behind a front that both texts have
pub behind_front : (front s t : List ℕ) → front ++ s ≡ front ++ t → s ≡ t
behind_front [] s t e = e
behind_front (x ∷ front) s t e = behind_front front s t (tail_same e)

-- ---- a part without a stop, and then one

abbrev pub Clear : (ℕ → Bool) → List ℕ → Type 0
Clear stop bytes = AllByRecursion (λ b. stop b ≡ false) bytes

pub cut_at_stop : (stop : ℕ → Bool) (w v s t : List ℕ) (a b : ℕ) → Clear stop w → Clear stop v → stop a ≡ true → stop b ≡ true → w ++ a ∷ s ≡ v ++ b ∷ t
    → (w ≡ v) × (a ∷ s ≡ b ∷ t)
cut_at_stop stop [] [] s t a b p q ea eb e = (refl, e)
cut_at_stop stop [] (y ∷ v) s t a b p q ea eb e = absurd (true_false (sym ea ∙ (ap stop (head_same e) ∙ q.0)))
cut_at_stop stop (x ∷ w) [] s t a b p q ea eb e = absurd (true_false (sym eb ∙ (ap stop (sym (head_same e)) ∙ p.0)))
cut_at_stop stop (x ∷ w) (y ∷ v) s t a b p q ea eb e =
    let behind = cut_at_stop stop w v s t a b p.1 q.1 ea eb (tail_same e) in
    let heads : x ≡ y = head_same e in
    let tails : w ≡ v = behind.0 in
    (cc, behind.1)

pub clear_append : (stop : ℕ → Bool) (xs ys : List ℕ) → Clear stop xs → Clear stop ys → Clear stop (xs ++ ys)
clear_append stop [] ys p q = q
clear_append stop (x ∷ xs) ys p q = (p.0, clear_append stop xs ys p.1 q)

not_true : (b : Bool) → not b ≡ true → b ≡ false
not_true true e = cc
not_true false e = refl

-- of words that are written out, by a test
pub clear_word : (stop : ℕ → Bool) (xs : List ℕ) → list_all (λ b. not (stop b)) xs ≡ true → Clear stop xs
clear_word stop [] e = tt
clear_word stop (x ∷ xs) e =
    let parts = and_parts (not (stop x)) (list_all (λ b. not (stop b)) xs) e in
    (not_true (stop x) parts.0, clear_word stop xs parts.1)

abbrev pub is_nl : ℕ → Bool
is_nl b = eqb b 10

-- no digit ends a line, and none a word
digits_clear : (ds : List ℕ) → AllDigits 10 ds → Clear is_nl ds
digits_clear [] all = tt
digits_clear (c ∷ cs) all =
    let d = digit_from_value c all.0 in
    (ne_eqb _ _ (λ e. omega (arith, d, e)), digits_clear cs all.1)

pub number_clear : (n : ℕ) → n < 2 ^ 64 → Clear is_nl (decimal n)
number_clear n small = digits_clear (decimal n) (decimal_is_IsNumeral n small).0.1

index_all : (p : ℕ → Bool) (xs : List ℕ) (d : ℕ) → p 0 ≡ true → list_all p xs ≡ true → p (slice_index xs d) ≡ true
index_all p [] d zeroth all = zeroth
index_all p (x ∷ xs) zero zeroth all = (and_parts (p x) (list_all p xs) all).0
index_all p (x ∷ xs) (suc d) zeroth all = index_all p xs d zeroth (and_parts (p x) (list_all p xs) all).1

digit_clear : (d : ℕ) → is_nl (slice_index lower_digits d) ≡ false
digit_clear d = not_true (is_nl (slice_index lower_digits d)) (index_all (λ x. not (is_nl x)) lower_digits d refl refl)

pub encoded_clear : (bytes : List ℕ) → Clear is_nl (encode_lower bytes)
unfolding encode_with
encoded_clear [] = tt
encoded_clear (b ∷ bytes) = (digit_clear (b / 16), (digit_clear (b % 16), encoded_clear bytes))

-- ---- bytes

index_by : (b : ℕ) (bytes : List ℕ) → b < 2 ^ 8 → IsBytes bytes → (i : ℕ) → slice_index (b ∷ bytes) i < 2 ^ 8
index_by b bytes small fits zero = small
index_by b bytes small fits (suc i) = fits i

pub by_index : (bytes : List ℕ) → AreBytes bytes → IsBytes bytes
by_index [] are = λ i. omega arith
by_index (b ∷ bytes) are = index_by b bytes are.0 (by_index bytes are.1)

pub bytes_front : (xs ys : List ℕ) → AreBytes (xs ++ ys) → AreBytes xs
bytes_front [] ys are = tt
bytes_front (x ∷ xs) ys are = (are.0, bytes_front xs ys are.1)

pub bytes_back : (xs ys : List ℕ) → AreBytes (xs ++ ys) → AreBytes ys
bytes_back [] ys are = are
bytes_back (x ∷ xs) ys are = bytes_back xs ys are.1

decoded_same : (xs ys : List ℕ) → decode_of (encode_lower xs) ≡ Ok xs → decode_of (encode_lower ys) ≡ Ok ys → encode_lower xs ≡ encode_lower ys → xs ≡ ys
decoded_same xs ys ex ey e =
    let both : decode_of (encode_lower xs) ≡ Ok ys = ap decode_of e ∙ ey in
    cc

-- one text spells bytes
pub encoded_same : (xs ys : List ℕ) → AreBytes xs → AreBytes ys → encode_lower xs ≡ encode_lower ys → xs ≡ ys
encoded_same xs ys p q e = decoded_same xs ys (decode_of-encode_lower xs (by_index xs p)) (decode_of-encode_lower ys (by_index ys q)) e

-- ---- lines that begin with one letter

-- the text does not begin with this byte
abbrev pub NotWith : ℕ → List ℕ → Type 0
NotWith c text = (more : List ℕ) → text ≡ c ∷ more → ⊥

pub lines_cut : {A : Type 0} → (line : ℕ → A → List ℕ) (Fits : A → Type 0) (c : ℕ) → ((n : ℕ) (x : A) → (more : List ℕ) × (line n x ≡ c ∷ more))
    → ((n : ℕ) (x y : A) (s t : List ℕ) → Fits x → Fits y → line n x ++ s ≡ line n y ++ t → (x ≡ y) × (s ≡ t))
    → (n : ℕ) (xs ys : List A) (s t : List ℕ) → AllByRecursion Fits xs → AllByRecursion Fits ys → NotWith c s → NotWith c t
    → numbered line n xs ++ s ≡ numbered line n ys ++ t → (xs ≡ ys) × (s ≡ t)
lines_cut {A} line Fits c begins cut n [] [] s t p q ns nt e = (refl, e)
lines_cut {A} line Fits c begins cut n [] (y ∷ ys) s t p q ns nt e =
    absurd (ns _ (e ∙ ap (λ z. (z ++ numbered line (n + 1) ys) ++ t) (begins n y).1))
lines_cut {A} line Fits c begins cut n (x ∷ xs) [] s t p q ns nt e =
    absurd (nt _ (sym e ∙ ap (λ z. (z ++ numbered line (n + 1) xs) ++ s) (begins n x).1))
lines_cut {A} line Fits c begins cut n (x ∷ xs) (y ∷ ys) s t p q ns nt e =
    let here = cut n x y (numbered line (n + 1) xs ++ s) (numbered line (n + 1) ys ++ t) p.0 q.0
    (sym (append_assoc (line n x) (numbered line (n + 1) xs) s) ∙ (e ∙ append_assoc (line n y) (numbered line (n + 1) ys) t)) in
    let behind = lines_cut line Fits c begins cut (n + 1) xs ys s t p.1 q.1 ns nt here.1 in
    let heads : x ≡ y = here.0 in
    let tails : xs ≡ ys = behind.0 in
    (cc, behind.1)

-- ---- the lines of bytes

-- a line of bytes, and what stands behind it
line_cut : (c : ℕ) (piece other s t : List ℕ) → AreBytes piece → AreBytes other → stream_line (c ∷ 32 ∷ []) piece ++ s ≡ stream_line (c ∷ 32 ∷ []) other ++ t
    → (piece ≡ other) × (s ≡ t)
line_cut c piece other s t p q e =
    let words : encode_lower piece ++ 10 ∷ s ≡ encode_lower other ++ 10 ∷ t =
    sym (append_assoc (encode_lower piece) (codes "\n") s) ∙ (tail_same (tail_same e) ∙ append_assoc (encode_lower other) (codes "\n") t) in
    let cut = cut_at_stop is_nl (encode_lower piece) (encode_lower other) s t 10 10 (encoded_clear piece) (encoded_clear other) refl refl words in
    (encoded_same piece other p q cut.0, tail_same cut.1)

pub stream_cut : (c : ℕ) (bytes other lines texts s t : List ℕ) → StreamLines (c ∷ 32 ∷ []) bytes lines → StreamLines (c ∷ 32 ∷ []) other texts → AreBytes bytes → AreBytes other
    → NotWith c s → NotWith c t → lines ++ s ≡ texts ++ t → (bytes ≡ other) × (s ≡ t)
stream_cut c bytes other lines texts s t none none p q ns nt e = (refl, e)
stream_cut c bytes other lines texts s t none (rest piece some short) p q ns nt e = absurd (ns _ e)
stream_cut c bytes other lines texts s t none (full piece more behind whole are) p q ns nt e = absurd (ns _ e)
stream_cut c bytes other lines texts s t (rest piece some short) none p q ns nt e = absurd (nt _ (sym e))
stream_cut c bytes other lines texts s t (full piece more behind whole are) none p q ns nt e = absurd (nt _ (sym e))
stream_cut c bytes other lines texts s t (rest piece some short) (rest second any few) p q ns nt e = line_cut c piece second s t p q e
stream_cut c bytes other lines texts s t (rest piece some short) (full second more behind whole are) p q ns nt e =
    let cut = line_cut c piece second s (behind ++ t) p (bytes_front second more q) (e ∙ append_assoc (stream_line (c ∷ 32 ∷ []) second) behind t) in
    absurd (omega (arith, short, whole, ap length cut.0))
stream_cut c bytes other lines texts s t (full piece more behind whole are) (rest second some short) p q ns nt e =
    let cut = line_cut c piece second (behind ++ s) t (bytes_front piece more p) q (sym (append_assoc (stream_line (c ∷ 32 ∷ []) piece) behind s) ∙ e) in
    absurd (omega (arith, short, whole, ap length cut.0))
stream_cut c bytes other lines texts s t (full piece more behind whole are) (full second others texts2 filled are2) p q ns nt e =
    let cut = line_cut c piece second (behind ++ s) (texts2 ++ t) (bytes_front piece more p) (bytes_front second others q)
    (sym (append_assoc (stream_line (c ∷ 32 ∷ []) piece) behind s) ∙ (e ∙ append_assoc (stream_line (c ∷ 32 ∷ []) second) texts2 t)) in
    let later = stream_cut c more others behind texts2 s t are are2 (bytes_back piece more p) (bytes_back second others q) ns nt cut.1 in
    let heads : piece ≡ second = cut.0 in
    let tails : more ≡ others = later.0 in
    (cc, later.1)

-- ---- the text of a stream

number_line_cut : (n m : ℕ) (s t : List ℕ) → n < 2 ^ 64 → m < 2 ^ 64 → decimal n ++ (codes "\n" ++ s) ≡ decimal m ++ (codes "\n" ++ t) → (n ≡ m) × (s ≡ t)
number_line_cut n m s t small few e =
    let cut = cut_at_stop is_nl (decimal n) (decimal m) s t 10 10 (number_clear n small) (number_clear m few) refl refl e in
    (decimal_injective n m small few cut.0, tail_same cut.1)

text_cut : (c : ℕ) (front bytes other lines texts s t : List ℕ) → StreamLines (c ∷ 32 ∷ []) bytes lines → StreamLines (c ∷ 32 ∷ []) other texts → MayFill bytes → MayFill other
    → NotWith c s → NotWith c t
    → (front ++ (decimal (length bytes) ++ (codes "\n" ++ lines))) ++ s ≡ (front ++ (decimal (length other) ++ (codes "\n" ++ texts))) ++ t → (bytes ≡ other) × (s ≡ t)
text_cut c front bytes other lines texts s t are be p q ns nt e =
    let counted : (decimal (length bytes) ++ 10 ∷ lines) ++ s ≡ (decimal (length other) ++ 10 ∷ texts) ++ t =
    behind_front front _ _ (sym (append_assoc front (decimal (length bytes) ++ 10 ∷ lines) s) ∙ (e ∙ append_assoc front (decimal (length other) ++ 10 ∷ texts) t)) in
    let cut =
    number_line_cut (length bytes) (length other) (lines ++ s) (texts ++ t) p.few q.few
    (sym (append_assoc (decimal (length bytes)) (10 ∷ lines) s) ∙ (counted ∙ append_assoc (decimal (length other)) (10 ∷ texts) t)) in
    stream_cut c bytes other lines texts s t are be p.are q.are ns nt cut.1

-- the text of a stream, and what stands behind it
pub sent_cut : (bytes other text texts s t : List ℕ) → StreamText ways.Up bytes text → StreamText ways.Up other texts → MayFill bytes → MayFill other → NotWith 117 s → NotWith 117 t
    → text ++ s ≡ texts ++ t → (bytes ≡ other) × (s ≡ t)
sent_cut bytes other text texts s t is be p q ns nt e =
    text_cut 117 (codes "up ") bytes other is.lines be.lines s t is.are be.are p q ns nt (sym (ap (λ z. z ++ s) is.written) ∙ (e ∙ ap (λ z. z ++ t) be.written))

pub taken_cut : (bytes other text texts s t : List ℕ) → StreamText ways.Down bytes text → StreamText ways.Down other texts → MayFill bytes → MayFill other → NotWith 100 s → NotWith 100 t
    → text ++ s ≡ texts ++ t → (bytes ≡ other) × (s ≡ t)
taken_cut bytes other text texts s t is be p q ns nt e =
    text_cut 100 (codes "down ") bytes other is.lines be.lines s t is.are be.are p q ns nt (sym (ap (λ z. z ++ s) is.written) ∙ (e ∙ ap (λ z. z ++ t) be.written))

pub nothing : (c : ℕ) → NotWith c []
nothing c = λ more e. cc e

pub stream_same : (way : Way) (bytes other text : List ℕ) → MayFill bytes → MayFill other → StreamText way bytes text → StreamText way other text → bytes ≡ other
stream_same ways.Up bytes other text p q is be = (sent_cut bytes other text text [] [] is be p q (nothing 117) (nothing 117) refl).0
stream_same ways.Down bytes other text p q is be = (taken_cut bytes other text text [] [] is be p q (nothing 100) (nothing 100) refl).0
