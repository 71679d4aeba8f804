-- a line says an event exactly where it is the event's line, and so it is with the lines before the events
use Rattle.std.proofs.Common.{◌≡◌, ℕ, zero, suc, ◌-◌, ◌<◌, ◌≤◌, ◌^◌, ◌/◌, ◌%◌, Bool, true, false, cond, eqb, leb, ltb, not, ◌&&◌, Option, Some, None, Result, Ok, Err, List, [], ◌∷◌, ◌++◌, codes, slice_index, refl, sym, ap, subst, ◌∙◌, arith}
use Rattle.std.proofs.lemmas.Bool.{and_parts, ne_eqb, le-leb, leb-true, ltb-true}
use Rattle.std.proofs.lemmas.Fmt.{decimal_is_IsNumeral}
use Rattle.std.proofs.lemmas.List.Splits.{join_with_byte-slice_split}
use Rattle.std.proofs.lemmas.Slice.Eq.{bytes_eq-Decides}
use Rattle.std.proofs.lemmas.Str.Parse.{digit_from_value}
use Rattle.std.specs.Fmt.{decimal}
use Rattle.std.specs.List.{join_with_byte, list_all, onto_first}
use Rattle.std.specs.Str.{bytes_eq}
use Rattle.std.specs.Str.Parse.{AllDigits, digits_value}
use Rattle.hex.proofs.HexLemmas.{decode_of-ok}
use Rattle.hex.specs.Hex.{IsBytes, decode_of, encode_lower, encode_with, lower_digits}
use Rattle.hex.specs.declared.error.FromHexError.{FromHexError}
use Rattle.host_hub.specs.declared.limits.TheConstants.{MAX_DEPTH}
use Rattle.tmc_law.specs.declared.dev_event.DevEvent.{DevEvent}
use Rattle.tmc_law.specs.declared.dev_event.DevEvent.TheVariants.{Take, Exec, Begin, Fill, Answer, Pending, Poll, Notify, Halt, Unplug}
use Rattle.event_text.specs.declared.event.Event.{Event}
use Rattle.event_text.specs.declared.event.Event.TheVariants.{Ask, Tell, GiveUp, Up, Down, Dev, FailSend, FailPoll, Rest}
use Rattle.event_text.specs.declared.event_line.Place.{Place}
use Rattle.event_text.specs.declared.event_line.Place.TheVariants.{Start, BehindFirst, BehindOthers}
use Rattle.event_text.specs.declared.event_line.Said.{Said}
use Rattle.event_text.specs.declared.event_line.Said.TheVariants.{First, Depth, Does}
use Rattle.event_text.specs.declared.line_fault.LineWhat.{LineWhat}
use Rattle.event_text.specs.declared.line_fault.LineWhat.TheVariants.{Unknown, Words, Number, Hex, Depth as bad_depth}
use Rattle.event_text.specs.EventLine.{if_within, number_within, session_of, count_said, endpoint_said, made, alone, plain_dev, dev_said, ask_said, tell_said, failing, fail_said, short_said, event_said, depth_said, line_words}
use Rattle.event_text.specs.EventSpelled.{dev_line, event_line, said_line, IsCount, DevMayStand, MayStand, SaidMayStand}
use Rattle.event_text.specs.Script.{need, if_none, if_one, if_two, if_three, and_one, and_two}
use Rattle.event_text.specs.Words.{words_of, number_of, bytes_of, if_written, hex_word}
use Rattle.event_text.proofs.Hexes.{bytes_is, bytes_was}
use Rattle.event_text.proofs.Numbers.{number_is, number_was}

some_is : {A : Type 0} (x y : A) → Some x ≡ Some y → x ≡ y
some_is {A} x y e = cc

ok_is : {A : Type 0} (x y : A) → ◌≡◌ {A = Result A LineWhat} (Ok x) (Ok y) → x ≡ y
ok_is {A} x y e = cc

-- ---- a word without a space is one word

pub word_by : (c : ℕ) (cs : List ℕ) (b : Bool) → eqb c 32 ≡ b → b ≡ false → words_of cs ≡ cs ∷ [] → words_of (c ∷ cs) ≡ (c ∷ cs) ∷ []
word_by c cs true e other again = absurd (cc other)
word_by c cs false e other again =
    let words : words_of (c ∷ cs) ≡ onto_first c (words_of cs) = rw e refl in
    words ∙ ap (onto_first c) again

pub digits_word : (ds : List ℕ) → AllDigits 10 ds → words_of ds ≡ ds ∷ []
digits_word [] all = refl
digits_word (c ∷ cs) all =
    let d = digit_from_value c all.0 in
    let other : eqb c 32 ≡ false = ne_eqb _ _ (λ e. omega (arith, d, e)) in
    word_by c cs (eqb c 32) refl other (digits_word cs all.1)

pub number_word : (n : ℕ) → n < 2 ^ 32 → words_of (decimal n) ≡ decimal n ∷ []
number_word n small = digits_word (decimal n) (decimal_is_IsNumeral n (omega (arith, small))).0.1

index_all : (p : ℕ → Bool) (xs : List ℕ) (d : ℕ) → p 0 ≡ true → list_all p xs ≡ true → p (slice_index xs d) ≡ true
index_all p [] d none all = none
index_all p (x ∷ xs) zero none all = (and_parts (p x) (list_all p xs) all).0
index_all p (x ∷ xs) (suc d) none all = index_all p xs d none (and_parts (p x) (list_all p xs) all).1

no_space : (d : ℕ) → eqb (slice_index lower_digits d) 32 ≡ false
no_space d = not_true (eqb (slice_index lower_digits d) 32) (index_all (λ x. not (eqb x 32)) lower_digits d refl refl)
  where
    not_true : (b : Bool) → not b ≡ true → b ≡ false
    not_true true e = cc
    not_true false e = refl

encoded_word : (bytes : List ℕ) → words_of (encode_lower bytes) ≡ encode_lower bytes ∷ []
unfolding encode_with
encoded_word [] = refl
encoded_word (b ∷ bytes) =
    word_by (slice_index lower_digits (b / 16)) (slice_index lower_digits (b % 16) ∷ encode_lower bytes) _ refl (no_space (b / 16))
    (word_by (slice_index lower_digits (b % 16)) (encode_lower bytes) _ refl (no_space (b % 16)) (encoded_word bytes))

pub hex_one : (bytes : List ℕ) → words_of (hex_word bytes) ≡ hex_word bytes ∷ []
hex_one [] = refl
hex_one (b ∷ bytes) = encoded_word (b ∷ bytes)

-- a number, a space, and more words
pub then_by : (c : ℕ) (cs more : List ℕ) (b : Bool) → eqb c 32 ≡ b → b ≡ false → words_of (cs ++ 32 ∷ more) ≡ cs ∷ words_of more → words_of ((c ∷ cs) ++ 32 ∷ more) ≡ (c ∷ cs) ∷ words_of more
then_by c cs more true e other again = absurd (cc other)
then_by c cs more false e other again =
    let words : words_of ((c ∷ cs) ++ 32 ∷ more) ≡ onto_first c (words_of (cs ++ 32 ∷ more)) = rw e refl in
    words ∙ ap (onto_first c) again

pub digits_then : (ds more : List ℕ) → AllDigits 10 ds → words_of (ds ++ 32 ∷ more) ≡ ds ∷ words_of more
digits_then [] more all = refl
digits_then (c ∷ cs) more all =
    let d = digit_from_value c all.0 in
    let other : eqb c 32 ≡ false = ne_eqb _ _ (λ e. omega (arith, d, e)) in
    then_by c cs more (eqb c 32) refl other (digits_then cs more all.1)

-- HEX, a space, and more words
encoded_then : (bytes more : List ℕ) → words_of (encode_lower bytes ++ 32 ∷ more) ≡ encode_lower bytes ∷ words_of more
unfolding encode_with
encoded_then [] more = refl
encoded_then (b ∷ bytes) more =
    then_by (slice_index lower_digits (b / 16)) (slice_index lower_digits (b % 16) ∷ encode_lower bytes) more _ refl (no_space (b / 16))
    (then_by (slice_index lower_digits (b % 16)) (encode_lower bytes) more _ refl (no_space (b % 16)) (encoded_then bytes more))

pub hex_then : (bytes more : List ℕ) → words_of (hex_word bytes ++ 32 ∷ more) ≡ hex_word bytes ∷ words_of more
hex_then [] more = refl
hex_then (b ∷ bytes) more = encoded_then (b ∷ bytes) more

pub number_then : (n : ℕ) (more : List ℕ) → n < 2 ^ 32 → words_of (decimal n ++ 32 ∷ more) ≡ decimal n ∷ words_of more
number_then n more small = digits_then (decimal n) more (decimal_is_IsNumeral n (omega (arith, small))).0.1

-- ---- numbers in their ranges

within_by : (least most n : ℕ) (a b : Bool) → leb least n ≡ a → leb n most ≡ b → a ≡ true → b ≡ true → cond (leb least n && leb n most) (Some n) None ≡ Some n
within_by least most n true true ea eb x y = rw (ea, eb) refl
within_by least most n true false ea eb x y = absurd (cc y)
within_by least most n false b ea eb x y = absurd (cc x)

within_is : (least most n : ℕ) → least ≤ n → n ≤ most → if_within least most (Some n) ≡ Some n
within_is least most n low high = within_by least most n _ _ refl refl (le-leb least n low) (le-leb n most high)

number_in : (least most n : ℕ) → n < 2 ^ 32 → least ≤ n → n ≤ most → number_within least most (decimal n) ≡ Some n
number_in least most n small low high = ap (if_within least most) (sym (number_is (decimal n) n small refl)) ∙ within_is least most n low high

record Within (least most n : ℕ) (word : List ℕ) : Type 0 where
  low : least ≤ n
  high : n ≤ most
  written : word ≡ decimal n

within_was_by : (least most n m : ℕ) (word : List ℕ) (b : Bool) → (leb least m && leb m most) ≡ b → number_of word ≡ Some m → cond b (Some m) None ≡ Some n → Within least most n word
within_was_by least most n m word true e is same =
    let parts = and_parts (leb least m) (leb m most) e in
    let one : m ≡ n = cc in
    record {
      low = omega (arith, leb-true least m parts.0, one);
      high = omega (arith, leb-true m most parts.1, one);
      written = number_was word m is ∙ ap decimal one;
    }
within_was_by least most n m word false e is same = absurd (cc same)

within_was : (least most n : ℕ) (word : List ℕ) (o : Option ℕ) → number_of word ≡ o → if_within least most o ≡ Some n → Within least most n word
within_was least most n word None is same = absurd (cc same)
within_was least most n word (Some m) is same = within_was_by least most n m word _ refl is same

small_by : (word : List ℕ) (n : ℕ) (b : Bool) → (ltb (digits_value 10 word) (2 ^ 32) && bytes_eq (decimal (digits_value 10 word)) word) ≡ b
    → cond b (Some (digits_value 10 word)) None ≡ Some n → n < 2 ^ 32
small_by word n true e same =
    let value : digits_value 10 word ≡ n = cc in
    omega (arith, ltb-true (digits_value 10 word) (2 ^ 32) (and_parts (ltb (digits_value 10 word) (2 ^ 32)) (bytes_eq (decimal (digits_value 10 word)) word) e).0, value)
small_by word n false e same = absurd (cc same)

number_small : (word : List ℕ) (n : ℕ) → number_of word ≡ Some n → n < 2 ^ 32
number_small word n same = small_by word n _ refl same

-- ---- what is needed

record Needed {A B : Type 0} (o : Option A) (make : A → Result B LineWhat) (b : B) : Type 0 where
  value : A
  is : o ≡ Some value
  gives : make value ≡ Ok b

needed : {A B : Type 0} (what : LineWhat) (o : Option A) (make : A → Result B LineWhat) (b : B) → need what o make ≡ Ok b → Needed o make b
needed {A} {B} what None make b e = absurd (cc e)
needed {A} {B} what (Some x) make b e = record { value = x; is = refl; gives = e }

one_was : (words : List (List ℕ)) (word : List ℕ) → if_one words ≡ Some word → words ≡ word ∷ []
one_was [] word e = absurd (cc e)
one_was (w ∷ []) word e = cc
one_was (w ∷ v ∷ ws) word e = absurd (cc e)

none_was : (words : List (List ℕ)) (u : Unit {0}) → if_none words ≡ Some u → words ≡ []
none_was [] u e = refl
none_was (w ∷ ws) u e = absurd (cc e)

record Two (words : List (List ℕ)) (two : List ℕ × List ℕ) : Type 0 where
  are : words ≡ two.0 ∷ two.1 ∷ []

and_one_was : (word : List ℕ) (words : List (List ℕ)) (two : List ℕ × List ℕ) (o : Option (List ℕ)) → if_one words ≡ o → and_one word o ≡ Some two → Two (word ∷ words) two
and_one_was word words two None is e = absurd (cc e)
and_one_was word words two (Some last) is e =
    let same : (word, last) ≡ two = cc in
    subst (λ (z : List ℕ × List ℕ). Two (word ∷ words) z) same (record { are = ap (λ (z : List (List ℕ)). word ∷ z) (one_was words last is) })

two_was : (words : List (List ℕ)) (two : List ℕ × List ℕ) → if_two words ≡ Some two → Two words two
two_was [] two e = absurd (cc e)
two_was (word ∷ words) two e = and_one_was word words two (if_one words) refl e

record Three (words : List (List ℕ)) (three : List ℕ × (List ℕ × List ℕ)) : Type 0 where
  are : words ≡ three.0 ∷ three.1.0 ∷ three.1.1 ∷ []

and_two_was : (word : List ℕ) (words : List (List ℕ)) (three : List ℕ × (List ℕ × List ℕ)) (o : Option (List ℕ × List ℕ)) → if_two words ≡ o → and_two word o ≡ Some three → Three (word ∷ words) three
and_two_was word words three None is e = absurd (cc e)
and_two_was word words three (Some others) is e =
    let same : (word, others) ≡ three = cc in
    subst (λ (z : List ℕ × (List ℕ × List ℕ)). Three (word ∷ words) z) same (record { are = ap (λ (z : List (List ℕ)). word ∷ z) (two_was words others is).are })

three_was : (words : List (List ℕ)) (three : List ℕ × (List ℕ × List ℕ)) → if_three words ≡ Some three → Three words three
three_was [] three e = absurd (cc e)
three_was (word ∷ words) three e = and_two_was word words three (if_two words) refl e

-- ---- lines of one number, and of one word

record Counted {A : Type 0} (words : List (List ℕ)) (make : ℕ → A) (least most : ℕ) (event : A) : Type 0 where
  n : ℕ
  low : least ≤ n
  high : n ≤ most
  are : words ≡ decimal n ∷ []
  is : make n ≡ event

made_was : {A B : Type 0} (make : A → B) (r : Result A LineWhat) (b : B) → made make r ≡ Ok b → (a : A) × (r ≡ Ok a) × (make a ≡ b)
made_was {A} {B} make (Ok a) b e = (a, refl, cc)
made_was {A} {B} make (Err what) b e = absurd (cc e)

counted_was : {A : Type 0} (words : List (List ℕ)) (make : ℕ → A) (least most : ℕ) (event : A)
    → made make (need Words (if_one words) (λ word. need Number (number_within least most word) (λ n. Ok n))) ≡ Ok event → Counted words make least most event
counted_was {A} words make least most event e =
    let m = made_was make (need Words (if_one words) (λ word. need Number (number_within least most word) (λ n. Ok n))) event e in
    let one = needed Words (if_one words) (λ word. need Number (number_within least most word) (λ n. Ok n)) m.0 m.1 in
    let two = needed Number (number_within least most one.value) (λ n. Ok n) m.0 one.gives in
    let same : two.value ≡ m.0 = cc two.gives in
    let w = within_was least most two.value one.value (number_of one.value) refl two.is in
    record {
      n = two.value;
      low = w.low;
      high = w.high;
      are = one_was words one.value one.is ∙ ap (λ (z : List ℕ). z ∷ []) w.written;
      is = ap make same ∙ m.2;
    }

alone_was : {A : Type 0} (event other : A) (words : List (List ℕ)) → alone event words ≡ Ok other → (words ≡ []) × (event ≡ other)
alone_was {A} event other words e =
    let none = needed Words (if_none words) (λ nothing. Ok event) other e in
    (none_was words none.value none.is, cc none.gives)

-- a line of two words is these words with a space between them
joined : (line : List ℕ) (words : List (List ℕ)) → words_of line ≡ words → line ≡ join_with_byte 32 words
joined line words e = sym (join_with_byte-slice_split 32 line) ∙ ap (join_with_byte 32) e

head_is : (head : List ℕ) (name : List ℕ) → bytes_eq head name ≡ true → head ≡ name
head_is head name e = (bytes_eq-Decides head name).0 e

-- ---- the device's lines

-- two words with a space between them
pair : (name word : List ℕ) → join_with_byte 32 (name ∷ word ∷ []) ≡ name ++ 32 ∷ word
pair name word = refl

-- the words of a line are these, so the line is this
two_words : (line head name word : List ℕ) (words : List (List ℕ)) → words_of line ≡ head ∷ words → bytes_eq head name ≡ true → words ≡ word ∷ [] → line ≡ name ++ 32 ∷ word
two_words line head name word words e h w =
    joined line (name ∷ word ∷ []) (e ∙ (ap (λ (z : List (List ℕ)). head ∷ z) w ∙ ap (λ (z : List ℕ). z ∷ word ∷ []) (head_is head name h)))

one_word : (line head name : List ℕ) (words : List (List ℕ)) → words_of line ≡ head ∷ words → bytes_eq head name ≡ true → words ≡ [] → line ≡ name
one_word line head name words e h w =
    joined line (name ∷ []) (e ∙ (ap (λ (z : List (List ℕ)). head ∷ z) w ∙ ap (λ (z : List ℕ). z ∷ []) (head_is head name h)))

abbrev IsDev : List ℕ → DevEvent → Type 0
IsDev line event = (line ≡ dev_line event) × DevMayStand event

plain_by : (line head : List ℕ) (words : List (List ℕ)) (event : DevEvent) (a b c d f g : Bool) → words_of line ≡ head ∷ words → words ≡ []
    → bytes_eq head (codes "exec") ≡ a → bytes_eq head (codes "answer") ≡ b → bytes_eq head (codes "pending") ≡ c → bytes_eq head (codes "poll") ≡ d
    → bytes_eq head (codes "notify") ≡ f → bytes_eq head (codes "unplug") ≡ g
    → cond a (Some Exec) (cond b (Some Answer) (cond c (Some Pending) (cond d (Some Poll) (cond f (Some Notify) (cond g (Some Unplug) None))))) ≡ Some event → IsDev line event
plain_by line head words event true b c d f g e none ea eb ec ed ef eg is =
    subst (λ (z : DevEvent). IsDev line z) (some_is _ _ is) (one_word line head (codes "exec") words e ea none, tt)
plain_by line head words event false true c d f g e none ea eb ec ed ef eg is =
    subst (λ (z : DevEvent). IsDev line z) (some_is _ _ is) (one_word line head (codes "answer") words e eb none, tt)
plain_by line head words event false false true d f g e none ea eb ec ed ef eg is =
    subst (λ (z : DevEvent). IsDev line z) (some_is _ _ is) (one_word line head (codes "pending") words e ec none, tt)
plain_by line head words event false false false true f g e none ea eb ec ed ef eg is =
    subst (λ (z : DevEvent). IsDev line z) (some_is _ _ is) (one_word line head (codes "poll") words e ed none, tt)
plain_by line head words event false false false false true g e none ea eb ec ed ef eg is =
    subst (λ (z : DevEvent). IsDev line z) (some_is _ _ is) (one_word line head (codes "notify") words e ef none, tt)
plain_by line head words event false false false false false true e none ea eb ec ed ef eg is =
    subst (λ (z : DevEvent). IsDev line z) (some_is _ _ is) (one_word line head (codes "unplug") words e eg none, tt)
plain_by line head words event false false false false false false e none ea eb ec ed ef eg is = absurd (cc is)

counts_dev : (line head name : List ℕ) (words : List (List ℕ)) (make : ℕ → DevEvent) (event : DevEvent) → words_of line ≡ head ∷ words → bytes_eq head name ≡ true
    → made make (count_said words) ≡ Ok event → ((n : ℕ) → (name ++ 32 ∷ decimal n ≡ dev_line (make n)) × (DevMayStand (make n) ≡ IsCount n)) → IsDev line event
counts_dev line head name words make event e h is spelled =
    let c = counted_was words make 1 (2 ^ 32 - 1) event is in
    let s = spelled c.n in
    let small : c.n < 2 ^ 32 = omega (arith, c.high) in
    subst (λ (z : DevEvent). IsDev line z) c.is
    (two_words line head name (decimal c.n) words e h c.are ∙ s.0, subst (λ (T : Type 0). T) (sym s.1) (c.low, small))

dev_by : (line head : List ℕ) (words : List (List ℕ)) (event : DevEvent) (a b c d : Bool) → words_of line ≡ head ∷ words
    → bytes_eq head (codes "take") ≡ a → bytes_eq head (codes "begin") ≡ b → bytes_eq head (codes "fill") ≡ c → bytes_eq head (codes "halt") ≡ d
    → cond a (made Take (count_said words)) (cond b (made Begin (count_said words)) (cond c (made Fill (count_said words)) (cond d (made Halt (endpoint_said words))
    (need Unknown (plain_dev head) (λ event. alone event words))))) ≡ Ok event → IsDev line event
dev_by line head words event true b c d e ea eb ec ed is = counts_dev line head (codes "take") words Take event e ea is (λ n. (refl, refl))
dev_by line head words event false true c d e ea eb ec ed is = counts_dev line head (codes "begin") words Begin event e eb is (λ n. (refl, refl))
dev_by line head words event false false true d e ea eb ec ed is = counts_dev line head (codes "fill") words Fill event e ec is (λ n. (refl, refl))
dev_by line head words event false false false true e ea eb ec ed is =
    let c = counted_was words Halt 1 3 event is in
    subst (λ (z : DevEvent). IsDev line z) c.is (two_words line head (codes "halt") (decimal c.n) words e ed c.are, (c.low, c.high))
dev_by line head words event false false false false e ea eb ec ed is =
    let n = needed Unknown (plain_dev head) (λ event. alone event words) event is in
    let a = alone_was n.value event words n.gives in
    subst (λ (z : DevEvent). IsDev line z) a.1 (plain_by line head words n.value _ _ _ _ _ _ e a.0 refl refl refl refl refl refl n.is)

dev_was_by : (line : List ℕ) (words : List (List ℕ)) (event : DevEvent) → words_of line ≡ words → dev_said words ≡ Ok event → IsDev line event
dev_was_by line [] event e is = absurd (cc is)
dev_was_by line (head ∷ words) event e is = dev_by line head words event _ _ _ _ e refl refl refl refl is

-- a line that says a device's event is that event's line
pub dev_was : (line : List ℕ) (event : DevEvent) → dev_said (words_of line) ≡ Ok event → IsDev line event
dev_was line event is = dev_was_by line (words_of line) event refl is

count_is : (n : ℕ) → IsCount n → count_said (words_of (decimal n)) ≡ Ok n
count_is n fits =
    let small : n ≤ 2 ^ 32 - 1 = omega (arith, fits.1) in
    ap count_said (number_word n fits.1) ∙ ap (λ (o : Option ℕ). need Number o (λ count. Ok count)) (number_in 1 (2 ^ 32 - 1) n fits.1 fits.0 small)

endpoint_is : (n : ℕ) → 1 ≤ n → n ≤ 3 → endpoint_said (words_of (decimal n)) ≡ Ok n
endpoint_is n low high =
    let small : n < 2 ^ 32 = omega (arith, high) in
    ap endpoint_said (number_word n small) ∙ ap (λ (o : Option ℕ). need Number o (λ endpoint. Ok endpoint)) (number_in 1 3 n small low high)

-- and the line of an event that may stand says it
pub dev_is : (event : DevEvent) → DevMayStand event → dev_said (words_of (dev_line event)) ≡ Ok event
dev_is (Take n) fits = ap (made Take) (count_is n fits)
dev_is Exec fits = refl
dev_is (Begin n) fits = ap (made Begin) (count_is n fits)
dev_is (Fill n) fits = ap (made Fill) (count_is n fits)
dev_is Answer fits = refl
dev_is Pending fits = refl
dev_is Poll fits = refl
dev_is Notify fits = refl
dev_is (Halt n) fits = ap (made Halt) (endpoint_is n fits.0 fits.1)
dev_is Unplug fits = refl

-- ---- the other lines

abbrev IsEvent : List ℕ → Event → Type 0
IsEvent line event = (line ≡ event_line event) × MayStand event

-- bytes that HEX spells are bytes
fits_by : (word bytes : List ℕ) (b : Bool) (r : Result (List ℕ) FromHexError) → decode_of word ≡ r → cond b (Some []) (if_written word r) ≡ Some bytes → IsBytes bytes
fits_by word bytes true r e is = subst IsBytes (some_is _ _ is) (λ i. omega arith)
fits_by word bytes false (Err fault) e is = absurd (cc is)
fits_by word bytes false (Ok other) e is = written_fits (bytes_eq (hex_word other) word) is
  where
    written_fits : (b : Bool) → cond b (Some other) None ≡ Some bytes → IsBytes bytes
    written_fits true is = subst IsBytes (some_is _ _ is) (decode_of-ok word other e).3
    written_fits false is = absurd (cc is)

hex_fits : (word bytes : List ℕ) → bytes_of word ≡ Some bytes → IsBytes bytes
hex_fits word bytes is = fits_by word bytes (bytes_eq word (codes "-")) (decode_of word) refl is

ask_was : (line head : List ℕ) (words : List (List ℕ)) (event : Event) → words_of line ≡ head ∷ words → bytes_eq head (codes "ask") ≡ true → ask_said words ≡ Ok event → IsEvent line event
ask_was line head words event e h is =
    let t = needed Words (if_three words) _ event is in
    let s = needed Number (session_of t.value.0) _ event t.gives in
    let l = needed Number (number_of t.value.1.0) _ event s.gives in
    let m = needed Hex (bytes_of t.value.1.1) (λ message. Ok (Ask s.value l.value message)) event l.gives in
    let w = within_was 0 255 s.value t.value.0 (number_of t.value.0) refl s.is in
    let are : words ≡ decimal s.value ∷ decimal l.value ∷ hex_word m.value ∷ [] =
    (three_was words t.value t.is).are
    ∙ (ap (λ (z : List ℕ). z ∷ t.value.1.0 ∷ t.value.1.1 ∷ []) w.written
    ∙ (ap (λ (z : List ℕ). decimal s.value ∷ z ∷ t.value.1.1 ∷ []) (number_was t.value.1.0 l.value l.is)
    ∙ ap (λ (z : List ℕ). decimal s.value ∷ decimal l.value ∷ z ∷ []) (bytes_was t.value.1.1 m.value m.is))) in
    let text : line ≡ event_line (Ask s.value l.value m.value) =
    joined line (codes "ask" ∷ decimal s.value ∷ decimal l.value ∷ hex_word m.value ∷ [])
    (e ∙ (ap (λ (z : List (List ℕ)). head ∷ z) are ∙ ap (λ (z : List ℕ). z ∷ decimal s.value ∷ decimal l.value ∷ hex_word m.value ∷ []) (head_is head (codes "ask") h))) in
    subst (λ (z : Event). IsEvent line z) (ok_is _ _ m.gives) (text, (w.high, number_small t.value.1.0 l.value l.is, hex_fits t.value.1.1 m.value m.is))

tell_was : (line head : List ℕ) (words : List (List ℕ)) (event : Event) → words_of line ≡ head ∷ words → bytes_eq head (codes "tell") ≡ true → tell_said words ≡ Ok event → IsEvent line event
tell_was line head words event e h is =
    let t = needed Words (if_two words) _ event is in
    let s = needed Number (session_of t.value.0) _ event t.gives in
    let m = needed Hex (bytes_of t.value.1) (λ message. Ok (Tell s.value message)) event s.gives in
    let w = within_was 0 255 s.value t.value.0 (number_of t.value.0) refl s.is in
    let are : words ≡ decimal s.value ∷ hex_word m.value ∷ [] =
    (two_was words t.value t.is).are
    ∙ (ap (λ (z : List ℕ). z ∷ t.value.1 ∷ []) w.written ∙ ap (λ (z : List ℕ). decimal s.value ∷ z ∷ []) (bytes_was t.value.1 m.value m.is)) in
    let text : line ≡ event_line (Tell s.value m.value) =
    joined line (codes "tell" ∷ decimal s.value ∷ hex_word m.value ∷ [])
    (e ∙ (ap (λ (z : List (List ℕ)). head ∷ z) are ∙ ap (λ (z : List ℕ). z ∷ decimal s.value ∷ hex_word m.value ∷ []) (head_is head (codes "tell") h))) in
    subst (λ (z : Event). IsEvent line z) (ok_is _ _ m.gives) (text, (w.high, hex_fits t.value.1 m.value m.is))

failing_by : (line head word : List ℕ) (words : List (List ℕ)) (event : Event) (a b : Bool) → words_of line ≡ head ∷ words → bytes_eq head (codes "fail") ≡ true → words ≡ word ∷ []
    → bytes_eq word (codes "send") ≡ a → bytes_eq word (codes "poll") ≡ b → cond a (Some FailSend) (cond b (Some FailPoll) None) ≡ Some event → IsEvent line event
failing_by line head word words event true b e h w ea eb is =
    subst (λ (z : Event). IsEvent line z) (some_is _ _ is)
    (two_words line head (codes "fail") (codes "send") words e h (w ∙ ap (λ (z : List ℕ). z ∷ []) (head_is word (codes "send") ea)), tt)
failing_by line head word words event false true e h w ea eb is =
    subst (λ (z : Event). IsEvent line z) (some_is _ _ is)
    (two_words line head (codes "fail") (codes "poll") words e h (w ∙ ap (λ (z : List ℕ). z ∷ []) (head_is word (codes "poll") eb)), tt)
failing_by line head word words event false false e h w ea eb is = absurd (cc is)

fail_was : (line head : List ℕ) (words : List (List ℕ)) (event : Event) → words_of line ≡ head ∷ words → bytes_eq head (codes "fail") ≡ true → fail_said words ≡ Ok event → IsEvent line event
fail_was line head words event e h is =
    let o = needed Words (if_one words) (λ word. need Words (failing word) (λ event. Ok event)) event is in
    let f = needed Words (failing o.value) (λ event. Ok event) event o.gives in
    let same : f.value ≡ event = ok_is f.value event f.gives in
    subst (λ (z : Event). IsEvent line z) same (failing_by line head o.value words f.value _ _ e h (one_was words o.value o.is) refl refl f.is)

counts_event : (line head name : List ℕ) (words : List (List ℕ)) (make : ℕ → Event) (event : Event) → words_of line ≡ head ∷ words → bytes_eq head name ≡ true
    → made make (count_said words) ≡ Ok event → ((n : ℕ) → (name ++ 32 ∷ decimal n ≡ event_line (make n)) × (MayStand (make n) ≡ IsCount n)) → IsEvent line event
counts_event line head name words make event e h is spelled =
    let c = counted_was words make 1 (2 ^ 32 - 1) event is in
    let s = spelled c.n in
    let small : c.n < 2 ^ 32 = omega (arith, c.high) in
    subst (λ (z : Event). IsEvent line z) c.is
    (two_words line head name (decimal c.n) words e h c.are ∙ s.0, subst (λ (T : Type 0). T) (sym s.1) (c.low, small))

short_by : (line head : List ℕ) (words : List (List ℕ)) (event : Event) (a b c d f : Bool) → words_of line ≡ head ∷ words
    → bytes_eq head (codes "up") ≡ a → bytes_eq head (codes "down") ≡ b → bytes_eq head (codes "fail") ≡ c → bytes_eq head (codes "giveup") ≡ d → bytes_eq head (codes "rest") ≡ f
    → cond a (made Up (count_said words)) (cond b (made Down (count_said words)) (cond c (fail_said words) (cond d (alone GiveUp words) (cond f (alone Rest words) (made Dev (dev_said (head ∷ words))))))) ≡ Ok event
    → IsEvent line event
short_by line head words event true b c d f e ea eb ec ed ef is = counts_event line head (codes "up") words Up event e ea is (λ n. (refl, refl))
short_by line head words event false true c d f e ea eb ec ed ef is = counts_event line head (codes "down") words Down event e eb is (λ n. (refl, refl))
short_by line head words event false false true d f e ea eb ec ed ef is = fail_was line head words event e ec is
short_by line head words event false false false true f e ea eb ec ed ef is =
    let a = alone_was GiveUp event words is in
    subst (λ (z : Event). IsEvent line z) a.1 (one_word line head (codes "giveup") words e ed a.0, tt)
short_by line head words event false false false false true e ea eb ec ed ef is =
    let a = alone_was Rest event words is in
    subst (λ (z : Event). IsEvent line z) a.1 (one_word line head (codes "rest") words e ef a.0, tt)
short_by line head words event false false false false false e ea eb ec ed ef is =
    let m = made_was Dev (dev_said (head ∷ words)) event is in
    subst (λ (z : Event). IsEvent line z) m.2 (dev_was_by line (head ∷ words) m.0 e m.1)

event_by : (line head : List ℕ) (words : List (List ℕ)) (event : Event) (a b : Bool) → words_of line ≡ head ∷ words → bytes_eq head (codes "ask") ≡ a → bytes_eq head (codes "tell") ≡ b
    → cond a (ask_said words) (cond b (tell_said words) (short_said (head ∷ words))) ≡ Ok event → IsEvent line event
event_by line head words event true b e ea eb is = ask_was line head words event e ea is
event_by line head words event false true e ea eb is = tell_was line head words event e eb is
event_by line head words event false false e ea eb is = short_by line head words event _ _ _ _ _ e refl refl refl refl refl is

event_was_by : (line : List ℕ) (words : List (List ℕ)) (event : Event) → words_of line ≡ words → event_said words ≡ Ok event → IsEvent line event
event_was_by line [] event e is = absurd (cc is)
event_was_by line (head ∷ words) event e is = event_by line head words event _ _ e refl refl is

-- a line that says an event is that event's line
pub event_was : (line : List ℕ) (event : Event) → event_said (words_of line) ≡ Ok event → IsEvent line event
event_was line event is = event_was_by line (words_of line) event refl is

tell_is : (session : ℕ) (message : List ℕ) → session ≤ 255 → IsBytes message → tell_said (words_of (decimal session ++ 32 ∷ hex_word message)) ≡ Ok (Tell session message)
tell_is session message s m =
    let small : session < 2 ^ 32 = omega (arith, s) in
    let are : words_of (decimal session ++ 32 ∷ hex_word message) ≡ decimal session ∷ hex_word message ∷ [] =
    number_then session (hex_word message) small ∙ ap (λ (z : List (List ℕ)). decimal session ∷ z) (hex_one message) in
    ap tell_said are
    ∙ (ap (λ (o : Option ℕ). need Number o (λ session. need Hex (bytes_of (hex_word message)) (λ message. Ok (Tell session message)))) (number_in 0 255 session small (omega arith) s)
    ∙ ap (λ (o : Option (List ℕ)). need Hex o (λ message. Ok (Tell session message))) (bytes_is message m))

ask_is : (session limit : ℕ) (message : List ℕ) → session ≤ 255 → limit < 2 ^ 32 → IsBytes message
    → ask_said (words_of (decimal session ++ 32 ∷ (decimal limit ++ 32 ∷ hex_word message))) ≡ Ok (Ask session limit message)
ask_is session limit message s l m =
    let small : session < 2 ^ 32 = omega (arith, s) in
    let are : words_of (decimal session ++ 32 ∷ (decimal limit ++ 32 ∷ hex_word message)) ≡ decimal session ∷ decimal limit ∷ hex_word message ∷ [] =
    number_then session (decimal limit ++ 32 ∷ hex_word message) small
    ∙ ap (λ (z : List (List ℕ)). decimal session ∷ z) (number_then limit (hex_word message) l ∙ ap (λ (z : List (List ℕ)). decimal limit ∷ z) (hex_one message)) in
    ap ask_said are
    ∙ (ap (λ (o : Option ℕ). need Number o (λ session. need Number (number_of (decimal limit)) (λ limit. need Hex (bytes_of (hex_word message)) (λ message. Ok (Ask session limit message))))) (number_in 0 255 session small (omega arith) s)
    ∙ (ap (λ (o : Option ℕ). need Number o (λ limit. need Hex (bytes_of (hex_word message)) (λ message. Ok (Ask session limit message)))) (sym (number_is (decimal limit) limit l refl))
    ∙ ap (λ (o : Option (List ℕ)). need Hex o (λ message. Ok (Ask session limit message))) (bytes_is message m)))

dev_event : (event : DevEvent) → DevMayStand event → event_said (words_of (dev_line event)) ≡ Ok (Dev event)
dev_event (Take n) fits = ap (made Dev) (dev_is (Take n) fits)
dev_event Exec fits = refl
dev_event (Begin n) fits = ap (made Dev) (dev_is (Begin n) fits)
dev_event (Fill n) fits = ap (made Dev) (dev_is (Fill n) fits)
dev_event Answer fits = refl
dev_event Pending fits = refl
dev_event Poll fits = refl
dev_event Notify fits = refl
dev_event (Halt n) fits = ap (made Dev) (dev_is (Halt n) fits)
dev_event Unplug fits = refl

-- and the line of an event that may stand says it
pub event_is : (event : Event) → MayStand event → event_said (words_of (event_line event)) ≡ Ok event
event_is (Ask session limit message) fits = ask_is session limit message fits.0 fits.1 fits.2
event_is (Tell session message) fits = tell_is session message fits.0 fits.1
event_is GiveUp fits = refl
event_is (Up n) fits = ap (made Up) (count_is n fits)
event_is (Down n) fits = ap (made Down) (count_is n fits)
event_is (Dev event) fits = dev_event event fits
event_is FailSend fits = refl
event_is FailPoll fits = refl
event_is Rest fits = refl

-- ---- a line, behind what was said before

abbrev IsSaid : Place → List ℕ → Said → Type 0
IsSaid place line said = (line ≡ said_line said) × SaidMayStand place said

record Deep (line : List ℕ) (said : Said) : Type 0 where
  depth : ℕ
  low : 1 ≤ depth
  high : depth ≤ MAX_DEPTH
  text : line ≡ said_line (Depth depth)
  is : Depth depth ≡ said

depth_was : (line head : List ℕ) (words : List (List ℕ)) (said : Said) → words_of line ≡ head ∷ words → bytes_eq head (codes "depth") ≡ true
    → made Depth (depth_said words) ≡ Ok said → Deep line said
depth_was line head words said e h is =
    let m = made_was Depth (depth_said words) said is in
    let one = needed Words (if_one words) _ m.0 m.1 in
    let n = needed Number (number_of one.value) _ m.0 one.gives in
    let w = needed bad_depth (if_within 1 MAX_DEPTH (Some n.value)) (λ depth. Ok depth) m.0 n.gives in
    let same : w.value ≡ m.0 = ok_is w.value m.0 w.gives in
    let within = within_was 1 MAX_DEPTH w.value one.value (Some n.value) n.is w.is in
    record {
      depth = w.value;
      low = within.low;
      high = within.high;
      text = two_words line head (codes "depth") (decimal w.value) words e h (one_was words one.value one.is ∙ ap (λ (z : List ℕ). z ∷ []) within.written);
      is = ap (λ (z : ℕ). Depth z) same ∙ m.2;
    }

does_was : (place : Place) (line head : List ℕ) (words : List (List ℕ)) (said : Said) → ((event : Event) → MayStand event → SaidMayStand place (Does event))
    → words_of line ≡ head ∷ words → made Does (event_said (head ∷ words)) ≡ Ok said → IsSaid place line said
does_was place line head words said may e is =
    let m = made_was Does (event_said (head ∷ words)) said is in
    let event = event_was_by line (head ∷ words) m.0 e m.1 in
    subst (λ (z : Said). IsSaid place line z) m.2 (event.0, may m.0 event.1)

first_was : (line head : List ℕ) (words : List (List ℕ)) (said : Said) → words_of line ≡ head ∷ words → bytes_eq head (codes "first") ≡ true
    → made First (count_said words) ≡ Ok said → IsSaid Start line said
first_was line head words said e h is =
    let c = counted_was words First 1 (2 ^ 32 - 1) said is in
    let small : c.n < 2 ^ 32 = omega (arith, c.high) in
    subst (λ (z : Said). IsSaid Start line z) c.is (two_words line head (codes "first") (decimal c.n) words e h c.are, (c.low, small))

start_by : (line head : List ℕ) (words : List (List ℕ)) (said : Said) (a b : Bool) → words_of line ≡ head ∷ words
    → bytes_eq head (codes "first") ≡ a → bytes_eq head (codes "depth") ≡ b
    → cond a (made First (count_said words)) (cond b (made Depth (depth_said words)) (made Does (event_said (head ∷ words)))) ≡ Ok said → IsSaid Start line said
start_by line head words said true b e ea eb is = first_was line head words said e ea is
start_by line head words said false true e ea eb is =
    let d = depth_was line head words said e eb is in
    subst (λ (z : Said). IsSaid Start line z) d.is (d.text, (d.low, d.high))
start_by line head words said false false e ea eb is = does_was Start line head words said (λ event may. may) e is

behind_by : (line head : List ℕ) (words : List (List ℕ)) (said : Said) (b : Bool) → words_of line ≡ head ∷ words → bytes_eq head (codes "depth") ≡ b
    → cond b (made Depth (depth_said words)) (made Does (event_said (head ∷ words))) ≡ Ok said → IsSaid BehindFirst line said
behind_by line head words said true e eb is =
    let d = depth_was line head words said e eb is in
    subst (λ (z : Said). IsSaid BehindFirst line z) d.is (d.text, (d.low, d.high))
behind_by line head words said false e eb is = does_was BehindFirst line head words said (λ event may. may) e is

said_was_by : (place : Place) (line : List ℕ) (words : List (List ℕ)) (said : Said) → words_of line ≡ words → line_words place words ≡ Ok said → IsSaid place line said
said_was_by place line [] said e is = absurd (cc is)
said_was_by Start line (head ∷ words) said e is = start_by line head words said _ _ e refl refl is
said_was_by BehindFirst line (head ∷ words) said e is = behind_by line head words said _ e refl is
said_was_by BehindOthers line (head ∷ words) said e is = does_was BehindOthers line head words said (λ event may. may) e is

-- a line that says something is the line that is written of it
pub said_was : (place : Place) (line : List ℕ) (said : Said) → line_words place (words_of line) ≡ Ok said → IsSaid place line said
said_was place line said is = said_was_by place line (words_of line) said refl is

depth_is : (depth : ℕ) → 1 ≤ depth → depth ≤ MAX_DEPTH → depth_said (words_of (decimal depth)) ≡ Ok depth
depth_is depth low high =
    let small : depth < 2 ^ 32 = omega (arith, high) in
    ap depth_said (number_word depth small)
    ∙ (ap (λ (o : Option ℕ). need Number o (λ depth. need bad_depth (if_within 1 MAX_DEPTH (Some depth)) (λ depth. Ok depth))) (sym (number_is (decimal depth) depth small refl))
    ∙ ap (λ (o : Option ℕ). need bad_depth o (λ depth. Ok depth)) (within_is 1 MAX_DEPTH depth low high))

-- no event is written with these words
no_first : (words : List (List ℕ)) (event : Event) → event_said (codes "first" ∷ words) ≡ Ok event → ⊥
no_first words event is = cc is

no_depth : (words : List (List ℕ)) (event : Event) → event_said (codes "depth" ∷ words) ≡ Ok event → ⊥
no_depth words event is = cc is

does_start : (head : List ℕ) (words : List (List ℕ)) (event : Event) (a b : Bool) → bytes_eq head (codes "first") ≡ a → bytes_eq head (codes "depth") ≡ b
    → event_said (head ∷ words) ≡ Ok event
    → cond a (made First (count_said words)) (cond b (made Depth (depth_said words)) (made Does (event_said (head ∷ words)))) ≡ Ok (Does event)
does_start head words event true b ea eb is = absurd (no_first words event (subst (λ (h : List ℕ). event_said (h ∷ words) ≡ Ok event) (head_is head (codes "first") ea) is))
does_start head words event false true ea eb is = absurd (no_depth words event (subst (λ (h : List ℕ). event_said (h ∷ words) ≡ Ok event) (head_is head (codes "depth") eb) is))
does_start head words event false false ea eb is = ap (made Does) is

does_behind : (head : List ℕ) (words : List (List ℕ)) (event : Event) (b : Bool) → bytes_eq head (codes "depth") ≡ b → event_said (head ∷ words) ≡ Ok event
    → cond b (made Depth (depth_said words)) (made Does (event_said (head ∷ words))) ≡ Ok (Does event)
does_behind head words event true eb is = absurd (no_depth words event (subst (λ (h : List ℕ). event_said (h ∷ words) ≡ Ok event) (head_is head (codes "depth") eb) is))
does_behind head words event false eb is = ap (made Does) is

does_is : (place : Place) (words : List (List ℕ)) (event : Event) → event_said words ≡ Ok event → line_words place words ≡ Ok (Does event)
does_is place [] event is = absurd (cc is)
does_is Start (head ∷ words) event is = does_start head words event _ _ refl refl is
does_is BehindFirst (head ∷ words) event is = does_behind head words event _ refl is
does_is BehindOthers (head ∷ words) event is = ap (made Does) is

-- and the line that is written of what may be said there says it
pub said_is : (place : Place) (said : Said) → SaidMayStand place said → line_words place (words_of (said_line said)) ≡ Ok said
said_is Start (First number) fits = ap (made First) (count_is number fits)
said_is Start (Depth depth) fits = ap (made Depth) (depth_is depth fits.0 fits.1)
said_is Start (Does event) fits = does_is Start (words_of (event_line event)) event (event_is event fits)
said_is BehindFirst (First number) fits = absurd fits
said_is BehindFirst (Depth depth) fits = ap (made Depth) (depth_is depth fits.0 fits.1)
said_is BehindFirst (Does event) fits = does_is BehindFirst (words_of (event_line event)) event (event_is event fits)
said_is BehindOthers (First number) fits = absurd fits
said_is BehindOthers (Depth depth) fits = absurd fits
said_is BehindOthers (Does event) fits = does_is BehindOthers (words_of (event_line event)) event (event_is event fits)
