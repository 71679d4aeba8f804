-- the layout of an answer is that of its request, and the bytes have one answer
use Rattle.std.proofs.Common.{◌≡◌, ℕ, ◌^◌, ◌<◌, ◌≤◌, ◌⊎◌, inl, inr, Bool, List, [], ◌∷◌, ◌++◌, Option, Some, None, MatchOption, Result, Ok, Err, MatchResult, length, get_or, take, drop, refl, sym, ap, ◌∙◌, subst, arith, length-append}
use Rattle.std.specs.Int.{w32, from_le_bytes}
use Rattle.std.proofs.lemmas.Nat.{from_le_bytes-to_le_bytes_4}
use Rattle.std.proofs.lemmas.List.{take-append-drop, length-take}
use Rattle.tmc_wire.specs.declared.class_request.ClassRequest.{ClassRequest}
use Rattle.tmc_wire.specs.declared.class_request.ClassRequest.TheVariants.{AbortOut, CheckOut, AbortIn, CheckIn, Clear, CheckClear, Capabilities, Pulse, ReadStatus, Ren, GoLocal, Lockout}
use Rattle.tmc_wire.specs.declared.class_answer.ClassAnswer.{ClassAnswer}
use Rattle.tmc_wire.specs.ClassAnswer.{IsStatusAlone, HasSecond, HasCount, HasStatusByte, HasCapabilities, IsAnswer, answer_length}
use Rattle.std.specs.Prelude.{◌↔◌}
use Rattle.tmc_base.specs.declared.field.Field.{Field}
use Rattle.tmc_wire.specs.Short.{short_answer}
use Rattle.tmc_wire.proofs.Cutting.{le_four}
use Rattle.tmc_wire.proofs.Exact.{ok_exactly, err_exactly}

-- what the bytes give for a request
abbrev pub Gives : List ℕ → Option ClassAnswer → ClassRequest → Type 0
Gives bytes o request = MatchOption o (length bytes < answer_length request) (λ (answer : ClassAnswer). IsAnswer request answer bytes)

pub alone_gives : (bytes : List ℕ) (o : Option ClassAnswer) (r : ClassRequest)
    → (r ≡ Clear) ⊎ ((r ≡ Pulse) ⊎ (((on : Bool) × (r ≡ Ren on)) ⊎ ((r ≡ GoLocal) ⊎ (r ≡ Lockout))))
    → MatchOption o (length bytes < 1) (λ (answer : ClassAnswer). IsStatusAlone answer bytes) → Gives bytes o r
alone_gives bytes o r (inl e) h = subst (Gives bytes o) (sym e) h
alone_gives bytes o r (inr (inl e)) h = subst (Gives bytes o) (sym e) h
alone_gives bytes o r (inr (inr (inl e))) h = subst (Gives bytes o) (sym e.1) h
alone_gives bytes o r (inr (inr (inr (inl e)))) h = subst (Gives bytes o) (sym e) h
alone_gives bytes o r (inr (inr (inr (inr e)))) h = subst (Gives bytes o) (sym e) h

pub second_gives : (bytes : List ℕ) (o : Option ClassAnswer) (r : ClassRequest)
    → ((tag : ℕ) × (r ≡ AbortOut tag)) ⊎ (((tag : ℕ) × (r ≡ AbortIn tag)) ⊎ (r ≡ CheckClear))
    → MatchOption o (length bytes < 2) (λ (answer : ClassAnswer). HasSecond answer bytes) → Gives bytes o r
second_gives bytes o r (inl e) h = subst (Gives bytes o) (sym e.1) h
second_gives bytes o r (inr (inl e)) h = subst (Gives bytes o) (sym e.1) h
second_gives bytes o r (inr (inr e)) h = subst (Gives bytes o) (sym e) h

pub count_gives : (bytes : List ℕ) (o : Option ClassAnswer) (r : ClassRequest)
    → (r ≡ CheckOut) ⊎ (r ≡ CheckIn)
    → MatchOption o (length bytes < 8) (λ (answer : ClassAnswer). HasCount answer bytes) → Gives bytes o r
count_gives bytes o r (inl e) h = subst (Gives bytes o) (sym e) h
count_gives bytes o r (inr e) h = subst (Gives bytes o) (sym e) h

-- the capabilities stand behind the second byte
pub capabilities_given : (bytes : List ℕ) (o : Option ClassAnswer) → 24 ≤ length bytes
    → MatchOption o (length bytes < 2) (λ (answer : ClassAnswer). HasSecond answer bytes)
    → MatchOption o (length bytes < 24) (λ (answer : ClassAnswer). HasCapabilities answer bytes)
capabilities_given bytes None long h = omega arith
capabilities_given bytes (Some a) long h = record {
  capabilities = take 22 h.more;
  more = drop 22 h.more;
  size = length-take 22 h.more ∙ omega (arith, ap length h.layout);
  layout = h.layout ∙ ap (λ (xs : List ℕ). a.status ∷ a.second ∷ xs) (sym (take-append-drop 22 h.more));
  no_bytes = h.no_bytes;
}

abbrev byte : List ℕ → ℕ → ℕ
byte bytes k = get_or bytes k 0

front_eight : (bytes : List ℕ) → 8 ≤ length bytes
    → bytes ≡ byte bytes 0 ∷ byte bytes 1 ∷ byte bytes 2 ∷ byte bytes 3 ∷ byte bytes 4 ∷ byte bytes 5 ∷ byte bytes 6 ∷ byte bytes 7 ∷ drop 8 bytes
front_eight [] h = absurd (omega (arith, h))
front_eight (a ∷ []) h = absurd (omega (arith, h))
front_eight (a ∷ b ∷ []) h = absurd (omega (arith, h))
front_eight (a ∷ b ∷ c ∷ []) h = absurd (omega (arith, h))
front_eight (a ∷ b ∷ c ∷ d ∷ []) h = absurd (omega (arith, h))
front_eight (a ∷ b ∷ c ∷ d ∷ e ∷ []) h = absurd (omega (arith, h))
front_eight (a ∷ b ∷ c ∷ d ∷ e ∷ f ∷ []) h = absurd (omega (arith, h))
front_eight (a ∷ b ∷ c ∷ d ∷ e ∷ f ∷ g ∷ []) h = absurd (omega (arith, h))
front_eight (a ∷ b ∷ c ∷ d ∷ e ∷ f ∷ g ∷ i ∷ more) h = refl

-- the count is the four bytes behind the first four
pub count_given : (bytes : List ℕ) (count : ℕ) → 8 ≤ length bytes → ((k : ℕ) → byte bytes k < 256) → count < 2 ^ 32
    → count ≡ from_le_bytes w32 (byte bytes 4 ∷ byte bytes 5 ∷ byte bytes 6 ∷ byte bytes 7 ∷ [])
    → HasCount (record { status = byte bytes 0; second = byte bytes 1; bytes = count }) bytes
count_given bytes count long fits small is = record {
  third = byte bytes 2;
  fourth = byte bytes 3;
  more = drop 8 bytes;
  fits = small;
  layout = front_eight bytes long
      ∙ ap (λ (xs : List ℕ). byte bytes 0 ∷ byte bytes 1 ∷ byte bytes 2 ∷ byte bytes 3 ∷ (xs ++ drop 8 bytes))
      (sym (le_four (byte bytes 4) (byte bytes 5) (byte bytes 6) (byte bytes 7) count (fits 4) (fits 5) (fits 6) (fits 7) is));
}

-- ---- one answer

byte-is : (xs ys : List ℕ) (k : ℕ) → xs ≡ ys → get_or xs k 0 ≡ get_or ys k 0
byte-is xs ys k e = ap (λ (l : List ℕ). get_or l k 0) e

fields-by : (s s' t t' n n' : ℕ) → s ≡ s' → t ≡ t' → n ≡ n'
    → (let x : ClassAnswer = record { status = s; second = t; bytes = n } in x) ≡ record { status = s'; second = t'; bytes = n' }
fields-by s s' t t' n n' p q r = cc

answer-by : (a b : ClassAnswer) → a.status ≡ b.status → a.second ≡ b.second → a.bytes ≡ b.bytes → a ≡ b
answer-by a b p q r = fields-by a.status b.status a.second b.second a.bytes b.bytes p q r

one_alone : (bytes : List ℕ) (a b : ClassAnswer) → IsStatusAlone a bytes → IsStatusAlone b bytes → a ≡ b
one_alone bytes a b h k =
    answer-by a b (byte-is _ _ 0 (sym h.layout ∙ k.layout)) (h.no_second ∙ sym k.no_second) (h.no_bytes ∙ sym k.no_bytes)

one_second : (bytes : List ℕ) (a b : ClassAnswer) → HasSecond a bytes → HasSecond b bytes → a ≡ b
one_second bytes a b h k =
    let e = sym h.layout ∙ k.layout in
    answer-by a b (byte-is _ _ 0 e) (byte-is _ _ 1 e) (h.no_bytes ∙ sym k.no_bytes)

one_status_byte : (bytes : List ℕ) (a b : ClassAnswer) → HasStatusByte a bytes → HasStatusByte b bytes → a ≡ b
one_status_byte bytes a b h k =
    let e = sym h.layout ∙ k.layout in
    answer-by a b (byte-is _ _ 0 e) (byte-is _ _ 1 e) (byte-is _ _ 2 e)

one_capabilities : (bytes : List ℕ) (a b : ClassAnswer) → HasCapabilities a bytes → HasCapabilities b bytes → a ≡ b
one_capabilities bytes a b h k =
    let e = sym h.layout ∙ k.layout in
    answer-by a b (byte-is _ _ 0 e) (byte-is _ _ 1 e) (h.no_bytes ∙ sym k.no_bytes)

abbrev count_of : List ℕ → ℕ
count_of bytes = from_le_bytes w32 (get_or bytes 4 0 ∷ get_or bytes 5 0 ∷ get_or bytes 6 0 ∷ get_or bytes 7 0 ∷ [])

one_count : (bytes : List ℕ) (a b : ClassAnswer) → HasCount a bytes → HasCount b bytes → a ≡ b
one_count bytes a b h k =
    let e = sym h.layout ∙ k.layout in
    answer-by a b (byte-is _ _ 0 e) (byte-is _ _ 1 e)
    (sym (from_le_bytes-to_le_bytes_4 a.bytes h.fits) ∙ ap count_of e ∙ from_le_bytes-to_le_bytes_4 b.bytes k.fits)

pub one_answer : (bytes : List ℕ) (r : ClassRequest) (a b : ClassAnswer) → IsAnswer r a bytes → IsAnswer r b bytes → a ≡ b
one_answer bytes (AbortOut tag) = one_second bytes
one_answer bytes CheckOut = one_count bytes
one_answer bytes (AbortIn tag) = one_second bytes
one_answer bytes CheckIn = one_count bytes
one_answer bytes Clear = one_alone bytes
one_answer bytes CheckClear = one_second bytes
one_answer bytes Capabilities = one_capabilities bytes
one_answer bytes Pulse = one_alone bytes
one_answer bytes (ReadStatus tag) = one_status_byte bytes
one_answer bytes (Ren on) = one_alone bytes
one_answer bytes GoLocal = one_alone bytes
one_answer bytes Lockout = one_alone bytes

-- ---- an answer has the length of its layout

length-is : (xs ys : List ℕ) → xs ≡ ys → length xs ≡ length ys
length-is xs ys e = ap length e

long_alone : (bytes : List ℕ) (a : ClassAnswer) → IsStatusAlone a bytes → 1 ≤ length bytes
long_alone bytes a h = omega (arith, length-is _ _ h.layout)

long_second : (bytes : List ℕ) (a : ClassAnswer) → HasSecond a bytes → 2 ≤ length bytes
long_second bytes a h = omega (arith, length-is _ _ h.layout)

long_status_byte : (bytes : List ℕ) (a : ClassAnswer) → HasStatusByte a bytes → 3 ≤ length bytes
long_status_byte bytes a h = omega (arith, length-is _ _ h.layout)

long_count : (bytes : List ℕ) (a : ClassAnswer) → HasCount a bytes → 8 ≤ length bytes
long_count bytes a h = omega (arith, length-is _ _ h.layout)

long_capabilities : (bytes : List ℕ) (a : ClassAnswer) → HasCapabilities a bytes → 24 ≤ length bytes
long_capabilities bytes a h = omega (arith, length-is _ _ h.layout, length-append h.capabilities h.more)

pub long_enough : (bytes : List ℕ) (r : ClassRequest) (a : ClassAnswer) → IsAnswer r a bytes → answer_length r ≤ length bytes
long_enough bytes (AbortOut tag) = long_second bytes
long_enough bytes CheckOut = long_count bytes
long_enough bytes (AbortIn tag) = long_second bytes
long_enough bytes CheckIn = long_count bytes
long_enough bytes Clear = long_alone bytes
long_enough bytes CheckClear = long_second bytes
long_enough bytes Capabilities = long_capabilities bytes
long_enough bytes Pulse = long_alone bytes
long_enough bytes (ReadStatus tag) = long_status_byte bytes
long_enough bytes (Ren on) = long_alone bytes
long_enough bytes GoLocal = long_alone bytes
long_enough bytes Lockout = long_alone bytes

-- ---- both clauses

abbrev pub IsShort : List ℕ → ClassRequest → Field → Type 0
IsShort bytes r field = (field ≡ short_answer bytes) × (length bytes < answer_length r)

abbrev pub Holds : List ℕ → ClassRequest → Result ClassAnswer Field → Type 0
Holds bytes r answered = MatchResult answered (λ (answer : ClassAnswer). IsAnswer r answer bytes) (IsShort bytes r)

apart : (bytes : List ℕ) (r : ClassRequest) (a : ClassAnswer) (field : Field) → IsAnswer r a bytes → IsShort bytes r field → ⊥
apart bytes r a field h k = omega (arith, long_enough bytes r a h, k.1)

pub answer_exactly : (bytes : List ℕ) (r : ClassRequest) (answered : Result ClassAnswer Field) → Holds bytes r answered
    → (answer : ClassAnswer) → (answered ≡ Ok answer) ↔ IsAnswer r answer bytes
answer_exactly bytes r answered h =
    ok_exactly (λ (answer : ClassAnswer). IsAnswer r answer bytes) (IsShort bytes r) answered (one_answer bytes r) (apart bytes r) h

pub short_exactly : (bytes : List ℕ) (r : ClassRequest) (answered : Result ClassAnswer Field) → Holds bytes r answered
    → (field : Field) → (answered ≡ Err field) ↔ IsShort bytes r field
short_exactly bytes r answered h =
    err_exactly (λ (answer : ClassAnswer). IsAnswer r answer bytes) (IsShort bytes r) answered (λ a b p q. p.0 ∙ sym q.0) (apart bytes r) h
