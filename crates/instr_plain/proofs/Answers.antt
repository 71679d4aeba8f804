-- the answers of a message, and the response that they make
use Rattle.std.proofs.Common.{◌≡◌, ◌∙◌, ℕ, ◌+◌, ◌-◌, ◌*◌, ◌%◌, ◌<◌, ◌==◌, Bool, true, false, not, ◌||◌, List, [], ◌∷◌, ◌++◌, length, take, Option, Some, None, leb, ap, sym, refl, arith, append_assoc, length-append}
use Rattle.std.specs.Prelude.{is_some, MatchOption}
use Rattle.std.specs.Option.{option_to_list}
use Rattle.std.proofs.lemmas.Bool.{false≢true}
use Rattle.std.specs.Fmt.{decimal}
use Rattle.std.proofs.Math.Seq.{take-append_seam}
use Rattle.std.proofs.lemmas.List.FromFn.{map-range_with_len_more, length-map-range_with_len}
use Rattle.std.proofs.lemmas.Bool.Decides.{nat_tests}
use Rattle.instr_plain.specs.declared.plain.Plain.{Plain}
use Rattle.instr_plain.specs.declared.answer.Answer.{Answer}
use Rattle.instr_plain.specs.declared.answer.Answer.TheVariants.{Block}
use Rattle.instr_plain.specs.Status.{query_error, with_event}
use Rattle.instr_plain.specs.Answer.{samples, bytes_of, is_last}
use Rattle.instr_plain.specs.Exec.{response_most, Progress, response_of, some_stand, told}
use Rattle.instr_plain.specs.Output.{parts_of, Written, written, IsAt, with_answer, is_too_long}

-- answers end with `;`, and as a response with NL
pub record Ends (answer : List ℕ) (answers : List (List ℕ)) : Type 0 where
  pub body : List ℕ
  pub parts : parts_of (answer ∷ answers) ≡ body ++ 59 ∷ []
  pub response : response_of (answer ∷ answers) ≡ body ++ 10 ∷ []

pub ends : (answer : List ℕ) (answers : List (List ℕ)) → Ends answer answers
ends answer [] = record { body = answer; parts = refl; response = refl }
ends answer (next ∷ answers) =
    let more = ends next answers in
    record {
      body = answer ++ (59 ∷ more.body);
      parts = ap (λ bytes. answer ++ (59 ∷ bytes)) more.parts ∙ sym (append_assoc answer (59 ∷ more.body) (59 ∷ []));
      response = ap (λ bytes. answer ++ (59 ∷ bytes)) more.response ∙ sym (append_assoc answer (59 ∷ more.body) (10 ∷ []));
    }

pub take_front : (xs : List ℕ) (y : ℕ) → take (length (xs ++ y ∷ []) - 1) (xs ++ y ∷ []) ≡ xs
take_front xs y =
    let n : length (xs ++ y ∷ []) - 1 ≡ length xs = omega (arith, length-append xs (y ∷ [])) in
    rw n (take-append_seam xs (y ∷ []))

-- what is written without its last byte, and an NL, is the response
pub finished : (answers : List (List ℕ)) (bytes front : List ℕ) → parts_of answers ≡ bytes → 0 < length bytes → front ≡ take (length bytes - 1) bytes → front ++ 10 ∷ [] ≡ response_of answers
finished [] bytes front e some f = absurd (omega (arith, ap length e))
finished (answer ∷ answers) bytes front e some f =
    let x = ends answer answers in
    let same : bytes ≡ x.body ++ 59 ∷ [] = sym e ∙ x.parts in
    let short : front ≡ x.body = f ∙ ap (λ (b : List ℕ). take (length b - 1) b) same ∙ take_front x.body 59 in
    ap (λ b. b ++ 10 ∷ []) short ∙ sym x.response

pub unanswered : (answers : List (List ℕ)) (bytes front : List ℕ) → parts_of answers ≡ bytes → length bytes ≡ 0 → front ≡ take (length bytes - 1) bytes → front ≡ response_of answers
unanswered [] bytes front e none f = f ∙ ap (λ (b : List ℕ). take (length b - 1) b) (sym e)
unanswered (answer ∷ answers) bytes front e none f =
    let x = ends answer answers in
    absurd (omega (arith, ap length (sym e ∙ x.parts), length-append x.body (59 ∷ [])))

-- what `pop` says of the bytes that it was called at
pub popped : (last : Option ℕ) → is_some last ≡ true → length (option_to_list last) ≡ 1
popped None e = absurd (false≢true e)
popped (Some byte) e = refl

pub not_popped : (last : Option ℕ) (P : Type 0) (Q : ℕ → Type 0) → is_some last ≡ false → MatchOption last P Q → P
not_popped None P Q e h = h
not_popped (Some byte) P Q e h = absurd (false≢true (sym e))

-- one more answer
pub parts_of_push : (answers : List (List ℕ)) (bytes : List ℕ) → parts_of (answers ++ bytes ∷ []) ≡ parts_of answers ++ (bytes ++ 59 ∷ [])
parts_of_push [] bytes = refl
parts_of_push (answer ∷ answers) bytes =
    ap (λ b. answer ++ (59 ∷ b)) (parts_of_push answers bytes) ∙ sym (append_assoc answer (59 ∷ parts_of answers) (bytes ++ 59 ∷ []))

pub length-response_of : (answer : List ℕ) (answers : List (List ℕ)) → length (response_of (answer ∷ answers)) ≡ length (parts_of (answer ∷ answers))
length-response_of answer answers =
    let x = ends answer answers in
    ap length x.response ∙ length-append x.body (10 ∷ []) ∙ sym (length-append x.body (59 ∷ [])) ∙ sym (ap length x.parts)

pub length-response_of_push : (answers : List (List ℕ)) (bytes : List ℕ) → length (response_of (answers ++ bytes ∷ [])) ≡ length (parts_of answers) + length bytes + 1
length-response_of_push [] bytes = omega (arith, length-append bytes (10 ∷ []))
length-response_of_push (answer ∷ answers) bytes =
    omega (arith, length-response_of answer (answers ++ bytes ∷ []), ap length (parts_of_push (answer ∷ answers) bytes), length-append (parts_of (answer ∷ answers)) (bytes ++ 59 ∷ []), length-append bytes (59 ∷ []))

-- MAV within a message
pub some_stand-parts_of : (answers : List (List ℕ)) → not (length (parts_of answers) == 0) ≡ some_stand answers
some_stand-parts_of [] = refl
some_stand-parts_of ([] ∷ answers) = grind (arith, nat_tests)
some_stand-parts_of ((byte ∷ bytes) ∷ answers) = grind (arith, nat_tests)

-- an answer is written as it is told
told_fits : (answer : Answer) (state : Plain) (answers : List (List ℕ)) (ended : Bool)
    → leb (length (parts_of answers) + length (bytes_of answer) + 1) response_most ≡ true
    → IsAt (told (Some answer) (record { state = state; answers = answers; dropped = false; ended = ended })) state (with_answer answer (record { bytes = parts_of answers; dropped = false; ended = ended }))
told_fits answer state answers ended fit =
    rw (length-response_of_push answers (bytes_of answer), fit) (record {
      state_is = refl;
      output_is = ap (λ (b : List ℕ). let w : Written = record { bytes = b; dropped = false; ended = ended || is_last answer } in w) (parts_of_push answers (bytes_of answer));
    })

told_long : (answer : Answer) (state : Plain) (answers : List (List ℕ)) (ended : Bool)
    → leb (length (parts_of answers) + length (bytes_of answer) + 1) response_most ≡ false
    → IsAt (told (Some answer) (record { state = state; answers = answers; dropped = false; ended = ended })) (with_event query_error state) (with_answer answer (record { bytes = parts_of answers; dropped = false; ended = ended }))
told_long answer state answers ended long =
    rw (length-response_of_push answers (bytes_of answer), long) (record { state_is = refl; output_is = refl })

not-false : (b : Bool) → not b ≡ false → b ≡ true
not-false true e = refl
not-false false e = sym e

not-true : (b : Bool) → not b ≡ true → b ≡ false
not-true true e = sym e
not-true false e = refl

told_short_at : (answer : Answer) (state : Plain) (answers : List (List ℕ)) (dropped ended : Bool)
    → is_too_long answer (record { bytes = parts_of answers; dropped = dropped; ended = ended }) ≡ false
    → IsAt (told (Some answer) (record { state = state; answers = answers; dropped = dropped; ended = ended })) state (with_answer answer (record { bytes = parts_of answers; dropped = dropped; ended = ended }))
told_short_at answer state answers true ended short = record { state_is = refl; output_is = refl }
told_short_at answer state answers false ended short = told_fits answer state answers ended (not-false _ short)

told_long_at : (answer : Answer) (state : Plain) (answers : List (List ℕ)) (dropped ended : Bool)
    → is_too_long answer (record { bytes = parts_of answers; dropped = dropped; ended = ended }) ≡ true
    → IsAt (told (Some answer) (record { state = state; answers = answers; dropped = dropped; ended = ended })) (with_event query_error state) (with_answer answer (record { bytes = parts_of answers; dropped = dropped; ended = ended }))
told_long_at answer state answers true ended long = cc
told_long_at answer state answers false ended long = told_long answer state answers ended (not-true _ long)

pub told_short : (answer : Answer) (before : Progress) → is_too_long answer (written before) ≡ false → IsAt (told (Some answer) before) before.state (with_answer answer (written before))
told_short answer before short = told_short_at answer before.state before.answers before.dropped before.ended short

pub told_too_long : (answer : Answer) (before : Progress) → is_too_long answer (written before) ≡ true → IsAt (told (Some answer) before) (with_event query_error before.state) (with_answer answer (written before))
told_too_long answer before long = told_long_at answer before.state before.answers before.dropped before.ended long

-- samples
pub length-samples : (acquisitions conf size : ℕ) → length (samples acquisitions conf size) ≡ size
length-samples acquisitions conf size = length-map-range_with_len (λ k. (31 * acquisitions + 7 * conf + k) % 251) 0 size

pub samples_more : (acquisitions conf size : ℕ) → samples acquisitions conf (size + 1) ≡ samples acquisitions conf size ++ ((31 * acquisitions + 7 * conf + size) % 251) ∷ []
samples_more acquisitions conf size = map-range_with_len_more (λ k. (31 * acquisitions + 7 * conf + k) % 251) 0 size size (omega arith)

pub length-block : (acquisitions conf size : ℕ) → length (bytes_of (Block acquisitions conf size)) ≡ 1 + length (decimal (length (decimal size))) + length (decimal size) + size
length-block acquisitions conf size =
    omega (arith, length-append (decimal (length (decimal size))) (decimal size ++ samples acquisitions conf size), length-append (decimal size) (samples acquisitions conf size), length-samples acquisitions conf size)
