use Rattle.std.proofs.Common.{◌≡◌, ◌∙◌, refl, sym, ap, true, List, ℕ, [], ◌∷◌, ◌++◌, length, take, append_assoc, append-nil, arith}
use Rattle.std.proofs.lemmas.Bool.{eqb-true}
use Rattle.std.specs.Prelude.{◌==◌}
use Rattle.std.proofs.lemmas.List.{take-append-drop}
use Rattle.hex.specs.Hex.{encode_lower}
use Rattle.event_text.proofs.Texts.{encode_pieces, encode_none}
use Rattle.event_text.proofs.text.put_digits.Goals as goal

none_left : (l : List ℕ) → true ≡ (length l == 0) → l ≡ []
none_left [] is = refl
none_left (x ∷ l) is = absurd (omega (arith, eqb-true (length (x ∷ l)) 0 (sym is)))

pub returns : goal.returns
returns c =
    let out = c.loop-rest.out.items in
    sym (append-nil out)
    ∙ (ap (λ (l : List ℕ). out ++ l) (sym encode_none)
    ∙ (ap (λ (l : List ℕ). out ++ encode_lower l) (sym (none_left c.loop-rest.rest.now c.loop-rest-test.ensures))
    ∙ c.loop-rest.invariant))

pub loop-rest-preserved : goal.loop-rest-preserved
loop-rest-preserved c =
    let out = c.loop-rest.out.items in
    let piece = c.split_at.result.0.now in
    let more = c.split_at.result.1.now in
    let both : piece ++ more ≡ c.loop-rest.rest.now =
    ap (λ (l : List ℕ). l ++ more) c.split_at.ensures.front ∙ (ap (λ (l : List ℕ). take c.min.result c.loop-rest.rest.now ++ l) c.split_at.ensures.back
    ∙ take-append-drop c.min.result c.loop-rest.rest.now) in
    ap (λ (l : List ℕ). l ++ encode_lower more) (c.in_ok-extend_from_slice-in-Ok.ensures.items ∙ ap (λ (l : List ℕ). out ++ l) c.in-Ok.ensures.written)
    ∙ (append_assoc out (encode_lower piece) (encode_lower more)
    ∙ (ap (λ (l : List ℕ). out ++ l) (sym (encode_pieces piece more))
    ∙ (ap (λ (l : List ℕ). out ++ encode_lower l) both
    ∙ c.loop-rest.invariant)))
