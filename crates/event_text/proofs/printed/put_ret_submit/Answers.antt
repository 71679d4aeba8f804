use Rattle.std.proofs.Common.{rules, ◌≡◌, ◌∙◌, ap, subst, ℕ, ℤ, to_z, of_z, w32, List, [], ◌∷◌, ◌++◌, OnOk, codes}
use Rattle.std.specs.Fmt.{decimal, signed_decimal}
use Rattle.event_text.specs.Words.{hex_word}
use Rattle.event_text.proofs.Texts.{answered_then}
use Rattle.event_text.proofs.printed.put_ret_submit.Goals as goal

pub returns : goal.returns
returns c =
    let old = c.args.text.now.items in
    let head = c.args.head.now in
    let tail : List ℕ = hex_word c.args.carried.now ++ 10 ∷ [] in
    let rest : List ℕ = 32 ∷ (decimal head.actual ++ 32 ∷ tail) in
    let same : to_z w32 (of_z w32 head.status) ≡ head.status = search rules in
    subst (λ (l : List ℕ). OnOk c.put_parts.result (c.put_parts.new.out.items ≡ l))
    (ap (λ (n : ℕ). c.put_answered.new.text.items ++ 32 ∷ (decimal n ++ 32 ∷ tail)) c.from.ensures
    ∙ (ap (λ (l : List ℕ). l ++ rest) c.in_ok-put_answered.ensures
    ∙ (ap (λ (z : ℤ). (old ++ (codes "ret_submit " ++ (decimal head.seqnum ++ 32 ∷ signed_decimal z))) ++ rest) same
    ∙ answered_then old (codes "ret_submit ") (decimal head.seqnum) (signed_decimal head.status) rest)))
    c.put_parts.ensures
