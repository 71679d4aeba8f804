use Rattle.std.proofs.Common.{◌≡◌, ◌+◌, ◌*◌, min, nat_le, Some, ℕ, List, length, take, drop, sym, ◌∙◌, ap, arith, length-drop}
use Rattle.std.proofs.lemmas.List.{take_rest}
use Rattle.host_transfers.proofs.Parting.{is_part, same_le}
use Rattle.host_transfers.proofs.Reading.{take_same}
use Rattle.host_transfers.proofs.part.part_of.Goals as goal

pub returns-clause-text : goal.returns-clause-text
returns-clause-text c =
    let rest = take_rest c.args.message.now (1024 * c.args.count) in
    let n : c.min.result ≡ min (length (drop (1024 * c.args.count) c.args.message.now)) 1024 = c.min.ensures ∙ ap (λ (l : List ℕ). min (length l) 1024) rest in
    ap (λ (l : List ℕ). take c.min.result l) rest ∙ take_same c.min.result 1024 (drop (1024 * c.args.count) c.args.message.now) (omega (arith, n))

pub returns-clause-part : goal.returns-clause-part
returns-clause-part c = λ parts cut.
    let rest = take_rest c.args.message.now (1024 * c.args.count) in
    let n : c.min.result ≡ min (length (drop (1024 * c.args.count) c.args.message.now)) 1024 = c.min.ensures ∙ ap (λ (l : List ℕ). min (length l) 1024) rest in
    let text = ap (λ (l : List ℕ). take c.min.result l) rest ∙ take_same c.min.result 1024 (drop (1024 * c.args.count) c.args.message.now) (omega (arith, n)) in
    let d = length-drop (1024 * c.args.count) c.args.message.now in
    let eom = ap (λ (l : List ℕ). nat_le (length l) 1024) rest ∙ ap (λ (k : ℕ). nat_le k 1024) d ∙ same_le (length c.args.message.now) (1024 * c.args.count) (1024 * (c.args.count + 1)) (omega arith) c.requires in
    let p = is_part parts c.args.message.now c.args.count cut c.requires in
    record { here = p.here ∙ ap Some (sym text); last = eom ∙ p.last }
