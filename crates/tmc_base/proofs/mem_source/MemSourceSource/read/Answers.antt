use Rattle.std.proofs.Common.{◌≡◌, ◌+◌, ◌-◌, ◌≤◌, length, take, drop, refl, sym, ap, ◌∙◌, arith}
use Rattle.std.proofs.lemmas.List.{take_rest, length-drop}
use Rattle.tmc_base.specs.MemSource.{Held}
use Rattle.tmc_base.proofs.Pieces.{left-copied}
use Rattle.tmc_base.proofs.mem_source.MemSourceSource.read.Goals as goal

pub returns-clause-told : goal.returns-clause-told
returns-clause-told c =
    let all = c.self.inside.bytes.items in
    let at = c.self.inside.at in
    let n = c.min-n.result in
    let begins : c.args.self.now.left ≡ drop at all = sym (ap (λ (h : Held). h.left) c.self.view_is) in
    let copy : c.copy_from_slice.new.self ≡ take n c.args.self.now.left =
    c.copy_from_slice.ensures.after ∙ ap (take n) (ap (λ xs. take (length xs - at) (drop at xs)) c.deref.ensures.value ∙ (take_rest all at ∙ sym begins)) in
    let fits : n ≤ length c.args.self.now.left = omega (arith, ap length begins, length-drop at all, c.deref.ensures.len, c.min-n.ensures) in
    (drop (at + n) all, left-copied all c.args.self.now.left (drop n c.args.buf.now) c.copy_from_slice.new.self at n begins copy fits, refl)
