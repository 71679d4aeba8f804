use Rattle.std.proofs.Common.{subst, ap, List, ℕ, ◌≤◌, length, ◌∙◌, min, ◌-◌}
use Rattle.host_transfers.proofs.Reading.{filled}
use Rattle.host_transfers.proofs.head.Head.fill.Goals as goal

pub returns : goal.returns
returns c =
    let few : length c.args.self.now ≤ 12 = subst (λ (l : List ℕ). length l ≤ 12) c.as_slice.ensures.items c.as_slice.ensures.most in
    let n = c.min.ensures ∙ ap (λ (l : List ℕ). min (12 - length l) (length c.args.bytes.now)) c.as_slice.ensures.items in
    filled c.args.self.now c.args.bytes.now c.loop-byte.self c.min.result c.loop-byte.byte-index few n c.loop-byte.invariant c.loop-byte-test.false
