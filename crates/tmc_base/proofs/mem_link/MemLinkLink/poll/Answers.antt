use Rattle.std.proofs.Common.{◌≡◌, ◌+◌, ◌-◌, ◌≤◌, ◌++◌, min, length, take, drop, sym, ap, ◌∙◌, take-add, arith}
use Rattle.std.proofs.lemmas.List.{take_rest, length-drop}
use Rattle.tmc_base.specs.Told.{Bytes}
use Rattle.tmc_base.specs.MemLink.{Linked}
use Rattle.tmc_base.specs.FailPlan.{after_call, next_fails}
use Rattle.tmc_base.proofs.Linked.{polled}
use Rattle.tmc_base.proofs.Pieces.{front-copied}
use Rattle.tmc_base.proofs.mem_link.MemLinkLink.poll.Goals as goal

pub returns-clause-told : goal.returns-clause-told
returns-clause-told c =
    let gives = c.self.inside.gives.items in
    let at = c.self.inside.at in
    let n = c.min-n.result in
    let copy : c.copy_from_slice.new.self ≡ take n (drop at gives) =
    c.copy_from_slice.ensures.after ∙ ap (take n) (ap (λ xs. take (length xs - at) (drop at xs)) c.deref.ensures.value ∙ take_rest gives at) in
    let fits : n ≤ length (drop at gives) = omega (arith, length-drop at gives, c.deref.ensures.len, c.min-n.ensures) in
    let front = front-copied (drop at gives) (drop n c.args.buf.now) c.copy_from_slice.new.self n copy fits in
    rw (← c.self.view_is) (ap (Bytes c.self.inside.sent.items) (take-add at n gives ∙ ap (λ xs. take at gives ++ xs) (sym front)))

pub returns-clause-goes : goal.returns-clause-goes
returns-clause-goes c =
    let gives = c.self.inside.gives.items in
    let at = c.self.inside.at in
    let n = c.min-n.result in
    let begins : drop at gives ≡ c.args.self.now.left = ap (λ (h : Linked). h.left) c.self.view_is in
    let given : take (length c.deref.result.now - at) (drop at c.deref.result.now) ≡ c.args.self.now.left =
    ap (λ xs. take (length xs - at) (drop at xs)) c.deref.ensures.value ∙ (take_rest gives at ∙ begins) in
    let copy : c.copy_from_slice.new.self ≡ take n c.args.self.now.left = c.copy_from_slice.ensures.after ∙ ap (take n) given in
    let fits : n ≤ length c.args.self.now.left = omega (arith, ap length given, c.min-n.ensures, c.min.ensures) in
    let plan = c.next_fails.ensures.counted ∙ ap (λ (h : Linked). after_call h.poll_plan) c.self.view_is in (
      ap (λ (h : Linked). next_fails h.poll_plan) (sym c.self.view_is) ∙ (sym c.next_fails.ensures.answer ∙ c.if-next_fails.false),
      c.min-n.ensures ∙ ap (min (length c.args.buf.now)) (c.min.ensures ∙ ap (λ xs. min c.self.inside.most_poll (length xs)) given ∙ ap (λ (h : Linked). min h.most_poll (length c.args.self.now.left)) c.self.view_is),
      front-copied c.args.self.now.left (drop n c.args.buf.now) c.copy_from_slice.new.self n copy fits,
      ap (λ (h : Linked). record h { taken = take (at + n) gives; left = drop (at + n) gives; poll_plan = c.next_fails.new.self }) c.self.view_is
          ∙ polled c.args.self.now gives at n c.next_fails.new.self (ap (λ (h : Linked). h.taken) c.self.view_is) begins plan,
    )
