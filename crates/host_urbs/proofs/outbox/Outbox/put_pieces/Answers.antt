use Rattle.std.proofs.Common.{◌≡◌, inl, ℕ, ◌++◌, [], List, length, drop, refl, sym, subst, ◌∙◌, ap, arith, append_assoc, length-append}
use Rattle.std.proofs.lemmas.List.{drop-append-le}
use Rattle.usbip_wire.specs.declared.urb.Dir.{Dir}
use Rattle.usbip_wire.specs.Submit.{Carries, submit_bytes, unused}
use Rattle.host_urbs.proofs.Patched.{data_behind}
use Rattle.host_urbs.proofs.Sizes.{submit_size}
use Rattle.host_urbs.proofs.outbox.Outbox.put_pieces.Goals as goal

abbrev pieces : goal.After-extend_reserved-3 → List ℕ
pieces c = c.args.front.now ++ (c.args.text.now ++ c.args.behind.now)

written : (c : goal.After-extend_reserved-3) → c.extend_reserved-3.new.self.items ≡ c.make_room.new.bytes.items ++ submit_bytes c.args.head unused (pieces c)
written c =
    c.extend_reserved-3.ensures.items
    ∙ (ap (λ (l : List ℕ). l ++ c.args.behind.now) (c.extend_reserved-2.ensures.items ∙ ap (λ (l : List ℕ). l ++ c.args.text.now) (c.extend_reserved.ensures.items ∙ ap (λ (l : List ℕ). l ++ c.args.front.now) c.put_head.ensures.written))
    ∙ (joined c.make_room.new.bytes.items (submit_bytes c.args.head unused []) c.args.front.now c.args.text.now c.args.behind.now
    ∙ ap (λ (l : List ℕ). c.make_room.new.bytes.items ++ l) (sym (data_behind c.args.head (pieces c)))))
  where
    joined : (old x a b d : List ℕ) → (((old ++ x) ++ a) ++ b) ++ d ≡ old ++ (x ++ (a ++ (b ++ d)))
    joined old x a b d = simp append_assoc

pub returns : goal.returns
returns c = rw (← c.self.view_is) (record {
  written = ap (λ (l : List ℕ). drop c.make_room.new.start l) (written c)
      ∙ (drop-append-le c.make_room.new.start c.make_room.new.bytes.items (submit_bytes c.args.head unused (pieces c)) c.make_room.ensures.within
      ∙ ap (λ (l : List ℕ). l ++ submit_bytes c.args.head unused (pieces c)) c.make_room.ensures.items);
  spelled = record {
    rest = unused;
    imported = refl;
    endpoint = c.requires.endpoint;
    short = c.requires.short;
    packets = inl refl;
    setup = c.put_head.ensures.setup;
    carried = subst (λ (d : Dir). Carries d c.args.head.length (pieces c)) (sym c.requires.out) c.requires.carried;
    wide = c.put_head.ensures.wide;
    layout = refl;
  };
})

pub invariant_of-self : goal.invariant_of-self
invariant_of-self c =
    let size = submit_size c.args.head (pieces c) c.put_head.ensures.setup in
    let long : length c.extend_reserved-3.new.self.items ≡ length (c.make_room.new.bytes.items ++ submit_bytes c.args.head unused (pieces c)) = ap (λ (l : List ℕ). length l) (written c) in
    let more = length-append c.make_room.new.bytes.items (submit_bytes c.args.head unused (pieces c)) in
    let parts = length-append c.args.front.now (c.args.text.now ++ c.args.behind.now) in
    let rest = length-append c.args.text.now c.args.behind.now in (
      omega (arith, long, more, c.make_room.ensures.within),
      omega (arith, long, more, size, parts, rest, c.make_room.ensures.whole, c.put_head.ensures.spare, c.extend_reserved.ensures.spare, c.extend_reserved-2.ensures.spare, c.extend_reserved-3.ensures.spare),
    )
