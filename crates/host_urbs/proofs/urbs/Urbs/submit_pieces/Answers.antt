use Rattle.std.proofs.Common.{◌≡◌, ℕ, ◌+◌, ◌≤◌, ◌∷◌, ◌++◌, List, length, refl, sym, subst, ◌∙◌, ap, arith, length-append}
use Rattle.std.specs.Prelude.{replicate}
use Rattle.tmc_base.specs.declared.limits.TheConstants.{SUBMIT_MAX}
use Rattle.usbip_wire.specs.declared.urb.Dir.TheVariants.{Out}
use Rattle.usbip_wire.specs.Up as up
use Rattle.usbip_wire.specs.Up.{Spells}
use Rattle.host_urbs.specs.declared.limits.TheConstants.{LAST_SUBMIT}
use Rattle.host_urbs.specs.Law.{MayWrite}
use Rattle.host_urbs.specs.Record.{Past, Wrote}
use Rattle.host_urbs.specs.Held.{Held, HasPlace, joined, submit_by, bytes_of, wrote, Follows}
use Rattle.host_urbs.specs.Kept.{IsKept}
use Rattle.host_urbs.proofs.Following.{follows_wrote}
use Rattle.host_urbs.proofs.Keeping.{wrote_is, may_submit, kept_wrote}
use Rattle.host_urbs.proofs.Sizes.{submit_size}
use Rattle.host_urbs.proofs.urbs.Urbs.submit_pieces.Goals as goal

abbrev held : goal.After-self-1 → Held
held c = record { devid = c.self.inside.devid; next = c.self.inside.next; entries = c.self.inside.entries; outbox = c.self.inside.outbox }

abbrev pieces : goal.After-self-1 → List ℕ
pieces c = joined c.args.front.now c.args.text.now c.args.behind.now

-- the message, of this size
abbrev message : goal.After-self-1 → ℕ → up.Message
message c size = submit_by (held c) Out c.args.ep size (replicate 8 0) (pieces c)

abbrev sum : goal.After-self-1 → ℕ
sum c = length c.args.front.now + length c.args.text.now + length c.args.behind.now

size_is : (c : goal.After-self-1) → sum c ≡ length (pieces c)
size_is c = omega (arith, length-append c.args.front.now (c.args.text.now ++ c.args.behind.now), length-append c.args.text.now c.args.behind.now)

abbrev new : goal.After-self-1 → Held
new c = record { devid = c.self.inside.devid; next = c.self.inside.next + 1; entries = c.push.new.self; outbox = c.put_pieces.new.self }

is_new : (c : goal.After-self-1) → new c ≡ wrote (message c (length (pieces c))) (held c)
is_new c =
    wrote_is (message c (sum c)) (held c) c.push.new.self c.put_pieces.new.self c.as_slice.result.now c.put_pieces.ensures.written c.as_slice.ensures c.push.ensures
    ∙ ap (λ (n : ℕ). wrote (message c n) (held c)) (size_is c)

spelled : (c : goal.After-self-1) → Spells c.self.inside.devid (message c (length (pieces c))) (bytes_of (message c (length (pieces c))))
spelled c = subst (λ (n : ℕ). Spells c.self.inside.devid (message c n) (bytes_of (message c n))) (size_is c) c.put_pieces.ensures.spelled

may : (c : goal.After-self-1) (first : ℕ) (past : Past) (front : List ℕ) → Follows first past front (held c) → MayWrite first past (message c (length (pieces c)))
may c =
    let last = subst (λ (h : Held). h.next ≤ LAST_SUBMIT) (sym c.self.view_is) c.requires.last in
    let place = subst (λ (h : Held). HasPlace h) (sym c.self.view_is) c.requires.place in
    may_submit (held c) Out c.args.ep (length (pieces c)) (replicate 8 0) (pieces c) last place

pub invariant_of-self : goal.invariant_of-self
invariant_of-self c =
    let size = submit_size (record { seqnum = c.self.inside.next; devid = c.self.inside.devid; dir = Out; ep = c.args.ep; length = length (pieces c); setup = replicate 8 0 }) (pieces c) refl in
    let short : length (pieces c) ≤ SUBMIT_MAX = omega (arith, c.requires.room) in
    subst (λ (h : Held). IsKept h c.self.inside.dirs) (sym (is_new c))
    (kept_wrote (message c (length (pieces c))) (held c) c.self.inside.dirs c.self.invariant (may c) refl (spelled c) (omega (arith, size)) short)

pub returns-clause-recorded : goal.returns-clause-recorded
returns-clause-recorded c =
    rw (← c.self.view_is) (λ first past sent f. subst (λ (h : Held). Follows first (Wrote (message c (length (pieces c))) ∷ past) sent h) (sym (is_new c))
    (follows_wrote first past sent (held c) (message c (length (pieces c))) f (may c first past sent f) refl (spelled c)))
