use Rattle.std.proofs.Common.{◌≡◌, ℕ, ◌+◌, ◌≤◌, ◌∷◌, List, refl, sym, subst, arith}
use Rattle.usbip_wire.specs.Up as up
use Rattle.host_urbs.specs.declared.limits.TheConstants.{LAST_SUBMIT}
use Rattle.host_urbs.specs.Law.{MayWrite}
use Rattle.host_urbs.specs.Record.{Past, Wrote}
use Rattle.host_urbs.specs.Held.{Held, HasPlace, submit_by, wrote, Follows}
use Rattle.host_urbs.specs.Kept.{IsKept}
use Rattle.host_urbs.proofs.Following.{follows_wrote}
use Rattle.host_urbs.proofs.Keeping.{wrote_is, may_submit, kept_wrote}
use Rattle.host_urbs.proofs.Sizes.{submit_size}
use Rattle.host_urbs.proofs.urbs.Urbs.submit.Goals as goal

abbrev held : goal.After-self-1 → Held
held c = record { devid = c.self.inside.devid; next = c.self.inside.next; entries = c.self.inside.entries; outbox = c.self.inside.outbox }

abbrev message : goal.After-self-1 → up.Message
message c = submit_by (held c) c.args.dir c.args.ep c.args.length c.args.setup c.args.bytes.now

abbrev new : goal.After-self-1 → Held
new c = record { devid = c.self.inside.devid; next = c.self.inside.next + 1; entries = c.push.new.self; outbox = c.put_submit.new.self }

is_new : (c : goal.After-self-1) → new c ≡ wrote (message c) (held c)
is_new c = wrote_is (message c) (held c) c.push.new.self c.put_submit.new.self c.as_slice.result.now c.put_submit.ensures.written c.as_slice.ensures c.push.ensures

may : (c : goal.After-self-1) (first : ℕ) (past : Past) (front : List ℕ) → Follows first past front (held c) → MayWrite first past (message c)
may c =
    let last = subst (λ (h : Held). h.next ≤ LAST_SUBMIT) (sym c.self.view_is) c.requires.last in
    let place = subst (λ (h : Held). HasPlace h) (sym c.self.view_is) c.requires.place in
    may_submit (held c) c.args.dir c.args.ep c.args.length c.args.setup c.args.bytes.now last place

pub invariant_of-self : goal.invariant_of-self
invariant_of-self c =
    let size = submit_size (record { seqnum = c.self.inside.next; devid = c.self.inside.devid; dir = c.args.dir; ep = c.args.ep; length = c.args.length; setup = c.args.setup }) c.args.bytes.now c.put_submit.ensures.spelled.setup in
    subst (λ (h : Held). IsKept h c.self.inside.dirs) (sym (is_new c))
    (kept_wrote (message c) (held c) c.self.inside.dirs c.self.invariant (may c) refl c.put_submit.ensures.spelled (omega (arith, size)) c.requires.short)

pub returns-clause-recorded : goal.returns-clause-recorded
returns-clause-recorded c =
    rw (← c.self.view_is) (λ first past front f. subst (λ (h : Held). Follows first (Wrote (message c) ∷ past) front h) (sym (is_new c))
    (follows_wrote first past front (held c) (message c) f (may c first past front f) refl c.put_submit.ensures.spelled))
