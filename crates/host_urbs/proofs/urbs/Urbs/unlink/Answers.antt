use Rattle.std.proofs.Common.{◌≡◌, ℕ, ◌+◌, ◌∷◌, true, false, List, refl, sym, subst, arith}
use Rattle.std.specs.Prelude.{is_some}
use Rattle.usbip_wire.specs.Awaited.{entries_of}
use Rattle.usbip_wire.specs.Dirs.{find, submit_of}
use Rattle.usbip_wire.specs.Up as up
use Rattle.host_urbs.specs.Law.{is_named, MayWrite}
use Rattle.host_urbs.specs.Record.{Past, Wrote}
use Rattle.host_urbs.specs.Entries.{awaited}
use Rattle.host_urbs.specs.Held.{Held, HasPlace, unlink_by, wrote, Follows}
use Rattle.host_urbs.specs.Kept.{IsKept}
use Rattle.host_urbs.proofs.Following.{follows_wrote, has_number}
use Rattle.host_urbs.proofs.Keeping.{wrote_is, may_unlink, kept_wrote}
use Rattle.host_urbs.proofs.Sizes.{unlink_size}
use Rattle.host_urbs.proofs.urbs.Urbs.unlink.Goals as goal

abbrev held : goal.After-self-1 → Held
held c = record { devid = c.self.inside.devid; next = c.self.inside.next; entries = c.self.inside.entries; outbox = c.self.inside.outbox }

abbrev message : goal.After-self-1 → up.Message
message c = unlink_by (held c) c.args.target

abbrev new : goal.After-self-1 → Held
new c = record { devid = c.self.inside.devid; next = c.self.inside.next + 1; entries = c.push.new.self; outbox = c.put_unlink.new.self }

is_new : (c : goal.After-self-1) → new c ≡ wrote (message c) (held c)
is_new c = wrote_is (message c) (held c) c.push.new.self c.put_unlink.new.self c.as_slice.result.now c.put_unlink.ensures.written c.as_slice.ensures c.push.ensures

there : (c : goal.After-self-1) → is_some (submit_of (find c.args.target (entries_of (awaited c.self.inside.entries)))) ≡ true
there c = subst (λ (h : Held). is_some (submit_of (find c.args.target (entries_of (awaited h.entries)))) ≡ true) (sym c.self.view_is) c.requires.there

once : (c : goal.After-self-1) → is_named c.args.target (awaited c.self.inside.entries) ≡ false
once c = subst (λ (h : Held). is_named c.args.target (awaited h.entries) ≡ false) (sym c.self.view_is) c.requires.once

may : (c : goal.After-self-1) (first : ℕ) (past : Past) (front : List ℕ) → Follows first past front (held c) → MayWrite first past (message c)
may c = may_unlink (held c) c.args.target (subst (λ (h : Held). HasPlace h) (sym c.self.view_is) c.requires.place) (there c) (once c)

pub overflow_add-self : goal.overflow_add-self
overflow_add-self c =
    let there = subst (λ (h : Held). is_some (submit_of (find c.args.target (entries_of (awaited h.entries)))) ≡ true) (sym c.self.view_is) c.requires.there in
    let once = subst (λ (h : Held). is_named c.args.target (awaited h.entries) ≡ false) (sym c.self.view_is) c.requires.once in
    let low = has_number (record { devid = c.self.inside.devid; next = c.self.inside.next; entries = c.self.inside.entries; outbox = c.self.inside.outbox }) c.args.target c.self.invariant.reached there once in
    omega (arith, low)

pub invariant_of-self : goal.invariant_of-self
invariant_of-self c =
    let size = unlink_size (record { seqnum = c.self.inside.next; devid = c.self.inside.devid; target = c.args.target }) in
    subst (λ (h : Held). IsKept h c.self.inside.dirs) (sym (is_new c))
    (kept_wrote (message c) (held c) c.self.inside.dirs c.self.invariant (may c) refl c.put_unlink.ensures.spelled (omega (arith, size)) tt)

pub returns-clause-recorded : goal.returns-clause-recorded
returns-clause-recorded c =
    rw (← c.self.view_is) (λ first past front f. subst (λ (h : Held). Follows first (Wrote (message c) ∷ past) front h) (sym (is_new c))
    (follows_wrote first past front (held c) (message c) f (may c first past front f) refl c.put_unlink.ensures.spelled))
