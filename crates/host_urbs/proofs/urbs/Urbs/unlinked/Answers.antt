use Rattle.std.proofs.Common.{◌≡◌, ◌∷◌, true, List, sym, subst, ◌∙◌, ap}
use Rattle.usbip_wire.specs.Awaited.{entries_of}
use Rattle.usbip_wire.specs.Dirs.{find, is_unlink}
use Rattle.usbip_wire.specs.Down as down
use Rattle.host_urbs.specs.declared.entry.Entry.{Entry}
use Rattle.host_urbs.specs.declared.urbs.Urbs.TheInside.{Inside}
use Rattle.host_urbs.specs.Record.{Took}
use Rattle.host_urbs.specs.Entries.{awaited, sent, unlinked}
use Rattle.host_urbs.specs.Held.{Held, Follows}
use Rattle.host_urbs.proofs.Following.{follows_unlinked, left_of_unlinked}
use Rattle.host_urbs.proofs.Keeping.{kept_unlinked, entries_kept}
use Rattle.host_urbs.proofs.urbs.Urbs.unlinked.Goals as goal

abbrev held : Inside → Held
held a = record { devid = a.devid; next = a.next; entries = a.entries; outbox = a.outbox }

pub sent-self-inside-requires : goal.sent-self-inside-requires
sent-self-inside-requires c =
    let there = subst (λ (h : Held). is_unlink (find c.args.head.seqnum (entries_of (sent h.entries))) ≡ true) (sym c.self.view_is) c.requires in
    let k = kept_unlinked (held c.self.inside) c.args.head c.self.inside.dirs there c.self.invariant in
    rw c.remove_unlinked.ensures (entries_kept (held c.self.inside) (unlinked c.args.head.seqnum c.self.inside.entries) k.reached k.short)

pub invariant_of-self : goal.invariant_of-self
invariant_of-self c =
    let there = subst (λ (h : Held). is_unlink (find c.args.head.seqnum (entries_of (sent h.entries))) ≡ true) (sym c.self.view_is) c.requires in
    rw (c.sent-self-inside.ensures, c.remove_unlinked.ensures) (kept_unlinked (held c.self.inside) c.args.head c.self.inside.dirs there c.self.invariant)

pub returns-clause-left : goal.returns-clause-left
returns-clause-left c =
    let r = c.self.invariant.reached in
    let there = subst (λ (h : Held). is_unlink (find c.args.head.seqnum (entries_of (sent h.entries))) ≡ true) (sym c.self.view_is) c.requires in
    rw (← c.self.view_is) (ap awaited c.remove_unlinked.ensures ∙ left_of_unlinked r.first r.past r.bytes (held c.self.inside) c.args.head r.follows there)

pub returns-clause-recorded : goal.returns-clause-recorded
returns-clause-recorded c =
    let there = subst (λ (h : Held). is_unlink (find c.args.head.seqnum (entries_of (sent h.entries))) ≡ true) (sym c.self.view_is) c.requires in
    rw (← c.self.view_is) (λ first past front f. subst (λ (l : List Entry). Follows first (Took (down.RetUnlink c.args.head) ∷ past) front
    (record { devid = c.self.inside.devid; next = c.self.inside.next; entries = l; outbox = c.self.inside.outbox })) (sym c.remove_unlinked.ensures)
    (follows_unlinked first past front (held c.self.inside) c.args.head f there))
