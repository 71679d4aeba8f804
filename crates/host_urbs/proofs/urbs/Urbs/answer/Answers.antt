use Rattle.std.proofs.Common.{◌≡◌, ◌∷◌, true, List, sym, subst}
use Rattle.std.specs.Prelude.{is_some}
use Rattle.usbip_wire.specs.Awaited.{entries_of}
use Rattle.usbip_wire.specs.Dirs.{find, submit_of}
use Rattle.usbip_wire.specs.Down as down
use Rattle.host_urbs.specs.declared.entry.Entry.{Entry}
use Rattle.host_urbs.specs.declared.urbs.Urbs.TheInside.{Inside}
use Rattle.host_urbs.specs.Record.{Took}
use Rattle.host_urbs.specs.Entries.{sent, others}
use Rattle.host_urbs.specs.Held.{Held, Follows}
use Rattle.host_urbs.proofs.Following.{follows_answer, may_answer}
use Rattle.host_urbs.proofs.Keeping.{kept_answer, entries_kept}
use Rattle.host_urbs.proofs.urbs.Urbs.answer.Goals as goal

abbrev held : Inside → Held
held a = record { devid = a.devid; next = a.next; entries = a.entries; outbox = a.outbox }

pub sent-self-inside-requires : goal.sent-self-inside-requires
sent-self-inside-requires c =
    let there = subst (λ (h : Held). is_some (submit_of (find c.args.head.seqnum (entries_of (sent h.entries)))) ≡ true) (sym c.self.view_is) c.requires in
    let k = kept_answer (held c.self.inside) c.args.head c.self.inside.dirs there c.self.invariant in
    rw c.remove.ensures (entries_kept (held c.self.inside) (others c.args.head.seqnum c.self.inside.entries) k.reached k.short)

pub invariant_of-self : goal.invariant_of-self
invariant_of-self c =
    let there = subst (λ (h : Held). is_some (submit_of (find c.args.head.seqnum (entries_of (sent h.entries)))) ≡ true) (sym c.self.view_is) c.requires in
    rw (c.sent-self-inside.ensures, c.remove.ensures) (kept_answer (held c.self.inside) c.args.head c.self.inside.dirs there c.self.invariant)

pub returns-clause-recorded : goal.returns-clause-recorded
returns-clause-recorded c =
    rw (← c.self.view_is) (λ first past front transferred bytes f s. subst (λ (l : List Entry). Follows first (Took (down.RetSubmit c.args.head transferred) ∷ past) front
    (record { devid = c.self.inside.devid; next = c.self.inside.next; entries = l; outbox = c.self.inside.outbox })) (sym c.remove.ensures)
    (follows_answer first past front (held c.self.inside) c.args.head transferred f (may_answer first past front (held c.self.inside) c.args.head transferred bytes f s)))
