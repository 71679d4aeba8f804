use Rattle.std.proofs.Common.{◌≤◌, length, sym, subst}
use Rattle.host_urbs.specs.declared.urbs.Urbs.TheInside.{Inside}
use Rattle.host_urbs.specs.Held.{Held}
use Rattle.host_urbs.proofs.Following.{follows_sent, rises}
use Rattle.host_urbs.proofs.Keeping.{kept_sent}
use Rattle.host_urbs.proofs.urbs.Urbs.sent.Goals as goal

abbrev held : Inside → Held
held a = record { devid = a.devid; next = a.next; entries = a.entries; outbox = a.outbox }

pub sent-self-inside-requires : goal.sent-self-inside-requires
sent-self-inside-requires c =
    let enough = subst (λ (h : Held). c.args.n ≤ length h.outbox) (sym c.self.view_is) c.requires in
    let k = kept_sent (held c.self.inside) c.args.n c.self.inside.dirs enough c.self.invariant in
    rw c.moved.ensures (c.self.inside.next, record { rising = rises _ k.reached; short = k.short })

pub invariant_of-self : goal.invariant_of-self
invariant_of-self c =
    let enough = subst (λ (h : Held). c.args.n ≤ length h.outbox) (sym c.self.view_is) c.requires in
    rw (c.sent-self-inside.ensures, c.moved.ensures, c.sent.ensures) (kept_sent (held c.self.inside) c.args.n c.self.inside.dirs enough c.self.invariant)

pub returns-clause-recorded : goal.returns-clause-recorded
returns-clause-recorded c =
    let enough = subst (λ (h : Held). c.args.n ≤ length h.outbox) (sym c.self.view_is) c.requires in
    rw (← c.self.view_is, c.moved.ensures, c.sent.ensures) (λ first past front f. follows_sent first past front (held c.self.inside) c.args.n enough f)
