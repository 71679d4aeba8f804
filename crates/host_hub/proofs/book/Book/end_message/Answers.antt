use Rattle.std.proofs.Common.{◌-◌, ap, arith, refl, sym}
use Rattle.host_hub.specs.BookSeen.{BookSeen, Seen}
use Rattle.host_hub.proofs.Booking.{within, kept_is, roomy_set, length_set, seen_anew}
use Rattle.host_hub.proofs.book.Book.end_message.Goals as goal

pub index_mut-requires : goal.index_mut-requires
index_mut-requires c = omega (arith, c.self.inside.tickets.ok.0, within c.self.inside.tickets.items c.args.self.now c.args.ticket (ap (λ (b : BookSeen). b.tickets) c.self.view_is) c.requires.there)

pub invariant_of-self : goal.invariant_of-self
invariant_of-self c = (
  omega (arith, c.self.invariant.0, length_set c.self.inside.tickets.items (c.args.ticket - 1) (record c.index_mut.result.now { last = c.args.number })),
  roomy_set c.self.inside.tickets.items c.self.inside.entries c.self.inside.live (c.args.ticket - 1) _ c.index_mut.result.now c.self.invariant.1
      (kept_is c.self.inside.tickets.items c.args.self.now c.args.ticket c.index_mut.result.now _ (ap (λ (b : BookSeen). b.tickets) c.self.view_is) c.requires.there c.index_mut.ensures.value)
      refl refl (omega arith),
)

pub returns : goal.returns
returns c = λ seen found.
    seen_anew c.self.inside.tickets.items c.self.inside.entries.items c.self.inside.service c.args.self.now c.args.ticket _ c.index_mut.result.now _ seen _ c.self.view_is
    c.requires.there c.index_mut.ensures.value found (λ e. ap (λ (s : Seen). record s { last = c.args.number }) (sym e))
