use Rattle.std.proofs.Common.{◌≡◌, ◌-◌, ap, arith, refl, true}
use Rattle.host_hub.specs.BookRoom.{is_open}
use Rattle.host_hub.specs.BookSeen.{BookSeen, seen_of, all_seen}
use Rattle.host_hub.proofs.Booking.{within, kept_is, ticket_is, length_set, settled_anew, some_open, has_place, roomy_settled}
use Rattle.host_hub.proofs.book.Book.settle.Goals as goal

pub index_mut-requires : goal.index_mut-requires
index_mut-requires c = omega (arith, c.self.inside.tickets.ok.0, within c.self.inside.tickets.items c.args.self.now c.args.ticket (ap (λ (b : BookSeen). b.tickets) c.self.view_is) c.requires.there)

pub push_reserved-requires : goal.push_reserved-requires
push_reserved-requires c =
    let same : all_seen c.self.inside.tickets.items ≡ c.args.self.now.tickets = ap (λ (b : BookSeen). b.tickets) c.self.view_is in
    let lives : is_open c.index_mut.result.now.outcome ≡ true = c.requires.live (seen_of c.index_mut.result.now)
    (ticket_is c.self.inside.tickets.items c.args.self.now c.args.ticket c.index_mut.result.now _ same c.requires.there c.index_mut.ensures.value) in
    omega (
      arith,
      c.self.inside.entries.ok.0,
      has_place c.self.inside.tickets.items c.self.inside.entries c.self.inside.live (c.args.ticket - 1) c.index_mut.result.now c.self.invariant.1
          (kept_is c.self.inside.tickets.items c.args.self.now c.args.ticket c.index_mut.result.now _ same c.requires.there c.index_mut.ensures.value) lives,
    )

pub overflow_sub-self : goal.overflow_sub-self
overflow_sub-self c =
    let same : all_seen c.self.inside.tickets.items ≡ c.args.self.now.tickets = ap (λ (b : BookSeen). b.tickets) c.self.view_is in
    let lives : is_open c.index_mut.result.now.outcome ≡ true = c.requires.live (seen_of c.index_mut.result.now)
    (ticket_is c.self.inside.tickets.items c.args.self.now c.args.ticket c.index_mut.result.now _ same c.requires.there c.index_mut.ensures.value) in
    some_open c.self.inside.tickets.items c.self.inside.entries c.self.inside.live (c.args.ticket - 1) c.index_mut.result.now c.self.invariant.1
    (kept_is c.self.inside.tickets.items c.args.self.now c.args.ticket c.index_mut.result.now _ same c.requires.there c.index_mut.ensures.value) lives

pub invariant_of-self : goal.invariant_of-self
invariant_of-self c =
    let same : all_seen c.self.inside.tickets.items ≡ c.args.self.now.tickets = ap (λ (b : BookSeen). b.tickets) c.self.view_is in
    let lives : is_open c.index_mut.result.now.outcome ≡ true = c.requires.live (seen_of c.index_mut.result.now)
    (ticket_is c.self.inside.tickets.items c.args.self.now c.args.ticket c.index_mut.result.now _ same c.requires.there c.index_mut.ensures.value) in (
      omega (arith, c.self.invariant.0, length_set c.self.inside.tickets.items (c.args.ticket - 1) (record c.index_mut.result.now { outcome = c.args.outcome })),
      roomy_settled c.self.inside.tickets.items c.self.inside.entries c.push_reserved.new.self c.self.inside.live c.args.ticket (c.args.ticket - 1) _ c.index_mut.result.now
          c.self.invariant.1 (kept_is c.self.inside.tickets.items c.args.self.now c.args.ticket c.index_mut.result.now _ same c.requires.there c.index_mut.ensures.value) lives
          c.requires.settled c.push_reserved.ensures.items c.push_reserved.ensures.capacity,
    )

pub returns : goal.returns
returns c = λ seen found.
    settled_anew c.self.inside.tickets.items c.self.inside.entries.items c.self.inside.service c.args.self.now c.args.ticket _ c.index_mut.result.now _ seen c.args.outcome _
    c.self.view_is c.requires.there c.index_mut.ensures.value found refl c.push_reserved.ensures.items
