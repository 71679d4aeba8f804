use Rattle.std.proofs.Common.{◌≡◌, ◌≤◌, ◌-◌, ◌+◌, ◌++◌, ◌∙◌, ℕ, length, ap, List, arith, refl, sym, true}
use Rattle.host_hub.specs.BookRoom.{is_open}
use Rattle.host_hub.specs.BookSeen.{BookSeen, Seen, seen_of, all_seen}
use Rattle.host_hub.proofs.Booking.{within, kept_is, ticket_is, roomy_set, length_set, seen_anew, room_at}
use Rattle.host_hub.proofs.book.Book.add.Goals as goal

pub index_mut-requires : goal.index_mut-requires
index_mut-requires c = omega (arith, c.self.inside.tickets.ok.0, within c.self.inside.tickets.items c.args.self.now c.args.ticket (ap (λ (b : BookSeen). b.tickets) c.self.view_is) c.requires.there)

pub put_bytes-requires : goal.put_bytes-requires
put_bytes-requires c =
    let same : all_seen c.self.inside.tickets.items ≡ c.args.self.now.tickets = ap (λ (b : BookSeen). b.tickets) c.self.view_is in
    let room : (is_open c.index_mut.result.now.outcome ≡ true) × (length c.index_mut.result.now.bytes.items + length c.args.bytes.now ≤ c.index_mut.result.now.limit) =
    c.requires.room (seen_of c.index_mut.result.now)
    (ticket_is c.self.inside.tickets.items c.args.self.now c.args.ticket c.index_mut.result.now _ same c.requires.there c.index_mut.ensures.value) in
    omega (
      arith,
      room.1,
      room_at c.self.inside.tickets.items (c.args.ticket - 1) c.index_mut.result.now c.self.invariant.1.bytes
          (kept_is c.self.inside.tickets.items c.args.self.now c.args.ticket c.index_mut.result.now _ same c.requires.there c.index_mut.ensures.value) room.0,
    )

pub invariant_of-self : goal.invariant_of-self
invariant_of-self c = (
  omega (arith, c.self.invariant.0, length_set c.self.inside.tickets.items (c.args.ticket - 1) (record c.index_mut.result.now { bytes = c.put_bytes.new.output })),
  roomy_set c.self.inside.tickets.items c.self.inside.entries c.self.inside.live (c.args.ticket - 1) _ c.index_mut.result.now c.self.invariant.1
      (kept_is c.self.inside.tickets.items c.args.self.now c.args.ticket c.index_mut.result.now _ (ap (λ (b : BookSeen). b.tickets) c.self.view_is) c.requires.there c.index_mut.ensures.value)
      refl refl c.put_bytes.ensures.capacity,
)

pub returns : goal.returns
returns c = λ seen found.
    seen_anew c.self.inside.tickets.items c.self.inside.entries.items c.self.inside.service c.args.self.now c.args.ticket _ c.index_mut.result.now _ seen _ c.self.view_is
    c.requires.there c.index_mut.ensures.value found
    (λ e. ap (λ (xs : List ℕ). record (seen_of c.index_mut.result.now) { bytes = xs }) c.put_bytes.ensures.items ∙ ap (λ (s : Seen). record s { bytes = s.bytes ++ c.args.bytes.now }) (sym e))
