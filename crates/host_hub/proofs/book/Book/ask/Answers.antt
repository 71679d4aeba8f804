use Rattle.std.proofs.Common.{ap, ◌≡◌, ◌∙◌, ◌+◌, ◌++◌, ◌∷◌, [], List, length, arith}
use Rattle.std.specs.Prelude.{vec_capacity}
use Rattle.host_hub.specs.declared.book.BookEntry.{BookEntry}
use Rattle.host_hub.specs.declared.book.BookEntry.TheVariants as entry
use Rattle.host_hub.specs.declared.ticket.Ticket.{Ticket}
use Rattle.host_hub.specs.BookSeen.{BookSeen, Seen, all_seen}
use Rattle.host_hub.proofs.Booking.{roomy_asked, asked_anew, asked_length, open_most}
use Rattle.host_hub.proofs.Seen.{seen_count}
use Rattle.host_hub.proofs.book.Book.ask.Goals as goal

pub overflow_mul-self-inside : goal.overflow_mul-self-inside
overflow_mul-self-inside c = omega (arith, c.self.invariant.0, c.self.invariant.1.count, open_most (all_seen c.self.inside.tickets.items), seen_count c.self.inside.tickets.items)

pub overflow_add-self-inside : goal.overflow_add-self-inside
overflow_add-self-inside c = omega (arith, c.self.invariant.0, c.self.invariant.1.count, open_most (all_seen c.self.inside.tickets.items), seen_count c.self.inside.tickets.items)

pub invariant_of-self-2 : goal.invariant_of-self-2
invariant_of-self-2 c =
    let put : c.push_reserved.new.self.items ≡ c.self.inside.tickets.items ++ c.args.ticket ∷ [] =
    c.push_reserved.ensures.items ∙ ap (λ (l : List Ticket). l ++ c.args.ticket ∷ []) (c.in_ok-reserve.ensures.items) in
    let more : c.push_reserved-2.new.self.items ≡ c.self.inside.entries.items ++ entry.Asked c.len-number.result ∷ [] =
    c.push_reserved-2.ensures.items ∙ ap (λ (l : List BookEntry). l ++ entry.Asked c.len-number.result ∷ []) (c.in_ok-reserve-2.ensures.items) in
    let same : all_seen c.self.inside.tickets.items ≡ c.args.self.now.tickets = ap (λ (b : BookSeen). b.tickets) c.self.view_is in
    let count : length c.push_reserved.new.self.items ≡ length c.self.inside.tickets.items + 1 =
    asked_length c.self.inside.tickets.items c.push_reserved.new.self.items c.args.ticket put in
    let kept : length c.reserve-2.new.self.items ≡ length c.self.inside.entries.items = ap (λ (l : List BookEntry). length l) (c.in_ok-reserve-2.ensures.items) in (
      omega (arith, c.requires.few, count, seen_count c.self.inside.tickets.items, ap (λ (l : List Seen). length l) same),
      roomy_asked c.self.inside.tickets.items c.push_reserved.new.self.items c.self.inside.entries c.push_reserved-2.new.self c.self.inside.live c.len-number.result
          (vec_capacity c.reserve-2.new.self) c.args.ticket c.self.invariant.1 c.requires.live c.requires.room put more
          (omega (arith, kept, c.reserve-2.new.self.ok.0, c.in_ok-reserve-2.ensures.ok)) c.push_reserved-2.ensures.capacity,
    )

pub returns-clause-asked : goal.returns-clause-asked
returns-clause-asked c =
    let put : c.push_reserved.new.self.items ≡ c.self.inside.tickets.items ++ c.args.ticket ∷ [] =
    c.push_reserved.ensures.items ∙ ap (λ (l : List Ticket). l ++ c.args.ticket ∷ []) (c.in_ok-reserve.ensures.items) in
    let more : c.push_reserved-2.new.self.items ≡ c.self.inside.entries.items ++ entry.Asked c.len-number.result ∷ [] =
    c.push_reserved-2.ensures.items ∙ ap (λ (l : List BookEntry). l ++ entry.Asked c.len-number.result ∷ []) (c.in_ok-reserve-2.ensures.items) in
    let count : length c.push_reserved.new.self.items ≡ length c.self.inside.tickets.items + 1 =
    asked_length c.self.inside.tickets.items c.push_reserved.new.self.items c.args.ticket put in
    asked_anew c.self.inside.tickets.items c.push_reserved.new.self.items c.self.inside.entries.items c.push_reserved-2.new.self.items c.self.inside.service c.args.self.now
    c.len-number.result c.args.ticket c.self.view_is put more (omega (arith, count, c.push_reserved.new.self.ok.0, c.len-number.ensures))

pub returns-clause-number : goal.returns-clause-number
returns-clause-number c =
    omega (
      arith,
      c.len-number.ensures,
      c.push_reserved.new.self.ok.0,
      seen_count c.self.inside.tickets.items,
      ap (λ (b : BookSeen). length b.tickets) c.self.view_is,
      asked_length c.self.inside.tickets.items c.push_reserved.new.self.items c.args.ticket
          (c.push_reserved.ensures.items ∙ ap (λ (l : List Ticket). l ++ c.args.ticket ∷ []) (c.in_ok-reserve.ensures.items)),
    )
