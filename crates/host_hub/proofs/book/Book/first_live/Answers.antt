use Rattle.std.proofs.Common.{◌∙◌, Some, ap, arith, refl, sym}
use Rattle.host_hub.specs.BookRoom.{opens}
use Rattle.host_hub.proofs.Opens.{first_behind, first_found, first_on, opens_length}
use Rattle.host_hub.proofs.Knowing.{opens_is}
use Rattle.host_hub.proofs.book.Book.first_live.Goals as goal

pub settled-init : goal.settled-init
settled-init c = record { first = c.requires.first; last = c.requires.last; found = refl }

pub is_live-requires : goal.is_live-requires
is_live-requires c = record { first = c.settled.invariant.first; last = omega (arith, c.tickets.ensures.count) }

pub settled-smaller : goal.settled-smaller
settled-smaller c = omega (arith, c.tickets.ensures.count)

pub settled-preserved : goal.settled-preserved
settled-preserved c = record {
  first = omega arith;
  last = omega (arith, c.tickets.ensures.count);
  found = c.settled.invariant.found ∙ first_on c.settled.ticket (opens c.args.self.now.tickets) c.settled.invariant.first
      (opens_is c.args.self.now c.settled.ticket c.is_live.result (record { first = c.settled.invariant.first; last = omega (arith, c.tickets.ensures.count) }) c.is_live.ensures ∙ ap Some c.if-not-is_live.true);
}

pub returns-else-not-is_live : goal.returns-else-not-is_live
returns-else-not-is_live c =
    sym (c.settled.invariant.found ∙ first_found c.settled.ticket (opens c.args.self.now.tickets)
    (opens_is c.args.self.now c.settled.ticket c.is_live.result (record { first = c.settled.invariant.first; last = omega (arith, c.tickets.ensures.count) }) c.is_live.ensures ∙ ap Some c.if-not-is_live.false))

pub returns-after-settled : goal.returns-after-settled
returns-after-settled c =
    sym (c.settled.invariant.found ∙ first_behind c.settled.ticket (opens c.args.self.now.tickets)
    (omega (arith, c.tickets.ensures.count, opens_length c.args.self.now.tickets)))
