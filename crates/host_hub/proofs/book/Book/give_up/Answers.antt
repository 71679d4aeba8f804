use Rattle.std.proofs.Common.{ap, ◌∙◌}
use Rattle.host_hub.specs.BookRoom.{has_given_up}
use Rattle.host_hub.specs.BookSeen.{BookSeen}
use Rattle.host_hub.proofs.Booking.{roomy_given}
use Rattle.host_hub.proofs.book.Book.give_up.Goals as goal

pub invariant_of-self : goal.invariant_of-self
invariant_of-self c = (
  c.self.invariant.0,
  roomy_given c.self.inside.tickets.items c.self.inside.entries c.push_reserved.new.self c.self.inside.live c.self.invariant.1
      (ap (λ (b : BookSeen). has_given_up b.entries) c.self.view_is ∙ c.requires) c.push_reserved.ensures.items c.push_reserved.ensures.capacity,
)
