use Rattle.std.proofs.Common.{arith}
use Rattle.host_hub.proofs.Booking.{open_most}
use Rattle.host_hub.proofs.Seen.{seen_count}
use Rattle.host_hub.specs.BookSeen.{all_seen}
use Rattle.host_hub.proofs.book.Book.live.Goals as goal

pub returns-clause-most : goal.returns-clause-most
returns-clause-most c = omega (arith, c.self.invariant.0, c.self.invariant.1.count, open_most (all_seen c.self.inside.tickets.items), seen_count c.self.inside.tickets.items)
