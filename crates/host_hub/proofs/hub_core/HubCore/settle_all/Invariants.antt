use Rattle.std.proofs.Common.{◌≡◌, ℕ, length, List}
use Rattle.host_hub.specs.BookRoom.{open_tickets}
use Rattle.host_hub.specs.Order.{Setting}
use Rattle.host_hub.specs.Knows.{HasBook}
use Rattle.host_hub.proofs.Knowing.{GoesOnTo}
use Rattle.host_hub.proofs.hub_core.HubCore.settle_all.Given as goal

abbrev pub invariant-live : goal.invariant-live
invariant-live l = record {
  known : HasBook l.self;
  goes : (s : Setting) (sent : List ℕ) → GoesOnTo s l.fn.end sent l.fn.self l.self;
  rest : l.self ≡ record l.fn.self { book = l.self.book; notes = l.self.notes; active = l.self.active };
  births : l.self.notes.births ≡ l.fn.self.notes.births;
}

abbrev pub decreases-live : goal.decreases-live
decreases-live l = length (open_tickets l.self.book.tickets)
