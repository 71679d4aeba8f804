use Rattle.std.proofs.Common.{◌≡◌, ◌≤◌, ◌+◌, ◌-◌, length, drop}
use Rattle.host_hub.specs.BookRoom.{first_open_from, opens}
use Rattle.host_hub.proofs.book.Book.first_live.Given as goal

abbrev pub invariant-settled : goal.invariant-settled
invariant-settled l = record {
  first : 1 ≤ l.ticket;
  last : l.ticket ≤ length l.fn.self.tickets + 1;
  found : first_open_from l.fn.from (drop (l.fn.from - 1) (opens l.fn.self.tickets)) ≡ first_open_from l.ticket (drop (l.ticket - 1) (opens l.fn.self.tickets));
}

abbrev pub decreases-settled : goal.decreases-settled
decreases-settled l = length l.fn.self.tickets + 1 - l.ticket
