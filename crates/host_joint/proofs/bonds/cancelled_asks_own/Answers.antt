use Rattle.host_joint.proofs.Ending.{cancelled_owns, read_owns}
use Rattle.host_joint.proofs.bonds.cancelled_asks_own.Goals as goal

pub returns-clause-reading : goal.returns-clause-reading
returns-clause-reading c last message tag size sofar read taken waits unlinks next ups downs s bound =
    cancelled_owns (record {
      out_size = c.headers_are_read_again.ensures.out_size;
      out_front = c.headers_are_read_again.ensures.out_front;
      out_written = c.headers_are_read_again.ensures.out_written;
      in_size = c.headers_are_read_again.ensures.in_size;
      in_front = c.headers_are_read_again.ensures.in_front;
      in_written = c.headers_are_read_again.ensures.in_written;
      size_at = c.header_offsets_are_laid_out.ensures.size;
      out_made = c.transfers_are_read_again.ensures.out_made;
      out_text_size = c.transfers_are_read_again.ensures.out_size;
      in_made = c.transfers_are_read_again.ensures.in_made;
    }) last message tag size sofar read taken ups downs s bound.bond.held

pub returns-clause-read : goal.returns-clause-read
returns-clause-read c last message sofar waits unlinks next ups downs s bound = read_owns last message sofar ups downs s bound.bond.held
