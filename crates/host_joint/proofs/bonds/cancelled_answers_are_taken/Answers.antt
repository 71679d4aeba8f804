use Rattle.std.proofs.Common.{inr, refl}
use Rattle.host_joint.proofs.Cancelling.{still, unlinked_reading, unlinked_read}
use Rattle.host_joint.proofs.bonds.cancelled_answers_are_taken.Goals as goal

pub returns-clause-submit : goal.returns-clause-submit
returns-clause-submit c =
    still (record {
      out_size = c.headers_are_read_again.ensures.out_size;
      out_front = c.headers_are_read_again.ensures.out_front;
      out_written = c.headers_are_read_again.ensures.out_written;
      in_size = c.headers_are_read_again.ensures.in_size;
      in_front = c.headers_are_read_again.ensures.in_front;
      in_written = c.headers_are_read_again.ensures.in_written;
      size_at = c.header_offsets_are_laid_out.ensures.size;
      out_made = c.transfers_are_read_again.ensures.out_made;
      out_text_size = c.transfers_are_read_again.ensures.out_size;
      in_made = c.transfers_are_read_again.ensures.in_made;
    })

pub returns-clause-unlink : goal.returns-clause-unlink
returns-clause-unlink c last message tag size sofar read taken waits unlink next asked answer ups downs s target bound =
    let go = unlinked_reading last message tag size sofar read taken waits unlink next asked answer ups downs s target bound.bond in
    (go.0, record { bond = go.1; awaited = inr refl })

pub returns-clause-unlink_read : goal.returns-clause-unlink_read
returns-clause-unlink_read c last message sofar waits unlink next asked answer ups downs s target bound =
    let go = unlinked_read last message sofar waits unlink next asked answer ups downs s target bound.bond in
    (go.0, record { bond = go.1; awaited = inr refl })
