use Rattle.std.proofs.Common.{[], None, refl}
use Rattle.host_joint.specs.Bond.{Holds, Stands, ToAbortOut, ToAbortFirst, Resting}
use Rattle.host_joint.specs.Tie.{asked_of}
use Rattle.host_joint.proofs.Cancelling.{bond_as}
use Rattle.host_joint.proofs.Saying.{writes_part, writes_last, unlinks_part, answered_part, unlinked_part, part_to_first, part_to_out, part_to_rest}
use Rattle.host_joint.proofs.bonds.messages_are_cancelled.Goals as goal

pub returns-clause-part : goal.returns-clause-part
returns-clause-part c =
    writes_part (record {
      out_size = c.headers_are_read_again.ensures.out_size;
      out_front = c.headers_are_read_again.ensures.out_front;
      out_written = c.headers_are_read_again.ensures.out_written;
      in_size = c.headers_are_read_again.ensures.in_size;
      in_front = c.headers_are_read_again.ensures.in_front;
      in_written = c.headers_are_read_again.ensures.in_written;
      size_at = c.header_offsets_are_laid_out.ensures.size;
      out_made = c.transfers_are_read_again.ensures.out_made;
      out_text_size = c.transfers_are_read_again.ensures.out_size;
      in_made = c.transfers_are_read_again.ensures.in_made;
    })

pub returns-clause-last_part : goal.returns-clause-last_part
returns-clause-last_part c =
    writes_last (record {
      out_size = c.headers_are_read_again.ensures.out_size;
      out_front = c.headers_are_read_again.ensures.out_front;
      out_written = c.headers_are_read_again.ensures.out_written;
      in_size = c.headers_are_read_again.ensures.in_size;
      in_front = c.headers_are_read_again.ensures.in_front;
      in_written = c.headers_are_read_again.ensures.in_written;
      size_at = c.header_offsets_are_laid_out.ensures.size;
      out_made = c.transfers_are_read_again.ensures.out_made;
      out_text_size = c.transfers_are_read_again.ensures.out_size;
      in_made = c.transfers_are_read_again.ensures.in_made;
    })

pub returns-clause-unlink : goal.returns-clause-unlink
returns-clause-unlink c tag first ended head unlink next ups downs s number target bound = unlinks_part tag first ended head unlink next ups downs s target bound

pub returns-clause-answer : goal.returns-clause-answer
returns-clause-answer c = answered_part

pub returns-clause-unlinked : goal.returns-clause-unlinked
returns-clause-unlinked c = unlinked_part

pub returns-clause-to_first : goal.returns-clause-to_first
returns-clause-to_first c tag ended next ups downs s bound = record {
  bond = bond_as _ (Holds (Stands (ToAbortFirst tag))) (asked_of None) [] next ups downs s bound.bond (part_to_first tag ended next ups downs s bound.bond);
  awaited = (refl, refl);
}

pub returns-clause-to_out : goal.returns-clause-to_out
returns-clause-to_out c tag first ended taken next ups downs s bound = record {
  bond = bond_as _ (Holds (Stands (ToAbortOut tag))) (asked_of None) [] next ups downs s bound.bond (part_to_out tag first ended taken next ups downs s bound.bond);
  awaited = (refl, refl);
}

pub returns-clause-to_rest : goal.returns-clause-to_rest
returns-clause-to_rest c tag first next ups downs s bound = record {
  bond = bond_as _ (Holds (Stands Resting)) (asked_of None) [] next ups downs s bound.bond (part_to_rest tag first next ups downs s bound.bond);
  awaited = (refl, refl);
}
