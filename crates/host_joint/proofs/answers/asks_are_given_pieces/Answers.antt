use Rattle.std.proofs.Common.{◌++◌}
use Rattle.host_joint.specs.Pieces.{IsFaultless}
use Rattle.host_joint.specs.Given.{BringsPiece, BringsMore, BringsEnd}
use Rattle.host_joint.proofs.Bringing.{brings}
use Rattle.host_joint.proofs.answers.asks_are_given_pieces.Goals as goal

pub returns-clause-piece : goal.returns-clause-piece
returns-clause-piece c ask ups head answer transferred downs s tagged sized own ok asking =
    brings (record {
      out_size = c.headers_are_read_again.ensures.out_size;
      out_front = c.headers_are_read_again.ensures.out_front;
      out_written = c.headers_are_read_again.ensures.out_written;
      in_size = c.headers_are_read_again.ensures.in_size;
      in_front = c.headers_are_read_again.ensures.in_front;
      in_written = c.headers_are_read_again.ensures.in_written;
      size_at = c.header_offsets_are_laid_out.ensures.size;
      out_made = c.transfers_are_read_again.ensures.out_made;
      out_text_size = c.transfers_are_read_again.ensures.out_size;
      in_made = c.transfers_are_read_again.ensures.in_made;
    }) ask ups head answer transferred downs s tagged sized ok (c.answers_are_taken.ensures.ins ask ups head answer transferred downs s own asking)

pub returns-clause-faultless : goal.returns-clause-faultless
returns-clause-faultless c ask ups head answer transferred downs s tagged sized own ok asking = by (returns-clause-piece c ask ups head answer transferred downs s tagged sized own ok asking)
  where
    by : BringsPiece ask answer transferred → IsFaultless ask.tag ask.size (ask.read ++ transferred)
    by (BringsMore actual full begun) = c.pieces_have_no_fault.ensures.begun ask.tag ask.size (ask.read ++ transferred) begun
    by (BringsEnd eom carried actual short piece) = (c.pieces_have_no_fault.ensures.whole ask.tag ask.size eom carried (ask.read ++ transferred) piece).0
