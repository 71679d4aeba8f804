use Rattle.std.proofs.Common.{ℕ, List, [], sym, subst, append-nil, arith}
use Rattle.host_joint.specs.Pieces.{IsPiece}
use Rattle.host_joint.proofs.Transfers.{WireLaws, begun_faultless, piece_whole}
use Rattle.host_joint.proofs.ties.pieces_have_no_fault.Goals as goal

pub returns-clause-begun : goal.returns-clause-begun
returns-clause-begun c tag size bytes begins =
    begun_faultless (record {
      out_size = c.headers_are_read_again.ensures.out_size;
      out_front = c.headers_are_read_again.ensures.out_front;
      out_written = c.headers_are_read_again.ensures.out_written;
      in_size = c.headers_are_read_again.ensures.in_size;
      in_front = c.headers_are_read_again.ensures.in_front;
      in_written = c.headers_are_read_again.ensures.in_written;
      size_at = c.header_offsets_are_laid_out.ensures.size;
      out_made = c.transfers_are_read_again.ensures.out_made;
      out_text_size = c.transfers_are_read_again.ensures.out_size;
      in_made = c.transfers_are_read_again.ensures.in_made;
    }) tag size bytes begins.more begins.carried begins.eom begins.piece begins.long

pub returns-clause-whole : goal.returns-clause-whole
returns-clause-whole c tag size eom carried bytes piece =
    let laws : WireLaws = record {
      out_size = c.headers_are_read_again.ensures.out_size;
      out_front = c.headers_are_read_again.ensures.out_front;
      out_written = c.headers_are_read_again.ensures.out_written;
      in_size = c.headers_are_read_again.ensures.in_size;
      in_front = c.headers_are_read_again.ensures.in_front;
      in_written = c.headers_are_read_again.ensures.in_written;
      size_at = c.header_offsets_are_laid_out.ensures.size;
      out_made = c.transfers_are_read_again.ensures.out_made;
      out_text_size = c.transfers_are_read_again.ensures.out_size;
      in_made = c.transfers_are_read_again.ensures.in_made;
    } in
    let whole = piece_whole laws tag size bytes carried eom piece in
    (begun_faultless laws tag size bytes [] carried eom (subst (λ (l : List ℕ). IsPiece tag size eom carried l) (sym (append-nil bytes)) piece) (omega (arith, whole.complete)), whole)
