use Rattle.host_hub.proofs.Assembled.{data_as, eom_as, refused_as}
use Rattle.host_hub.proofs.transfers.pieces_are_assembled.Goals as goal

pub returns-clause-refused : goal.returns-clause-refused
returns-clause-refused c =
    refused_as (record { size = c.header_offsets_are_laid_out.ensures.size; front = c.headers_are_read_again.ensures.in_front; length_is = c.headers_are_read_again.ensures.in_size })

pub returns-clause-data : goal.returns-clause-data
returns-clause-data c = data_as

pub returns-clause-eom : goal.returns-clause-eom
returns-clause-eom c = eom_as c.a_piece_is_its_transfer.ensures.eom
