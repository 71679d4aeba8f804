-- the fields at which an answer with status 0 is refused, though it is spelled (USBTMC 1.0, sections 3.3 and 4.2.1; USB488
-- 1.0, sections 3.4 and 4.3.1)
use Rattle.std.specs.Prelude.{ℕ, ◌+◌, ◌-◌, ◌==◌, nat_lt, Bool, false, ◌&&◌, not, Option, Some, None, is_some, List, [], ◌∷◌, length, slice_index, if◌then◌else◌}
use Rattle.tmc_base.specs.declared.field.Field.{Field}
use Rattle.tmc_base.specs.declared.field.Layer.TheVariants as layer
use Rattle.tmc_base.specs.declared.field.Name.{Name}
use Rattle.tmc_base.specs.declared.field.Name.TheVariants as name
use Rattle.usbip_wire.specs.declared.ret_submit.RetSubmitHead.{RetSubmitHead}
use Rattle.tmc_wire.specs.declared.class_request.ClassRequest.{ClassRequest}
use Rattle.tmc_wire.specs.declared.class_request.ClassRequest.TheVariants as class
use Rattle.tmc_wire.specs.Standard.{header_size, dev_dep_msg_in}
use Rattle.tmc_wire.specs.HeaderFault.{MsgID, bTag, bTagInverse, TransferSize}
use Rattle.tmc_wire.specs.ClassAnswer.{answer_length}
use Rattle.tmc_wire.specs.Short.{short_answer, short_packet}
use Rattle.tmc_wire.specs.ClassStatus.{STATUS_SUCCESS}
use Rattle.host_transfers.specs.declared.piece.Piece as assembly
use Rattle.host_transfers.specs.declared.piece.Piece.TheVariants.{Data, Ended, Bad}
use Rattle.host_hub.specs.Order.{Order, Read, Listen, Class, Setting, size_of}
use Rattle.host_hub.specs.Record.{Past}
use Rattle.host_hub.specs.Pieces.{Piece, pieces, extended, does_count}

-- ---- a Bulk-IN transfer

abbrev pub bulk_field : Name → ℕ → Field
bulk_field which offset = record { layer = layer.Bulk; name = which; offset = offset }

-- a fault that bytes may have
pub record Fault : Type 0 where
  pub has : Bool
  pub field : Field

-- the first fault that there is
abbrev pub first_fault : List Fault → Option Field
first_fault [] = None
first_fault (x ∷ xs) = if x.has then Some x.field else first_fault xs

-- The faults of a transfer that answers its request, in the order of judging: those of its header, those against the
-- request, and those of its length. It has the header, the data, and at most 3 further bytes.
abbrev pub transfer_faults : Piece → List Fault
transfer_faults piece =
    record { has = nat_lt (length piece.bytes) header_size; field = bulk_field name.Length 12 }
    ∷ record { has = not (MsgID piece.bytes == dev_dep_msg_in); field = bulk_field name.MsgId 0 }
    ∷ record { has = bTag piece.bytes == 0; field = bulk_field name.Tag 1 }
    ∷ record { has = not (bTagInverse piece.bytes == 255 - bTag piece.bytes); field = bulk_field name.Inverse 2 }
    ∷ record { has = TransferSize piece.bytes == 0; field = bulk_field name.Size 4 }
    ∷ record { has = not (bTag piece.bytes == piece.tag); field = bulk_field name.Tag 1 }
    ∷ record { has = nat_lt piece.size (TransferSize piece.bytes); field = bulk_field name.Size 4 }
    ∷ record { has = nat_lt (header_size + TransferSize piece.bytes + 3) (length piece.bytes); field = bulk_field name.Length 12 }
    ∷ record { has = is_some piece.over && nat_lt (length piece.bytes) (header_size + TransferSize piece.bytes); field = bulk_field name.Length 12 }
    ∷ []

-- the field at which the assembly of a piece refuses a read
abbrev pub refused_by : assembly.Piece → Option Field
refused_by (Data from to) = None
refused_by (Ended from to eom) = None
refused_by (Bad field) = Some field

-- the number of an answer, in its USB/IP header
abbrev pub number_field : Field
number_field = record { layer = layer.Urb; name = name.Seqnum; offset = 4 }

-- A read that does not count is not judged. One of a piece that has ended is refused at its number: nothing is left for it.
abbrev pub read_fault : RetSubmitHead → List ℕ → List Piece → Option Field
read_fault head bytes [] = None
read_fault head bytes (piece ∷ earlier) =
    if is_some piece.over then Some number_field
    else if does_count head.seqnum piece then first_fault (transfer_faults (extended head bytes piece))
    else None

-- ---- the other submits

-- an OUT submit has to be transferred whole
abbrev pub out_fault : (asked actual : ℕ) → Option Field
out_fault asked actual =
    if nat_lt actual asked then Some (record { layer = layer.Urb; name = name.ActualLength; offset = 24 }) else None

-- a class answer has to have its layout
abbrev pub answer_fault : ClassRequest → List ℕ → Option Field
answer_fault request bytes = if nat_lt (length bytes) (answer_length request) then Some (short_answer bytes) else None

-- a status request is answered with success and another tag
abbrev pub other_tag : ClassRequest → List ℕ → Bool
other_tag (class.ReadStatus tag) bytes = (slice_index bytes 0 == STATUS_SUCCESS) && not (slice_index bytes 1 == tag)
other_tag request bytes = false

abbrev pub class_fault : ClassRequest → List ℕ → Option Field
class_fault request bytes =
    if nat_lt (length bytes) (answer_length request) then Some (short_answer bytes)
    else if other_tag request bytes then Some (record { layer = layer.Control; name = name.Tag; offset = 1 })
    else None

abbrev pub packet_fault : List ℕ → Option Field
packet_fault bytes = if nat_lt (length bytes) 2 then Some (short_packet bytes) else None

-- the field at which the answer with status 0 to a submit of a ticket is refused
abbrev pub refused : Setting → ℕ → Order → Past → RetSubmitHead → (bytes : List ℕ) → Option Field
refused s t Read past head bytes = read_fault head bytes (pieces t past)
refused s t (Class request) past head bytes = class_fault request bytes
refused s t Listen past head bytes = packet_fault bytes
refused s t order past head bytes = out_fault (size_of s.ends order) head.actual
