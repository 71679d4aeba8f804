-- headers as they are written are headers
use Rattle.std.proofs.Common.{◌≡◌, ℕ, Bool, true, false, List, [], ◌∷◌, refl, sym, subst}
use Rattle.std.specs.Int.{from_bool}
use Rattle.tmc_wire.specs.declared.header.OutHeader.{OutHeader}
use Rattle.tmc_wire.specs.declared.header.OutHeader.TheVariants.{Message, Request, Trigger}
use Rattle.tmc_wire.specs.declared.header.InHeader.{InHeader}
use Rattle.tmc_wire.specs.Standard.{dev_dep_msg_out, request_dev_dep_msg_in, dev_dep_msg_in, trigger}
use Rattle.tmc_wire.specs.Header.{eom_bit, IsTag, IsSize, IsSized, IsTagged, HasEom, Whatever, IsOutHeader, IsOutProper, OutFits, out_header_bytes, in_header_bytes}

pub eom_bit-from_bool : (eom : Bool) → from_bool eom ≡ eom_bit eom
eom_bit-from_bool true = refl
eom_bit-from_bool false = refl

has_eom : (eom : Bool) → HasEom eom (eom_bit eom)
has_eom true = refl
has_eom false = refl

message_written : (tag size : ℕ) (eom : Bool) → IsTag tag → IsSize size → IsSized dev_dep_msg_out tag size (HasEom eom) (out_header_bytes (Message tag size eom))
unfolding out_header_bytes
message_written tag size eom t s = record {
  reserved = 0;
  attributes = eom_bit eom;
  ninth = 0;
  tenth = 0;
  eleventh = 0;
  tagged = t;
  counted = s;
  accepted = has_eom eom;
  layout = refl;
}

request_written : (tag size : ℕ) → IsTag tag → IsSize size → IsSized request_dev_dep_msg_in tag size Whatever (out_header_bytes (Request tag size))
unfolding out_header_bytes
request_written tag size t s = record {
  reserved = 0;
  attributes = 0;
  ninth = 0;
  tenth = 0;
  eleventh = 0;
  tagged = t;
  counted = s;
  accepted = tt;
  layout = refl;
}

trigger_written : (tag : ℕ) → IsTag tag → IsTagged trigger tag (out_header_bytes (Trigger tag))
unfolding out_header_bytes
trigger_written tag t = record {
  reserved = 0;
  ignored = 0 ∷ 0 ∷ 0 ∷ 0 ∷ 0 ∷ 0 ∷ 0 ∷ 0 ∷ [];
  tagged = t;
  eight = refl;
  layout = refl;
}

pub response_written : (header : InHeader) → IsTag header.tag → IsSize header.size → IsSized dev_dep_msg_in header.tag header.size (HasEom header.eom) (in_header_bytes header)
unfolding in_header_bytes
response_written header t s = record {
  reserved = 0;
  attributes = eom_bit header.eom;
  ninth = 0;
  tenth = 0;
  eleventh = 0;
  tagged = t;
  counted = s;
  accepted = has_eom header.eom;
  layout = refl;
}

-- a Bulk-OUT header as it is written is that header
pub header_written : (header : OutHeader) (bytes : List ℕ) → IsOutProper header → OutFits header → bytes ≡ out_header_bytes header → IsOutHeader header bytes
header_written (Message tag size eom) bytes proper fits e = subst (IsSized dev_dep_msg_out tag size (HasEom eom)) (sym e) (message_written tag size eom (proper.0, fits.0) (proper.1, fits.1))
header_written (Request tag size) bytes proper fits e = subst (IsSized request_dev_dep_msg_in tag size Whatever) (sym e) (request_written tag size (proper.0, fits.0) (proper.1, fits.1))
header_written (Trigger tag) bytes proper fits e = subst (IsTagged trigger tag) (sym e) (trigger_written tag (proper, fits))
