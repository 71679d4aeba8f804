-- the bytes of a piece, whole and on their way
use Rattle.std.proofs.Common.{ℕ, ◌-◌, ◌%◌, ◌<◌, ◌≤◌, ◌==◌, Bool, true, false, List, [], ◌++◌, length, take, drop, refl, sym, ap, ◌∙◌, subst, arith, append_assoc, append-nil}
use Rattle.std.proofs.lemmas.List.{length-replicate, length-take-le, take-append-drop}
use Rattle.tmc_wire.specs.declared.header.InHeader.{InHeader}
use Rattle.tmc_wire.specs.Header.{IsTag, IsSize, HasEom, eom_bit, IsInHeader, in_header_bytes}
use Rattle.tmc_wire.specs.Transfer.{InText, alignment_of}
use Rattle.tmc_law.specs.State.{Piece}
use Rattle.tmc_law.specs.BulkIn.{piece_bytes, given}
use Rattle.tmc_law.specs.Layouts.{IsUnderWay}

alignment_small : (size : ℕ) → length (alignment_of size) < 4
alignment_small size = omega (arith, length-replicate {A = ℕ} ((4 - size % 4) % 4) 0)

has_eom : (eom : Bool) → HasEom eom (eom_bit eom)
has_eom true = refl
has_eom false = refl

-- a header as it is written
written : (header : InHeader) → IsTag header.tag → IsSize header.size → IsInHeader header (in_header_bytes header)
unfolding in_header_bytes
written header tagged counted = record {
  reserved = 0;
  attributes = eom_bit header.eom;
  ninth = 0;
  tenth = 0;
  eleventh = 0;
  tagged = tagged;
  counted = counted;
  accepted = has_eom header.eom;
  layout = refl;
}

-- the bytes of a piece are a transfer
pub text : (tag size : ℕ) (response : List ℕ) → IsTag tag → IsSize size → size ≤ length response
    → InText (record { tag = tag; size = size; eom = size == length response }) (take size response) (piece_bytes tag size response)
text tag size response tagged counted within = record {
  head = _;
  alignment = alignment_of size;
  headed = written (record { tag = tag; size = size; eom = size == length response }) tagged counted;
  counted = length-take-le size response within;
  least = alignment_small size;
  layout = refl;
}

-- a piece that begins
pub begun : (tag size : ℕ) (response : List ℕ) → IsTag tag → IsSize size → size ≤ length response
    → IsUnderWay (record { tag = tag; size = size; left = piece_bytes tag size response })
begun tag size response tagged counted within = record {
  front = [];
  message = take size response;
  eom = size == length response;
  text = text tag size response tagged counted within;
}

-- its first bytes were given
pub goes : (size : ℕ) (piece : Piece) → IsUnderWay piece → IsUnderWay (given size piece)
goes size piece way = record {
  front = way.front ++ take size piece.left;
  message = way.message;
  eom = way.eom;
  text = subst (λ (x : List ℕ). InText (record { tag = piece.tag; size = piece.size; eom = way.eom }) way.message x)
      (sym (append_assoc way.front (take size piece.left) (drop size piece.left)
      ∙ ap (λ (x : List ℕ). way.front ++ x) (take-append-drop size piece.left)))
      way.text;
}

-- the bytes that were not given are dropped
pub cut_short : (piece : Piece) → IsUnderWay piece → IsUnderWay (record piece { left = [] })
cut_short piece way = record {
  front = way.front ++ piece.left;
  message = way.message;
  eom = way.eom;
  text = subst (λ (x : List ℕ). InText (record { tag = piece.tag; size = piece.size; eom = way.eom }) way.message x)
      (sym (append-nil (way.front ++ piece.left))) way.text;
}
