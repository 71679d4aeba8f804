-- a proper header is that header and no other
use Rattle.std.proofs.Common.{◌≡◌, ℕ, ◌^◌, ◌<◌, ◌≢◌, Bool, true, false, List, [], ◌∷◌, ◌++◌, Result, Ok, get_or, take, refl, sym, ap, ◌∙◌, subst, arith}
use Rattle.std.specs.Prelude.{◌↔◌}
use Rattle.std.specs.Int.{w32, from_le_bytes}
use Rattle.std.proofs.lemmas.Nat.{from_le_bytes-to_le_bytes_4}
use Rattle.tmc_wire.specs.declared.header.OutHeader.{OutHeader}
use Rattle.tmc_wire.specs.declared.header.OutHeader.TheVariants.{Message, Request, Trigger}
use Rattle.tmc_wire.specs.declared.header_fault.HeaderFault.{HeaderFault}
use Rattle.tmc_wire.specs.declared.fields.Fields.{Fields}
use Rattle.tmc_wire.specs.declared.fields.Direction.TheVariants.{Out}
use Rattle.tmc_wire.specs.Standard.{header_size, dev_dep_msg_out, request_dev_dep_msg_in, trigger}
use Rattle.tmc_wire.specs.Header.{prefix, sized, IsSized, HasEom, Whatever, IsOutHeader}
use Rattle.tmc_wire.specs.Fields.{AreProper}

abbrev Answer : Type 0
Answer = Result OutHeader HeaderFault

abbrev answered : OutHeader → Answer
answered header = Ok header

one_eom : (eom mine : Bool) (attributes : ℕ) → HasEom eom attributes → HasEom mine attributes → eom ≡ mine
one_eom true true a h k = refl
one_eom false false a h k = refl
one_eom true false a h k = absurd (omega arith)
one_eom false true a h k = absurd (omega arith)

byte-is : (xs ys : List ℕ) (k : ℕ) → xs ≡ ys → get_or xs k 0 ≡ get_or ys k 0
byte-is xs ys k e = ap (λ (l : List ℕ). get_or l k 0) e

size-is : (xs ys : List ℕ) → xs ≡ ys → from_le_bytes w32 (get_or xs 4 0 ∷ get_or xs 5 0 ∷ get_or xs 6 0 ∷ get_or xs 7 0 ∷ []) ≡ from_le_bytes w32 (get_or ys 4 0 ∷ get_or ys 5 0 ∷ get_or ys 6 0 ∷ get_or ys 7 0 ∷ [])
size-is xs ys e = ap (λ (l : List ℕ). from_le_bytes w32 (get_or l 4 0 ∷ get_or l 5 0 ∷ get_or l 6 0 ∷ get_or l 7 0 ∷ [])) e

pub same_size : (m t s r a x y z m' t' s' r' a' x' y' z' : ℕ) → s < 2 ^ 32 → s' < 2 ^ 32
    → prefix m t r ++ sized s a x y z ≡ prefix m' t' r' ++ sized s' a' x' y' z' → s ≡ s'
same_size m t s r a x y z m' t' s' r' a' x' y' z' small small' e =
    sym (from_le_bytes-to_le_bytes_4 s small) ∙ size-is _ _ e ∙ from_le_bytes-to_le_bytes_4 s' small'

pub sized_of : (msg_id : ℕ) (Accepts : ℕ → Type 0) (bytes : List ℕ) (fields : Fields) → AreProper Out bytes fields → fields.msg_id ≡ msg_id → msg_id ≢ trigger → Accepts fields.attributes
    → IsSized msg_id fields.tag fields.size Accepts (take header_size bytes)
sized_of msg_id Accepts bytes fields proper is other accepted = record {
  reserved = proper.reserved;
  attributes = fields.attributes;
  ninth = proper.ninth;
  tenth = proper.tenth;
  eleventh = proper.eleventh;
  tagged = proper.tagged;
  counted = proper.counted (λ e. other (sym is ∙ e));
  accepted = accepted;
  layout = proper.layout ∙ ap (λ (m : ℕ). prefix m fields.tag proper.reserved ++ sized fields.size fields.attributes proper.ninth proper.tenth proper.eleventh) is;
}

-- a header with a size has the fields that were read
pub record Agrees (fields : Fields) (msg_id tag size : ℕ) (Accepts : ℕ → Type 0) : Type 0 where
  pub by_msg_id : fields.msg_id ≡ msg_id
  pub by_tag : fields.tag ≡ tag
  pub by_size : fields.size ≡ size
  pub by_attributes : Accepts fields.attributes

pub agrees : (bytes : List ℕ) (fields : Fields) (msg_id tag size : ℕ) (Accepts : ℕ → Type 0) → AreProper Out bytes fields → fields.size < 2 ^ 32
    → IsSized msg_id tag size Accepts (take header_size bytes) → Agrees fields msg_id tag size Accepts
agrees bytes fields msg_id tag size Accepts proper small is =
    let e = sym proper.layout ∙ is.layout in
    let same : fields.attributes ≡ is.attributes = byte-is _ _ 8 e in
    record {
      by_msg_id = byte-is _ _ 0 e;
      by_tag = byte-is _ _ 1 e;
      by_size = same_size _ _ _ _ _ _ _ _ _ _ _ _ _ _ _ _ small is.counted.1 e;
      by_attributes = subst Accepts (sym same) is.accepted;
    }

pub message_read : (bytes : List ℕ) (fields : Fields) (eom : Bool) → AreProper Out bytes fields → fields.size < 2 ^ 32 → fields.msg_id ≡ dev_dep_msg_out → HasEom eom fields.attributes
    → (header : OutHeader) → (answered (Message fields.tag fields.size eom) ≡ Ok header) ↔ IsOutHeader header (take header_size bytes)
message_read bytes fields eom proper small is ends header = (forth, back header)
  where
    forth : answered (Message fields.tag fields.size eom) ≡ Ok header → IsOutHeader header (take header_size bytes)
    forth e = let same : Message fields.tag fields.size eom ≡ header = cc in
        subst (λ (h : OutHeader). IsOutHeader h (take header_size bytes)) same (sized_of dev_dep_msg_out (HasEom eom) bytes fields proper is (omega arith) ends)

    back : (h : OutHeader) → IsOutHeader h (take header_size bytes) → answered (Message fields.tag fields.size eom) ≡ Ok h
    back (Message tag size mine) k = let a = agrees bytes fields dev_dep_msg_out tag size (HasEom mine) proper small k in
        let same : eom ≡ mine = one_eom eom mine fields.attributes ends a.by_attributes in cc (a.by_tag, a.by_size)
    back (Request tag size) k = let a = agrees bytes fields request_dev_dep_msg_in tag size Whatever proper small k in absurd (omega (arith, a.by_msg_id))
    back (Trigger tag) k = absurd (omega (arith, byte-is _ _ 0 (sym proper.layout ∙ k.layout)))

pub request_read : (bytes : List ℕ) (fields : Fields) → AreProper Out bytes fields → fields.size < 2 ^ 32 → fields.msg_id ≡ request_dev_dep_msg_in
    → (header : OutHeader) → (answered (Request fields.tag fields.size) ≡ Ok header) ↔ IsOutHeader header (take header_size bytes)
request_read bytes fields proper small is header = (forth, back header)
  where
    forth : answered (Request fields.tag fields.size) ≡ Ok header → IsOutHeader header (take header_size bytes)
    forth e = let same : Request fields.tag fields.size ≡ header = cc in
        subst (λ (h : OutHeader). IsOutHeader h (take header_size bytes)) same (sized_of request_dev_dep_msg_in Whatever bytes fields proper is (omega arith) tt)

    back : (h : OutHeader) → IsOutHeader h (take header_size bytes) → answered (Request fields.tag fields.size) ≡ Ok h
    back (Message tag size mine) k = let a = agrees bytes fields dev_dep_msg_out tag size (HasEom mine) proper small k in absurd (omega (arith, a.by_msg_id))
    back (Request tag size) k = let a = agrees bytes fields request_dev_dep_msg_in tag size Whatever proper small k in cc (a.by_tag, a.by_size)
    back (Trigger tag) k = absurd (omega (arith, byte-is _ _ 0 (sym proper.layout ∙ k.layout)))
