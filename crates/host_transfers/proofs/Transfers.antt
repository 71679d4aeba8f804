-- the data of a piece is that of the Bulk-IN transfer which its bytes are
use Rattle.std.proofs.Common.{◌≡◌, ℕ, ◌%◌, ◌<◌, ◌^◌, Bool, true, false, List, ◌++◌, length, take, drop, refl, sym, subst, ◌∙◌, ap}
use Rattle.std.specs.Prelude.{◌==◌, slice_index}
use Rattle.std.proofs.lemmas.Nat.{from_le_bytes-to_le_bytes_4}
use Rattle.std.proofs.lemmas.Bool.{eq-eqb}
use Rattle.std.proofs.Math.Seq.{take-append_seam}
use Rattle.tmc_wire.specs.declared.header.InHeader.{InHeader}
use Rattle.tmc_wire.specs.Header.{eom_bit, prefix, sized}
use Rattle.tmc_wire.specs.HeaderFault.{TransferSize}
use Rattle.tmc_wire.specs.Transfer.{InText}
use Rattle.host_transfers.specs.Piece.{data_of, eom_of}

-- a transfer, written out
pub size_there : (m t r s a x y z : ℕ) (rest : List ℕ) → s < 2 ^ 32 → TransferSize ((prefix m t r ++ sized s a x y z) ++ rest) ≡ s
size_there m t r s a x y z rest few = from_le_bytes-to_le_bytes_4 s few

behind : (m t r s a x y z : ℕ) (rest : List ℕ) → drop 12 ((prefix m t r ++ sized s a x y z) ++ rest) ≡ rest
behind m t r s a x y z rest = refl

attributes_there : (m t r s a x y z : ℕ) (rest : List ℕ) → slice_index ((prefix m t r ++ sized s a x y z) ++ rest) 8 ≡ a
attributes_there m t r s a x y z rest = refl

pub front : (n : ℕ) (xs ys : List ℕ) → length xs ≡ n → take n (xs ++ ys) ≡ xs
front n xs ys e = subst (λ (m : ℕ). take m (xs ++ ys) ≡ xs) e (take-append_seam xs ys)

pub data_is : (header : InHeader) (message bytes : List ℕ) → InText header message bytes → data_of bytes ≡ message
data_is header message bytes t =
    subst (λ (l : List ℕ). data_of l ≡ message) (sym whole)
    (ap (λ (n : ℕ). take n (message ++ t.alignment)) (size_there 2 header.tag t.headed.reserved header.size t.headed.attributes t.headed.ninth t.headed.tenth t.headed.eleventh (message ++ t.alignment) t.headed.counted.1)
    ∙ front header.size message t.alignment t.counted)
  where
    whole : bytes ≡ (prefix 2 header.tag t.headed.reserved ++ sized header.size t.headed.attributes t.headed.ninth t.headed.tenth t.headed.eleventh) ++ (message ++ t.alignment)
    whole = t.layout ∙ ap (λ (l : List ℕ). l ++ (message ++ t.alignment)) t.headed.layout

eom_by : (eom : Bool) (a : ℕ) → a % 2 ≡ eom_bit eom → (a % 2 == 1) ≡ eom
eom_by true a h = eq-eqb _ _ h
eom_by false a h = rw h refl

pub eom_is : (header : InHeader) (message bytes : List ℕ) → InText header message bytes → eom_of bytes ≡ header.eom
eom_is header message bytes t =
    subst (λ (l : List ℕ). eom_of l ≡ header.eom) (sym whole) (eom_by header.eom t.headed.attributes t.headed.accepted)
  where
    whole : bytes ≡ (prefix 2 header.tag t.headed.reserved ++ sized header.size t.headed.attributes t.headed.ninth t.headed.tenth t.headed.eleventh) ++ (message ++ t.alignment)
    whole = t.layout ∙ ap (λ (l : List ℕ). l ++ (message ++ t.alignment)) t.headed.layout
