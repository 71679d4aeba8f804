-- how long the transfers are that a hub writes
use Rattle.std.proofs.Common.{◌≡◌, ◌≤◌, ℕ, ◌+◌, ◌-◌, ◌%◌, zero, List, ◌++◌, length, take, refl, arith, length-append, length-take}
use Rattle.std.proofs.lemmas.List.{length-replicate}
use Rattle.tmc_wire.specs.declared.header.OutHeader.{OutHeader}
use Rattle.tmc_wire.specs.declared.header.OutHeader.TheVariants.{Message, Request, Trigger}
use Rattle.tmc_wire.specs.Header.{out_header_bytes}
use Rattle.tmc_wire.specs.Header as header
use Rattle.tmc_wire.specs.Transfer.{alignment_of}

pub header_length : (h : OutHeader) → length (out_header_bytes h) ≡ 12
unfolding header.out_header_bytes
header_length (Message tag size eom) = refl
header_length (Request tag size) = refl
header_length (Trigger tag) = refl

pub alignment_length : (n : ℕ) → length (alignment_of n) ≡ (4 - n % 4) % 4
alignment_length n = length-replicate ((4 - n % 4) % 4) zero

pub transfer_length : (h : OutHeader) (text : List ℕ) → length (out_header_bytes h ++ (text ++ alignment_of (length text))) ≡ 12 + (length text + length (alignment_of (length text)))
transfer_length h text =
    omega (arith, length-append (out_header_bytes h) (text ++ alignment_of (length text)), length-append text (alignment_of (length text)), header_length h)

pub take_short : (n : ℕ) (xs : List ℕ) → length (take n xs) ≤ n
take_short n xs = omega (arith, length-take n xs)
