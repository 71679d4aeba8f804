use Rattle.std.proofs.Common.{◌≡◌, ℕ, refl, List, ◌++◌, length, take, subst, sym, ap, ◌∙◌, arith}
use Rattle.std.proofs.Math.Seq.{take-append_seam}
use Rattle.tmc_wire.specs.declared.header.OutHeader.{OutHeader}
use Rattle.tmc_wire.specs.declared.header.OutHeader.TheVariants.{Message, Request, Trigger}
use Rattle.tmc_wire.specs.Standard.{header_size}
use Rattle.tmc_wire.specs.Header.{IsOutHeader}
use Rattle.tmc_wire.specs.Header.{out_header_bytes}
use Rattle.tmc_wire.proofs.Sized.{header_written, response_written}
use Rattle.tmc_wire.proofs.laws.headers_are_read_again.Goals as goal

size_of : (header : OutHeader) (bytes : List ℕ) → IsOutHeader header bytes → length bytes ≡ header_size
size_of (Message tag size eom) bytes h = ap length h.layout
size_of (Request tag size) bytes h = ap length h.layout
size_of (Trigger tag) bytes h = let e = ap length h.layout in omega (arith, e, h.eight)

front : (bytes more : List ℕ) → length bytes ≡ header_size → take header_size (bytes ++ more) ≡ bytes
front bytes more e = ap (λ (n : ℕ). take n (bytes ++ more)) (sym e) ∙ take-append_seam bytes more

pub returns-clause-out_front : goal.returns-clause-out_front
returns-clause-out_front c header bytes more h = subst (IsOutHeader header) (sym (front bytes more (size_of header bytes h))) h

pub returns-clause-out_written : goal.returns-clause-out_written
returns-clause-out_written c header proper fits = header_written header (out_header_bytes header) proper fits refl

pub returns-clause-in_written : goal.returns-clause-in_written
returns-clause-in_written c header proper fits = response_written header (proper.0, fits.0) (proper.1, fits.1)
