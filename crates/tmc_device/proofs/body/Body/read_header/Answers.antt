use Rattle.std.proofs.Common.{ℕ, List, refl, sym, subst, take}
use Rattle.tmc_wire.specs.Standard.{header_size}
use Rattle.tmc_wire.specs.Header.{IsOutHeader}
use Rattle.tmc_wire.specs.HeaderFault.{IsOutFault}
use Rattle.tmc_law.specs.BulkOut.{NoHeader}
use Rattle.tmc_device.specs.Body.{state_of}
use Rattle.tmc_device.proofs.Judging.{refused_place, accepted}
use Rattle.tmc_device.proofs.body.Body.read_header.Goals as goal

pub returns-in-Err : goal.returns-in-Err
returns-in-Err c = NoHeader c.in-Err.field-0 (subst (λ (l : List ℕ). IsOutFault l c.in-Err.field-0) c.rest_out.ensures ((c.in-Err.ensures.fault c.in-Err.field-0).0 refl))

pub returns-then-not-has_place : goal.returns-then-not-has_place
returns-then-not-has_place c =
    refused_place (state_of c.args.self.now) _ c.in-Ok.header
    (subst (λ (l : List ℕ). IsOutHeader c.in-Ok.header (take header_size l)) c.rest_out.ensures ((c.in-Ok.ensures.header c.in-Ok.header).0 refl)) c.if-not-has_place.ensures

pub returns : goal.returns
returns c =
    let headed = subst (λ (l : List ℕ). IsOutHeader c.in-Ok.header (take header_size l)) c.rest_out.ensures ((c.in-Ok.ensures.header c.in-Ok.header).0 refl) in (
      accepted (state_of c.args.self.now) _ c.in-Ok.header
          (λ fault is. let one = (c.in-Ok.ensures.fault fault).1 (subst (λ (l : List ℕ). IsOutFault l fault) (sym c.rest_out.ensures) is) in cc)
          (λ other is. let one = (c.in-Ok.ensures.header other).1 (subst (λ (l : List ℕ). IsOutHeader other (take header_size l)) (sym c.rest_out.ensures) is) in cc)
          c.if-not-is_idle.ensures c.if-not-has_place.ensures,
      headed,
    )
