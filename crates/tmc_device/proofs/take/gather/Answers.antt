use Rattle.std.proofs.Common.{◌∙◌, ℕ, List, ap, sym, arith}
use Rattle.tmc_device.specs.Parts.{transfer_of}
use Rattle.tmc_device.proofs.Judging.{taken_size, grown_by}
use Rattle.tmc_device.proofs.take.gather.Goals as goal

pub extend_part-requires : goal.extend_part-requires
extend_part-requires c =
    let size = taken_size c.args.transfer.now c.args.exchange.now.coming c.in-Some.field-0 (sym c.header.ensures.header ∙ c.in-Some.is) c.header.ensures.bytes in
    record { none_waits = c.requires.none_waits; fits = omega (arith, c.requires.fits, size) }

pub returns-in-Some : goal.returns-in-Some
returns-in-Some c =
    let on = sym c.header.ensures.header ∙ c.in-Some.is in
    record {
      grown = ap (λ (l : List ℕ). transfer_of c.args.transfer.now l) c.extend_part.ensures.coming
          ∙ grown_by c.args.transfer.now c.args.exchange.now.coming c.in-Some.field-0 on c.header.ensures.bytes c.args.bytes.now c.args.header (c.requires.goes_on c.in-Some.field-0 on);
      held = c.extend_part.ensures.held;
      room = c.extend_part.ensures.room;
    }
