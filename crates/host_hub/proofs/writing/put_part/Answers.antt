use Rattle.std.proofs.Common.{◌*◌, ℕ, List, length, drop, refl, ap, arith}
use Rattle.tmc_wire.specs.declared.header.OutHeader.TheVariants.{Message}
use Rattle.std.specs.Prelude.{replicate}
use Rattle.usbip_wire.specs.declared.urb.Dir.TheVariants.{Out}
use Rattle.host_hub.proofs.Shorts.{room_short}
use Rattle.host_hub.proofs.Lengths.{transfer_length, alignment_length, take_short}
use Rattle.host_hub.proofs.writing.put_part.Goals as goal

pub overflow_cast-header : goal.overflow_cast-header
overflow_cast-header c = omega (arith, ap (λ (l : List ℕ). length l) c.part_of-part.ensures.text, take_short 1024 (drop (1024 * c.args.count) c.args.message.now))

pub submit_transfer-number-requires-clause-room : goal.submit_transfer-number-requires-clause-room
submit_transfer-number-requires-clause-room c =
    let text = c.part_of-part.result.text.now in
    omega (
      arith,
      ap (λ (l : List ℕ). length l) c.requires.empty,
      ap (λ (l : List ℕ). length l) c.part_of-part.ensures.text,
      take_short 1024 (drop (1024 * c.args.count) c.args.message.now),
      transfer_length (Message c.draw-tag.result (length c.part_of-part.result.text.now) c.part_of-part.result.eom) c.part_of-part.result.text.now,
      alignment_length (length c.part_of-part.result.text.now),
    )

pub overflow_cast-result : goal.overflow_cast-result
overflow_cast-result c = omega (arith, ap (λ (l : List ℕ). length l) c.part_of-part.ensures.text, take_short 1024 (drop (1024 * c.args.count) c.args.message.now))

pub returns-clause-short : goal.returns-clause-short
returns-clause-short c =
    let text = c.part_of-part.result.text.now in
    room_short c.args.urbs.now c.submit_transfer-number.new.urbs Out c.args.ep _ (replicate 8 0) _ refl
    (omega (
      arith,
      ap (λ (l : List ℕ). length l) c.requires.empty,
      ap (λ (l : List ℕ). length l) c.part_of-part.ensures.text,
      take_short 1024 (drop (1024 * c.args.count) c.args.message.now),
      transfer_length (Message c.draw-tag.result (length c.part_of-part.result.text.now) c.part_of-part.result.eom) c.part_of-part.result.text.now,
      alignment_length (length c.part_of-part.result.text.now),
    ))
    c.submit_transfer-number.ensures.written
