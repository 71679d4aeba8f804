use Rattle.std.proofs.Common.{ℕ, List, [], length, refl, ap, arith}
use Rattle.tmc_wire.specs.declared.header.OutHeader.TheVariants.{Request}
use Rattle.std.specs.Prelude.{replicate}
use Rattle.usbip_wire.specs.declared.urb.Dir.TheVariants.{Out}
use Rattle.host_hub.proofs.Shorts.{room_short}
use Rattle.host_hub.proofs.Lengths.{transfer_length, alignment_length}
use Rattle.host_hub.proofs.Knowing.{never_none}
use Rattle.host_hub.proofs.hub_core.HubCore.write_request.Goals as goal

pub unreachable-requires : goal.unreachable-requires
unreachable-requires c = never_none c.requires.can.setting c.requires.can.past c.requires.can.sent c.args.self.now c.requires.can.knows c.requires.can.turn c.in_default.ensures

pub submit_transfer-self-requires-clause-room : goal.submit_transfer-self-requires-clause-room
submit_transfer-self-requires-clause-room c =
    omega (arith, ap (λ (l : List ℕ). length l) c.requires.can.nothing, transfer_length (Request c.draw-tag.result c.min-size.result) [], alignment_length 0)

pub returns-clause-short : goal.returns-clause-short
returns-clause-short c =
    room_short c.args.self.now.urbs c.submit_transfer-self.new.urbs Out _ _ (replicate 8 0) _ refl
    (omega (arith, ap (λ (l : List ℕ). length l) c.requires.can.nothing, transfer_length (Request c.draw-tag.result c.min-size.result) [], alignment_length 0))
    c.submit_transfer-self.ensures.written
