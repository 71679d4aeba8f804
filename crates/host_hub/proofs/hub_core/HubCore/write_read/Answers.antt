use Rattle.std.proofs.Common.{ℕ, List, [], length, refl, ap, arith}
use Rattle.std.specs.Prelude.{replicate}
use Rattle.usbip_wire.specs.declared.urb.Dir.TheVariants.{In}
use Rattle.host_hub.proofs.Shorts.{room_short}
use Rattle.host_hub.proofs.hub_core.HubCore.write_read.Goals as goal

pub returns-clause-short : goal.returns-clause-short
returns-clause-short c =
    room_short c.args.self.now.urbs c.submit.new.self In _ _ (replicate 8 0) [] refl (omega (arith, ap (λ (l : List ℕ). length l) c.requires.1.nothing)) c.submit.ensures.written
