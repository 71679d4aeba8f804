use Rattle.std.proofs.Common.{◌≡◌, false}
use Rattle.tmc_law.specs.Logging.{is_service, is_queued}
use Rattle.tmc_device.proofs.Queueing.{place_for_service}
use Rattle.tmc_device.proofs.packets.Packets.notice.Goals as goal

pub push-requires : goal.push-requires
push-requires c =
    let none : is_queued is_service c.args.self.now ≡ false = cc in
    place_for_service c.args.self.now c.requires none
