use Rattle.std.proofs.Common.{None, refl}
use Rattle.tmc_law.specs.BulkOut.{Triggers}
use Rattle.tmc_device.specs.Body.{state_of}
use Rattle.tmc_device.proofs.Effects.{effect_is}
use Rattle.tmc_device.proofs.body.Body.accept_trigger.Goals as goal

pub returns-clause-effect : goal.returns-clause-effect
returns-clause-effect c tag =
    effect_is c.args.seqnum _ c.args.self.now c.trigger.new.self c.notice.new.self c.clear.new.self c.clear.ensures
    (Triggers tag refl (c.trigger.ensures.triggers (record (state_of c.args.self.now) { transfer = None }) (record { part = refl; waiting = refl; log = refl; standing = refl })))
    (c.notice.ensures c.args.self.now.exchange.held.standing c.trigger.new.self.held.standing c.status-before.ensures c.status.ensures)
