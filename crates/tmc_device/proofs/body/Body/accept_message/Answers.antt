use Rattle.std.proofs.Common.{None, refl, drop, arith}
use Rattle.std.proofs.lemmas.List.{length-take, length-drop}
use Rattle.tmc_wire.specs.declared.header.OutHeader.TheVariants.{Message}
use Rattle.tmc_device.specs.Body.{state_of, whole_of}
use Rattle.tmc_device.proofs.Effects.{effect_is}
use Rattle.tmc_device.proofs.body.Body.accept_message.Goals as goal

pub accept_data-requires-clause-whole : goal.accept_data-requires-clause-whole
accept_data-requires-clause-whole c =
    let bytes = whole_of c.args.self.now in
    let counted = c.requires.whole.1.text.counted in
    omega (arith, counted, length-take c.args.size (drop 12 bytes), length-drop 12 bytes, c.requires.some)

pub accept_data-requires-clause-fits : goal.accept_data-requires-clause-fits
accept_data-requires-clause-fits c = c.requires.whole.1.fits

pub returns-clause-effect : goal.returns-clause-effect
returns-clause-effect c tag w =
    let old = c.args.self.now in
    effect_is c.args.seqnum _ old c.accept_data.new.exchange c.notice.new.self c.clear.new.self c.clear.ensures
    (c.accept_data.ensures (record (state_of old) { transfer = None }) (record { header = Message tag c.args.size c.args.eom; taken = whole_of old }) tag c.args.size
    (record { part = refl; waiting = refl; log = refl; standing = refl }) refl w.text)
    (c.notice.ensures old.exchange.held.standing c.accept_data.new.exchange.held.standing c.status-before.ensures c.status.ensures)
