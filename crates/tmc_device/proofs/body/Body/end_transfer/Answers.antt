use Rattle.std.proofs.Common.{◌∙◌, refl, ap, sym}
use Rattle.tmc_law.specs.Halts.{without_transfer}
use Rattle.endpoint_pipes.specs.Held.{endpoint_of}
use Rattle.tmc_device.specs.Body.{state_of}
use Rattle.tmc_device.proofs.Halting.{dropped}
use Rattle.tmc_device.proofs.body.Body.end_transfer.Goals as goal

pub returns-in-1-clause-state : goal.returns-in-1-clause-state
returns-in-1-clause-state c =
    dropped c.args.self.now c.drop_part.new.self c.clear.new.self c.clear.ensures
    (c.drop_part.ensures.halts (state_of c.args.self.now) (record { part = refl; waiting = refl; log = refl; standing = refl }))
    ∙ ap (λ ep. without_transfer (endpoint_of ep) (state_of c.args.self.now)) (sym c.in-1.is)
