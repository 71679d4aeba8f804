use Rattle.std.proofs.Common.{subst}
use Rattle.tmc_device.specs.Seen.{Seen}
use Rattle.tmc_device.specs.Body.{state_of, seen_of}
use Rattle.tmc_device.proofs.Driven.{Driven, driven}
use Rattle.tmc_device.proofs.device.Device.drive.Goals as goal

pub drive-requires-clause-sound : goal.drive-requires-clause-sound
drive-requires-clause-sound c = c.steps_rest_on_laws.ensures.sound (state_of c.self.inside.body) c.self.invariant.reached

pub returns-clause-applied : goal.returns-clause-applied
returns-clause-applied c =
    let new = seen_of c.drive.new.self in
    (subst (λ (old : Seen). Driven c.args.event old c.drive.result new) c.self.view_is
    (driven c.args.event (seen_of c.self.inside.body) c.drive.result new c.drive.ensures)).applied

pub returns-clause-none : goal.returns-clause-none
returns-clause-none c =
    let new = seen_of c.drive.new.self in
    (subst (λ (old : Seen). Driven c.args.event old c.drive.result new) c.self.view_is
    (driven c.args.event (seen_of c.self.inside.body) c.drive.result new c.drive.ensures)).none

pub returns-clause-declined : goal.returns-clause-declined
returns-clause-declined c =
    let new = seen_of c.drive.new.self in
    (subst (λ (old : Seen). Driven c.args.event old c.drive.result new) c.self.view_is
    (driven c.args.event (seen_of c.self.inside.body) c.drive.result new c.drive.ensures)).declined
