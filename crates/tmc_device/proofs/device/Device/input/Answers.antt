use Rattle.usbip_wire.specs.Up as up
use Rattle.tmc_law.specs.Step.{Comes}
use Rattle.tmc_device.specs.Body.{state_of, seen_of}
use Rattle.tmc_device.proofs.Driven.{came_lawful}
use Rattle.tmc_device.proofs.device.Device.input.Goals as goal

pub submit-requires-clause-sound : goal.submit-requires-clause-sound
submit-requires-clause-sound c = c.steps_rest_on_laws.ensures.sound (state_of c.self.inside.body) c.self.invariant.reached

pub unlink-requires-clause-sound : goal.unlink-requires-clause-sound
unlink-requires-clause-sound c = c.steps_rest_on_laws.ensures.sound (state_of c.self.inside.body) c.self.invariant.reached

pub invariant_of-self : goal.invariant_of-self
invariant_of-self c =
    let l = came_lawful c.steps_rest_on_laws.ensures.reached c.steps_rest_on_laws.ensures.fit (Comes (up.Submit c.in-Submit.head c.args.bytes.now)) (seen_of c.self.inside.body) (seen_of c.submit.new.self)
    c.submit.result (record { reached = c.self.invariant.reached; fit = c.self.invariant.fit }) c.submit.ensures.ok c.submit.ensures.err in
    record { reached = l.reached; fit = l.fit }

pub invariant_of-self-in-Unlink : goal.invariant_of-self-in-Unlink
invariant_of-self-in-Unlink c =
    let l = came_lawful c.steps_rest_on_laws.ensures.reached c.steps_rest_on_laws.ensures.fit (Comes (up.Unlink c.in-Unlink.head)) (seen_of c.self.inside.body) (seen_of c.unlink.new.self)
    c.unlink.result (record { reached = c.self.invariant.reached; fit = c.self.invariant.fit }) c.unlink.ensures.ok c.unlink.ensures.err in
    record { reached = l.reached; fit = l.fit }
