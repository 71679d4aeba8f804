use Rattle.std.proofs.Common.{sym, subst}
use Rattle.tmc_law.specs.Reached.{FirstBegins}
use Rattle.endpoint_pipes.specs.Held.{Held, endpoint_of, list_of}
use Rattle.tmc_device.proofs.Making.{first_begins}
use Rattle.tmc_device.proofs.body.Body.halt.Goals as goal

pub halts-requires-clause-sound : goal.halts-requires-clause-sound
halts-requires-clause-sound c =
    subst (λ (held : Held). FirstBegins (list_of (endpoint_of c.args.ep) held)) (sym c.prepare.ensures.same.pipes)
    (first_begins c.args.self.now (endpoint_of c.args.ep) (c.requires.sound.first (endpoint_of c.args.ep)))
