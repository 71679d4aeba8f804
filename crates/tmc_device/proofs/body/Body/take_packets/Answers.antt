use Rattle.std.proofs.Common.{◌≡◌, ◌∙◌, List, length, ap, arith}
use Rattle.tmc_law.specs.State.{Pending}
use Rattle.endpoint_pipes.specs.Outcome.{left_of}
use Rattle.tmc_device.specs.Body.{state_of}
use Rattle.tmc_device.proofs.Firsts.{first_is}
use Rattle.tmc_device.proofs.TakeSteps.{few_packets}
use Rattle.tmc_device.proofs.body.Body.take_packets.Goals as goal

pub overflow_cast-there : goal.overflow_cast-there
overflow_cast-there c =
    let f = first_is c.args.self.now.pipes.bulk_out c.args.first.now c.requires.first in
    let few = few_packets (state_of c.args.self.now) f.submit f.behind c.requires.ready.sound f.is in
    let rest : length c.rest_out-rest.result.now ≡ length f.submit.left = ap length c.rest_out-rest.ensures ∙ ap (λ (l : List Pending). length (left_of l)) f.is in
    omega (arith, few, rest, c.packets_of-there.ensures)
