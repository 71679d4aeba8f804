use Rattle.std.proofs.Common.{◌∙◌, ◌++◌, List, ap}
use Rattle.tmc_law.specs.Put.{Put, stalled}
use Rattle.tmc_law.specs.Halts.{all_ended}
use Rattle.endpoint_pipes.specs.Held.{endpoint_of, list_of}
use Rattle.tmc_device.specs.declared.outputs.Outputs.{Outputs}
use Rattle.tmc_device.proofs.Halting.{each_ended, own_queue, apart}
use Rattle.tmc_device.proofs.body.Body.halts.Goals as goal

pub returns-clause-puts : goal.returns-clause-puts
returns-clause-puts c =
    ap (λ (o : Outputs). o.puts) c.end_transfer.ensures.outputs
    ∙ c.end_all.ensures.put
    ∙ ap (λ (l : List Put). c.args.self.now.outputs.puts ++ l)
    (each_ended stalled (list_of (endpoint_of c.args.ep) c.args.self.now.pipes) c.requires.sound
    ∙ ap (all_ended stalled) (own_queue c.args.self.now (endpoint_of c.args.ep) (apart c.args.ep c.requires.endpoint.0 c.requires.endpoint.1)))
