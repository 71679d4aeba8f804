use Rattle.std.proofs.Common.{◌<◌, length, drop, arith}
use Rattle.endpoint_pipes.specs.Held.{endpoint_of}
use Rattle.endpoint_pipes.specs.Keys.{keys_at}
use Rattle.endpoint_pipes.specs.Kept.{submits_of}
use Rattle.endpoint_pipes.proofs.Placing.{first_list}
use Rattle.endpoint_pipes.proofs.pipes.Pipes.first_entry.Goals as goal

pub returns-clause-first : goal.returns-clause-first
returns-clause-first c =
    let within : 0 < length (keys_at (endpoint_of c.args.ep) c.self.inside.queues) = omega (arith, c.if-len_at-eq0.false, c.len_at.ensures) in (
      submits_of c.self.inside.slab.slots (drop 1 (keys_at (endpoint_of c.args.ep) c.self.inside.queues)),
      first_list c.self.inside.slab.slots c.self.inside.queues _ c.args.self.now (endpoint_of c.args.ep) c.key.result c.index.result.now c.self.view_is within c.key.ensures c.index.ensures,
    )
