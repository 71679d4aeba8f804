use Rattle.std.proofs.Common.{arith}
use Rattle.endpoint_pipes.proofs.Placing.{avoids_all}
use Rattle.endpoint_pipes.proofs.pipes.Pipes.locate.Goals as goal

pub returns-clause-absent : goal.returns-clause-absent
returns-clause-absent c = avoids_all c.args.seqnum c.args.self.now (λ k below. c.loop-ep.invariant k (omega (arith, below, c.loop-ep-test.false)))
