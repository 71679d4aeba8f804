use Rattle.endpoint_pipes.specs.Held.{endpoint_of, list_of}
use Rattle.endpoint_pipes.proofs.Placing.{pending_all, stands_pending}
use Rattle.endpoint_pipes.proofs.pipes.Pipes.holds.Goals as goal

pub returns-in-Some : goal.returns-in-Some
returns-in-Some c =
    pending_all c.args.seqnum c.args.self.now (endpoint_of c.in-Some.field-0.0)
    (stands_pending c.args.seqnum (list_of (endpoint_of c.in-Some.field-0.0) c.args.self.now) c.in-Some.field-0.1 c.in-Some.ensures.found)
