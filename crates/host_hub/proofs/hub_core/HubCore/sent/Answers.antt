use Rattle.std.proofs.Common.{◌++◌, ap, take}
use Rattle.host_urbs.specs.Held.{Held}
use Rattle.host_hub.specs.Crossings.{crossings}
use Rattle.host_hub.proofs.Queues.{queue_sent}
use Rattle.host_hub.proofs.Sends.{rests_aside}
use Rattle.host_hub.proofs.hub_core.HubCore.sent.Goals as goal

pub returns-clause-goes : goal.returns-clause-goes
returns-clause-goes c = λ s past sent r.
    rests_aside s past sent (sent ++ take c.args.n c.args.self.now.urbs.outbox) c.args.self.now c.sent.new.self c.args.self.now.reader r
    (c.sent.ensures.recorded s.first (crossings s past) sent r.knows.follows) (ap (λ (h : Held). h.devid) c.sent.ensures.moved)
    (queue_sent c.args.n c.args.self.now.urbs c.sent.new.self c.sent.ensures.moved)
