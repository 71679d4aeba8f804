use Rattle.std.proofs.Common.{◌∷◌}
use Rattle.host_hub.specs.Record.{Stopped}
use Rattle.host_hub.proofs.Knowing.{knows_stopped}
use Rattle.host_hub.proofs.hub_core.HubCore.stop.Goals as goal

pub settle_all-requires : goal.settle_all-requires
settle_all-requires c =
    let k = c.requires.known in
    record {
      setting = k.setting;
      past = Stopped c.args.end ∷ k.past;
      sent = k.sent;
      knows = knows_stopped k.setting k.past k.sent c.args.self.now c.args.end c.requires.running k.knows;
      keeps = (k.keeps, tt);
    }

pub returns-clause-goes : goal.returns-clause-goes
returns-clause-goes c = λ s past sent keeps k.
    c.settle_all.ensures.goes s (Stopped c.args.end ∷ past) sent (keeps, tt) (knows_stopped s past sent c.args.self.now c.args.end c.requires.running k)
