use Rattle.std.proofs.Common.{◌∷◌}
use Rattle.host_hub.specs.Record.{Settled}
use Rattle.host_hub.proofs.Makes.{done_settled, ends_active, goes_settled}
use Rattle.host_hub.proofs.hub_core.HubCore.finish.Goals as goal

pub settle-requires-clause-known : goal.settle-requires-clause-known
settle-requires-clause-known c = ends_active c.requires.ends.setting c.requires.ends.past c.requires.ends.sent c.args.self.now c.args.outcome c.requires.ends.ends

pub go_on-requires : goal.go_on-requires
go_on-requires c =
    let k = c.requires.ends in
    record {
      setting = k.setting;
      past = Settled c.args.self.now.active c.args.outcome ∷ k.past;
      sent = k.sent;
      is = done_settled k.setting k.past k.sent c.args.self.now c.settle.new.self c.args.outcome k.ends c.settle.ensures.rest
          (c.settle.ensures.goes k.setting k.past k.sent k.ends.turn k.ends.knows);
    }

pub returns-clause-goes : goal.returns-clause-goes
returns-clause-goes c = λ s past sent e.
    goes_settled s past sent c.go_on.new.self c.args.self.now.active c.args.outcome
    (c.go_on.ensures.goes s (Settled c.args.self.now.active c.args.outcome ∷ past) sent
    (done_settled s past sent c.args.self.now c.settle.new.self c.args.outcome e c.settle.ensures.rest (c.settle.ensures.goes s past sent e.turn e.knows)))
