use Rattle.std.proofs.Common.{refl, arith}
use Rattle.host_hub.proofs.Dones.{done_idle, done_ready}
use Rattle.host_hub.proofs.hub_core.HubCore.go_on.Goals as goal

pub returns-then-self-tickets-clause-goes : goal.returns-then-self-tickets-clause-goes
returns-then-self-tickets-clause-goes c = λ s past sent d. done_idle s past sent c.args.self.now d (omega (arith, c.tickets.ensures))

pub begin-requires : goal.begin-requires
begin-requires c =
    let d = c.requires in
    record { setting = d.setting; past = d.past; sent = d.sent; ready = done_ready d.setting d.past d.sent c.args.self.now d.is (omega (arith, c.tickets.ensures)) }

pub returns-clause-goes : goal.returns-clause-goes
returns-clause-goes c = λ s past sent d. c.begin.ensures.goes s past sent (done_ready s past sent c.args.self.now d (omega (arith, c.tickets.ensures)))

pub returns-then-self-tickets-clause-leaves : goal.returns-then-self-tickets-clause-leaves
returns-then-self-tickets-clause-leaves c = record { keeps = record { first = refl; ends = refl; turned = refl; births = refl; short = λ h. h }; reader = refl }
