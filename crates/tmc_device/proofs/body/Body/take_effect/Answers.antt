use Rattle.std.proofs.Common.{sym, subst}
use Rattle.tmc_wire.specs.declared.header.OutHeader.{OutHeader}
use Rattle.tmc_device.specs.Body.{IsWhole, HasEffect}
use Rattle.tmc_device.proofs.body.Body.take_effect.Goals as goal

pub returns-in-Message-clause-effect : goal.returns-in-Message-clause-effect
returns-in-Message-clause-effect c =
    subst (λ (h : OutHeader). HasEffect c.args.seqnum h c.args.self.now c.accept_message.new.self) (sym c.in-Message.is)
    (c.accept_message.ensures.effect c.in-Message.tag (subst (λ (h : OutHeader). IsWhole c.args.self.now h) c.in-Message.is c.requires.whole))

pub returns-in-Request-clause-effect : goal.returns-in-Request-clause-effect
returns-in-Request-clause-effect c =
    subst (λ (h : OutHeader). HasEffect c.args.seqnum h c.args.self.now c.accept_request.new.self) (sym c.in-Request.is) (c.accept_request.ensures.effect c.args.seqnum)

pub returns-in-Trigger-clause-effect : goal.returns-in-Trigger-clause-effect
returns-in-Trigger-clause-effect c =
    subst (λ (h : OutHeader). HasEffect c.args.seqnum h c.args.self.now c.accept_trigger.new.self) (sym c.in-Trigger.is) (c.accept_trigger.ensures.effect c.in-Trigger.tag)
