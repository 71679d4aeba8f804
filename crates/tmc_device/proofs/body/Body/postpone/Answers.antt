use Rattle.std.proofs.Common.{refl, ap, subst}
use Rattle.tmc_law.specs.Class.{StaysPending}
use Rattle.tmc_device.specs.declared.postpone.Check.{Check}
use Rattle.tmc_device.specs.Check.{layout_of}
use Rattle.tmc_device.specs.Parts.{presence_of, running_of}
use Rattle.tmc_device.proofs.Postponed.{postponed}
use Rattle.tmc_device.proofs.body.Body.postpone.Goals as goal

pub returns-in-Abort : goal.returns-in-Abort
returns-in-Abort c =
    let request = c.in-Some-read_class.request in
    postponed c.args.self.now c.prepare.new.self c.reply.new.self c.in-Some.asked request c.in-Abort.layout c.in-Some.ensures c.prepare.ensures.same
    (ap presence_of c.requires.plugged) ((c.in-Some-read_class.ensures.some request).0 refl)
    (subst (λ (k : Check). StaysPending (running_of c.args.self.now.running) request (layout_of k)) c.in-Abort.is c.in-Some-pending_layout.ensures.some)
    c.reply.ensures

pub returns-in-Clear : goal.returns-in-Clear
returns-in-Clear c =
    let request = c.in-Some-read_class.request in
    postponed c.args.self.now c.prepare.new.self c.reply-in-Clear.new.self c.in-Some.asked request c.in-Clear.layout c.in-Some.ensures c.prepare.ensures.same
    (ap presence_of c.requires.plugged) ((c.in-Some-read_class.ensures.some request).0 refl)
    (subst (λ (k : Check). StaysPending (running_of c.args.self.now.running) request (layout_of k)) c.in-Clear.is c.in-Some-pending_layout.ensures.some)
    c.reply-in-Clear.ensures
