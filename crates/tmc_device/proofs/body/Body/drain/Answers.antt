use Rattle.std.proofs.Common.{false, refl}
use Rattle.tmc_device.specs.declared.running.Running.TheVariants.{AbortsIn}
use Rattle.tmc_device.proofs.Firsts.{there}
use Rattle.tmc_device.proofs.Making.{is_plugged}
use Rattle.tmc_device.proofs.FillSteps.{drained}
use Rattle.tmc_device.proofs.body.Body.drain.Goals as goal

pub returns : goal.returns
returns c =
    let f = there c.args.self.now.pipes.bulk_in c.requires.there in
    drained c.args.self.now f.submit f.behind c.args.given c.end_first.new.pipes c.end.new.self (AbortsIn false c.args.given) c.end_first.new.outputs
    (is_plugged c.args.self.now.unplugged c.requires.ready.plugged) f.is c.requires.wanting refl (c.end_first.ensures.left f.submit f.behind f.is) c.end.ensures
    (c.end_first.ensures.put f.submit f.behind f.is)
