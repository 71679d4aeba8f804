use Rattle.instr_plain.specs.declared.log.LogEntry.TheVariants as entry
use Rattle.tmc_device.specs.Body.{state_of}
use Rattle.tmc_device.proofs.Making.{own}
use Rattle.tmc_device.proofs.Effects.{logs_is}
use Rattle.tmc_device.proofs.body.Body.request_nothing.Goals as goal

pub returns-clause-bare : goal.returns-clause-bare
returns-clause-bare c =
    logs_is entry.Bare c.args.self.now c.bare.new.self c.notice.new.self c.bare.ensures.coming (c.bare.ensures.bare (state_of c.args.self.now) (own c.args.self.now))
    (c.notice.ensures c.args.self.now.exchange.held.standing c.bare.new.self.held.standing c.status-before.ensures c.status.ensures)
