use Rattle.std.proofs.Common.{arith}
use Rattle.tmc_wire.proofs.Layouts.{capabilities_given}
use Rattle.tmc_wire.proofs.class_answer.capabilities.Goals as goal

pub returns : goal.returns
returns c = capabilities_given c.args.bytes.now c.status_and_second.result (omega arith) c.status_and_second.ensures
