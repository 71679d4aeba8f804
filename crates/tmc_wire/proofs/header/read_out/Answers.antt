use Rattle.std.proofs.Common.{arith}
use Rattle.tmc_wire.proofs.Reading.{message_read, request_read}
use Rattle.tmc_wire.proofs.header.read_out.Goals as goal

pub returns-in-1-clause-header : goal.returns-in-1-clause-header
returns-in-1-clause-header c = message_read c.args.bytes.now c.in_ok-fields.fields c.ends_message.result c.in_ok-fields.ensures (omega arith) c.in-1.is c.ends_message.ensures

pub returns-in-2-clause-header : goal.returns-in-2-clause-header
returns-in-2-clause-header c = request_read c.args.bytes.now c.in_ok-fields.fields c.in_ok-fields.ensures (omega arith) c.in-2.is
