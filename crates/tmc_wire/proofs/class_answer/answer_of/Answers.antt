use Rattle.tmc_wire.proofs.Layouts.{alone_gives, second_gives, count_gives}
use Rattle.tmc_wire.proofs.class_answer.answer_of.Goals as goal

pub returns-in-Clear : goal.returns-in-Clear
returns-in-Clear c = alone_gives c.args.bytes.now c.status_alone.result c.args.request c.in-Clear.is c.status_alone.ensures

pub returns-in-AbortOut : goal.returns-in-AbortOut
returns-in-AbortOut c = second_gives c.args.bytes.now c.status_and_second.result c.args.request c.in-AbortOut.is c.status_and_second.ensures

pub returns-in-CheckOut : goal.returns-in-CheckOut
returns-in-CheckOut c = count_gives c.args.bytes.now c.with_count.result c.args.request c.in-CheckOut.is c.with_count.ensures

pub returns-in-Capabilities : goal.returns-in-Capabilities
returns-in-Capabilities c = rw c.in-Capabilities.is c.capabilities.ensures

pub returns-in-ReadStatus : goal.returns-in-ReadStatus
returns-in-ReadStatus c = rw c.in-ReadStatus.is c.with_status_byte.ensures
