use Rattle.std.proofs.Common.{Ok, Err, refl}
use Rattle.tmc_wire.specs.Short.{short_answer}
use Rattle.tmc_wire.proofs.Layouts.{answer_exactly, short_exactly}
use Rattle.tmc_wire.proofs.class_answer.read_answer.Goals as goal

pub returns-in-Some-clause-answer : goal.returns-in-Some-clause-answer
returns-in-Some-clause-answer c = answer_exactly c.args.bytes.now c.args.request (Ok c.in-Some.answer) c.in-Some.ensures

pub returns-in-Some-clause-fault : goal.returns-in-Some-clause-fault
returns-in-Some-clause-fault c = short_exactly c.args.bytes.now c.args.request (Ok c.in-Some.answer) c.in-Some.ensures

pub returns-in-None-clause-answer : goal.returns-in-None-clause-answer
returns-in-None-clause-answer c = answer_exactly c.args.bytes.now c.args.request (Err (short_answer c.args.bytes.now)) (refl, c.in-None.ensures)
