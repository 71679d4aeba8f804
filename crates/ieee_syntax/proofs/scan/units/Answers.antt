use Rattle.std.proofs.Common.{Ok, Err, arith}
use Rattle.ieee_syntax.proofs.Faults.{answers-units, answers-fault}
use Rattle.ieee_syntax.proofs.Scanning.{refused, finished, unfinished}
use Rattle.ieee_syntax.proofs.scan.units.Goals as goal

-- a byte is refused
pub returns-in-Err-clause-answers : goal.returns-in-Err-clause-answers
returns-in-Err-clause-answers c =
    refused c.args.message.now c.loop-at.at c.loop-at.units.items c.loop-at.place c.loop-at.invariant c.of.result c.of.ensures.value c.loop-at-test.true
    c.in-Err.refusal _ c.at.result c.in-Err.ensures.value c.at.ensures

pub returns-in-Err-clause-every_message : goal.returns-in-Err-clause-every_message
returns-in-Err-clause-every_message c = λ us p. answers-units c.args.message.now (Err c.at.result) us (returns-in-Err-clause-answers c) p

pub returns-in-Err-clause-every_fault : goal.returns-in-Err-clause-every_fault
returns-in-Err-clause-every_fault c = λ place f. answers-fault c.args.message.now (Err c.at.result) place (returns-in-Err-clause-answers c) f

-- the message is whole
pub returns-in-Ok-finish-clause-answers : goal.returns-in-Ok-finish-clause-answers
returns-in-Ok-finish-clause-answers c =
    finished c.args.message.now c.loop-at.units.items c.loop-at.place c.loop-at.at (omega arith) c.loop-at.invariant _ c.in-Ok-finish.field-0 _ c.in-Ok-finish.ensures

pub returns-in-Ok-finish-clause-every_message : goal.returns-in-Ok-finish-clause-every_message
returns-in-Ok-finish-clause-every_message c = λ us p. answers-units c.args.message.now (Ok c.finish.new.units) us (returns-in-Ok-finish-clause-answers c) p

pub returns-in-Ok-finish-clause-every_fault : goal.returns-in-Ok-finish-clause-every_fault
returns-in-Ok-finish-clause-every_fault c = λ place f. answers-fault c.args.message.now (Ok c.finish.new.units) place (returns-in-Ok-finish-clause-answers c) f

-- the message ends too early
pub returns-in-Err-finish-clause-answers : goal.returns-in-Err-finish-clause-answers
returns-in-Err-finish-clause-answers c =
    unfinished c.args.message.now c.loop-at.units.items c.loop-at.place c.loop-at.at (omega arith) c.loop-at.invariant (Unit {0}) c.in-Err-finish.refusal c.finish.new.units.items c.at-in-Err-finish.result c.in-Err-finish.ensures c.at-in-Err-finish.ensures

pub returns-in-Err-finish-clause-every_message : goal.returns-in-Err-finish-clause-every_message
returns-in-Err-finish-clause-every_message c = λ us p. answers-units c.args.message.now (Err c.at-in-Err-finish.result) us (returns-in-Err-finish-clause-answers c) p

pub returns-in-Err-finish-clause-every_fault : goal.returns-in-Err-finish-clause-every_fault
returns-in-Err-finish-clause-every_fault c = λ place f. answers-fault c.args.message.now (Err c.at-in-Err-finish.result) place (returns-in-Err-finish-clause-answers c) f
