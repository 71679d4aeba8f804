use Rattle.std.proofs.Common.{arith}
use Rattle.std.proofs.lemmas.List.{drop_all}
use Rattle.instr_plain.proofs.Running.{begins, steps, stops, ends_all}
use Rattle.instr_plain.proofs.run.obey_all.Goals as goal

pub loop-unit-init : goal.loop-unit-init
loop-unit-init c = λ before at. begins before c.args.units.now c.args.state.now c.args.output.now at

pub loop-unit-preserved : goal.loop-unit-preserved
loop-unit-preserved c = λ before at.
    steps before c.args.units.now c.loop-unit.unit-index c.unit-item.result c.in-Some.command c.loop-unit.state c.loop-unit.output c.obey.new.state c.obey.new.output
    (c.loop-unit.invariant before at) (omega arith) c.unit-item.is c.in-Some.ensures c.obey.ensures

pub returns-in-None : goal.returns-in-None
returns-in-None c = λ before at.
    let x = stops before c.args.units.now c.loop-unit.unit-index c.unit-item.result c.loop-unit.state c.loop-unit.output (c.loop-unit.invariant before at) (omega arith) c.unit-item.is c.in-None.ensures in
    rw c.set_event.ensures (x.end, x.executes, x.at)

pub returns : goal.returns
returns c = λ before at.
    let x = ends_all before c.args.units.now c.loop-unit.unit-index c.loop-unit.state c.loop-unit.output (c.loop-unit.invariant before at) (drop_all c.loop-unit.unit-index c.args.units.now (omega arith)) in
    (x.end, x.executes, x.at)
