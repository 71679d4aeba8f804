use Rattle.std.proofs.Common.{◌+◌, [], ◌∷◌, ◌++◌, refl, ap, arith}
use Rattle.tmc_live.specs.Net.{Standing}
use Rattle.tmc_live.proofs.Lines.{length_more}
use Rattle.tmc_live.proofs.Serving.{lacks, reached_none, reached_at, ends_deaf, ends_at}
use Rattle.tmc_live.proofs.live.serve.Goals as goal

pub returns-in-Err : goal.returns-in-Err
returns-in-Err g c =
    ends_deaf _ c.args.address.now c.args.count c.in-Err.fault c.print_fault.result c.args.net.now c.listen.new.self c.args.sink.now c.print_fault.new.sink
    c.in-Err.ensures.goes (lacks _ c.in-Err.fault c.args.net.now c.listen.new.self c.in-Err.ensures.standing c.in-Err.ensures.back) c.print_fault.ensures

pub connections-init : goal.connections-init
connections-init g c = record {
  reached = ([], refl, reached_none _ c.args.address.now c.args.net.now c.listen.new.self c.args.sink.now c.in_default.ensures.goes c.in_default.ensures.standing c.in_default.ensures.back);
  within = omega arith;
  listens = ap (λ (s : Standing). s.listens) c.in_default.ensures.standing;
}

pub returns-in-Some : goal.returns-in-Some
returns-in-Some g c =
    let reached = c.connections.invariant.reached in
    ends_at _ c.args.address.now c.args.count (c.connections.served + 1) c.in-Some.status c.args.net.now c.connections.net c.serve_next.new.net
    c.args.sink.now c.connections.sink c.serve_next.new.sink reached.0 reached.2
    (omega (arith, reached.1, c.connections-test.true)) (omega (arith, reached.1)) c.in-Some.ensures.next

pub connections-preserved : goal.connections-preserved
connections-preserved g c =
    let reached = c.connections.invariant.reached in
    let next = c.in_default-serve_next.ensures.next in record {
      reached = (
        reached.0 ++ next.0 ∷ [],
        omega (arith, length_more reached.0 next.0, reached.1),
        reached_at _ c.args.address.now (c.connections.served + 1) c.args.net.now c.connections.net c.serve_next.new.net c.args.sink.now c.connections.sink c.serve_next.new.sink
            reached.0 next.0 reached.2 (omega (arith, reached.1)) next.1,
      );
      within = omega (arith, c.connections.invariant.within, c.connections-test.true);
      listens = c.in_default-serve_next.ensures.listens;
    }
