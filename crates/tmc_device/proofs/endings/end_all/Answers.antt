use Rattle.std.proofs.Common.{rules, IsSome}
use Rattle.endpoint_pipes.specs.Held.{endpoint_of, list_of}
use Rattle.endpoint_pipes.specs.Outcome.{first_of}
use Rattle.tmc_device.proofs.Firsts.{there, leaves_more, puts_more, room_more, fewer}
use Rattle.tmc_device.proofs.endings.end_all.Goals as goal

pub loop-pipes-smaller : goal.loop-pipes-smaller
loop-pipes-smaller c =
    let some : IsSome (first_of (list_of (endpoint_of c.args.ep) c.loop-pipes.pipes)) = search rules in
    let f = there (list_of (endpoint_of c.args.ep) c.loop-pipes.pipes) some in
    fewer (endpoint_of c.args.ep) c.loop-pipes.pipes c.end_first.new.pipes f.submit f.behind f.is (c.end_first.ensures.left f.submit f.behind f.is)

pub loop-pipes-preserved : goal.loop-pipes-preserved
loop-pipes-preserved c =
    let some : IsSome (first_of (list_of (endpoint_of c.args.ep) c.loop-pipes.pipes)) = search rules in
    let f = there (list_of (endpoint_of c.args.ep) c.loop-pipes.pipes) some in
    let left = c.end_first.ensures.left f.submit f.behind f.is in record {
      pipes = leaves_more (endpoint_of c.args.ep) c.args.pipes.now c.loop-pipes.pipes c.end_first.new.pipes f.behind c.loop-pipes.invariant.pipes left;
      puts = puts_more _ (endpoint_of c.args.ep) c.loop-pipes.pipes c.end_first.new.pipes f.submit f.behind c.loop-pipes.outputs.puts c.end_first.new.outputs.puts _
          f.is left (c.end_first.ensures.put f.submit f.behind f.is) c.loop-pipes.invariant.puts;
      room = room_more (endpoint_of c.args.ep) c.loop-pipes.pipes c.end_first.new.pipes f.submit f.behind c.loop-pipes.outputs.room c.end_first.new.outputs.room
          _ _ f.is left c.end_first.ensures.room c.loop-pipes.invariant.room;
    }
