use Rattle.std.proofs.Common.{inr, refl, ◌∙◌}
use Rattle.tmc_live.specs.Live.{Connection}
use Rattle.tmc_live.proofs.Serving.{handled, listens_still, line_put, line_broken}
use Rattle.tmc_live.proofs.live.serve_next.Goals as goal

pub returns-in-Memory-clause-next : goal.returns-in-Memory-clause-next
returns-in-Memory-clause-next g c = (
  inr (
    record { link = c.in-Ok.link; end = c.serve_client-end.result; after = c.serve_client-end.new.link },
    handled _ c.args.net.now c.accept.new.self c.done.new.self _ c.in-Ok.ensures.goes c.in-Ok.ensures.standing c.in-Ok.ensures.back c.serve_client-end.ensures
        c.done.ensures.goes c.done.ensures.standing c.done.ensures.back,
  ),
  refl,
)

pub returns-in_default-connection_line : goal.returns-in_default-connection_line
returns-in_default-connection_line g c = record {
  next = (
    inr (
      record { link = c.in-Ok.link; end = c.serve_client-end.result; after = c.serve_client-end.new.link },
      handled _ c.args.net.now c.accept.new.self c.done.new.self _ c.in-Ok.ensures.goes c.in-Ok.ensures.standing c.in-Ok.ensures.back c.serve_client-end.ensures
          c.done.ensures.goes c.done.ensures.standing c.done.ensures.back,
    ),
    refl,
  );
  listens =
      listens_still c.in-Ok.link (g.N.Net.standing c.args.net.now) (g.N.Net.standing c.accept.new.self) (g.N.Net.standing c.done.new.self)
      c.requires c.in-Ok.ensures.standing c.done.ensures.standing;
}

pub returns-then-write_all : goal.returns-then-write_all
returns-then-write_all g c = record {
  next = (
    record { link = c.in-Ok.link; end = c.serve_client-end.result; after = c.serve_client-end.new.link },
    record {
      handled =
          handled _ c.args.net.now c.accept.new.self c.done.new.self _ c.in-Ok.ensures.goes c.in-Ok.ensures.standing c.in-Ok.ensures.back c.serve_client-end.ensures
          c.done.ensures.goes c.done.ensures.standing c.done.ensures.back;
      ample = c.in_default.not-Memory;
      printed =
          line_put g.K.Sink.put g.K.Sink.faults g.K.Sink.writes c.args.sink.now c.write_all.new.sink c.as_bytes.result.now _ c.write_all.result
          (c.as_bytes.ensures.value ∙ c.in-Ok-connection_line.ensures) c.if-write_all.true c.write_all.ensures.whole c.write_all.ensures.counts c.write_all.ensures.run;
    },
  );
  listens =
      listens_still c.in-Ok.link (g.N.Net.standing c.args.net.now) (g.N.Net.standing c.accept.new.self) (g.N.Net.standing c.done.new.self)
      c.requires c.in-Ok.ensures.standing c.done.ensures.standing;
}

pub returns : goal.returns
returns g c = record {
  next =
      inr (
        record { link = c.in-Ok.link; end = c.serve_client-end.result; after = c.serve_client-end.new.link },
        handled _ c.args.net.now c.accept.new.self c.done.new.self _ c.in-Ok.ensures.goes c.in-Ok.ensures.standing c.in-Ok.ensures.back c.serve_client-end.ensures
            c.done.ensures.goes c.done.ensures.standing c.done.ensures.back,
        c.in_default.not-Memory,
        line_broken g.K.Sink.put g.K.Sink.faults g.K.Sink.writes c.args.sink.now c.write_all.new.sink c.as_bytes.result.now _ c.write_all.result
            (c.as_bytes.ensures.value ∙ c.in-Ok-connection_line.ensures) c.if-write_all.false c.write_all.ensures.front c.write_all.ensures.failed c.write_all.ensures.run,
      );
  listens =
      listens_still c.in-Ok.link (g.N.Net.standing c.args.net.now) (g.N.Net.standing c.accept.new.self) (g.N.Net.standing c.done.new.self)
      c.requires c.in-Ok.ensures.standing c.done.ensures.standing;
}
