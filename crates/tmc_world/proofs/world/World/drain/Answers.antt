use Rattle.std.proofs.Common.{arith}
use Rattle.tmc_world.proofs.RestLoops.{drained, draining_on, draining_stops, no_bytes, some_bytes, still_spent}
use Rattle.tmc_world.proofs.RestTries.{made_if, none_if}
use Rattle.tmc_world.proofs.world.World.drain.Goals as goal

pub returns-in-Ok-false-clause-drains : goal.returns-in-Ok-false-clause-drains
returns-in-Ok-false-clause-drains c = λ first depth old b.
    let m = c.pieces.invariant.made first depth old b in
    drained first depth old c.pieces.self.hub c.take_all.new.self.hub m c.pieces.invariant.spent
    (none_if first depth _ m.new _ c.take_all.new.self.hub c.in-Ok-false.field-0-test (c.in-Ok-false.ensures.tries first depth m.new m.behind))

pub returns-in-Err-clause-drains : goal.returns-in-Err-clause-drains
returns-in-Err-clause-drains c = λ first depth old b.
    let m = c.pieces.invariant.made first depth old b in
    draining_stops first depth old c.pieces.self.hub c.take_all.new.self.hub m c.pieces.invariant.spent (c.in-Err.ensures.tries first depth m.new m.behind)

pub returns-then-unsent-gt0-clause-drains : goal.returns-then-unsent-gt0-clause-drains
returns-then-unsent-gt0-clause-drains c = λ first depth old b.
    let m = c.pieces.invariant.made first depth old b in
    draining_on first depth old c.pieces.self.hub c.take_all.new.self.hub m c.pieces.invariant.spent
    (made_if first depth _ m.new _ c.take_all.new.self.hub c.in-Ok-true.field-0-test (c.in-Ok-true.ensures.tries first depth m.new m.behind))

pub returns-then-unsent-gt0-clause-less : goal.returns-then-unsent-gt0-clause-less
returns-then-unsent-gt0-clause-less c = λ more.
    let t = c.in-Ok-true.ensures.taken c.in-Ok-true.field-0-test in
    let less = t.wrote (some_bytes c.take_all.new.self.hub.core.urbs.outbox (omega (arith, c.if-unsent-gt0.true, c.unsent.ensures))) in
    omega (arith, less, c.pieces.invariant.no_more)

pub pieces-preserved : goal.pieces-preserved
pieces-preserved c =
    let t = c.in-Ok-true.ensures.taken c.in-Ok-true.field-0-test in
    record {
      spent = still_spent c.pieces.self.hub c.take_all.new.self.hub c.pieces.invariant.spent t
          (no_bytes c.take_all.new.self.hub.core.urbs.outbox (omega (arith, c.if-unsent-gt0.false, c.unsent.ensures)));
      made = λ first depth old b.
          let m = c.pieces.invariant.made first depth old b in
          draining_on first depth old c.pieces.self.hub c.take_all.new.self.hub m c.pieces.invariant.spent
          (made_if first depth _ m.new _ c.take_all.new.self.hub c.in-Ok-true.field-0-test (c.in-Ok-true.ensures.tries first depth m.new m.behind));
      no_more = let l = t.no_more in omega (arith, l, c.pieces.invariant.no_more);
    }

pub pieces-smaller : goal.pieces-smaller
pieces-smaller c = (c.in-Ok-true.ensures.taken c.in-Ok-true.field-0-test).less
