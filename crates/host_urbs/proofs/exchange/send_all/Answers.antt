use Rattle.std.proofs.Common.{ℕ, ◌+◌, ◌<◌, ◌≤◌, ◌++◌, [], List, length, drop, inl, refl, subst, arith, length-drop}
use Rattle.std.proofs.lemmas.List.{take_rest}
use Rattle.tmc_base.specs.declared.link.SendStep.TheVariants as send
use Rattle.host_urbs.specs.Attach.{At, Path, SendGoes, SendFailed, SendWants, Spent}
use Rattle.host_urbs.proofs.Attachment.{sending, begin_sending, on_sent, on_idle, end_sending, send_stops}
use Rattle.host_urbs.proofs.exchange.send_all.Goals as goal

pub sends-init : goal.sends-init
sends-init g c = record {
  path = λ turns busid s e count. (sending s c.args.request.now 0 s.calls, begin_sending g.L.Link.told g.L.Link.counts g.L.Link.sends g.L.Link.polls turns busid s c.args.link.now c.args.request.now e, count, refl);
  within = omega arith;
}

pub returns-then-left-eq0 : goal.returns-then-left-eq0
returns-then-left-eq0 g c = record {
  goes = λ turns busid s e count.
      let p = c.sends.invariant.path turns busid s e count in
      let some : 0 < length (drop c.sends.at c.args.request.now) = omega (arith, length-drop c.sends.at c.args.request.now, c.sends-test.true) in
      let path = subst (λ (t : At). Path g.L.Link.told g.L.Link.counts g.L.Link.sends g.L.Link.polls busid s c.args.link.now t c.sends.link) p.3 p.1 in
      send_stops g.L.Link.told g.L.Link.counts g.L.Link.sends g.L.Link.polls turns busid s c.args.link.now c.args.request.now c.sends.at p.0.calls c.sends.link c.sends.link _ path (omega (arith, p.2))
      (Spent (inl some) (omega (arith, p.2, c.if-left-eq0.true)) refl refl);
}

pub sends-preserved-in-Took : goal.sends-preserved-in-Took
sends-preserved-in-Took g c =
    let piece = take_rest c.args.request.now c.sends.at in
    let few : c.in-Took.n ≤ length (drop c.sends.at c.args.request.now) = subst (λ (l : List ℕ). c.in-Took.n ≤ length l) piece c.in-Took.ensures.within.1 in
    record {
      path = λ turns busid s e count.
          let p = c.sends.invariant.path turns busid s e count in
          let path = subst (λ (t : At). Path g.L.Link.told g.L.Link.counts g.L.Link.sends g.L.Link.polls busid s c.args.link.now t c.sends.link) p.3 p.1 in
          let goes = subst (λ (l : List ℕ). SendGoes g.L.Link.told g.L.Link.counts g.L.Link.sends g.L.Link.polls c.sends.link l (send.Took c.in-Took.n) c.send.new.self) piece
          (record { goes = c.in-Took.ensures.goes; told_so = c.in-Took.ensures.told; counted = c.in-Took.ensures.counts }) in (
            sending s c.args.request.now (c.sends.at + c.in-Took.n) (p.0.calls + 1),
            on_sent g.L.Link.told g.L.Link.counts g.L.Link.sends g.L.Link.polls turns busid s c.args.link.now c.args.request.now c.sends.at c.in-Took.n p.0.calls c.sends.link c.send.new.self path c.in-Took.ensures.within.0 few goes,
            omega (arith, p.2, c.if-left-eq0.false),
            refl,
          );
      within = omega (arith, few, length-drop c.sends.at c.args.request.now, c.sends-test.true);
    }

pub sends-preserved : goal.sends-preserved
sends-preserved g c =
    let piece = take_rest c.args.request.now c.sends.at in
    let some : 0 < length (drop c.sends.at c.args.request.now) = omega (arith, length-drop c.sends.at c.args.request.now, c.sends-test.true) in
    record {
      path = λ turns busid s e count.
          let p = c.sends.invariant.path turns busid s e count in
          let path = subst (λ (t : At). Path g.L.Link.told g.L.Link.counts g.L.Link.sends g.L.Link.polls busid s c.args.link.now t c.sends.link) p.3 p.1 in
          let goes = subst (λ (l : List ℕ). SendGoes g.L.Link.told g.L.Link.counts g.L.Link.sends g.L.Link.polls c.sends.link l send.Idle c.send.new.self) piece
          (record { goes = c.in-Idle.ensures.goes; told_so = c.in-Idle.ensures.told; counted = c.in-Idle.ensures.counts }) in (
            sending s c.args.request.now c.sends.at (p.0.calls + 1),
            on_idle g.L.Link.told g.L.Link.counts g.L.Link.sends g.L.Link.polls turns busid s c.args.link.now c.args.request.now c.sends.at p.0.calls c.sends.link c.send.new.self path some goes,
            omega (arith, p.2, c.if-left-eq0.false),
            refl,
          );
      within = c.sends.invariant.within;
    }

pub returns-in-Failed : goal.returns-in-Failed
returns-in-Failed g c = record {
  goes = λ turns busid s e count.
      let piece = take_rest c.args.request.now c.sends.at in
      let some : 0 < length (drop c.sends.at c.args.request.now) = omega (arith, length-drop c.sends.at c.args.request.now, c.sends-test.true) in
      let p = c.sends.invariant.path turns busid s e count in
      let path = subst (λ (t : At). Path g.L.Link.told g.L.Link.counts g.L.Link.sends g.L.Link.polls busid s c.args.link.now t c.sends.link) p.3 p.1 in
      let goes = subst (λ (l : List ℕ). SendGoes g.L.Link.told g.L.Link.counts g.L.Link.sends g.L.Link.polls c.sends.link l send.Failed c.send.new.self) piece
      (record { goes = c.in-Failed.ensures.goes; told_so = c.in-Failed.ensures.told; counted = c.in-Failed.ensures.counts }) in
      send_stops g.L.Link.told g.L.Link.counts g.L.Link.sends g.L.Link.polls turns busid s c.args.link.now c.args.request.now c.sends.at p.0.calls c.sends.link c.send.new.self _ path (omega (arith, p.2))
      (SendFailed some (omega (arith, p.2, c.if-left-eq0.false)) goes refl);
}

pub returns-in-Memory : goal.returns-in-Memory
returns-in-Memory g c = record {
  goes = λ turns busid s e count.
      let piece = take_rest c.args.request.now c.sends.at in
      let some : 0 < length (drop c.sends.at c.args.request.now) = omega (arith, length-drop c.sends.at c.args.request.now, c.sends-test.true) in
      let p = c.sends.invariant.path turns busid s e count in
      let path = subst (λ (t : At). Path g.L.Link.told g.L.Link.counts g.L.Link.sends g.L.Link.polls busid s c.args.link.now t c.sends.link) p.3 p.1 in
      let goes = subst (λ (l : List ℕ). SendGoes g.L.Link.told g.L.Link.counts g.L.Link.sends g.L.Link.polls c.sends.link l send.Memory c.send.new.self) piece
      (record { goes = c.in-Memory.ensures.goes; told_so = c.in-Memory.ensures.told; counted = c.in-Memory.ensures.counts }) in
      send_stops g.L.Link.told g.L.Link.counts g.L.Link.sends g.L.Link.polls turns busid s c.args.link.now c.args.request.now c.sends.at p.0.calls c.sends.link c.send.new.self _ path (omega (arith, p.2))
      (SendWants some (omega (arith, p.2, c.if-left-eq0.false)) goes refl);
}

pub returns : goal.returns
returns g c = record {
  goes = λ turns busid s e count.
      let p = c.sends.invariant.path turns busid s e count in
      let path = subst (λ (t : At). Path g.L.Link.told g.L.Link.counts g.L.Link.sends g.L.Link.polls busid s c.args.link.now t c.sends.link) p.3 p.1 in (
        record s { unsent = []; sent = s.sent ++ c.args.request.now; calls = p.0.calls },
        end_sending g.L.Link.told g.L.Link.counts g.L.Link.sends g.L.Link.polls turns busid s c.args.link.now c.args.request.now c.sends.at p.0.calls c.sends.link c.sends-test.false path,
        p.2,
        refl,
      );
}
