use Rattle.std.proofs.Common.{◌≡◌, ℕ, ◌+◌, ◌∷◌, [], List, length, take, get_or, inr, refl, subst, ◌∙◌, arith}
use Rattle.tmc_base.specs.declared.link.PollStep.TheVariants as poll
use Rattle.tmc_base.specs.Told.{CameIn}
use Rattle.host_urbs.specs.Attach.{At, Path, here, PollGoes, PollFailed, PollClosed, PollWants, Spent}
use Rattle.host_urbs.proofs.Attachment.{awaits_one, first_of_one, counting, reading, on_got, on_none, poll_stops}
use Rattle.host_urbs.proofs.exchange.take_byte.Goals as goal

pub polls-init : goal.polls-init
polls-init g c = record {
  path = λ turns busid s none u count. (s, here, count, refl);
  one = refl;
  fewer = omega arith;
}

pub returns-in-Got-clause-goes : goal.returns-in-Got-clause-goes
returns-in-Got-clause-goes g c = λ turns busid s none u count.
    let p = c.polls.invariant.path turns busid s none u count in
    let path = subst (λ (t : At). Path g.L.Link.told g.L.Link.counts g.L.Link.sends g.L.Link.polls busid s c.args.link.now t c.polls.link) p.3 p.1 in
    let n : c.in-Got.field-0 ≡ 1 = omega (arith, c.in-Got.ensures.within, c.polls.invariant.one) in
    let byte = get_or c.poll.new.buf 0 0 in
    let long : length c.poll.new.buf ≡ 1 = c.poll.auto.buf ∙ c.polls.invariant.one in
    let same : take c.in-Got.field-0 c.poll.new.buf ≡ byte ∷ [] = first_of_one c.poll.new.buf c.in-Got.field-0 long c.in-Got.ensures.within.0 (omega (arith, n, long)) in
    let goes : PollGoes g.L.Link.told g.L.Link.counts g.L.Link.sends g.L.Link.polls c.polls.link 1 (poll.Got 1) (byte ∷ []) c.poll.new.self =
    record {
      goes = subst (λ (m : ℕ). g.L.Link.polls c.polls.link m (poll.Got 1) (byte ∷ []) c.poll.new.self) c.polls.invariant.one
          (subst (λ (l : List ℕ). g.L.Link.polls c.polls.link (length c.polls.buf) (poll.Got 1) l c.poll.new.self) same
          (subst (λ (m : ℕ). g.L.Link.polls c.polls.link (length c.polls.buf) (poll.Got m) (take c.in-Got.field-0 c.poll.new.buf) c.poll.new.self) n c.in-Got.ensures.goes));
      told_so = subst (λ (l : List ℕ). CameIn l (g.L.Link.told c.polls.link) (g.L.Link.told c.poll.new.self)) same c.in-Got.ensures.told;
      counted = c.in-Got.ensures.counts;
    } in
    (reading s byte (p.0.calls + 1), on_got g.L.Link.told g.L.Link.counts g.L.Link.sends g.L.Link.polls turns busid s c.args.link.now byte 1 p.0.calls c.polls.link c.poll.new.self path none u goes, omega (arith, p.2, c.polls-test.true), refl)

pub polls-preserved : goal.polls-preserved
polls-preserved g c = record {
  path = λ turns busid s none u count.
      let p = c.polls.invariant.path turns busid s none u count in
      let path = subst (λ (t : At). Path g.L.Link.told g.L.Link.counts g.L.Link.sends g.L.Link.polls busid s c.args.link.now t c.polls.link) p.3 p.1 in
      let goes : PollGoes g.L.Link.told g.L.Link.counts g.L.Link.sends g.L.Link.polls c.polls.link 1 poll.Idle [] c.poll.new.self =
      record { goes = subst (λ (n : ℕ). g.L.Link.polls c.polls.link n poll.Idle [] c.poll.new.self) c.polls.invariant.one c.in-Idle.ensures.goes; told_so = c.in-Idle.ensures.told; counted = c.in-Idle.ensures.counts } in
      (counting s (p.0.calls + 1), on_none g.L.Link.told g.L.Link.counts g.L.Link.sends g.L.Link.polls turns busid s c.args.link.now p.0.calls c.polls.link c.poll.new.self path none u goes, omega (arith, p.2, c.polls-test.true), refl);
  one = c.poll.auto.buf ∙ c.polls.invariant.one;
  fewer = omega (arith, c.polls.invariant.fewer);
}

pub returns-in-Closed-clause-goes : goal.returns-in-Closed-clause-goes
returns-in-Closed-clause-goes g c = λ turns busid s none u count.
    let p = c.polls.invariant.path turns busid s none u count in
    let path = subst (λ (t : At). Path g.L.Link.told g.L.Link.counts g.L.Link.sends g.L.Link.polls busid s c.args.link.now t c.polls.link) p.3 p.1 in
    let goes : PollGoes g.L.Link.told g.L.Link.counts g.L.Link.sends g.L.Link.polls c.polls.link 1 poll.Closed [] c.poll.new.self =
    record { goes = subst (λ (n : ℕ). g.L.Link.polls c.polls.link n poll.Closed [] c.poll.new.self) c.polls.invariant.one c.in-Closed.ensures.goes; told_so = c.in-Closed.ensures.told; counted = c.in-Closed.ensures.counts } in
    poll_stops g.L.Link.told g.L.Link.counts g.L.Link.sends g.L.Link.polls turns busid s c.args.link.now p.0.calls c.polls.link c.poll.new.self _ path (omega (arith, p.2))
    (PollClosed 1 none (awaits_one s.stage s.rest u) (omega (arith, p.2, c.polls-test.true)) goes refl)

pub returns-in-Failed-clause-goes : goal.returns-in-Failed-clause-goes
returns-in-Failed-clause-goes g c = λ turns busid s none u count.
    let p = c.polls.invariant.path turns busid s none u count in
    let path = subst (λ (t : At). Path g.L.Link.told g.L.Link.counts g.L.Link.sends g.L.Link.polls busid s c.args.link.now t c.polls.link) p.3 p.1 in
    let goes : PollGoes g.L.Link.told g.L.Link.counts g.L.Link.sends g.L.Link.polls c.polls.link 1 poll.Failed [] c.poll.new.self =
    record { goes = subst (λ (n : ℕ). g.L.Link.polls c.polls.link n poll.Failed [] c.poll.new.self) c.polls.invariant.one c.in-Failed.ensures.goes; told_so = c.in-Failed.ensures.told; counted = c.in-Failed.ensures.counts } in
    poll_stops g.L.Link.told g.L.Link.counts g.L.Link.sends g.L.Link.polls turns busid s c.args.link.now p.0.calls c.polls.link c.poll.new.self _ path (omega (arith, p.2))
    (PollFailed 1 none (awaits_one s.stage s.rest u) (omega (arith, p.2, c.polls-test.true)) goes refl)

pub returns-in-Memory-clause-goes : goal.returns-in-Memory-clause-goes
returns-in-Memory-clause-goes g c = λ turns busid s none u count.
    let p = c.polls.invariant.path turns busid s none u count in
    let path = subst (λ (t : At). Path g.L.Link.told g.L.Link.counts g.L.Link.sends g.L.Link.polls busid s c.args.link.now t c.polls.link) p.3 p.1 in
    let goes : PollGoes g.L.Link.told g.L.Link.counts g.L.Link.sends g.L.Link.polls c.polls.link 1 poll.Memory [] c.poll.new.self =
    record { goes = subst (λ (n : ℕ). g.L.Link.polls c.polls.link n poll.Memory [] c.poll.new.self) c.polls.invariant.one c.in-Memory.ensures.goes; told_so = c.in-Memory.ensures.told; counted = c.in-Memory.ensures.counts } in
    poll_stops g.L.Link.told g.L.Link.counts g.L.Link.sends g.L.Link.polls turns busid s c.args.link.now p.0.calls c.polls.link c.poll.new.self _ path (omega (arith, p.2))
    (PollWants 1 none (awaits_one s.stage s.rest u) (omega (arith, p.2, c.polls-test.true)) goes refl)

pub returns-clause-goes : goal.returns-clause-goes
returns-clause-goes g c = λ turns busid s none u count.
    let p = c.polls.invariant.path turns busid s none u count in
    let path = subst (λ (t : At). Path g.L.Link.told g.L.Link.counts g.L.Link.sends g.L.Link.polls busid s c.args.link.now t c.polls.link) p.3 p.1 in
    poll_stops g.L.Link.told g.L.Link.counts g.L.Link.sends g.L.Link.polls turns busid s c.args.link.now p.0.calls c.polls.link c.polls.link _ path (omega (arith, p.2))
    (Spent (inr (none, u)) (omega (arith, p.2, c.polls-test.false)) refl refl)
