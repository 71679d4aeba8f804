use Rattle.std.proofs.Common.{◌++◌, [], refl, sym, subst, take}
use Rattle.tmc_base.specs.declared.link.PollStep.{PollStep}
use Rattle.tmc_base.specs.Link.{got_count}
use Rattle.tmc_base.specs.Told.{CameIn}
use Rattle.host_hub.specs.HubCalls.{EndsPoll, TurnsOn, said_of}
use Rattle.host_hub.specs.LinkCalls.{KeepsPoll}
use Rattle.host_hub.proofs.Calling.{either_poll, neither_poll, rose_some}
use Rattle.host_hub.proofs.Entering.{same_births}
use Rattle.host_hub.proofs.turning.poll.Goals as goal

pub returns-in-Idle : goal.returns-in-Idle
returns-in-Idle g c = record {
  bytes = [];
  once = neither_poll (λ (x : PollStep). g.L.Link.polls c.args.link.now 8192 c.poll-step.result (take (got_count x) c.poll-step.new.buf) c.poll-step.new.self) _
      c.poll-step.result c.in-Idle.is (λ w. w) (λ w. w) c.poll-step.ensures.goes;
  within = c.poll-step.ensures.within;
  counted = c.poll-step.ensures.counts;
  ends = either_poll (λ (x : PollStep). EndsPoll x c.args.core.now.end) c.poll-step.result c.in-Idle.is c.requires.running c.requires.running;
  keeps = either_poll (λ (x : PollStep). KeepsPoll x c.args.core.now c.args.core.now) c.poll-step.result c.in-Idle.is refl refl;
  births = refl;
  goes = λ start s past before received b.
      let came : CameIn [] (g.L.Link.told c.args.link.now) (g.L.Link.told c.poll-step.new.self) =
      neither_poll (λ (x : PollStep). CameIn (take (got_count x) c.poll-step.new.buf) (g.L.Link.told c.args.link.now) (g.L.Link.told c.poll-step.new.self)) _
      c.poll-step.result c.in-Idle.is (λ w. w) (λ w. w) c.poll-step.ensures.told in
      let t = c.accounts_are_turned.ensures.idle start _ _ _ (g.L.Link.counts c.poll-step.new.self) s past before received c.args.core.now b c.requires.running came in
      either_poll
      (λ (x : PollStep). TurnsOn start (g.L.Link.told c.poll-step.new.self) (g.L.Link.counts c.poll-step.new.self) s past before (received ++ []) (said_of x) c.args.core.now)
      c.poll-step.result c.in-Idle.is t t;
}

pub returns-in-Failed : goal.returns-in-Failed
returns-in-Failed g c = record {
  bytes = [];
  once = subst (λ (x : PollStep). g.L.Link.polls c.args.link.now 8192 x [] c.poll-step.new.self) (sym c.in-Failed.is) c.in-Failed.ensures.goes;
  within = c.poll-step.ensures.within;
  counted = c.poll-step.ensures.counts;
  ends = subst (λ (x : PollStep). EndsPoll x c.fail.new.self.end) (sym c.in-Failed.is) c.fail.ensures.ended;
  keeps = subst (λ (x : PollStep). KeepsPoll x c.args.core.now c.fail.new.self) (sym c.in-Failed.is) tt;
  births = same_births c.args.core.now c.fail.new.self c.fail.ensures.leaves.keeps;
  goes = λ start s past before received b.
      subst
      (λ (x : PollStep). TurnsOn start (g.L.Link.told c.poll-step.new.self) (g.L.Link.counts c.poll-step.new.self) s past before (received ++ []) (said_of x) c.fail.new.self)
      (sym c.in-Failed.is)
      (c.accounts_are_turned.ensures.poll_failed start _ _ _ (g.L.Link.counts c.poll-step.new.self) s past before received c.args.core.now c.fail.new.self b c.requires.running
      c.in-Failed.ensures.told (rose_some _ _ c.in-Failed.ensures.counts.0) (c.fail.ensures.goes s past before b.rests) c.fail.ensures.ended c.fail.ensures.leaves);
}

pub returns-in-Closed : goal.returns-in-Closed
returns-in-Closed g c = record {
  bytes = [];
  once = subst (λ (x : PollStep). g.L.Link.polls c.args.link.now 8192 x [] c.poll-step.new.self) (sym c.in-Closed.is) c.in-Closed.ensures.goes;
  within = c.poll-step.ensures.within;
  counted = c.poll-step.ensures.counts;
  ends = subst (λ (x : PollStep). EndsPoll x c.close.new.self.end) (sym c.in-Closed.is) c.close.ensures.ended;
  keeps = subst (λ (x : PollStep). KeepsPoll x c.args.core.now c.close.new.self) (sym c.in-Closed.is) tt;
  births = same_births c.args.core.now c.close.new.self c.close.ensures.leaves.keeps;
  goes = λ start s past before received b.
      subst
      (λ (x : PollStep). TurnsOn start (g.L.Link.told c.poll-step.new.self) (g.L.Link.counts c.poll-step.new.self) s past before (received ++ []) (said_of x) c.close.new.self)
      (sym c.in-Closed.is)
      (c.accounts_are_turned.ensures.closed start _ _ _ (g.L.Link.counts c.poll-step.new.self) s past before received c.args.core.now c.close.new.self b c.requires.running
      c.in-Closed.ensures.told (rose_some _ _ c.in-Closed.ensures.counts.0) (c.close.ensures.goes s past before b.rests) c.close.ensures.ended c.close.ensures.leaves);
}

pub returns-in-Got : goal.returns-in-Got
returns-in-Got g c = record {
  bytes = take c.in-Got.n c.poll-step.new.buf;
  once = c.in-Got.ensures.goes;
  within = c.in-Got.ensures.within;
  counted = c.in-Got.ensures.counts;
  ends = tt;
  keeps = tt;
  births = same_births c.args.core.now c.feed.new.self c.feed.ensures.keeps;
  goes = λ start s past before received b.
      c.accounts_are_turned.ensures.fed start _ _ _ (g.L.Link.counts c.poll-step.new.self) s past before received _ c.args.core.now c.feed.new.self b c.requires.running
      c.in-Got.ensures.told (λ rest count f. c.feed.ensures.fed s past before received rest count f) c.feed.ensures.keeps;
}
