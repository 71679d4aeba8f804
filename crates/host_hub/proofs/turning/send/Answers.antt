use Rattle.std.proofs.Common.{◌≡◌, ◌∙◌, ap, false, List, ℕ, [], length, Some, refl, sym, subst, take}
use Rattle.std.specs.Prelude.{◌==◌}
use Rattle.tmc_base.specs.declared.link.SendStep.{SendStep}
use Rattle.tmc_base.specs.declared.link.SendStep.TheVariants.{Took}
use Rattle.host_hub.specs.declared.hub_core.HubCore.{HubCore}
use Rattle.host_hub.specs.Behind.{births_of}
use Rattle.tmc_base.specs.Link.{SendsWithin, took_count}
use Rattle.tmc_base.specs.Told.{WentOut}
use Rattle.host_hub.specs.HubCalls.{EndsSend}
use Rattle.host_hub.specs.LinkCalls.{KeepsSend, SendsOn}
use Rattle.host_hub.proofs.Calling.{either_send, neither_send, rose_some, sends_once, some_length}
use Rattle.host_hub.proofs.Entering.{same_births}
use Rattle.host_hub.proofs.turning.send.Goals as goal

pub returns-in-Failed : goal.returns-in-Failed
returns-in-Failed g c = record {
  once = sends_once g.L.Link.sends c.args.core.now.urbs.outbox c.send-step.result c.args.link.now c.send-step.new.self
      (some_length c.args.core.now.urbs.outbox (subst (λ (l : List ℕ). false ≡ (length l == 0)) c.outbox.ensures c.if-is_empty.ensures))
      (subst (λ (l : List ℕ). g.L.Link.sends c.args.link.now l c.send-step.result c.send-step.new.self) c.outbox-2.ensures c.send-step.ensures.goes);
  within = subst (λ (l : List ℕ). SendsWithin c.send-step.result (length l)) c.outbox-2.ensures c.send-step.ensures.within;
  counted = c.send-step.ensures.counts;
  ends = subst (λ (x : SendStep). EndsSend (Some x) c.fail.new.self.end) (sym c.in-Failed.is) c.fail.ensures.ended;
  keeps = subst (λ (x : SendStep). KeepsSend (Some x) c.args.core.now c.fail.new.self) (sym c.in-Failed.is) tt;
  births = same_births c.args.core.now c.fail.new.self c.fail.ensures.leaves.keeps;
  goes = λ start s past before received b.
      subst (λ (x : SendStep). SendsOn (Some x) start (g.L.Link.told c.send-step.new.self) (g.L.Link.counts c.send-step.new.self) s past before received c.args.core.now.urbs.outbox c.fail.new.self)
      (sym c.in-Failed.is)
      (c.accounts_are_turned.ensures.failed start _ _ _ (g.L.Link.counts c.send-step.new.self) s past before received c.args.core.now c.fail.new.self b c.requires.running
      c.in-Failed.ensures.told (rose_some _ _ c.in-Failed.ensures.counts.0) (c.fail.ensures.goes s past before b.rests) c.fail.ensures.ended c.fail.ensures.leaves);
}

pub returns-in-Idle : goal.returns-in-Idle
returns-in-Idle g c = record {
  once = sends_once g.L.Link.sends c.args.core.now.urbs.outbox c.send-step.result c.args.link.now c.send-step.new.self
      (some_length c.args.core.now.urbs.outbox (subst (λ (l : List ℕ). false ≡ (length l == 0)) c.outbox.ensures c.if-is_empty.ensures))
      (subst (λ (l : List ℕ). g.L.Link.sends c.args.link.now l c.send-step.result c.send-step.new.self) c.outbox-2.ensures c.send-step.ensures.goes);
  within = subst (λ (l : List ℕ). SendsWithin c.send-step.result (length l)) c.outbox-2.ensures c.send-step.ensures.within;
  counted = c.send-step.ensures.counts;
  ends = either_send (λ (x : SendStep). EndsSend (Some x) c.args.core.now.end) c.send-step.result c.in-Idle.is c.requires.running c.requires.running;
  keeps = either_send (λ (x : SendStep). KeepsSend (Some x) c.args.core.now c.args.core.now) c.send-step.result c.in-Idle.is refl refl;
  births = refl;
  goes = λ start s past before received b.
      let went : WentOut [] (g.L.Link.told c.args.link.now) (g.L.Link.told c.send-step.new.self) =
      neither_send (λ (x : SendStep). WentOut (take (took_count x) c.outbox-2.result.now) (g.L.Link.told c.args.link.now) (g.L.Link.told c.send-step.new.self)) _
      c.send-step.result c.in-Idle.is (λ w. w) (λ w. w) c.send-step.ensures.told in
      let acc =
      c.accounts_are_turned.ensures.unsent start _ _ _ (g.L.Link.counts c.send-step.new.self) s past before received c.args.core.now b c.requires.running went in
      either_send
      (λ (x : SendStep). SendsOn (Some x) start (g.L.Link.told c.send-step.new.self) (g.L.Link.counts c.send-step.new.self) s past before received c.args.core.now.urbs.outbox c.args.core.now)
      c.send-step.result c.in-Idle.is acc acc;
}

pub returns-in-Took : goal.returns-in-Took
returns-in-Took g c = record {
  once = sends_once g.L.Link.sends c.args.core.now.urbs.outbox (Took c.in-Took.n) c.args.link.now c.send-step.new.self
      (some_length c.args.core.now.urbs.outbox (subst (λ (l : List ℕ). false ≡ (length l == 0)) c.outbox.ensures c.if-is_empty.ensures))
      (subst (λ (l : List ℕ). g.L.Link.sends c.args.link.now l (Took c.in-Took.n) c.send-step.new.self) c.outbox-2.ensures c.in-Took.ensures.goes);
  within = subst (λ (l : List ℕ). SendsWithin (Took c.in-Took.n) (length l)) c.outbox-2.ensures c.in-Took.ensures.within;
  counted = c.in-Took.ensures.counts;
  ends = ap (λ (h : HubCore). h.end) c.sent.ensures.rest ∙ c.requires.running;
  keeps = tt;
  births = ap births_of c.sent.ensures.rest;
  goes = λ start s past before received b.
      c.accounts_are_turned.ensures.sent start _ _ _ (g.L.Link.counts c.send-step.new.self) s past before received c.args.core.now c.sent.new.self c.in-Took.n b c.requires.running
      (subst (λ (l : List ℕ). WentOut (take c.in-Took.n l) (g.L.Link.told c.args.link.now) (g.L.Link.told c.send-step.new.self)) c.outbox-2.ensures c.in-Took.ensures.told)
      (c.sent.ensures.goes s past before b.rests) c.sent.ensures.outbox (ap (λ (h : HubCore). h.reader) c.sent.ensures.rest);
}
