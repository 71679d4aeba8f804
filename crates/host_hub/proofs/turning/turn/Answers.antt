use Rattle.std.proofs.Common.{◌≡◌, ◌∙◌, ◌++◌, ℕ, [], Option, Some, None, refl, sym, ap, subst, take}
use Rattle.tmc_base.specs.declared.link.SendStep.{SendStep}
use Rattle.tmc_base.specs.declared.link.SendStep.TheVariants as send
use Rattle.host_hub.specs.declared.outcome.End.{End}
use Rattle.host_hub.specs.HubCalls.{EndsSend, PollsOnce, TurnsOn, sent_count}
use Rattle.host_hub.specs.Tied.{Said}
use Rattle.host_hub.proofs.Calling.{ended_failed, goes_on, keeps_turn, polls_on, same_said, turns_ended}
use Rattle.host_hub.proofs.turning.turn.Goals as goal

pub returns-in-Some : goal.returns-in-Some
returns-in-Some g c =
    let failed : c.send-sent.result ≡ Some send.Failed = ended_failed c.send-sent.result c.send-sent.new.core.end c.in-Some.end c.send-sent.ensures.ends c.in-Some.is in
    record {
      sent = c.send-sent.result;
      came = None;
      between = c.send-sent.new.link;
      bytes = [];
      sends_once = c.send-sent.ensures.once;
      polls_once = subst (λ (x : Option SendStep). PollsOnce g.L.Link.polls x None [] c.send-sent.new.link c.send-sent.new.link) (sym failed) (refl, refl);
      send_counts = c.send-sent.ensures.counted;
      poll_counts = refl;
      answers = c.in-Some.is;
      ends = c.send-sent.ensures.ends;
      keeps = tt;
      births = c.send-sent.ensures.births ∙ ap (λ (n : ℕ). record { turned = n; born = c.args.core.now.notes.births }) c.saturating_add-core.ensures;
      turns = λ start s past before received b.
          turns_ended c.send-sent.result start _ _ s past before received c.args.core.now.urbs.outbox c.send-sent.new.core failed
          (c.send-sent.ensures.goes start s past before received (c.accounts_are_turned.ensures.counted start _ _ s past before received c.args.core.now _ b));
    }

pub poll-came-requires-clause-recorded : goal.poll-came-requires-clause-recorded
poll-came-requires-clause-recorded g c =
    let r = c.requires.recorded in
    let ends : EndsSend c.send-sent.result None = subst (λ (o : Option End). EndsSend c.send-sent.result o) c.in_default.is c.send-sent.ensures.ends in
    record {
      start = r.start;
      setting = r.setting;
      past = r.past;
      sent = r.sent ++ take (sent_count c.send-sent.result) c.args.core.now.urbs.outbox;
      received = r.received;
      behind = goes_on c.send-sent.result r.start _ _ r.setting r.past r.sent r.received c.args.core.now.urbs.outbox c.send-sent.new.core ends
          (c.send-sent.ensures.goes r.start r.setting r.past r.sent r.received
          (c.accounts_are_turned.ensures.counted r.start _ _ r.setting r.past r.sent r.received c.args.core.now _ r.behind));
    }

pub returns : goal.returns
returns g c =
    let ends : EndsSend c.send-sent.result None = subst (λ (o : Option End). EndsSend c.send-sent.result o) c.in_default.is c.send-sent.ensures.ends in
    record {
      sent = c.send-sent.result;
      came = Some c.poll-came.result;
      between = c.send-sent.new.link;
      bytes = c.poll-came.ensures.bytes;
      sends_once = c.send-sent.ensures.once;
      polls_once = polls_on g.L.Link.polls c.send-sent.result c.poll-came.result c.poll-came.ensures.bytes c.send-sent.new.link c.poll-came.new.link ends c.poll-came.ensures.once;
      send_counts = c.send-sent.ensures.counted;
      poll_counts = c.poll-came.ensures.counted;
      answers = c.answer.ensures;
      ends = (ends, c.poll-came.ensures.ends);
      keeps = keeps_turn c.answer.result c.send-sent.result c.poll-came.result _ c.args.core.now c.send-sent.new.core c.poll-came.new.core _ c.answer.ensures c.send-sent.ensures.within
          c.poll-came.ensures.within ends c.poll-came.ensures.ends c.send-sent.ensures.keeps c.poll-came.ensures.keeps;
      births = c.poll-came.ensures.births
          ∙ (c.send-sent.ensures.births ∙ ap (λ (n : ℕ). record { turned = n; born = c.args.core.now.notes.births }) c.saturating_add-core.ensures);
      turns = λ start s past before received b.
          let a =
          goes_on c.send-sent.result start _ _ s past before received c.args.core.now.urbs.outbox c.send-sent.new.core ends
          (c.send-sent.ensures.goes start s past before received (c.accounts_are_turned.ensures.counted start _ _ s past before received c.args.core.now _ b)) in
          subst
          (λ (x : Said). TurnsOn start (g.L.Link.told c.poll-came.new.link) (g.L.Link.counts c.poll-came.new.link) s past
          (before ++ take (sent_count c.send-sent.result) c.args.core.now.urbs.outbox) (received ++ c.poll-came.ensures.bytes) x c.poll-came.new.core)
          (sym (same_said c.send-sent.result c.poll-came.result ends))
          (c.poll-came.ensures.goes start s past (before ++ take (sent_count c.send-sent.result) c.args.core.now.urbs.outbox) received a);
    }
