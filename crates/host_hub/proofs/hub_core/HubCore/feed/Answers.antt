use Rattle.std.proofs.Common.{◌∙◌, ◌++◌, ℕ, [], List, take, drop, refl, sym, subst, ap, arith, append_assoc, take-append-drop}
use Rattle.std.proofs.lemmas.List.{length-drop}
use Rattle.host_hub.specs.Fed.{Fed}
use Rattle.host_hub.proofs.Leaving.{keeps_then}
use Rattle.host_hub.proofs.TakingsInRow.{ended_some, fed_again, fed_ended, fed_nothing, fed_then, feeds_on, left_behind, runs_on}
use Rattle.host_hub.proofs.Falls.{not_stopped_yet}
use Rattle.host_hub.proofs.hub_core.HubCore.feed.Goals as goal

pub answers-init : goal.answers-init
answers-init c = record {
  front = [];
  whole = refl;
  goes = λ s past sent received rest count f. fed_nothing s past sent received rest count c.args.self.now f;
  keeps = record { first = refl; ends = refl; turned = refl; births = refl; short = λ h. h };
}

pub feed_one-requires : goal.feed_one-requires
feed_one-requires c =
    let k = c.requires in
    let a = c.answers.invariant.goes k.setting k.past k.sent k.received k.rest k.count k.feeds in
    record {
      setting = k.setting;
      past = a.fed.more ++ k.past;
      sent = k.sent;
      received = k.received ++ c.answers.invariant.front;
      rest = a.fed.left;
      count = k.count;
      feeds = feeds_on k.setting k.past k.sent k.received k.count c.answers.invariant.front c.answers.self a.fed (runs_on c.answers.self.end c.answers-test.ensures);
    }

pub answers-smaller : goal.answers-smaller
answers-smaller c = omega (arith, length-drop c.in-Some.used c.answers.rest.now, c.in-Some.ensures.some.0, c.in-Some.ensures.some.1)

pub answers-preserved : goal.answers-preserved
answers-preserved c =
    let i = c.answers.invariant in
    record {
      front = i.front ++ take c.in-Some.used c.answers.rest.now;
      whole = ap (λ (l : List ℕ). (i.front ++ take c.in-Some.used c.answers.rest.now) ++ l) (left_behind c.in-Some.used c.answers.rest.now)
          ∙ append_assoc i.front (take c.in-Some.used c.answers.rest.now) (drop c.in-Some.used c.answers.rest.now)
          ∙ (ap (λ (l : List ℕ). i.front ++ l) (take-append-drop c.in-Some.used c.answers.rest.now) ∙ i.whole);
      goes = λ s past sent received rest count f.
          (let a = i.goes s past sent received rest count f in
          let running = runs_on c.answers.self.end c.answers-test.ensures in
          fed_again s past sent received count i.front (take c.in-Some.used c.answers.rest.now) c.answers.self c.feed_one.new.self a running
          (c.in-Some.ensures.answer s (a.fed.more ++ past) sent (received ++ i.front) a.fed.left count
          (feeds_on s past sent received count i.front c.answers.self a.fed running)));
      keeps = keeps_then c.args.self.now c.answers.self c.feed_one.new.self i.keeps c.feed_one.ensures.keeps;
    }

pub returns-in-None-clause-fed : goal.returns-in-None-clause-fed
returns-in-None-clause-fed c = λ s past sent received rest count f.
    let i = c.answers.invariant in
    let a = i.goes s past sent received rest count f in
    let running = runs_on c.answers.self.end c.answers-test.ensures in
    subst (λ (l : List ℕ). Fed s past sent received count l c.feed_one.new.self) i.whole
    (fed_then s past sent received count i.front c.answers.rest.now c.answers.self c.feed_one.new.self a.fed running
    (c.feed_one.ensures.all c.in-None.is s (a.fed.more ++ past) sent (received ++ i.front) a.fed.left count
    (feeds_on s past sent received count i.front c.answers.self a.fed running)))

pub returns-in-None-clause-keeps : goal.returns-in-None-clause-keeps
returns-in-None-clause-keeps c = keeps_then c.args.self.now c.answers.self c.feed_one.new.self c.answers.invariant.keeps c.feed_one.ensures.keeps

pub returns-clause-fed : goal.returns-clause-fed
returns-clause-fed c = λ s past sent received rest count f.
    let i = c.answers.invariant in
    let over = ended_some c.answers.self.end c.answers-test.ensures in
    subst (λ (l : List ℕ). Fed s past sent received count l c.answers.self) i.whole
    (fed_ended s past sent received count i.front c.answers.rest.now c.answers.self over.0 (i.goes s past sent received rest count f)
    (not_stopped_yet past (sym f.rests.knows.over ∙ f.running)) over.1)

pub returns-clause-keeps : goal.returns-clause-keeps
returns-clause-keeps c = c.answers.invariant.keeps
