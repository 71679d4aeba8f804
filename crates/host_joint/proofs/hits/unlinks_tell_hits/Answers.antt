use Rattle.std.proofs.Common.{[]}
use Rattle.host_joint.specs.Tie.{Tie}
use Rattle.host_joint.specs.Bond.{Bound}
use Rattle.host_joint.proofs.Hitting.{until_tells, run_tells}
use Rattle.host_joint.proofs.hits.unlinks_tell_hits.Goals as goal

pub returns-clause-begins : goal.returns-clause-begins
returns-clause-begins c hand waits next ups downs s tie = until_tells (λ ups downs s. Tie hand waits next ups downs s) waits (λ ups downs s t. t.lines) ups downs s tie

pub returns-clause-begins_bound : goal.returns-clause-begins_bound
returns-clause-begins_bound c situation waits next ups downs s bound = until_tells (λ ups downs s. Bound situation waits [] next ups downs s) waits (λ ups downs s b. b.bond.lines) ups downs s bound

pub returns-clause-run : goal.returns-clause-run
returns-clause-run c situation run waits unlinks next ups downs s t goes bulk one both = (
  c.ties_hold_until_unplugged.ensures.bound situation run waits unlinks next ups downs s t goes both.0,
  run_tells (record {
    runs = record { apart = c.runs_join.ensures.apart; ins = c.runs_join.ensures.inputs; outs = c.runs_join.ensures.outputs };
    answers = c.answers_fit.ensures.answers;
    polled = λ run s e before submit behind reached line polled. let place = c.pending_submits_are_sound.ensures.polled run s e before submit behind reached line polled in (place.0, place.1);
    stays = c.bonds_stay.ensures.bound;
  }) situation run waits unlinks next ups downs s t bulk one goes both.0 both.1,
)

pub returns-clause-hit : goal.returns-clause-hit
returns-clause-hit c situation head unlinks next asked answer ups downs s both = both.1.0

pub returns-clause-missed : goal.returns-clause-missed
returns-clause-missed c situation unlinks next asked answer ups downs s both = both.1.0
