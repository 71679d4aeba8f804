use Rattle.host_joint.proofs.Racing.{race_hit, late_missed}
use Rattle.host_joint.proofs.ActRacing.{act_race, act_late, act_cancelled, act_answered}
use Rattle.host_joint.proofs.races.remote_tickets_are_cancelled.Goals as goal

pub returns-clause-unlink : goal.returns-clause-unlink
returns-clause-unlink c act since head unlink next ups downs s number names o = act_cancelled act since head unlink next ups downs s names o

pub returns-clause-answer : goal.returns-clause-answer
returns-clause-answer c = act_answered

pub returns-clause-hit : goal.returns-clause-hit
returns-clause-hit c act since head unlink next asked answer ups downs s o =
    let over = race_hit (act_race (record {
      ask = record {
        reaches = record {
          fits = c.pending_submits_are_sound.ensures.stand;
          empty = c.pending_submits_are_sound.ensures.halted;
          does = c.steps_act.ensures;
          joins = c.runs_join.ensures.together;
        };
        polled = λ run s e before submit behind reached line polled. let place = c.pending_submits_are_sound.ensures.polled run s e before submit behind reached line polled in (place.0, place.1);
        stands = c.the_log_grows.ensures.stands;
        one_header = c.headers_are_read_again.ensures.out_one;
      };
      rises = c.numbers_rise.ensures.rise;
      below = c.numbers_rise.ensures.below;
      answers = c.answers_fit.ensures.answers;
      fit = c.answers_fit.ensures.fit;
      causes = c.halts_have_causes.ensures.halts;
      logs = c.a_step_logs_at_most_once.ensures;
      one_response = c.one_response.ensures;
    }) (record {
      one = c.setups_have_one_meaning.ensures.one;
      class_one = c.setups_have_one_meaning.ensures.class;
      standard_one = c.setups_have_one_meaning.ensures.standard;
      apart = c.setups_have_one_meaning.ensures.apart;
    }) act since head o.asks) unlink asked answer next ups downs s o.names o.bond in
    (over.0, over.1.nothing, over.2)

pub returns-clause-missed : goal.returns-clause-missed
returns-clause-missed c act since unlink next asked answer ups downs s bond =
    let over = late_missed (act_late (record {
      ask = record {
        reaches = record {
          fits = c.pending_submits_are_sound.ensures.stand;
          empty = c.pending_submits_are_sound.ensures.halted;
          does = c.steps_act.ensures;
          joins = c.runs_join.ensures.together;
        };
        polled = λ run s e before submit behind reached line polled. let place = c.pending_submits_are_sound.ensures.polled run s e before submit behind reached line polled in (place.0, place.1);
        stands = c.the_log_grows.ensures.stands;
        one_header = c.headers_are_read_again.ensures.out_one;
      };
      rises = c.numbers_rise.ensures.rise;
      below = c.numbers_rise.ensures.below;
      answers = c.answers_fit.ensures.answers;
      fit = c.answers_fit.ensures.fit;
      causes = c.halts_have_causes.ensures.halts;
      logs = c.a_step_logs_at_most_once.ensures;
      one_response = c.one_response.ensures;
    }) act since) unlink asked answer next ups downs s bond in
    (over.0, over.1.logged, over.2)
