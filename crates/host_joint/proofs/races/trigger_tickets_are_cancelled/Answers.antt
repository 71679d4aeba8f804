use Rattle.host_joint.proofs.Racing.{race_hit, late_missed}
use Rattle.host_joint.proofs.TriggerRacing.{trigger_race, trigger_late, trigger_cancelled, trigger_answered}
use Rattle.host_joint.proofs.races.trigger_tickets_are_cancelled.Goals as goal

pub returns-clause-unlink : goal.returns-clause-unlink
returns-clause-unlink c job unlink next ups downs s number names o = trigger_cancelled job unlink next ups downs s names o

pub returns-clause-answer : goal.returns-clause-answer
returns-clause-answer c = trigger_answered

pub returns-clause-hit : goal.returns-clause-hit
returns-clause-hit c job unlink next asked answer ups downs s o =
    let over = race_hit (trigger_race (record {
      ask = record {
        reaches = record {
          fits = c.pending_submits_are_sound.ensures.stand;
          empty = c.pending_submits_are_sound.ensures.halted;
          does = c.steps_act.ensures;
          joins = c.runs_join.ensures.together;
        };
        polled = λ run s e before submit behind reached line polled. let place = c.pending_submits_are_sound.ensures.polled run s e before submit behind reached line polled in (place.0, place.1);
        stands = c.the_log_grows.ensures.stands;
        one_header = c.headers_are_read_again.ensures.out_one;
      };
      rises = c.numbers_rise.ensures.rise;
      below = c.numbers_rise.ensures.below;
      answers = c.answers_fit.ensures.answers;
      fit = c.answers_fit.ensures.fit;
      causes = c.halts_have_causes.ensures.halts;
      logs = c.a_step_logs_at_most_once.ensures;
      one_response = c.one_response.ensures;
    }) job o.trigger) unlink asked answer next ups downs s o.names o.bond in
    (over.0, over.1.logged, over.2)

pub returns-clause-missed : goal.returns-clause-missed
returns-clause-missed c counted n unlink next asked answer ups downs s bond =
    let over = late_missed (trigger_late (record {
      ask = record {
        reaches = record {
          fits = c.pending_submits_are_sound.ensures.stand;
          empty = c.pending_submits_are_sound.ensures.halted;
          does = c.steps_act.ensures;
          joins = c.runs_join.ensures.together;
        };
        polled = λ run s e before submit behind reached line polled. let place = c.pending_submits_are_sound.ensures.polled run s e before submit behind reached line polled in (place.0, place.1);
        stands = c.the_log_grows.ensures.stands;
        one_header = c.headers_are_read_again.ensures.out_one;
      };
      rises = c.numbers_rise.ensures.rise;
      below = c.numbers_rise.ensures.below;
      answers = c.answers_fit.ensures.answers;
      fit = c.answers_fit.ensures.fit;
      causes = c.halts_have_causes.ensures.halts;
      logs = c.a_step_logs_at_most_once.ensures;
      one_response = c.one_response.ensures;
    }) counted n) unlink asked answer next ups downs s bond in
    (over.0, over.1.logged, over.2)
