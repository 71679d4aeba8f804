use Rattle.host_joint.proofs.Tying.{tie_run, ran_run}
use Rattle.host_joint.proofs.ties.ties_stay.Goals as goal

pub returns-clause-tie : goal.returns-clause-tie
returns-clause-tie c =
    tie_run (record {
      ask = record {
        reaches = record {
          fits = c.pending_submits_are_sound.ensures.stand;
          empty = c.pending_submits_are_sound.ensures.halted;
          does = c.steps_act.ensures;
          joins = c.runs_join.ensures.together;
        };
        polled = λ run s e before submit behind reached line polled. let place = c.pending_submits_are_sound.ensures.polled run s e before submit behind reached line polled in (place.0, place.1);
        stands = c.the_log_grows.ensures.stands;
        one_header = c.headers_are_read_again.ensures.out_one;
      };
      rises = c.numbers_rise.ensures.rise;
      below = c.numbers_rise.ensures.below;
      answers = c.answers_fit.ensures.answers;
      fit = c.answers_fit.ensures.fit;
      causes = c.halts_have_causes.ensures.halts;
      logs = c.a_step_logs_at_most_once.ensures;
      one_response = c.one_response.ensures;
    })

pub returns-clause-ran : goal.returns-clause-ran
returns-clause-ran c run hand waits next n message response ups downs s t goes tie ran =
    ran_run (record {
      ask = record {
        reaches = record {
          fits = c.pending_submits_are_sound.ensures.stand;
          empty = c.pending_submits_are_sound.ensures.halted;
          does = c.steps_act.ensures;
          joins = c.runs_join.ensures.together;
        };
        polled = λ run s e before submit behind reached line polled. let place = c.pending_submits_are_sound.ensures.polled run s e before submit behind reached line polled in (place.0, place.1);
        stands = c.the_log_grows.ensures.stands;
        one_header = c.headers_are_read_again.ensures.out_one;
      };
      rises = c.numbers_rise.ensures.rise;
      below = c.numbers_rise.ensures.below;
      answers = c.answers_fit.ensures.answers;
      fit = c.answers_fit.ensures.fit;
      causes = c.halts_have_causes.ensures.halts;
      logs = c.a_step_logs_at_most_once.ensures;
      one_response = c.one_response.ensures;
    }) run n message response ups s t goes tie.rises ran
