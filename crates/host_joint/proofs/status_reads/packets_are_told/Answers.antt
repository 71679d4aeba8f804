use Rattle.host_joint.proofs.StatusTied.{quiet_run, quiet_begins, quiet_ends, quiet_given, notify_quiet}
use Rattle.host_joint.proofs.status_reads.packets_are_told.Goals as goal

pub returns-clause-begins : goal.returns-clause-begins
returns-clause-begins c = quiet_begins

pub returns-clause-ends : goal.returns-clause-ends
returns-clause-ends c = quiet_ends

pub returns-clause-notify : goal.returns-clause-notify
returns-clause-notify c = notify_quiet

pub returns-clause-stays : goal.returns-clause-stays
returns-clause-stays c =
    quiet_run (record {
      ask = record {
        reaches = record {
          fits = c.pending_submits_are_sound.ensures.stand;
          empty = c.pending_submits_are_sound.ensures.halted;
          does = c.steps_act.ensures;
          joins = c.runs_join.ensures.together;
        };
        polled = λ run s e before submit behind reached line polled. let place = c.pending_submits_are_sound.ensures.polled run s e before submit behind reached line polled in (place.0, place.1);
        stands = c.the_log_grows.ensures.stands;
        one_header = c.headers_are_read_again.ensures.out_one;
      };
      rises = c.numbers_rise.ensures.rise;
      below = c.numbers_rise.ensures.below;
      answers = c.answers_fit.ensures.answers;
      fit = c.answers_fit.ensures.fit;
      causes = c.halts_have_causes.ensures.halts;
      logs = c.a_step_logs_at_most_once.ensures;
      one_response = c.one_response.ensures;
    })

pub returns-clause-answer : goal.returns-clause-answer
returns-clause-answer c = quiet_given
