use Rattle.host_joint.specs.StatusReads.{CancelledRead}
use Rattle.host_joint.proofs.Until.{until_run}
use Rattle.host_joint.proofs.StatusRacing.{cancelled_run, cancel_begins, late_run}
use Rattle.host_joint.proofs.StatusCancelled.{cancelled_given, unlink_over, late_over, late_given}
use Rattle.host_joint.proofs.status_reads.status_reads_are_cancelled.Goals as goal

pub returns-clause-unlink : goal.returns-clause-unlink
returns-clause-unlink c = cancel_begins

pub returns-clause-stays : goal.returns-clause-stays
returns-clause-stays c =
    cancelled_run (record {
      ask = record {
        reaches = record {
          fits = c.pending_submits_are_sound.ensures.stand;
          empty = c.pending_submits_are_sound.ensures.halted;
          does = c.steps_act.ensures;
          joins = c.runs_join.ensures.together;
        };
        polled = λ run s e before submit behind reached line polled. let place = c.pending_submits_are_sound.ensures.polled run s e before submit behind reached line polled in (place.0, place.1);
        stands = c.the_log_grows.ensures.stands;
        one_header = c.headers_are_read_again.ensures.out_one;
      };
      rises = c.numbers_rise.ensures.rise;
      below = c.numbers_rise.ensures.below;
      answers = c.answers_fit.ensures.answers;
      fit = c.answers_fit.ensures.fit;
      causes = c.halts_have_causes.ensures.halts;
      logs = c.a_step_logs_at_most_once.ensures;
      one_response = c.one_response.ensures;
    }) (record {
      one = c.setups_have_one_meaning.ensures.one;
      class_one = c.setups_have_one_meaning.ensures.class;
      standard_one = c.setups_have_one_meaning.ensures.standard;
      apart = c.setups_have_one_meaning.ensures.apart;
    })

pub returns-clause-until : goal.returns-clause-until
returns-clause-until c read unlink waits notify got older run next ups downs s t goes tie =
    until_run (record { apart = c.runs_join.ensures.apart; ins = c.runs_join.ensures.inputs; outs = c.runs_join.ensures.outputs }) (λ run. Unit {0}) (λ ups downs s. CancelledRead read unlink waits notify got older next ups downs s)
    (λ run ups downs s t goes kind plugged r. returns-clause-stays c read unlink waits notify got older run next ups downs s t goes plugged r) (λ a b h. tt) run ups downs s t goes tt tie

pub returns-clause-answer : goal.returns-clause-answer
returns-clause-answer c = cancelled_given

pub returns-clause-over : goal.returns-clause-over
returns-clause-over c = unlink_over

pub returns-clause-late : goal.returns-clause-late
returns-clause-late c =
    late_run (record {
      ask = record {
        reaches = record {
          fits = c.pending_submits_are_sound.ensures.stand;
          empty = c.pending_submits_are_sound.ensures.halted;
          does = c.steps_act.ensures;
          joins = c.runs_join.ensures.together;
        };
        polled = λ run s e before submit behind reached line polled. let place = c.pending_submits_are_sound.ensures.polled run s e before submit behind reached line polled in (place.0, place.1);
        stands = c.the_log_grows.ensures.stands;
        one_header = c.headers_are_read_again.ensures.out_one;
      };
      rises = c.numbers_rise.ensures.rise;
      below = c.numbers_rise.ensures.below;
      answers = c.answers_fit.ensures.answers;
      fit = c.answers_fit.ensures.fit;
      causes = c.halts_have_causes.ensures.halts;
      logs = c.a_step_logs_at_most_once.ensures;
      one_response = c.one_response.ensures;
    })

pub returns-clause-late_over : goal.returns-clause-late_over
returns-clause-late_over c = late_over

pub returns-clause-late_answer : goal.returns-clause-late_answer
returns-clause-late_answer c = late_given
