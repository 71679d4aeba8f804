use Rattle.host_joint.specs.Asking.{StaysPlugged}
use Rattle.host_joint.specs.StatusReads.{ReadsStatus}
use Rattle.host_joint.proofs.Joining.{joint_goes}
use Rattle.host_joint.proofs.Until.{until_run}
use Rattle.host_joint.proofs.StatusTied.{status_run, status_kept, status_given, status_owned, notify_reads, read_begins, read_ends, read_left}
use Rattle.host_joint.proofs.status_reads.status_reads_are_tied.Goals as goal

pub returns-clause-begins : goal.returns-clause-begins
returns-clause-begins c = read_begins

pub returns-clause-notify : goal.returns-clause-notify
returns-clause-notify c = notify_reads

pub returns-clause-stays : goal.returns-clause-stays
returns-clause-stays c =
    status_run (record {
      ask = record {
        reaches = record {
          fits = c.pending_submits_are_sound.ensures.stand;
          empty = c.pending_submits_are_sound.ensures.halted;
          does = c.steps_act.ensures;
          joins = c.runs_join.ensures.together;
        };
        polled = λ run s e before submit behind reached line polled. let place = c.pending_submits_are_sound.ensures.polled run s e before submit behind reached line polled in (place.0, place.1);
        stands = c.the_log_grows.ensures.stands;
        one_header = c.headers_are_read_again.ensures.out_one;
      };
      rises = c.numbers_rise.ensures.rise;
      below = c.numbers_rise.ensures.below;
      answers = c.answers_fit.ensures.answers;
      fit = c.answers_fit.ensures.fit;
      causes = c.halts_have_causes.ensures.halts;
      logs = c.a_step_logs_at_most_once.ensures;
      one_response = c.one_response.ensures;
    }) (record {
      one = c.setups_have_one_meaning.ensures.one;
      class_one = c.setups_have_one_meaning.ensures.class;
      standard_one = c.setups_have_one_meaning.ensures.standard;
      apart = c.setups_have_one_meaning.ensures.apart;
    })

pub returns-clause-until : goal.returns-clause-until
returns-clause-until c read waits notify got older run next ups downs s t goes tie =
    until_run (record { apart = c.runs_join.ensures.apart; ins = c.runs_join.ensures.inputs; outs = c.runs_join.ensures.outputs }) (λ run. Unit {0}) (λ ups downs s. ReadsStatus read waits notify got older next ups downs s)
    (λ run ups downs s t goes kind plugged r. returns-clause-stays c read waits notify got older run next ups downs s t goes plugged r) (λ a b h. tt) run ups downs s t goes tt tie

pub returns-clause-answer : goal.returns-clause-answer
returns-clause-answer c = status_given

pub returns-clause-owned : goal.returns-clause-owned
returns-clause-owned c = status_owned

pub returns-clause-ends : goal.returns-clause-ends
returns-clause-ends c = read_ends

pub returns-clause-left : goal.returns-clause-left
returns-clause-left c = read_left

pub returns-clause-joined : goal.returns-clause-joined
returns-clause-joined c devid read waits notify got older next =
    joint_goes (record {
      together = c.runs_join.ensures.together;
      taken_together = c.runs_join.ensures.taken_together;
      ins = c.runs_join.ensures.inputs;
      outs = c.runs_join.ensures.outputs;
      messages = c.runs_take_in_messages.ensures;
      over = c.messages_are_refused_by_what_is_pending.ensures;
      free = c.urbs_are_determined.ensures.free;
    }) StaysPlugged (λ ups downs t. ReadsStatus read waits notify got older next ups downs t)
    (status_kept (record {
      ask = record {
        reaches = record {
          fits = c.pending_submits_are_sound.ensures.stand;
          empty = c.pending_submits_are_sound.ensures.halted;
          does = c.steps_act.ensures;
          joins = c.runs_join.ensures.together;
        };
        polled = λ run s e before submit behind reached line polled. let place = c.pending_submits_are_sound.ensures.polled run s e before submit behind reached line polled in (place.0, place.1);
        stands = c.the_log_grows.ensures.stands;
        one_header = c.headers_are_read_again.ensures.out_one;
      };
      rises = c.numbers_rise.ensures.rise;
      below = c.numbers_rise.ensures.below;
      answers = c.answers_fit.ensures.answers;
      fit = c.answers_fit.ensures.fit;
      causes = c.halts_have_causes.ensures.halts;
      logs = c.a_step_logs_at_most_once.ensures;
      one_response = c.one_response.ensures;
    }) (record {
      one = c.setups_have_one_meaning.ensures.one;
      class_one = c.setups_have_one_meaning.ensures.class;
      standard_one = c.setups_have_one_meaning.ensures.standard;
      apart = c.setups_have_one_meaning.ensures.apart;
    }) c.no_submit_is_refused.ensures read waits notify got older next) tt devid
