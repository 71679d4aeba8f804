use Rattle.host_joint.specs.Asking.{StaysPlugged}
use Rattle.host_joint.specs.Remotes.{Operating}
use Rattle.host_joint.proofs.Joining.{joint_goes}
use Rattle.host_joint.proofs.Operating.{act_run, act_begins, act_answered, act_kept, stands}
use Rattle.host_joint.proofs.remotes.remote_tickets_are_tied.Goals as goal

pub returns-clause-stands : goal.returns-clause-stands
returns-clause-stands c = stands

pub returns-clause-begins : goal.returns-clause-begins
returns-clause-begins c = act_begins

pub returns-clause-stays : goal.returns-clause-stays
returns-clause-stays c =
    act_run (record {
      ask = record {
        reaches = record {
          fits = c.pending_submits_are_sound.ensures.stand;
          empty = c.pending_submits_are_sound.ensures.halted;
          does = c.steps_act.ensures;
          joins = c.runs_join.ensures.together;
        };
        polled = λ run s e before submit behind reached line polled. let place = c.pending_submits_are_sound.ensures.polled run s e before submit behind reached line polled in (place.0, place.1);
        stands = c.the_log_grows.ensures.stands;
        one_header = c.headers_are_read_again.ensures.out_one;
      };
      rises = c.numbers_rise.ensures.rise;
      below = c.numbers_rise.ensures.below;
      answers = c.answers_fit.ensures.answers;
      fit = c.answers_fit.ensures.fit;
      causes = c.halts_have_causes.ensures.halts;
      logs = c.a_step_logs_at_most_once.ensures;
      one_response = c.one_response.ensures;
    }) (record {
      one = c.setups_have_one_meaning.ensures.one;
      class_one = c.setups_have_one_meaning.ensures.class;
      standard_one = c.setups_have_one_meaning.ensures.standard;
      apart = c.setups_have_one_meaning.ensures.apart;
    })

pub returns-clause-answer : goal.returns-clause-answer
returns-clause-answer c = act_answered

pub returns-clause-joined : goal.returns-clause-joined
returns-clause-joined c devid act since head next =
    joint_goes (record {
      together = c.runs_join.ensures.together;
      taken_together = c.runs_join.ensures.taken_together;
      ins = c.runs_join.ensures.inputs;
      outs = c.runs_join.ensures.outputs;
      messages = c.runs_take_in_messages.ensures;
      over = c.messages_are_refused_by_what_is_pending.ensures;
      free = c.urbs_are_determined.ensures.free;
    }) StaysPlugged (λ ups downs t. Operating act since head next ups downs t)
    (act_kept (record {
      ask = record {
        reaches = record {
          fits = c.pending_submits_are_sound.ensures.stand;
          empty = c.pending_submits_are_sound.ensures.halted;
          does = c.steps_act.ensures;
          joins = c.runs_join.ensures.together;
        };
        polled = λ run s e before submit behind reached line polled. let place = c.pending_submits_are_sound.ensures.polled run s e before submit behind reached line polled in (place.0, place.1);
        stands = c.the_log_grows.ensures.stands;
        one_header = c.headers_are_read_again.ensures.out_one;
      };
      rises = c.numbers_rise.ensures.rise;
      below = c.numbers_rise.ensures.below;
      answers = c.answers_fit.ensures.answers;
      fit = c.answers_fit.ensures.fit;
      causes = c.halts_have_causes.ensures.halts;
      logs = c.a_step_logs_at_most_once.ensures;
      one_response = c.one_response.ensures;
    }) (record {
      one = c.setups_have_one_meaning.ensures.one;
      class_one = c.setups_have_one_meaning.ensures.class;
      standard_one = c.setups_have_one_meaning.ensures.standard;
      apart = c.setups_have_one_meaning.ensures.apart;
    }) c.no_submit_is_refused.ensures act since head next) tt devid
