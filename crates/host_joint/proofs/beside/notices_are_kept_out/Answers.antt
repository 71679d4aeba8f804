use Rattle.host_joint.proofs.Besides.{quiet_beside, rest_quiet, free_quiet, beside_notified}
use Rattle.host_joint.proofs.beside.notices_are_kept_out.Goals as goal

pub returns-clause-begins : goal.returns-clause-begins
returns-clause-begins c =
    quiet_beside (record {
      ask = record {
        reaches = record {
          fits = c.pending_submits_are_sound.ensures.stand;
          empty = c.pending_submits_are_sound.ensures.halted;
          does = c.steps_act.ensures;
          joins = c.runs_join.ensures.together;
        };
        polled = λ run s e before submit behind reached line polled. let place = c.pending_submits_are_sound.ensures.polled run s e before submit behind reached line polled in (place.0, place.1);
        stands = c.the_log_grows.ensures.stands;
        one_header = c.headers_are_read_again.ensures.out_one;
      };
      distinct = c.pending_submits_are_sound.ensures.distinct;
      few = c.pending_submits_are_sound.ensures.few;
    })

pub returns-clause-rests : goal.returns-clause-rests
returns-clause-rests c = rest_quiet

pub returns-clause-ends : goal.returns-clause-ends
returns-clause-ends c = free_quiet

pub returns-clause-notify : goal.returns-clause-notify
returns-clause-notify c = beside_notified
