use Rattle.host_joint.proofs.Running.{cancelled_step, cancelled_run}
use Rattle.host_joint.proofs.asks.cancelled_asks_stay.Goals as goal

pub returns-clause-step : goal.returns-clause-step
returns-clause-step c =
    cancelled_step (record {
      reaches = record {
        fits = c.pending_submits_are_sound.ensures.stand;
        empty = c.pending_submits_are_sound.ensures.halted;
        does = c.steps_act.ensures;
        joins = c.runs_join.ensures.together;
      };
      polled = λ run s e before submit behind reached line polled. let place = c.pending_submits_are_sound.ensures.polled run s e before submit behind reached line polled in (place.0, place.1);
      stands = c.the_log_grows.ensures.stands;
      one_header = c.headers_are_read_again.ensures.out_one;
    })

pub returns-clause-run : goal.returns-clause-run
returns-clause-run c =
    cancelled_run (record {
      reaches = record {
        fits = c.pending_submits_are_sound.ensures.stand;
        empty = c.pending_submits_are_sound.ensures.halted;
        does = c.steps_act.ensures;
        joins = c.runs_join.ensures.together;
      };
      polled = λ run s e before submit behind reached line polled. let place = c.pending_submits_are_sound.ensures.polled run s e before submit behind reached line polled in (place.0, place.1);
      stands = c.the_log_grows.ensures.stands;
      one_header = c.headers_are_read_again.ensures.out_one;
    })
