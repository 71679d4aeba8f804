use Rattle.std.proofs.Common.{◌≢◌}
use Rattle.tmc_law.specs.Step.{Unplug}
use Rattle.host_joint.specs.Asking.{StaysPlugged}
use Rattle.host_joint.specs.Tie.{IsUndisturbed}
use Rattle.host_joint.proofs.Besides.{IsCalm, steps_calmly, steps_plugged, beside_run, calm_runs, plugged_runs, beside_written, turned, beside_given}
use Rattle.host_joint.proofs.beside.hosts_go_on_beside_notices.Goals as goal

pub returns-clause-calm : goal.returns-clause-calm
returns-clause-calm c doing notify older run next ups downs s t goes calm b =
    beside_run (record {
      ask = record {
        reaches = record {
          fits = c.pending_submits_are_sound.ensures.stand;
          empty = c.pending_submits_are_sound.ensures.halted;
          does = c.steps_act.ensures;
          joins = c.runs_join.ensures.together;
        };
        polled = λ run s e before submit behind reached line polled. let place = c.pending_submits_are_sound.ensures.polled run s e before submit behind reached line polled in (place.0, place.1);
        stands = c.the_log_grows.ensures.stands;
        one_header = c.headers_are_read_again.ensures.out_one;
      };
      rises = c.numbers_rise.ensures.rise;
      below = c.numbers_rise.ensures.below;
      answers = c.answers_fit.ensures.answers;
      fit = c.answers_fit.ensures.fit;
      causes = c.halts_have_causes.ensures.halts;
      logs = c.a_step_logs_at_most_once.ensures;
      one_response = c.one_response.ensures;
    }) IsUndisturbed IsCalm calm_runs doing notify older next
    (steps_calmly (record { tie = c.ties_stay.ensures.tie; bound = c.bonds_stay.ensures.bound; ticket = c.tickets_are_held.ensures.stays }) doing next) run ups downs s t goes calm b

pub returns-clause-plugged : goal.returns-clause-plugged
returns-clause-plugged c doing notify older run next ups downs s t may goes plugged b =
    beside_run (record {
      ask = record {
        reaches = record {
          fits = c.pending_submits_are_sound.ensures.stand;
          empty = c.pending_submits_are_sound.ensures.halted;
          does = c.steps_act.ensures;
          joins = c.runs_join.ensures.together;
        };
        polled = λ run s e before submit behind reached line polled. let place = c.pending_submits_are_sound.ensures.polled run s e before submit behind reached line polled in (place.0, place.1);
        stands = c.the_log_grows.ensures.stands;
        one_header = c.headers_are_read_again.ensures.out_one;
      };
      rises = c.numbers_rise.ensures.rise;
      below = c.numbers_rise.ensures.below;
      answers = c.answers_fit.ensures.answers;
      fit = c.answers_fit.ensures.fit;
      causes = c.halts_have_causes.ensures.halts;
      logs = c.a_step_logs_at_most_once.ensures;
      one_response = c.one_response.ensures;
    }) StaysPlugged (λ move. move ≢ Unplug) plugged_runs doing notify older next
    (steps_plugged (record { tie = c.ties_stay.ensures.tie; bound = c.bonds_stay.ensures.bound; ticket = c.tickets_are_held.ensures.stays }) doing next may) run ups downs s t goes plugged b

pub returns-clause-writes : goal.returns-clause-writes
returns-clause-writes c = beside_written

pub returns-clause-turns : goal.returns-clause-turns
returns-clause-turns c doing after notify older next ups downs s apart turns b = turned doing after notify older next ups downs s turns (record { notices = b.notices; earlier = b.earlier; apart = apart }) b

pub returns-clause-answer : goal.returns-clause-answer
returns-clause-answer c = beside_given
