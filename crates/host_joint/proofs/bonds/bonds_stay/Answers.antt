use Rattle.usbip_wire.specs.declared.submit.SubmitHead.{SubmitHead}
use Rattle.std.proofs.Common.{[], Some}
use Rattle.tmc_wire.specs.declared.class_request.ClassRequest.TheVariants.{AbortOut, CheckOut, AbortIn, CheckIn, Clear, CheckClear}
use Rattle.tmc_law.specs.Endpoint.{Control}
use Rattle.host_joint.specs.Lines.{sent_to, events_of}
use Rattle.host_joint.specs.Requests.{RequestAt}
use Rattle.host_joint.specs.Tie.{asked_of}
use Rattle.host_joint.specs.Bond.{Letter, AbortsIn, ChecksIn, AbortsOut, AbortsFirst, ChecksOut, BeginsClear, ChecksClear, Frees, FreesBehind, IsOf, finds, one_of, other_of, position_of}
use Rattle.host_joint.specs.Positions.{rests, in_begun, in_ended, out_begun, out_first, out_aborted, anything, clears, cleared}
use Rattle.host_joint.specs.Requests.{in_aborts, in_fails, in_checked, in_pending, out_rests, out_aborts, out_fails, out_checked, out_pending, begins_clear, never, clear_checked, clear_pending, usable_again, usable_cleared}
use Rattle.host_joint.proofs.Tying.{ran_run}
use Rattle.host_joint.proofs.Bonding.{Keeps, class_keeps, clear_halt_keeps}
use Rattle.host_joint.proofs.Recovering.{bound_run}
use Rattle.host_joint.proofs.bonds.bonds_stay.Goals as goal

pub returns-clause-bound : goal.returns-clause-bound
returns-clause-bound c =
    bound_run (record {
      ask = record {
        reaches = record {
          fits = c.pending_submits_are_sound.ensures.stand;
          empty = c.pending_submits_are_sound.ensures.halted;
          does = c.steps_act.ensures;
          joins = c.runs_join.ensures.together;
        };
        polled = λ run s e before submit behind reached line polled. let place = c.pending_submits_are_sound.ensures.polled run s e before submit behind reached line polled in (place.0, place.1);
        stands = c.the_log_grows.ensures.stands;
        one_header = c.headers_are_read_again.ensures.out_one;
      };
      rises = c.numbers_rise.ensures.rise;
      below = c.numbers_rise.ensures.below;
      answers = c.answers_fit.ensures.answers;
      fit = c.answers_fit.ensures.fit;
      causes = c.halts_have_causes.ensures.halts;
      logs = c.a_step_logs_at_most_once.ensures;
      one_response = c.one_response.ensures;
    }) (record { stays = stays; drains = c.drains_stay.ensures })
  where
    stays : (head : SubmitHead) (letter : Letter) → IsOf head letter → Keeps (λ ups downs s. RequestAt head (position_of (finds letter)) (one_of letter) (other_of letter) (sent_to Control ups) (events_of Control downs) s) (asked_of (Some head)) []
    stays head (AbortsIn tag) is = class_keeps (AbortIn tag) (in_begun tag) (in_aborts tag) in_fails head (c.requests_stay.ensures.abort_in tag) is
    stays head ChecksIn is = class_keeps CheckIn in_ended in_checked in_pending head c.requests_stay.ensures.check_in is
    stays head (AbortsOut tag) is = class_keeps (AbortOut tag) (out_begun tag) (out_aborts tag) out_fails head (c.requests_stay.ensures.abort_out tag) is
    stays head (AbortsFirst tag) is = class_keeps (AbortOut tag) (out_first tag) (out_aborts tag) out_rests head (c.requests_stay.ensures.abort_first tag) is
    stays head ChecksOut is = class_keeps CheckOut out_aborted out_checked out_pending head c.requests_stay.ensures.check_out is
    stays head BeginsClear is = class_keeps Clear anything begins_clear never head c.requests_stay.ensures.clear is
    stays head ChecksClear is = class_keeps CheckClear clears clear_checked clear_pending head c.requests_stay.ensures.check_clear is
    stays head (Frees e) is = clear_halt_keeps e rests usable_again never head (c.requests_stay.ensures.clear_halt e) is
    stays head (FreesBehind e) is = clear_halt_keeps e cleared usable_cleared never head (c.requests_stay.ensures.clear_halt_behind e) is

pub returns-clause-ran : goal.returns-clause-ran
returns-clause-ran c situation run waits unlinks next n message response ups downs s t goes bound ran =
    ran_run (record {
      ask = record {
        reaches = record {
          fits = c.pending_submits_are_sound.ensures.stand;
          empty = c.pending_submits_are_sound.ensures.halted;
          does = c.steps_act.ensures;
          joins = c.runs_join.ensures.together;
        };
        polled = λ run s e before submit behind reached line polled. let place = c.pending_submits_are_sound.ensures.polled run s e before submit behind reached line polled in (place.0, place.1);
        stands = c.the_log_grows.ensures.stands;
        one_header = c.headers_are_read_again.ensures.out_one;
      };
      rises = c.numbers_rise.ensures.rise;
      below = c.numbers_rise.ensures.below;
      answers = c.answers_fit.ensures.answers;
      fit = c.answers_fit.ensures.fit;
      causes = c.halts_have_causes.ensures.halts;
      logs = c.a_step_logs_at_most_once.ensures;
      one_response = c.one_response.ensures;
    }) run n message response ups s t goes bound.bond.rises ran
