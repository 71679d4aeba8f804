use Rattle.std.proofs.Common.{◌≢◌}
use Rattle.tmc_law.specs.Step.{Unplug}
use Rattle.tmc_law.specs.Run.{taken}
use Rattle.host_joint.specs.Lines.{AllFitting, InOrder}
use Rattle.host_joint.specs.Asking.{Asking, Cancelled}
use Rattle.host_joint.proofs.Flows.{fitting_behind, order_behind}
use Rattle.host_joint.proofs.Running.{safe_move}
use Rattle.host_joint.proofs.Turning.{IsCalm, turn_goes, calm_all, plugged_all, quiet_turn, all_taken, all_taken_cancelled}
use Rattle.host_joint.proofs.turns.answers_come_in_turn.Goals as goal

pub returns-clause-begins : goal.returns-clause-begins
returns-clause-begins c ups downs quiet = quiet_turn downs quiet.ins

pub returns-clause-run : goal.returns-clause-run
returns-clause-run c before run ask s t ups downs reached goes fit none plugged asking turn =
    turn_goes (record {
      fits = λ run s e reached. c.pending_submits_are_sound.ensures.stand run s e reached;
      polled = λ run s e before submit behind reached line polled. (c.pending_submits_are_sound.ensures.polled run s e before submit behind reached line polled).0;
      answers = c.answers_fit.ensures.answers;
      joins = c.runs_join.ensures.together;
    }) ask (λ ups downs s. Asking ask ups downs s × AllFitting ups) (λ entry. IsCalm entry) (λ ups downs s both. both.0)
    (λ before entry ups downs s t reached step ok both.
    (c.asking_stays.ensures.step before ask s t entry.move ups downs entry.puts reached step both.1 (safe_move entry.move ups s ok.0 ok.1) both.0, fitting_behind (taken entry.move) ups both.1))
    before run ups downs s t reached goes (calm_all run plugged none) (asking, fit) turn

pub returns-clause-cancelled_run : goal.returns-clause-cancelled_run
returns-clause-cancelled_run c before run asked unlinks ask s t ups downs reached goes fit order plugged cancelled turn =
    turn_goes (record {
      fits = λ run s e reached. c.pending_submits_are_sound.ensures.stand run s e reached;
      polled = λ run s e before submit behind reached line polled. (c.pending_submits_are_sound.ensures.polled run s e before submit behind reached line polled).0;
      answers = c.answers_fit.ensures.answers;
      joins = c.runs_join.ensures.together;
    }) ask (λ ups downs s. Cancelled asked unlinks ask ups downs s × AllFitting ups × InOrder ups) (λ entry. entry.move ≢ Unplug) (λ ups downs s both. both.0.asking)
    (λ before entry ups downs s t reached step ok both.
    (c.cancelled_asks_stay.ensures.step before asked unlinks ask s t entry.move ups downs entry.puts reached step both.1 both.2 ok both.0, fitting_behind (taken entry.move) ups both.1, order_behind (taken entry.move) ups both.2))
    before run ups downs s t reached goes (plugged_all run plugged) (cancelled, fit, order) turn

pub returns-clause-taken : goal.returns-clause-taken
returns-clause-taken c = all_taken

pub returns-clause-cancelled_taken : goal.returns-clause-cancelled_taken
returns-clause-cancelled_taken c = all_taken_cancelled
