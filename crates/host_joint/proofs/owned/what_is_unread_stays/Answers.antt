use Rattle.std.proofs.Common.{◌++◌}
use Rattle.tmc_law.specs.Run.{outputs}
use Rattle.host_joint.proofs.Remaining.{RanLaws, more_stays, ran_on, ran_over}
use Rattle.host_joint.proofs.owned.what_is_unread_stays.Goals as goal

pub returns-clause-behind : goal.returns-clause-behind
returns-clause-behind c ask bytes ups downs s end eom = record { response = end.response; ran = end.ran; all = end.all; more = end.longer eom }

pub returns-clause-step : goal.returns-clause-step
returns-clause-step c run ask s t move ups downs puts reached step fit safe rises none some asking more =
    let laws : RanLaws = record { rises = c.numbers_rise.ensures.rise; logs = c.a_step_logs_at_most_once.ensures; one_response = c.one_response.ensures } in
    more_stays laws ask ups (downs ++ puts) s t none some (λ response ran. ran_on laws ask.last ask.message response s t move puts ups step rises ran)
    (c.asking_stays.ensures.step run ask s t move ups downs puts reached step fit safe asking) more

pub returns-clause-run : goal.returns-clause-run
returns-clause-run c before run ask s t ups downs reached goes fit calm plugged rises none some asking more =
    let laws : RanLaws = record { rises = c.numbers_rise.ensures.rise; logs = c.a_step_logs_at_most_once.ensures; one_response = c.one_response.ensures } in
    more_stays laws ask ups (downs ++ outputs run) s t none some (λ response ran. ran_over laws run ask.last ask.message response ups s t goes rises ran)
    (c.asking_stays.ensures.run before run ask s t ups downs reached goes fit calm plugged asking) more

pub returns-clause-cancelled_run : goal.returns-clause-cancelled_run
returns-clause-cancelled_run c before run asked unlinks ask s t ups downs reached goes fit order plugged rises none some cancelled more =
    let laws : RanLaws = record { rises = c.numbers_rise.ensures.rise; logs = c.a_step_logs_at_most_once.ensures; one_response = c.one_response.ensures } in
    more_stays laws ask ups (downs ++ outputs run) s t none some (λ response ran. ran_over laws run ask.last ask.message response ups s t goes rises ran)
    (c.cancelled_asks_stay.ensures.run before run asked unlinks ask s t ups downs reached goes fit order plugged cancelled).asking more
