use Rattle.host_joint.specs.Tie.{Tie}
use Rattle.host_joint.specs.Bond.{Bound}
use Rattle.host_joint.specs.Unplugged.{HaltsNothing}
use Rattle.host_joint.proofs.Until.{until_run, calm_of, halts_front}
use Rattle.host_joint.proofs.unplugged.ties_hold_until_unplugged.Goals as goal

pub returns-clause-tie : goal.returns-clause-tie
returns-clause-tie c run hand waits next ups downs s t goes kind tie =
    until_run (record { apart = c.runs_join.ensures.apart; ins = c.runs_join.ensures.inputs; outs = c.runs_join.ensures.outputs }) HaltsNothing (λ ups downs s. Tie hand waits next ups downs s)
    (λ run ups downs s t goes kind plugged tie. c.ties_stay.ensures.tie run hand waits next ups downs s t goes (calm_of run kind plugged) tie) halts_front run ups downs s t goes kind tie

pub returns-clause-bound : goal.returns-clause-bound
returns-clause-bound c situation run waits unlinks next ups downs s t goes bound =
    until_run (record { apart = c.runs_join.ensures.apart; ins = c.runs_join.ensures.inputs; outs = c.runs_join.ensures.outputs }) (λ run. Unit {0}) (λ ups downs s. Bound situation waits unlinks next ups downs s)
    (λ run ups downs s t goes kind plugged bound. c.bonds_stay.ensures.bound situation run waits unlinks next ups downs s t goes plugged bound) (λ a b h. tt) run ups downs s t goes tt bound
