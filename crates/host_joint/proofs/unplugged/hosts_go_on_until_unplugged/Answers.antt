use Rattle.std.proofs.Common.{Some, None, [], ◌∷◌, ◌++◌, ◌+◌}
use Rattle.usbip_wire.specs.Up as up
use Rattle.host_joint.specs.Tie.{Tie}
use Rattle.host_joint.specs.Bond.{Stands, Resting, BehindClear, Bound}
use Rattle.host_joint.proofs.Until.{until_moves, ends_until}
use Rattle.host_joint.proofs.unplugged.hosts_go_on_until_unplugged.Goals as goal

pub returns-clause-tie : goal.returns-clause-tie
returns-clause-tie c before after head bytes next ups downs t writes number tie =
    until_moves (λ ups downs s. Tie before None next ups downs s) (λ ups downs s. Tie after (Some head) (next + 1) ups downs s) ups (ups ++ up.Submit head bytes ∷ []) downs t
    (λ downs s tie. c.writes_keep_ties.ensures before after head bytes next ups downs s writes number tie) tie

pub returns-clause-cancel : goal.returns-clause-cancel
returns-clause-cancel c before waits next after left unlinks later ups others downs t goes tie =
    until_moves (λ ups downs s. Tie before waits next ups downs s) (λ ups downs s. Bound after left unlinks later ups downs s) ups others downs t goes tie

pub returns-clause-bound : goal.returns-clause-bound
returns-clause-bound c before waits unlinks next after left more later ups others downs t goes bound =
    until_moves (λ ups downs s. Bound before waits unlinks next ups downs s) (λ ups downs s. Bound after left more later ups downs s) ups others downs t goes bound

pub returns-clause-rest : goal.returns-clause-rest
returns-clause-rest c next ups downs t out ins bound =
    ends_until (Stands Resting) next ups downs t out ins (λ ups downs s usable_out usable_in b. c.recoveries_end.ensures.rest next ups downs s usable_out usable_in b) bound

pub returns-clause-cleared : goal.returns-clause-cleared
returns-clause-cleared c next ups downs t out ins bound =
    ends_until (Stands BehindClear) next ups downs t out ins (λ ups downs s usable_out usable_in b. c.recoveries_end.ensures.cleared next ups downs s usable_out usable_in b) bound
