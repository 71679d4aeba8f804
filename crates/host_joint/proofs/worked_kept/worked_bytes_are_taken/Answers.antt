use Rattle.std.proofs.Common.{Some, [], refl}
use Rattle.tmc_law.specs.State.{start}
use Rattle.tmc_law.specs.WorkedSession.{devid, out_submit}
use Rattle.host_joint.specs.Bond.{Requests, AbortsIn}
use Rattle.host_joint.specs.WorkedTies.{telling}
use Rattle.host_joint.specs.WorkedRecoveries.{abort_submit, cancelled_inside}
use Rattle.host_joint.proofs.worked_kept.worked_bytes_are_taken.Goals as goal

pub returns-clause-told : goal.returns-clause-told
returns-clause-told c text more t f spelled tells front closed =
    c.no_bytes_are_refused.ensures.joint devid telling (Some (out_submit 1 112)) 2 text [] [] more start t f tells front (c.worked_hosts_are_joined.ensures.written text spelled) closed

pub returns-clause-aborts : goal.returns-clause-aborts
returns-clause-aborts c text more t f spelled tells front closed =
    c.no_bytes_are_refused.ensures.joined devid (Requests (abort_submit 8) (AbortsIn 4)) (Some (abort_submit 8)) [] 9 text [] [] more cancelled_inside t f tells front (c.worked_recoveries_are_joined.ensures.aborts text spelled).0 closed

pub returns-clause-closed : goal.returns-clause-closed
returns-clause-closed c hand waits next written read f joint = joint.accepted f refl
