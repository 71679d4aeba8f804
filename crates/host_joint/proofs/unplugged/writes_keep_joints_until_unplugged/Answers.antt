use Rattle.std.proofs.Common.{Some, None, ◌+◌, [], ◌∷◌, ◌++◌}
use Rattle.usbip_wire.specs.Up as up
use Rattle.host_joint.specs.Hand.{Free}
use Rattle.host_joint.specs.Bond.{Stands, Resting, BehindClear}
use Rattle.host_joint.specs.Unplugged.{TiedUntil, BoundUntil}
use Rattle.host_joint.proofs.Joining.{writes_on, goes_on}
use Rattle.host_joint.proofs.unplugged.writes_keep_joints_until_unplugged.Goals as goal

pub returns-clause-tie : goal.returns-clause-tie
returns-clause-tie c devid before after head bytes text next written read steps s writes number spelled =
    writes_on (λ ups downs t. TiedUntil before None next ups downs t) (λ ups downs t. TiedUntil after (Some head) (next + 1) ups downs t) devid (up.Submit head bytes) text written read steps s spelled
    (λ ups downs tie. c.hosts_go_on_until_unplugged.ensures.tie before after head bytes next ups downs s writes number tie)

pub returns-clause-cancel : goal.returns-clause-cancel
returns-clause-cancel c devid before waits next after left unlinks later message text written read steps s spelled goes =
    writes_on (λ ups downs t. TiedUntil before waits next ups downs t) (λ ups downs t. BoundUntil after left unlinks later ups downs t) devid message text written read steps s spelled
    (λ ups downs tie. c.hosts_go_on_until_unplugged.ensures.cancel before waits next after left unlinks later ups (ups ++ message ∷ []) downs s (λ downs t. goes ups downs t) tie)

pub returns-clause-bound : goal.returns-clause-bound
returns-clause-bound c devid before waits unlinks next after left others later message text written read steps s spelled goes =
    writes_on (λ ups downs t. BoundUntil before waits unlinks next ups downs t) (λ ups downs t. BoundUntil after left others later ups downs t) devid message text written read steps s spelled
    (λ ups downs bound. c.hosts_go_on_until_unplugged.ensures.bound before waits unlinks next after left others later ups (ups ++ message ∷ []) downs s (λ downs t. goes ups downs t) bound)

pub returns-clause-goes_on : goal.returns-clause-goes_on
returns-clause-goes_on c devid before waits unlinks next after left others written read steps s goes =
    goes_on (λ ups downs t. BoundUntil before waits unlinks next ups downs t) (λ ups downs t. BoundUntil after left others next ups downs t) devid written read steps s
    (λ ups downs bound. c.hosts_go_on_until_unplugged.ensures.bound before waits unlinks next after left others next ups ups downs s (λ downs t. goes ups downs t) bound)

pub returns-clause-ends : goal.returns-clause-ends
returns-clause-ends c devid next written read steps s out ins joined =
    goes_on (λ ups downs t. BoundUntil (Stands Resting) None [] next ups downs t) (λ ups downs t. TiedUntil Free None next ups downs t) devid written read steps s
    (λ ups downs bound. c.hosts_go_on_until_unplugged.ensures.rest next ups downs s out ins bound) joined

pub returns-clause-ends_cleared : goal.returns-clause-ends_cleared
returns-clause-ends_cleared c devid next written read steps s out ins joined =
    goes_on (λ ups downs t. BoundUntil (Stands BehindClear) None [] next ups downs t) (λ ups downs t. TiedUntil Free None next ups downs t) devid written read steps s
    (λ ups downs bound. c.hosts_go_on_until_unplugged.ensures.cleared next ups downs s out ins bound) joined
