use Rattle.host_joint.proofs.accepted.no_bytes_are_refused.Goals as goal

pub returns-clause-joint : goal.returns-clause-joint
returns-clause-joint c devid hand waits next written read steps more s t f tells front joint closed =
    (c.joints_stay.ensures.joint devid hand waits next written read steps more s t tells front joint).accepted f closed

pub returns-clause-joined : goal.returns-clause-joined
returns-clause-joined c devid situation waits unlinks next written read steps more s t f tells front joined closed =
    (c.joints_stay.ensures.joined devid situation waits unlinks next written read steps more s t tells front joined).accepted f closed

pub returns-clause-joint_until : goal.returns-clause-joint_until
returns-clause-joint_until c devid hand waits next written read steps more s t f tells front joint closed =
    (c.joints_stay_until_unplugged.ensures.joint devid hand waits next written read steps more s t tells front joint).accepted f closed

pub returns-clause-joined_until : goal.returns-clause-joined_until
returns-clause-joined_until c devid situation waits unlinks next written read steps more s t f tells front joined closed =
    (c.joints_stay_until_unplugged.ensures.joined devid situation waits unlinks next written read steps more s t tells front joined).accepted f closed
