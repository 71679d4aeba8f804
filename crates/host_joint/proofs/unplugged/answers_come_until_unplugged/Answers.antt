use Rattle.std.proofs.Common.{inr, refl}
use Rattle.host_joint.proofs.Until.{next_until}
use Rattle.host_joint.proofs.UntilJoined.{given_until}
use Rattle.host_joint.proofs.unplugged.answers_come_until_unplugged.Goals as goal

pub returns-clause-given : goal.returns-clause-given
returns-clause-given c = given_until c.answers_are_the_expected.ensures

pub returns-clause-next : goal.returns-clause-next
returns-clause-next c = next_until

pub returns-clause-tie_behind : goal.returns-clause-tie_behind
returns-clause-tie_behind c hand waits next ups front before t unplugs tie = inr (record { before = before; front = front; tie = tie; unplugs = unplugs; behind = refl })

pub returns-clause-bound_behind : goal.returns-clause-bound_behind
returns-clause-bound_behind c situation waits unlinks next ups front before t unplugs bound = inr (record { before = before; front = front; tie = bound; unplugs = unplugs; behind = refl })
