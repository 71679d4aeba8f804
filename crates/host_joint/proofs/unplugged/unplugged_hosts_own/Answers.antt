use Rattle.std.proofs.Common.{inl, inr}
use Rattle.host_joint.specs.Hand.{Reads}
use Rattle.host_joint.specs.Hand as hand
use Rattle.host_joint.proofs.UntilJoined.{owns_same, log_of}
use Rattle.host_joint.proofs.unplugged.unplugged_hosts_own.Goals as goal

pub returns-clause-tie : goal.returns-clause-tie
returns-clause-tie c h waits next ups downs t (inl tie) = c.ties_own.ensures h waits next ups downs t tie
returns-clause-tie c h waits next ups downs t (inr held) = owns_same h held.before t (log_of held.before t held.unplugs) (c.ties_own.ensures h waits next ups held.front held.before held.tie)

pub returns-clause-reading : goal.returns-clause-reading
returns-clause-reading c last message tag size sofar read taken waits unlinks next ups downs t (inl bound) = c.cancelled_asks_own.ensures.reading last message tag size sofar read taken waits unlinks next ups downs t bound
returns-clause-reading c last message tag size sofar read taken waits unlinks next ups downs t (inr held) =
    owns_same (hand.Reads last message tag size sofar read) held.before t (log_of held.before t held.unplugs)
    (c.cancelled_asks_own.ensures.reading last message tag size sofar read taken waits unlinks next ups held.front held.before held.tie)

pub returns-clause-read : goal.returns-clause-read
returns-clause-read c last message sofar waits unlinks next ups downs t (inl bound) = c.cancelled_asks_own.ensures.read last message sofar waits unlinks next ups downs t bound
returns-clause-read c last message sofar waits unlinks next ups downs t (inr held) =
    owns_same (hand.Pauses last message sofar) held.before t (log_of held.before t held.unplugs) (c.cancelled_asks_own.ensures.read last message sofar waits unlinks next ups held.front held.before held.tie)
