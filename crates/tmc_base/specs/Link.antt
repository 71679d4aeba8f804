-- what the calls of a link say of it
use Rattle.std.specs.Prelude.{◌≡◌, ℕ, ◌<◌, ◌≤◌}
use Rattle.tmc_base.specs.declared.link.SendStep.{SendStep}
use Rattle.tmc_base.specs.declared.link.SendStep.TheVariants as send
use Rattle.tmc_base.specs.declared.link.PollStep.{PollStep}
use Rattle.tmc_base.specs.declared.link.PollStep.TheVariants as poll
use Rattle.tmc_base.specs.Faults.{Rose}

-- how many bytes went
abbrev pub took_count : SendStep → ℕ
took_count (send.Took n) = n
took_count send.Idle = 0
took_count send.Failed = 0
took_count send.Memory = 0

-- bytes went only from the piece, and at least one where the send says so
abbrev pub SendsWithin : SendStep → ℕ → Type 0
SendsWithin (send.Took n) offered = (0 < n) × (n ≤ offered)
SendsWithin send.Idle offered = Unit {0}
SendsWithin send.Failed offered = Unit {0}
SendsWithin send.Memory offered = Unit {0}

-- how many bytes came
abbrev pub got_count : PollStep → ℕ
got_count (poll.Got n) = n
got_count poll.Idle = 0
got_count poll.Closed = 0
got_count poll.Failed = 0
got_count poll.Memory = 0

-- bytes came only into the buffer, and at least one where the poll says so
abbrev pub PollsWithin : PollStep → ℕ → Type 0
PollsWithin (poll.Got n) room = (0 < n) × (n ≤ room)
PollsWithin poll.Idle room = Unit {0}
PollsWithin poll.Closed room = Unit {0}
PollsWithin poll.Failed room = Unit {0}
PollsWithin poll.Memory room = Unit {0}

-- the counts that a link keeps
pub record Counts : Type 0 where
  pub faults : ℕ
  pub idles : ℕ
  pub closings : ℕ

-- a send: the count that its answer is for rises, and every other stands
abbrev pub SendCounts : SendStep → Counts → Counts → Type 0
SendCounts (send.Took n) old new = new ≡ old
SendCounts send.Idle old new = Rose old.idles new.idles × (new ≡ record old { idles = new.idles })
SendCounts send.Failed old new = Rose old.faults new.faults × (new ≡ record old { faults = new.faults })
SendCounts send.Memory old new = new ≡ old

-- a poll: the count that its answer is for rises, and every other stands
abbrev pub PollCounts : PollStep → Counts → Counts → Type 0
PollCounts (poll.Got n) old new = new ≡ old
PollCounts poll.Idle old new = Rose old.idles new.idles × (new ≡ record old { idles = new.idles })
PollCounts poll.Closed old new = Rose old.closings new.closings × (new ≡ record old { closings = new.closings })
PollCounts poll.Failed old new = Rose old.faults new.faults × (new ≡ record old { faults = new.faults })
PollCounts poll.Memory old new = new ≡ old
