-- a link in memory: what it is still to give, what was sent over it, and the calls that are to fail
use Rattle.std.specs.Prelude.{◌≡◌, ◌⊎◌, ℕ, ◌-◌, min, true, false, List, [], ◌++◌, length, take, drop}
use Rattle.tmc_base.specs.declared.link.SendStep.{SendStep}
use Rattle.tmc_base.specs.declared.link.SendStep.TheVariants as send
use Rattle.tmc_base.specs.declared.link.PollStep.{PollStep}
use Rattle.tmc_base.specs.declared.link.PollStep.TheVariants as poll
use Rattle.tmc_base.specs.declared.link.TendStep.{TendStep}
use Rattle.tmc_base.specs.declared.link.TendStep.TheVariants as tend
use Rattle.tmc_base.specs.Faults.{raised}
use Rattle.tmc_base.specs.FailPlan.{Plan, after_call, next_fails}
use Rattle.tmc_base.specs.Link.{Counts}

pub record Linked : Type 0 where
  pub sent : List ℕ
  pub taken : List ℕ
  pub left : List ℕ
  pub room : ℕ
  pub most_send : ℕ
  pub most_poll : ℕ
  pub send_plan : Plan
  pub poll_plan : Plan
  pub counts : Counts

-- one send: it fails where it is to fail or no room is left, and else takes as much as goes into one piece
abbrev pub Sends : Linked → List ℕ → SendStep → Linked → Type 0
Sends old piece (send.Took n) new =
    (next_fails old.send_plan ≡ false) × (n ≡ min (length piece) (min old.most_send old.room))
    × (new ≡ record old { sent = old.sent ++ take n piece; room = old.room - n; send_plan = after_call old.send_plan })
Sends old piece send.Idle new = ⊥
Sends old piece send.Failed new =
    ((next_fails old.send_plan ≡ true) ⊎ (old.room ≡ 0))
    × (new ≡ record old { send_plan = after_call old.send_plan; counts = record old.counts { faults = raised old.counts.faults } })
Sends old piece send.Memory new = ⊥

-- one poll: it fails where it is to fail, says that the other end closed where nothing is left, and else gives as many of
-- the first bytes as go into one piece
abbrev pub Polls : Linked → ℕ → PollStep → List ℕ → Linked → Type 0
Polls old room (poll.Got n) bytes new =
    (next_fails old.poll_plan ≡ false) × (n ≡ min room (min old.most_poll (length old.left))) × (bytes ≡ take n old.left)
    × (new ≡ record old { taken = old.taken ++ take n old.left; left = drop n old.left; poll_plan = after_call old.poll_plan })
Polls old room poll.Idle bytes new = ⊥
Polls old room poll.Closed bytes new =
    (next_fails old.poll_plan ≡ false) × (old.left ≡ []) × (bytes ≡ [])
    × (new ≡ record old { poll_plan = after_call old.poll_plan; counts = record old.counts { closings = raised old.counts.closings } })
Polls old room poll.Failed bytes new =
    (next_fails old.poll_plan ≡ true) × (bytes ≡ [])
    × (new ≡ record old { poll_plan = after_call old.poll_plan; counts = record old.counts { faults = raised old.counts.faults } })
Polls old room poll.Memory bytes new = ⊥

-- no act is ever to be had
abbrev pub Tends : Linked → TendStep → Linked → Type 0
Tends old tend.Did new = ⊥
Tends old tend.NotNow new = new ≡ old
Tends old tend.Memory new = ⊥
