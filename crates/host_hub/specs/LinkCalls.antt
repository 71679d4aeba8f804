-- the two calls of the link in a turn, one by one
use Rattle.std.specs.Prelude.{◌≡◌, ℕ, Option, Some, None, List, [], ◌++◌, length, take}
use Rattle.tmc_base.specs.declared.link.PollStep.{PollStep}
use Rattle.tmc_base.specs.declared.link.PollStep.TheVariants as poll
use Rattle.tmc_base.specs.declared.link.SendStep.{SendStep}
use Rattle.tmc_base.specs.declared.link.SendStep.TheVariants as send
use Rattle.tmc_base.specs.Link.{Counts, PollCounts, PollsWithin, SendsWithin}
use Rattle.tmc_base.specs.Told.{Told}
use Rattle.host_hub.specs.declared.outcome.End.{End}
use Rattle.host_hub.specs.declared.hub_core.HubCore.{HubCore}
use Rattle.host_hub.specs.Behind.{Account, Behind, HubParts, births_of}
use Rattle.host_hub.specs.HubCalls.{CountsSend, EndsPoll, EndsSend, SendsOnce, TurnsOn, said_of, sent_count}
use Rattle.host_hub.specs.Order.{Setting}
use Rattle.host_hub.specs.Record.{Past}
use Rattle.host_hub.specs.Tied.{Failed}

-- bytes went only where there are some, and at least one where the send says so
abbrev pub WithinSend : Option SendStep → ℕ → Type 0
WithinSend None offered = Unit {0}
WithinSend (Some step) offered = SendsWithin step offered

-- a call that moved no byte, and did not end the hub, leaves it as it was
abbrev pub KeepsSend : Option SendStep → (old new : HubCore) → Type 0
KeepsSend None old new = new ≡ old
KeepsSend (Some send.Idle) old new = new ≡ old
KeepsSend (Some send.Memory) old new = new ≡ old
KeepsSend step old new = Unit {0}

abbrev pub KeepsPoll : PollStep → (old new : HubCore) → Type 0
KeepsPoll poll.Idle old new = new ≡ old
KeepsPoll poll.Memory old new = new ≡ old
KeepsPoll step old new = Unit {0}

-- where a hub runs behind its calls of the link, none of them failed or found the link closed; and each step says how much moved
pub record CanAnswer (ended : Option End) (sent : Option SendStep) (came : PollStep) : Type 0 where
  pub sending : EndsSend sent None
  pub polling : EndsPoll came ended
  pub went : (offered : ℕ) × WithinSend sent offered
  pub got : PollsWithin came 8192

-- behind the send: the hub has ended, or it runs on, and the bytes that went are sent
abbrev pub SendsOn : Option SendStep → (start now : Told) → Counts → Setting → Past → (sent received outbox : List ℕ) → HubCore → Type 0
SendsOn (Some send.Failed) start now counts s past sent received outbox core = TurnsOn start now counts s past (sent ++ []) received Failed core
SendsOn step start now counts s past sent received outbox core = Account start now counts s past (sent ++ take (sent_count step) outbox) received core

-- one send of a hub that runs, where its outbox is not empty
pub record Sends {A : Type 0} (tells : A → Told) (counts : A → Counts) (sends : A → List ℕ → SendStep → A → Type 0) (sent : Option SendStep) (old new : HubParts A) : Type 0 where
  pub once : SendsOnce sends old.core.urbs.outbox sent old.link new.link
  pub within : WithinSend sent (length old.core.urbs.outbox)
  pub counted : CountsSend sent (counts old.link) (counts new.link)
  pub ends : EndsSend sent new.core.end
  pub keeps : KeepsSend sent old.core new.core
  pub births : births_of new.core ≡ births_of old.core
  pub goes : (start : Told) (s : Setting) (past : Past) (before received : List ℕ) → Behind tells counts start s past before received old
      → SendsOn sent start (tells new.link) (counts new.link) s past before received old.core.urbs.outbox new.core

-- one poll
pub record Polls {A : Type 0} (tells : A → Told) (counts : A → Counts) (polls : A → ℕ → PollStep → List ℕ → A → Type 0) (came : PollStep) (old new : HubParts A) : Type 0 where
  pub bytes : List ℕ
  pub once : polls old.link 8192 came bytes new.link
  pub within : PollsWithin came 8192
  pub counted : PollCounts came (counts old.link) (counts new.link)
  pub ends : EndsPoll came new.core.end
  pub keeps : KeepsPoll came old.core new.core
  pub births : births_of new.core ≡ births_of old.core
  pub goes : (start : Told) (s : Setting) (past : Past) (before received : List ℕ) → Behind tells counts start s past before received old
      → TurnsOn start (tells new.link) (counts new.link) s past before (received ++ bytes) (said_of came) new.core
