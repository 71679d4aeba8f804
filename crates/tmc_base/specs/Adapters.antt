-- what the adapters say of std's readers and writers, where these tell their bytes
use Rattle.std.specs.Prelude.{ℕ, List, take, Option}
use Rattle.std.specs.Io.KnownBytes.{Consumes, Appends, Keeps, IsAtEnd}
use Rattle.tmc_base.specs.declared.source.ReadStep.{ReadStep}
use Rattle.tmc_base.specs.declared.source.ReadStep.TheVariants as read
use Rattle.tmc_base.specs.declared.sink.WriteStep.{WriteStep}
use Rattle.tmc_base.specs.declared.sink.WriteStep.TheVariants as write
use Rattle.tmc_base.specs.declared.link.SendStep.{SendStep}
use Rattle.tmc_base.specs.declared.link.SendStep.TheVariants as send
use Rattle.tmc_base.specs.declared.link.PollStep.{PollStep}
use Rattle.tmc_base.specs.declared.link.PollStep.TheVariants as poll

-- a reader's bytes: the first of them came into the buffer, or none came, and none was left where the read says so
abbrev pub ReaderGave : ReadStep → List ℕ → Option (List ℕ) → Option (List ℕ) → Type 0
ReaderGave (read.Got n) buf old new = Consumes old new (take n buf)
ReaderGave read.End buf old new = IsAtEnd old × Keeps old new
ReaderGave read.Failed buf old new = Keeps old new

-- a writer's bytes: as many of the piece went as the write says
abbrev pub WriterTook : WriteStep → List ℕ → Option (List ℕ) → Option (List ℕ) → Type 0
WriterTook (write.Took n) piece old new = Appends old new (take n piece)
WriterTook write.Failed piece old new = Keeps old new

-- a reader's bytes at a poll: the first of them came into the buffer, or none came, and none was left where the poll says
-- that the other end closed
abbrev pub PollGave : PollStep → List ℕ → Option (List ℕ) → Option (List ℕ) → Type 0
PollGave (poll.Got n) buf old new = Consumes old new (take n buf)
PollGave poll.Idle buf old new = Keeps old new
PollGave poll.Closed buf old new = IsAtEnd old × Keeps old new
PollGave poll.Failed buf old new = Keeps old new
PollGave poll.Memory buf old new = ⊥

-- a writer's bytes at a send: as many of the piece went as the send says
abbrev pub SendTook : SendStep → List ℕ → Option (List ℕ) → Option (List ℕ) → Type 0
SendTook (send.Took n) piece old new = Appends old new (take n piece)
SendTook send.Idle piece old new = Keeps old new
SendTook send.Failed piece old new = Keeps old new
SendTook send.Memory piece old new = ⊥
