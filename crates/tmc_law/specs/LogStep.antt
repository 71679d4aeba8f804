-- what a step adds to the log
use Rattle.std.specs.Prelude.{◌≡◌, ℕ, List, [], ◌∷◌, ◌++◌, Some}
use Rattle.instr_plain.specs.declared.log.LogEntry.{LogEntry}
use Rattle.instr_plain.specs.declared.log.LogEntry.TheVariants as entry
use Rattle.instr_plain.specs.Log.{After}
use Rattle.tmc_law.specs.State.{State, Pending}
use Rattle.tmc_law.specs.Step.{Move, Take, Exec, Begin, Answer, Poll}

-- this is the number of the first submit
abbrev pub IsFirst : List Pending → ℕ → Type 0
IsFirst [] seq = ⊥
IsFirst (submit ∷ behind) seq = submit.head.seqnum ≡ seq

-- Which entries a move may log: a transfer that takes effect an interrupt, a bare request, or a trigger under the number of
-- its submit; an execution the message that waits; a piece that begins its bytes; and the answer to a control submit, or
-- the poll for it, what its request does. No other move logs.
abbrev pub MayLog : State → Move → LogEntry → Type 0
MayLog s (Take count) entry.Interrupt = Unit {0}
MayLog s (Take count) entry.Bare = Unit {0}
MayLog s (Take count) (entry.Trigger seq) = IsFirst s.bulk_out seq
MayLog s Exec (entry.Exec seq message) = s.waiting ≡ Some (record { seq = seq; message = message })
MayLog s (Begin count) (entry.Took n) = n ≡ count
MayLog s Answer (entry.Poll seq) = IsFirst s.control seq
MayLog s Answer entry.Clear = Unit {0}
MayLog s Answer (entry.Remote act) = Unit {0}
MayLog s Poll (entry.Poll seq) = IsFirst s.control seq
MayLog _ _ _ = ⊥

-- between two states nothing was logged, or one entry that is allowed, which led the instrument on
pub data Adds (Allowed : LogEntry → Type 0) (s t : State) : Type 0 where
  LogsNothing : t.log ≡ s.log → t.standing ≡ s.standing → Adds Allowed s t
  LogsOne : (e : LogEntry) → Allowed e → t.log ≡ s.log ++ e ∷ [] → After s.standing e t.standing → Adds Allowed s t
