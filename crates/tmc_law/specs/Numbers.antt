-- the numbers of submits, in the order in which the instrument comes to them
use Rattle.std.specs.Prelude.{ℕ, ◌<◌, ◌==◌, if◌then◌else◌, List, [], ◌∷◌, ◌++◌, Option, Some, None}
use Rattle.usbip_wire.specs.Up as up
use Rattle.instr_plain.specs.declared.log.LogEntry.{LogEntry}
use Rattle.instr_plain.specs.declared.log.LogEntry.TheVariants as entry
use Rattle.tmc_law.specs.Endpoint.{BulkOut, number_of}
use Rattle.tmc_law.specs.State.{State, Pending, Waiting}

-- all these numbers are above this one
abbrev pub AllAbove : ℕ → List ℕ → Type 0
AllAbove n [] = Unit {0}
AllAbove n (m ∷ numbers) = (n < m) × AllAbove n numbers

-- all these numbers are below this one
abbrev pub AllBelow : ℕ → List ℕ → Type 0
AllBelow n [] = Unit {0}
AllBelow n (m ∷ numbers) = (m < n) × AllBelow n numbers

-- each number is above those before it
abbrev pub Rises : List ℕ → Type 0
Rises [] = Unit {0}
Rises (n ∷ numbers) = AllAbove n numbers × Rises numbers

-- the number of the submit that ended the message or the trigger of an entry
abbrev pub effect_of : LogEntry → List ℕ
effect_of (entry.Exec seq message) = seq ∷ []
effect_of (entry.Trigger seq) = seq ∷ []
effect_of _ = []

-- the numbers of the messages that were executed and of the triggers, in the order of the log
abbrev pub effects : List LogEntry → List ℕ
effects [] = []
effects (entry ∷ log) = effect_of entry ++ effects log

-- the number of the message that waits
abbrev pub waits : Option Waiting → List ℕ
waits None = []
waits (Some waiting) = waiting.seq ∷ []

-- the numbers of pending submits
abbrev pub numbers_of : List Pending → List ℕ
numbers_of [] = []
numbers_of (submit ∷ submits) = submit.head.seqnum ∷ numbers_of submits

-- the numbers of the submits to Bulk-OUT among messages that are on their way
abbrev pub coming_out : List up.Message → List ℕ
coming_out [] = []
coming_out (up.Submit head transferred ∷ messages) =
    if head.ep == number_of BulkOut then head.seqnum ∷ coming_out messages else coming_out messages
coming_out (up.Unlink head ∷ messages) = coming_out messages

-- what Bulk-OUT leads to: the numbers of what took effect, of what waits, of what is pending and of what comes
abbrev pub numbers : State → List up.Message → List ℕ
numbers s messages = effects s.log ++ (waits s.waiting ++ (numbers_of s.bulk_out ++ coming_out messages))
