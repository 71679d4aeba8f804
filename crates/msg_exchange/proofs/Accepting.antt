-- parts of a message take effect
use Rattle.std.proofs.Common.{◌≡◌, ◌∙◌, ℕ, ◌+◌, Bool, true, false, List, [], ◌++◌, take, drop, Option, Some, None, ap, arith}
use Rattle.std.proofs.Math.Seq.{take-add}
use Rattle.std.proofs.lemmas.List.{length-take, take_all}
use Rattle.tmc_wire.specs.declared.header.OutHeader.TheVariants.{Message}
use Rattle.tmc_wire.specs.Transfer.{OutText}
use Rattle.instr_plain.specs.declared.log.LogEntry.{LogEntry}
use Rattle.instr_plain.specs.Standing.{Standing}
use Rattle.tmc_law.specs.State.{State, Transfer}
use Rattle.tmc_law.specs.BulkOut.{Interrupts, TakesEffect, Part, Last}
use Rattle.msg_exchange.specs.Held.{Held, led_to}
use Rattle.msg_exchange.specs.Parts.{part_of, waiting_of, coming_of}

-- the part that is held, and the message that waits
abbrev pub kept : Option ℕ → ℕ → List ℕ → List LogEntry → Standing → Held
kept ended_by size bytes log standing = record { part = part_of ended_by size bytes; waiting = waiting_of ended_by size bytes; log = log; standing = standing }

-- more of the bytes took effect, and the others were dropped
pub more_of : (n m : ℕ) (bytes : List ℕ) → take (n + m) (take (n + m) bytes) ≡ take n bytes ++ take m (drop n bytes)
more_of n m bytes =
    let short = length-take (n + m) bytes in take_all (n + m) (take (n + m) bytes) (omega (arith, short)) ∙ take-add n m bytes

pub last_part : (s : State) (transfer : Transfer) (tag most seq size : ℕ) (eom : Bool) (ended_by : Option ℕ) (n : ℕ) (bytes after : List ℕ) (log : List LogEntry) (standing : Standing)
    → waiting_of ended_by n bytes ≡ None → after ≡ take (n + size) bytes → eom ≡ true → transfer.header ≡ Message tag most eom
    → OutText transfer.header (take size (coming_of ended_by n bytes)) transfer.taken
    → Interrupts s (led_to s (kept ended_by n bytes log standing)) → TakesEffect seq transfer s (led_to s (kept (Some seq) (n + size) after log standing))
last_part s transfer tag most seq size eom None n bytes after log standing none more ends header text first =
    Last tag most (take size (drop n bytes)) (led_to s (kept None n bytes log standing)) (header ∙ ap (λ (b : Bool). Message tag most b) ends) text first
    (ap (λ (l : List ℕ). led_to s (record { part = []; waiting = Some (record { seq = seq; message = l }); log = log; standing = standing }))
    (ap (λ (l : List ℕ). take (n + size) l) more ∙ more_of n size bytes))
last_part s transfer tag most seq size eom (Some other) n bytes after log standing none more ends header text first = absurd (cc)

pub later_part : (s : State) (transfer : Transfer) (tag most seq size : ℕ) (eom : Bool) (ended_by : Option ℕ) (n : ℕ) (bytes after : List ℕ) (log : List LogEntry) (standing : Standing)
    → waiting_of ended_by n bytes ≡ None → after ≡ take (n + size) bytes → eom ≡ false → transfer.header ≡ Message tag most eom
    → OutText transfer.header (take size (coming_of ended_by n bytes)) transfer.taken
    → Interrupts s (led_to s (kept ended_by n bytes log standing)) → TakesEffect seq transfer s (led_to s (kept ended_by (n + size) after log standing))
later_part s transfer tag most seq size eom None n bytes after log standing none more ends header text first =
    Part tag most (take size (drop n bytes)) (led_to s (kept None n bytes log standing)) (header ∙ ap (λ (b : Bool). Message tag most b) ends) text first
    (ap (λ (l : List ℕ). led_to s (record { part = l; waiting = None; log = log; standing = standing }))
    (ap (λ (l : List ℕ). take (n + size) l) more ∙ more_of n size bytes))
later_part s transfer tag most seq size eom (Some other) n bytes after log standing none more ends header text first = absurd (cc)
