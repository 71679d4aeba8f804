-- what is taken of a response
use Rattle.std.proofs.Common.{◌≡◌, ℕ, ◌+◌, ◌≤◌, List, [], ◌∷◌, ◌++◌, length, refl, ap, subst, arith, length-drop}
use Rattle.instr_plain.specs.declared.log.LogEntry.{LogEntry}
use Rattle.instr_plain.specs.declared.log.LogEntry.TheVariants.{Exec as exec_entry, Took, Interrupt, Bare, Trigger, Poll, Clear, Remote}
use Rattle.instr_plain.specs.Standing.{Standing}
use Rattle.instr_plain.specs.Exec.{Exec}
use Rattle.instr_plain.specs.Log.{After, Follows, Responds}
use Rattle.tmc_law.specs.Laws.{Renews, NoneRenews, bytes_taken}
use Rattle.tmc_law.proofs.Grown.{Spares, Within}

pub apart : (before : Standing) (a b : List LogEntry) (after : Standing) → Within before (a ++ b) after
    → (mid : Standing) × Within before a mid × Within mid b after
apart before [] b after within = (before, refl, within)
apart before (entry ∷ a) b after within =
    let rest = apart within.0 a b after within.3 in (rest.0, (within.0, within.1, within.2, rest.1), rest.2)

-- behind an entry there is no more unread than before it, without what it took
one : (before : Standing) (entry : LogEntry) (mid : Standing) → Spares before entry → After before entry mid → (Renews entry → ⊥)
    → bytes_taken (entry ∷ []) + length mid.unread ≤ length before.unread
one before (exec_entry seq message) mid spares after old = absurd (old tt)
one before (Took n) mid spares after old = omega (arith, ap (λ (s : Standing). length s.unread) after, length-drop n before.unread)
one before Interrupt mid spares after old = omega (arith, ap (λ (s : Standing). length s.unread) after)
one before Bare mid spares after old = omega (arith, ap (λ (s : Standing). length s.unread) after)
one before (Trigger seq) mid spares after old = omega (arith, ap (λ (s : Standing). length s.unread) after)
one before (Poll seq) mid spares after old = omega (arith, ap (λ (s : Standing). length s.unread) after)
one before Clear mid spares after old = absurd (old tt)
one before (Remote act) mid spares after old = omega (arith, ap (λ (s : Standing). length s.unread) after)

taken_first : (entry : LogEntry) (entries : List LogEntry) → bytes_taken (entry ∷ entries) ≡ bytes_taken (entry ∷ []) + bytes_taken entries
taken_first (exec_entry seq message) entries = omega arith
taken_first (Took n) entries = omega arith
taken_first Interrupt entries = omega arith
taken_first Bare entries = omega arith
taken_first (Trigger seq) entries = omega arith
taken_first (Poll seq) entries = omega arith
taken_first Clear entries = omega arith
taken_first (Remote act) entries = omega arith

-- until other output is unread, at most what was unread is taken
pub all : (before : Standing) (entries : List LogEntry) (after : Standing) → Within before entries after → NoneRenews entries
    → bytes_taken entries + length after.unread ≤ length before.unread
all before [] after within old = omega (arith, ap (λ (s : Standing). length s.unread) within)
all before (entry ∷ entries) after within old =
    omega (arith, taken_first entry entries, one before entry within.0 within.1 within.2 old.0, all within.0 entries after within.3 old.1)

-- the response to a message is the unread output behind its entry
pub responds_at : (start : Standing) (log : List LogEntry) (seq : ℕ) (message : List ℕ) (rest : List LogEntry) (before after : Standing)
    → Follows start log before → After before (exec_entry seq message) after
    → Responds start (log ++ exec_entry seq message ∷ rest) (length log) after.unread
responds_at start [] seq message rest before after follows leads =
    (after.state, subst (λ (s : Standing). Exec s.state message after.state after.unread) follows leads.0)
responds_at start (first ∷ log) seq message rest before after follows leads =
    (follows.0, follows.1, responds_at follows.0 log seq message rest before after follows.2 leads)
