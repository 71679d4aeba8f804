-- entries in a row from one standing to another, of which none takes more than is unread
use Rattle.std.proofs.Common.{◌≡◌, ◌≤◌, List, [], ◌∷◌, ◌++◌, length, refl, sym, ◌∙◌, ap, subst, append_assoc, append-nil}
use Rattle.instr_plain.specs.declared.log.LogEntry.{LogEntry}
use Rattle.instr_plain.specs.declared.log.LogEntry.TheVariants.{Took}
use Rattle.instr_plain.specs.Standing.{Standing}
use Rattle.instr_plain.specs.Log.{After, Follows}
use Rattle.tmc_law.specs.State.{State}
use Rattle.tmc_law.specs.Logging.{Logs}

-- an entry takes at most what is unread
abbrev pub Spares : Standing → LogEntry → Type 0
Spares before (Took n) = n ≤ length before.unread
Spares before _ = Unit {0}

-- the entries lead from one standing to another, and each takes at most what is unread
abbrev pub Within : Standing → List LogEntry → Standing → Type 0
Within before [] after = after ≡ before
Within before (entry ∷ entries) after = (mid : Standing) × Spares before entry × After before entry mid × Within mid entries after

-- from state to state the log grows by such entries
abbrev pub Grown : State → State → Type 0
Grown s t = (more : List LogEntry) × (t.log ≡ s.log ++ more) × Within s.standing more t.standing

pub follows : (before : Standing) (entries : List LogEntry) (after : Standing) → Within before entries after → Follows before entries after
follows before [] after within = within
follows before (entry ∷ entries) after within = (within.0, within.2, follows within.0 entries after within.3)

pub behind : (before : Standing) (a b : List LogEntry) (mid after : Standing) → Within before a mid → Within mid b after → Within before (a ++ b) after
behind before [] b mid after first second = subst (λ (from : Standing). Within from b after) first second
behind before (entry ∷ a) b mid after first second = (first.0, first.1, first.2, behind first.0 a b mid after first.3 second)

-- nothing was logged
pub still : (s : State) → Grown s s
still s = ([], sym (append-nil s.log), refl)

-- one entry was logged
pub logged : (entry : LogEntry) (s t : State) → Spares s.standing entry → Logs entry s t → Grown s t
logged entry s t spares logs = (
  entry ∷ [],
  ap (λ (x : State). x.log) logs.is,
  (logs.standing, spares, logs.after, ap (λ (x : State). x.standing) logs.is),
)

-- a state that is another
pub like : (s t u : State) → t ≡ u → Grown s u → Grown s t
like s t u same grown = subst (λ (x : State). Grown s x) (sym same) grown

-- one growth behind another
pub twice : (s m t : State) → Grown s m → Grown m t → Grown s t
twice s m t first second = (
  first.0 ++ second.0,
  second.1 ∙ ap (λ (log : List LogEntry). log ++ second.0) first.1 ∙ append_assoc s.log first.0 second.0,
  behind s.standing first.0 second.0 m.standing t.standing first.2 second.2,
)
