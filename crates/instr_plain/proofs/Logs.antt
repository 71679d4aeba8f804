-- where a log leads
use Rattle.std.proofs.Common.{◌≡◌, ◌∙◌, ℕ, zero, suc, ◌<◌, List, [], ◌∷◌, ◌++◌, length, inl, inr, refl, ap, sym, subst, arith}
use Rattle.std.specs.Prelude.{◌↔◌}
use Rattle.ieee_syntax.specs.declared.unit.Unit.{Unit}
use Rattle.ieee_syntax.specs.Program.{Program}
use Rattle.instr_plain.specs.declared.plain.Plain.{Plain}
use Rattle.instr_plain.specs.declared.command.Command.{Command}
use Rattle.instr_plain.specs.declared.log.LogEntry.{LogEntry}
use Rattle.instr_plain.specs.declared.log.LogEntry.TheVariants.{Exec as exec_entry, Took, Interrupt, Bare, Trigger, Poll, Clear, Remote}
use Rattle.instr_plain.specs.Exec.{Progress, Executes, Exec, begun, performed, response_of}
use Rattle.instr_plain.specs.Standing.{Standing}
use Rattle.instr_plain.specs.Log.{After, Follows, ResponseOf, Responds, judged}
use Rattle.instr_plain.proofs.Commands.{one_command}

-- later entries change no earlier response
pub keeps : (before : Standing) (log more : List LogEntry) (i : ℕ) (response : List ℕ) → i < length log → (Responds before (log ++ more) i response ↔ Responds before log i response)
keeps before [] more i response within = absurd (omega arith)
keeps before (entry ∷ log) more zero response within = (λ h. h, λ h. h)
keeps before (entry ∷ log) more (suc i) response within = (
  λ h. (h.0, h.1, (keeps h.0 log more i response (omega arith)).0 h.2),
  λ h. (h.0, h.1, (keeps h.0 log more i response (omega arith)).1 h.2),
)

-- what the grammar promises
abbrev pub OneReading : Type 0
OneReading = (bytes : List ℕ) (us vs : List Unit) → Program bytes us → Program bytes vs → us ≡ vs

-- units lead to one place
pub executes_one : (before : Progress) (units : List Unit) (a b : Progress) → Executes before units a → Executes before units b → a ≡ b
executes_one before [] a b p q = p ∙ sym q
executes_one before (unit ∷ units) a b (inl p) (inl q) =
    let same = one_command unit p.0 q.0 p.1 q.1 in
    executes_one (performed q.0 before) units a b (subst (λ (c : Command). Executes (performed c before) units a) same p.2) q.2
executes_one before (unit ∷ units) a b (inl p) (inr q) = absurd (q.0 p.0 p.1)
executes_one before (unit ∷ units) a b (inr p) (inl q) = absurd (p.0 q.0 q.1)
executes_one before (unit ∷ units) a b (inr p) (inr q) = p.1 ∙ sym q.1

-- a message has one outcome
pub exec_one : OneReading → (before : Plain) (message : List ℕ) (a b : Plain) (r s : List ℕ) → Exec before message a r → Exec before message b s → (a ≡ b) × (r ≡ s)
exec_one reading before message a b r s (inl p) (inl q) =
    let units = reading message p.units q.units p.program q.program in
    let end = executes_one (begun before) q.units p.end q.end (subst (λ (us : List Unit). Executes (begun before) us p.end) units p.executes) q.executes in
    (p.leaves ∙ ap (λ (e : Progress). e.state) end ∙ sym q.leaves, p.answers ∙ ap (λ (e : Progress). response_of e.answers) end ∙ sym q.answers)
exec_one reading before message a b r s (inl p) (inr q) = absurd (q.none p.units p.program)
exec_one reading before message a b r s (inr p) (inl q) = absurd (p.none q.units q.program)
exec_one reading before message a b r s (inr p) (inr q) = (p.leaves ∙ sym q.leaves, p.silent ∙ sym q.silent)

-- an entry leads to one standing
pub after_one : OneReading → (before : Standing) (entry : LogEntry) (a b : Standing) → After before entry a → After before entry b → a ≡ b
after_one reading before (exec_entry seq message) a b p q =
    let same = exec_one reading before.state message a.state b.state a.unread b.unread p.0 q.0 in
    p.1 ∙ ap (λ (s : Plain). judged before s a.unread before.rqs) same.0 ∙ ap (λ (u : List ℕ). judged before b.state u before.rqs) same.1 ∙ sym q.1
after_one reading before (Took n) a b p q = p ∙ sym q
after_one reading before Interrupt a b p q = p ∙ sym q
after_one reading before Bare a b p q = p ∙ sym q
after_one reading before (Trigger seq) a b p q = p ∙ sym q
after_one reading before (Poll seq) a b p q = p ∙ sym q
after_one reading before Clear a b p q = p ∙ sym q
after_one reading before (Remote act) a b p q = p ∙ sym q

response_of_one : OneReading → (before : Standing) (entry : LogEntry) (r s : List ℕ) → ResponseOf before entry r → ResponseOf before entry s → r ≡ s
response_of_one reading before (exec_entry seq message) r s p q = (exec_one reading before.state message p.0 q.0 r s p.1 q.1).1
response_of_one reading before _ r s p q = absurd p

-- an entry of a log has one response
pub responds_one : OneReading → (before : Standing) (log : List LogEntry) (i : ℕ) (r s : List ℕ) → Responds before log i r → Responds before log i s → r ≡ s
responds_one reading before [] i r s p q = absurd p
responds_one reading before (entry ∷ log) zero r s p q = response_of_one reading before entry r s p q
responds_one reading before (entry ∷ log) (suc i) r s p q =
    let same = after_one reading before entry p.0 q.0 p.1 q.1 in
    responds_one reading q.0 log i r s (subst (λ (mid : Standing). Responds mid log i r) same p.2) q.2

-- one more entry
pub grows_by : (start : Standing) (log : List LogEntry) (entry : LogEntry) (before after : Standing) → Follows start log before → After before entry after → Follows start (log ++ entry ∷ []) after
grows_by start [] entry before after p q = (after, subst (λ (s : Standing). After s entry after) p q, refl)
grows_by start (first ∷ log) entry before after p q = (p.0, p.1, grows_by p.0 log entry before after p.2 q)

pub responds_last : (start : Standing) (log : List LogEntry) (seq : ℕ) (message : List ℕ) (before after : Standing) → Follows start log before → After before (exec_entry seq message) after → Responds start (log ++ exec_entry seq message ∷ []) (length log) after.unread
responds_last start [] seq message before after p q = (after.state, subst (λ (s : Standing). Exec s.state message after.state after.unread) p q.0)
responds_last start (first ∷ log) seq message before after p q = (p.0, p.1, responds_last p.0 log seq message before after p.2 q)

-- a log leads to one standing
pub follows_one : OneReading → (start : Standing) (log : List LogEntry) (a b : Standing) → Follows start log a → Follows start log b → a ≡ b
follows_one reading start [] a b p q = p ∙ sym q
follows_one reading start (entry ∷ log) a b p q =
    let same = after_one reading start entry p.0 q.0 p.1 q.1 in
    follows_one reading q.0 log a b (subst (λ (mid : Standing). Follows mid log a) same p.2) q.2
