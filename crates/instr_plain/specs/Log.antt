-- the log, and the instrument that stands for it
use Rattle.std.specs.Prelude.{◌≡◌, ℕ, zero, suc, Bool, false, List, [], ◌∷◌, drop}
use Rattle.instr_plain.specs.declared.plain.Plain.{Plain}
use Rattle.instr_plain.specs.declared.log.LogEntry.{LogEntry}
use Rattle.instr_plain.specs.declared.log.LogEntry.TheVariants.{Exec as exec_entry, Took, Interrupt, Bare, Trigger, Poll, Clear, Remote}
use Rattle.instr_plain.specs.Status.{query_error, with_event, enabled, is_unread, request_behind}
use Rattle.instr_plain.specs.Outcome.{triggered}
use Rattle.instr_plain.specs.Remote.{remote_behind}
use Rattle.instr_plain.specs.Standing.{Standing, at_power_on}
use Rattle.instr_plain.specs.Exec.{Exec}

-- RQS is judged behind each entry, by the bits that were enabled before it
abbrev pub judged : (before : Standing) (state : Plain) (unread : List ℕ) (rqs : Bool) → Standing
judged before state unread rqs = record {
  state = state;
  unread = unread;
  rqs = request_behind (enabled before.state (is_unread before.unread)) (enabled state (is_unread unread)) rqs;
}

-- An entry leads from one standing to another. The response of a message becomes the unread output; a new message
-- that interrupts a response drops it (IEEE 488.2, section 6.3.2.3), and a request with no response is unterminated
-- (6.3.2.2); a poll takes RQS back once it has read it (11.2.2.1).
abbrev pub After : Standing → LogEntry → Standing → Type 0
After before (exec_entry seq message) after =
    Exec before.state message after.state after.unread × (after ≡ judged before after.state after.unread before.rqs)
After before (Took n) after = after ≡ judged before before.state (drop n before.unread) before.rqs
After before Interrupt after = after ≡ judged before (with_event query_error before.state) [] before.rqs
After before Bare after = after ≡ judged before (with_event query_error before.state) before.unread before.rqs
After before (Trigger seq) after = after ≡ judged before (triggered before.state) before.unread before.rqs
After before (Poll seq) after = after ≡ judged before before.state before.unread false
After before Clear after = after ≡ judged before before.state [] before.rqs
After before (Remote act) after =
    after ≡ judged before (record before.state { remote = remote_behind before.state.remote act }) before.unread before.rqs

-- the entries of a log lead from one standing to another
abbrev pub Follows : Standing → List LogEntry → Standing → Type 0
Follows before [] after = after ≡ before
Follows before (entry ∷ entries) after = (mid : Standing) × After before entry mid × Follows mid entries after

-- the standing of an instrument with this log
abbrev pub Stands : List LogEntry → Standing → Type 0
Stands log standing = Follows at_power_on log standing

-- the response that an entry makes, which only a message does
abbrev pub ResponseOf : Standing → LogEntry → List ℕ → Type 0
ResponseOf before (exec_entry seq message) response = (state : Plain) × Exec before.state message state response
ResponseOf before _ response = ⊥

-- the response to the message of entry i, counted from 0, in a log that begins at this standing
abbrev pub Responds : Standing → List LogEntry → ℕ → List ℕ → Type 0
Responds before [] i response = ⊥
Responds before (entry ∷ entries) zero response = ResponseOf before entry response
Responds before (entry ∷ entries) (suc i) response = (mid : Standing) × After before entry mid × Responds mid entries i response

abbrev pub Response : List LogEntry → ℕ → List ℕ → Type 0
Response log i response = Responds at_power_on log i response
