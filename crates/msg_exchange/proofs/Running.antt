-- the message that waits is executed
use Rattle.std.proofs.Common.{◌≡◌, ◌∙◌, ℕ, List, [], ◌∷◌, ◌++◌, take, Option, Some, None, refl, ap, sym, subst}
use Rattle.instr_plain.specs.declared.log.LogEntry.{LogEntry}
use Rattle.instr_plain.specs.declared.log.LogEntry.TheVariants as entry
use Rattle.instr_plain.specs.Standing.{Standing}
use Rattle.instr_plain.specs.Log.{After}
use Rattle.tmc_law.specs.State.{State}
use Rattle.tmc_law.specs.BulkOut.{Executes, DoesExecute}
use Rattle.msg_exchange.specs.Held.{Held, Holds, led_to}
use Rattle.msg_exchange.proofs.Accepting.{kept}
use Rattle.msg_exchange.proofs.Logging.{logs}

pub runs : (s : State) (held : Held) (ended_by : Option ℕ) (seq size : ℕ) (bytes message read left : List ℕ) (log more : List LogEntry) (before after : Standing)
    → Holds s held → kept ended_by size bytes log before ≡ held → ended_by ≡ Some seq → message ≡ take size bytes → read ≡ take size bytes → left ≡ [] → more ≡ log ++ entry.Exec seq message ∷ []
    → After before (entry.Exec seq read) after → Executes s (led_to s (record { part = left; waiting = None; log = more; standing = after }))
runs s held ended_by seq size bytes message read left log more before after holds view ended same_message same_read none grown leads =
    let at : Holds s (kept (Some seq) size bytes log before) = subst (λ (o : Option ℕ). Holds s (kept o size bytes log before)) ended (subst (λ (h : Held). Holds s h) (sym view) holds) in
    DoesExecute seq (take size bytes) at.waiting
    (logs (entry.Exec seq (take size bytes)) (record s { waiting = None }) (record { part = left; waiting = None; log = more; standing = after }) (at.part ∙ sym none) refl
    (grown ∙ ap (λ (m : List ℕ). log ++ entry.Exec seq m ∷ []) same_message ∙ ap (λ (l : List LogEntry). l ++ entry.Exec seq (take size bytes) ∷ []) (sym at.log))
    (subst (λ (v : Standing). After v (entry.Exec seq (take size bytes)) after) (sym at.standing) (subst (λ (m : List ℕ). After before (entry.Exec seq m) after) same_read leads)))
