-- an entry is logged in the state of a device
use Rattle.std.proofs.Common.{◌≡◌, ◌∙◌, ℕ, List, [], ◌∷◌, ◌++◌, Option, ap, sym, subst}
use Rattle.instr_plain.specs.declared.log.LogEntry.{LogEntry}
use Rattle.instr_plain.specs.Standing.{Standing}
use Rattle.instr_plain.specs.Log.{After}
use Rattle.tmc_law.specs.State.{State, Waiting}
use Rattle.tmc_law.specs.Logging.{Logs, with_service}
use Rattle.msg_exchange.specs.Held.{Held, Holds, led_to}

-- the state with these parts and those
same_state : (w : State) (standing : Standing) (p q : List ℕ) (a b : Option Waiting) (l m : List LogEntry) → p ≡ q → a ≡ b → l ≡ m
    → record w { part = p; waiting = a; log = l; standing = standing; packets = with_service w.standing standing w.packets }
    ≡ record w { part = q; waiting = b; log = m; standing = standing; packets = with_service w.standing standing w.packets }
same_state w standing p q a b l m part waiting log =
    ap (λ (x : List ℕ). record w { part = x; waiting = a; log = l; standing = standing; packets = with_service w.standing standing w.packets }) part
    ∙ ap (λ (x : Option Waiting). record w { part = q; waiting = x; log = l; standing = standing; packets = with_service w.standing standing w.packets }) waiting
    ∙ ap (λ (x : List LogEntry). record w { part = q; waiting = b; log = x; standing = standing; packets = with_service w.standing standing w.packets }) log

pub logs : (e : LogEntry) (w : State) (new : Held) → w.part ≡ new.part → w.waiting ≡ new.waiting → new.log ≡ w.log ++ e ∷ [] → After w.standing e new.standing
    → Logs e w (led_to w new)
logs e w new part waiting log after = record {
  standing = new.standing;
  after = after;
  is = same_state w new.standing new.part w.part new.waiting w.waiting new.log (w.log ++ e ∷ []) (sym part) (sym waiting) log;
}

-- the same from what the exchange held before
pub logs_held : (e : LogEntry) (s : State) (old new : Held) → Holds s old → new.part ≡ old.part → new.waiting ≡ old.waiting → new.log ≡ old.log ++ e ∷ []
    → After old.standing e new.standing → Logs e s (led_to s new)
logs_held e s old new holds part waiting log after =
    logs e s new (holds.part ∙ sym part) (holds.waiting ∙ sym waiting) (log ∙ ap (λ (l : List LogEntry). l ++ e ∷ []) (sym holds.log))
    (subst (λ (v : Standing). After v e new.standing) (sym holds.standing) after)
