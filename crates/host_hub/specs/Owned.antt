-- whose response the bytes of a ticket are
use Rattle.std.specs.Prelude.{◌≡◌, ◌≢◌, ◌⊎◌, ℕ, ◌<◌, ◌≤◌, List, [], ◌∷◌, ◌++◌, length, take}
use Rattle.instr_plain.specs.declared.log.LogEntry.{LogEntry}
use Rattle.instr_plain.specs.declared.log.LogEntry.TheVariants.{Exec}
use Rattle.instr_plain.specs.Log.{Response}
use Rattle.host_hub.specs.declared.kind.Kind.TheVariants as kind
use Rattle.host_hub.specs.declared.outcome.Outcome.TheVariants as outcome
use Rattle.host_hub.specs.BookSeen.{Seen}

-- no message was executed under this number
abbrev pub NoExec : ℕ → List LogEntry → Type 0
NoExec n [] = Unit {0}
NoExec n (Exec seq message ∷ entries) = (seq ≢ n) × NoExec n entries
NoExec n (_ ∷ entries) = NoExec n entries

-- exactly one message was executed under this number; it is this one, and had this response
pub record Executed (n : ℕ) (message response : List ℕ) (log : List LogEntry) : Type 0 where
  pub before : List LogEntry
  pub behind : List LogEntry
  pub whole : log ≡ before ++ Exec n message ∷ behind
  pub none_before : NoExec n before
  pub none_behind : NoExec n behind
  pub responds : Response log (length before) response

abbrev pub IsFront : List ℕ → List ℕ → Type 0
IsFront front all = (rest : List ℕ) × (all ≡ front ++ rest)

-- the ticket's message was executed once, under its number, with a response of which this is true
abbrev pub WasExecuted : Seen → List LogEntry → (List ℕ → Type 0) → Type 0
WasExecuted seen log Is = (response : List ℕ) × Executed seen.last seen.message response log × Is response

-- The bytes never pass the limit. They are none, or a front of the response that the log gives to the ticket's own message;
-- of one that is complete they are all of it, and of one that reached its limit the first bytes of a longer one. A ticket
-- that is no ask has no bytes.
pub record Owned (seen : Seen) (log : List LogEntry) : Type 0 where
  pub within : length seen.bytes ≤ seen.limit
  pub front : (seen.bytes ≡ []) ⊎ WasExecuted seen log (λ response. IsFront seen.bytes response)
  pub complete : seen.outcome ≡ outcome.Complete → WasExecuted seen log (λ response. (response ≢ []) × (seen.bytes ≡ response))
  pub limited : seen.outcome ≡ outcome.Limit → WasExecuted seen log (λ response. (seen.limit < length response) × (seen.bytes ≡ take seen.limit response))
  pub others : seen.kind ≢ kind.Ask → seen.bytes ≡ []
