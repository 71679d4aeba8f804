-- how far the instrument is with an ask: its message, its execution, and the piece of its response that was requested
use Rattle.std.specs.Prelude.{◌≡◌, ◌≢◌, ◌⊎◌, ℕ, ◌≤◌, true, false, List, [], ◌∷◌, ◌++◌, length, Option, Some, None}
use Rattle.tmc_wire.specs.declared.header.OutHeader.{OutHeader}
use Rattle.tmc_wire.specs.declared.header.OutHeader.TheVariants.{Message, Request, Trigger}
use Rattle.instr_plain.specs.declared.log.LogEntry.{LogEntry}
use Rattle.instr_plain.specs.declared.log.LogEntry.TheVariants.{Exec}
use Rattle.instr_plain.specs.Log.{Response}
use Rattle.tmc_law.specs.State.{State, Waiting, Piece, Idle, Owed, Sending}
use Rattle.tmc_law.specs.Logging.{unread}
use Rattle.tmc_law.specs.BulkIn.{piece_bytes}
use Rattle.host_joint.specs.Jobs.{Job, last_header, data_in}
use Rattle.host_joint.specs.Reads.{Flow, Still, Giving, Over, Torn}

-- no message was executed under this number
abbrev pub NoExec : ℕ → List LogEntry → Type 0
NoExec n [] = Unit {0}
NoExec n (Exec seq message ∷ entries) = (seq ≢ n) × NoExec n entries
NoExec n (_ ∷ entries) = NoExec n entries

-- exactly one message was executed under this number; it is this one, and had this response
pub record Ran (n : ℕ) (message response : List ℕ) (log : List LogEntry) : Type 0 where
  pub before : List LogEntry
  pub behind : List LogEntry
  pub whole : log ≡ before ++ Exec n message ∷ behind
  pub none_before : NoExec n before
  pub none_behind : NoExec n behind
  pub responds : Response log (length before) response

-- a request, of this tag for at most so many bytes, comes yet, or none
pub data Asks (tag size : ℕ) (todo : List Job) : Type 0 where
  NoneComes : todo ≡ [] → Asks tag size todo
  OneComes : (job : Job) → todo ≡ job ∷ [] → job.header ≡ Request tag size → Asks tag size todo

-- the next transfer is a part of the message, or the last one
pub data NextPart (last tag size : ℕ) (rest : List ℕ) (job : Job) (jobs : List Job) (Further : List ℕ → Type 0) : Type 0 where
  Inner : (t n : ℕ) (more : List ℕ) → job.header ≡ Message t n false → rest ≡ job.message ++ more → Further more → NextPart last tag size rest job jobs Further
  Final : (t n : ℕ) → job.header ≡ Message t n true → rest ≡ job.message → job.head.seqnum ≡ last → Asks tag size jobs → NextPart last tag size rest job jobs Further

-- these transfers carry the rest of a message, as far as they go, and the request behind it
abbrev pub Carries : (last tag size : ℕ) → List ℕ → List Job → Type 0
Carries last tag size rest [] = Unit {0}
Carries last tag size rest (job ∷ jobs) = NextPart last tag size rest job jobs (λ more. Carries last tag size more jobs)

-- no message waits, or one of another number
abbrev pub IsAnother : ℕ → Option Waiting → Type 0
IsAnother n None = Unit {0}
IsAnother n (Some waiting) = waiting.seq ≢ n

-- the last transfer that was taken: a part of the message that goes on, or none; or its last part
abbrev pub IsInner : Option OutHeader → Type 0
IsInner None = Unit {0}
IsInner (Some (Message tag size false)) = Unit {0}
IsInner (Some (Message tag size true)) = ⊥
IsInner (Some (Request tag size)) = ⊥
IsInner (Some (Trigger tag)) = ⊥

abbrev pub IsFinal : Option OutHeader → Type 0
IsFinal None = ⊥
IsFinal (Some (Message tag size false)) = ⊥
IsFinal (Some (Message tag size true)) = Unit {0}
IsFinal (Some (Request tag size)) = ⊥
IsFinal (Some (Trigger tag)) = ⊥

-- the whole message was taken and no piece requested; or pieces of the response were read, and none was requested again
abbrev pub IsUnasked : List Job → (sofar : List ℕ) → Type 0
IsUnasked past sofar = IsFinal (last_header past) ⊎ ((past ≡ []) × (sofar ≢ []))

-- where a request comes and pieces were read, there is more of the response
abbrev pub Further : List Job → List ℕ → List ℕ → Type 0
Further todo sofar response = todo ≢ [] → sofar ≢ [] → sofar ≢ response

-- Where the instrument is with the ask whose message is ended by the submit `last`, and whose next request has this tag and
-- asks for at most so many bytes. `past` are the transfers that the device took whole since the last piece was read to its end,
-- `todo` those that it will take yet; `sofar` is the data of the pieces that the host has read to their end, and `flow` is how
-- far the next one was given. Where a piece was read and another is or will be requested, the response is longer than `sofar`.
pub data Stage (last : ℕ) (message : List ℕ) (tag size : ℕ) (past todo : List Job) (sofar : List ℕ) (flow : Flow) (s : State) : Type 0 where
  -- the message of an earlier ticket, of another number, waits for execution yet; of this one nothing was taken whole
  Follows : (seq : ℕ) (earlier : List ℕ) → s.waiting ≡ Some (record { seq = seq; message = earlier }) → seq ≢ last → s.part ≡ [] → s.side ≡ Idle
      → NoExec last s.log → sofar ≡ [] → flow ≡ Still → Carries last tag size message todo → last_header past ≡ None → Stage last message tag size past todo sofar flow s
  -- no message waits; the parts that were taken make the first of the message, and those that come carry its rest
  Gathers : (done rest : List ℕ) → message ≡ done ++ rest → s.waiting ≡ None → s.part ≡ done → s.side ≡ Idle
      → NoExec last s.log → sofar ≡ [] → flow ≡ Still → Carries last tag size rest todo → IsInner (last_header past) → done ≡ data_in past → Stage last message tag size past todo sofar flow s
  -- the whole message waits for execution under its number; what comes yet is at most the request
  Waits : s.waiting ≡ Some (record { seq = last; message = message }) → s.part ≡ [] → s.side ≡ Idle
      → NoExec last s.log → sofar ≡ [] → flow ≡ Still → Asks tag size todo → IsFinal (last_header past) → Stage last message tag size past todo sofar flow s
  -- it was executed once under its number; no piece is requested, and what is unread goes on where the read pieces ended
  Rests : (response : List ℕ) → s.waiting ≡ None → s.part ≡ [] → s.side ≡ Idle → Ran last message response s.log → response ≡ sofar ++ unread s
      → flow ≡ Still → Asks tag size todo → IsUnasked past sofar → Further todo sofar response → Stage last message tag size past todo sofar flow s
  -- a piece is requested with this tag and size, and has not begun
  Owes : (response : List ℕ) → s.waiting ≡ None → s.part ≡ [] → s.side ≡ Owed tag size → Ran last message response s.log → response ≡ sofar ++ unread s
      → flow ≡ Still → todo ≡ [] → last_header past ≡ Some (Request tag size) → (sofar ≢ [] → sofar ≢ response) → Stage last message tag size past todo sofar flow s
  -- a piece is sent: it carries the next bytes of the response, of which these bytes of its transfer were given
  Sends : (response carried bytes : List ℕ) (piece : Piece) → s.waiting ≡ None → s.part ≡ [] → s.side ≡ Sending piece → Ran last message response s.log
      → response ≡ sofar ++ (carried ++ unread s) → flow ≡ Giving bytes → (1 ≤ length carried) × (length carried ≤ size)
      → piece_bytes tag (length carried) (carried ++ unread s) ≡ bytes ++ piece.left → todo ≡ [] → piece.tag ≡ tag → last_header past ≡ Some (Request tag size) → Stage last message tag size past todo sofar flow s
  -- all bytes of its transfer were given, and the Bulk-IN transfer is over
  Sent : (response carried bytes : List ℕ) → s.waiting ≡ None → s.part ≡ [] → s.side ≡ Idle → Ran last message response s.log
      → response ≡ sofar ++ (carried ++ unread s) → flow ≡ Over bytes → (1 ≤ length carried) × (length carried ≤ size)
      → piece_bytes tag (length carried) (carried ++ unread s) ≡ bytes → todo ≡ [] → last_header past ≡ Some (Request tag size) → Stage last message tag size past todo sofar flow s
  -- the first bytes of its transfer were given, and Bulk-IN halted, which dropped the others
  Tears : (response carried bytes dropped : List ℕ) → s.waiting ≡ None → s.part ≡ [] → s.side ≡ Idle → Ran last message response s.log
      → response ≡ sofar ++ (carried ++ unread s) → flow ≡ Torn bytes → (1 ≤ length carried) × (length carried ≤ size)
      → piece_bytes tag (length carried) (carried ++ unread s) ≡ bytes ++ dropped → todo ≡ [] → last_header past ≡ Some (Request tag size) → Stage last message tag size past todo sofar flow s
  -- Bulk-OUT halted before the message was whole: it is executed never
  Barred : s.halted.bulk_out ≡ true → IsAnother last s.waiting → s.part ≡ [] → s.side ≡ Idle → NoExec last s.log → sofar ≡ [] → flow ≡ Still → todo ≡ [] → IsInner (last_header past) → Stage last message tag size past todo sofar flow s
  -- a piece was requested, and Bulk-IN halted before it began, which dropped the request
  Dropped : (response : List ℕ) → s.halted.bulk_in ≡ true → s.waiting ≡ None → s.part ≡ [] → s.side ≡ Idle → Ran last message response s.log → response ≡ sofar ++ unread s
      → flow ≡ Still → todo ≡ [] → last_header past ≡ Some (Request tag size) → Stage last message tag size past todo sofar flow s
