-- the stage of an ask under each move
use Rattle.std.proofs.Common.{◌≡◌, ◌∙◌, ◌≢◌, ℕ, ◌≤◌, Bool, true, false, inl, List, [], ◌∷◌, ◌++◌, length, take, drop, Option, Some, None, refl, ap, sym, subst, append_assoc, append-nil, length-append, length-take, take-append-drop, arith}
use Rattle.tmc_wire.specs.declared.header.OutHeader.{OutHeader}
use Rattle.tmc_wire.specs.declared.header.OutHeader.TheVariants.{Message, Request, Trigger}
use Rattle.instr_plain.specs.declared.log.LogEntry.{LogEntry}
use Rattle.instr_plain.specs.declared.log.LogEntry.TheVariants as entry
use Rattle.instr_plain.specs.Standing.{Standing}
use Rattle.instr_plain.specs.Log.{Stands}
use Rattle.tmc_wire.specs.Transfer.{data_size}
use Rattle.tmc_law.specs.State.{State, Pending, Waiting, Piece, Side, Idle, Owed, Sending}
use Rattle.tmc_law.specs.Logging.{unread}
use Rattle.tmc_law.specs.BulkOut as out
use Rattle.tmc_law.specs.BulkOut.{TakesEffect, Interrupts, Executes, message_most}
use Rattle.tmc_law.specs.BulkIn as «in»
use Rattle.tmc_law.specs.BulkIn.{Begins, Fills, piece_bytes, given}
use Rattle.host_joint.specs.Jobs.{Job, IsJob, AllJobs, transfer_of, data_in}
use Rattle.host_joint.proofs.Taking.{Suits, MayBegin}
use Rattle.host_joint.specs.Reads.{Flow, Still, Giving, Over}
use Rattle.host_joint.specs.Stage.{NoExec, Ran, Asks, NoneComes, OneComes, NextPart, Inner, Final, Carries, Stage, Follows, Gathers, Waits, Rests, Owes, Sends, Sent, Tears, Barred, Dropped, IsAnother, IsInner, IsFinal}
use Rattle.tmc_law.specs.Endpoint.{BulkOut, BulkIn}
use Rattle.tmc_law.specs.Halts.{halts}
use Rattle.host_joint.proofs.Filling.{torn}
use Rattle.host_joint.proofs.Listing.{last_more, last_none, data-more}
use Rattle.host_joint.proofs.Logged.{noexec-append, ran_more, ran_last, one_text}

-- what a stage reads of a state is the same in both
pub record SameStage (s t : State) : Type 0 where
  pub waiting : t.waiting ≡ s.waiting
  pub part : t.part ≡ s.part
  pub side : t.side ≡ s.side
  pub log : t.log ≡ s.log
  pub unread : unread t ≡ unread s
  pub shut : t.halted.bulk_out ≡ s.halted.bulk_out
  pub in_shut : t.halted.bulk_in ≡ s.halted.bulk_in

no_job : {B : Type 0} (job : Job) (rest todo : List Job) → todo ≡ [] → todo ≡ job ∷ rest → B
no_job job rest todo none some = let e : [] ≡ job ∷ rest = sym none ∙ some in absurd (cc)

one_job : (a b : Job) (xs ys : List Job) → a ∷ xs ≡ b ∷ ys → (a ≡ b) × (xs ≡ ys)
one_job a b xs ys e = (cc, cc)

some_wait : {B : Type 0} (w : Waiting) (o : Option Waiting) → o ≡ None → o ≡ Some w → B
some_wait w o none some = let e : None ≡ Some w = sym none ∙ some in absurd (cc)

one_wait : (a b : Waiting) → Some a ≡ Some b → a ≡ b
one_wait a b e = cc

-- ---- a stage that nothing touches

pub stage_same : (last : ℕ) (message : List ℕ) (tag size : ℕ) (past : List Job) (todo : List Job) (sofar : List ℕ) (flow : Flow) (s t : State) → SameStage s t
    → Stage last message tag size past todo sofar flow s → Stage last message tag size past todo sofar flow t
stage_same last message tag size past todo sofar flow s t same (Follows seq earlier waits other part idle none empty still carries at) =
    Follows seq earlier (same.waiting ∙ waits) other (same.part ∙ part) (same.side ∙ idle) (subst (λ (l : List LogEntry). NoExec last l) (sym same.log) none) empty still carries at
stage_same last message tag size past todo sofar flow s t same (Gathers done rest whole waits part idle none empty still carries at own) =
    Gathers done rest whole (same.waiting ∙ waits) (same.part ∙ part) (same.side ∙ idle) (subst (λ (l : List LogEntry). NoExec last l) (sym same.log) none) empty still carries at own
stage_same last message tag size past todo sofar flow s t same (Waits waits part idle none empty still asks at) =
    Waits (same.waiting ∙ waits) (same.part ∙ part) (same.side ∙ idle) (subst (λ (l : List LogEntry). NoExec last l) (sym same.log) none) empty still asks at
stage_same last message tag size past todo sofar flow s t same (Rests response waits part idle ran all still asks at further) =
    Rests response (same.waiting ∙ waits) (same.part ∙ part) (same.side ∙ idle) (subst (λ (l : List LogEntry). Ran last message response l) (sym same.log) ran)
    (all ∙ ap (λ (l : List ℕ). sofar ++ l) (sym same.unread)) still asks at further
stage_same last message tag size past todo sofar flow s t same (Owes response waits part owed ran all still none at further) =
    Owes response (same.waiting ∙ waits) (same.part ∙ part) (same.side ∙ owed) (subst (λ (l : List LogEntry). Ran last message response l) (sym same.log) ran)
    (all ∙ ap (λ (l : List ℕ). sofar ++ l) (sym same.unread)) still none at further
stage_same last message tag size past todo sofar flow s t same (Sends response carried bytes piece waits part sends ran all giving fits text none own at) =
    Sends response carried bytes piece (same.waiting ∙ waits) (same.part ∙ part) (same.side ∙ sends) (subst (λ (l : List LogEntry). Ran last message response l) (sym same.log) ran)
    (all ∙ ap (λ (l : List ℕ). sofar ++ (carried ++ l)) (sym same.unread)) giving fits
    (ap (λ (l : List ℕ). piece_bytes tag (length carried) (carried ++ l)) same.unread ∙ text) none own at
stage_same last message tag size past todo sofar flow s t same (Sent response carried bytes waits part idle ran all over fits text none at) =
    Sent response carried bytes (same.waiting ∙ waits) (same.part ∙ part) (same.side ∙ idle) (subst (λ (l : List LogEntry). Ran last message response l) (sym same.log) ran)
    (all ∙ ap (λ (l : List ℕ). sofar ++ (carried ++ l)) (sym same.unread)) over fits
    (ap (λ (l : List ℕ). piece_bytes tag (length carried) (carried ++ l)) same.unread ∙ text) none at
stage_same last message tag size past todo sofar flow s t same (Tears response carried bytes dropped waits part idle ran all torn fits text none at) =
    Tears response carried bytes dropped (same.waiting ∙ waits) (same.part ∙ part) (same.side ∙ idle) (subst (λ (l : List LogEntry). Ran last message response l) (sym same.log) ran)
    (all ∙ ap (λ (l : List ℕ). sofar ++ (carried ++ l)) (sym same.unread)) torn fits
    (ap (λ (l : List ℕ). piece_bytes tag (length carried) (carried ++ l)) same.unread ∙ text) none at
stage_same last message tag size past todo sofar flow s t same (Barred shuts another part idle none empty still over at) =
    Barred (same.shut ∙ shuts) (subst (λ (o : Option Waiting). IsAnother last o) (sym same.waiting) another) (same.part ∙ part) (same.side ∙ idle) (subst (λ (l : List LogEntry). NoExec last l) (sym same.log) none) empty still over at
stage_same last message tag size past todo sofar flow s t same (Dropped response closed waits part idle ran all still none at) =
    Dropped response (same.in_shut ∙ closed) (same.waiting ∙ waits) (same.part ∙ part) (same.side ∙ idle) (subst (λ (l : List LogEntry). Ran last message response l) (sym same.log) ran)
    (all ∙ ap (λ (l : List ℕ). sofar ++ l) (sym same.unread)) still none at

-- ---- execution

pub stage_executes : (last : ℕ) (message : List ℕ) (tag size : ℕ) (past : List Job) (todo : List Job) (sofar : List ℕ) (flow : Flow) (s t : State) → Stands s.log s.standing → Executes s t
    → Stage last message tag size past todo sofar flow s → Stage last message tag size past todo sofar flow t
stage_executes last message tag size past todo sofar flow s t stands (out.DoesExecute n text is logs) (Follows seq earlier waits other part idle none empty still carries at) =
    let same : n ≡ seq = ap (λ (w : Waiting). w.seq) (one_wait (record { seq = n; message = text }) (record { seq = seq; message = earlier }) (sym is ∙ waits)) in
    Gathers [] message refl (ap (λ (x : State). x.waiting) logs.is) (ap (λ (x : State). x.part) logs.is ∙ part) (ap (λ (x : State). x.side) logs.is ∙ idle)
    (subst (λ (l : List LogEntry). NoExec last l) (sym (ap (λ (x : State). x.log) logs.is)) (noexec-append last s.log (entry.Exec n text ∷ []) none ((λ e. other (sym same ∙ e)), tt)))
    empty still carries (subst (λ (o : Option OutHeader). IsInner o) (sym at) tt) (sym (ap data_in (last_none past at)))
stage_executes last message tag size past todo sofar flow s t stands (out.DoesExecute n text is logs) (Waits waits part idle none empty still asks at) =
    let same = one_wait (record { seq = n; message = text }) (record { seq = last; message = message }) (sym is ∙ waits) in
    let number : n ≡ last = ap (λ (w : Waiting). w.seq) same in
    let words : text ≡ message = ap (λ (w : Waiting). w.message) same in
    let ran : Ran n text logs.standing.unread (s.log ++ entry.Exec n text ∷ []) = ran_last n text s.log s.standing logs.standing stands logs.after (subst (λ (k : ℕ). NoExec k s.log) (sym number) none) in
    let mine : Ran last message logs.standing.unread (s.log ++ entry.Exec n text ∷ []) =
    subst (λ (m : List ℕ). Ran last m logs.standing.unread (s.log ++ entry.Exec n text ∷ [])) words
    (subst (λ (k : ℕ). Ran k text logs.standing.unread (s.log ++ entry.Exec n text ∷ [])) number ran) in
    Rests logs.standing.unread (ap (λ (x : State). x.waiting) logs.is) (ap (λ (x : State). x.part) logs.is ∙ part) (ap (λ (x : State). x.side) logs.is ∙ idle)
    (subst (λ (l : List LogEntry). Ran last message logs.standing.unread l) (sym (ap (λ (x : State). x.log) logs.is)) mine)
    (sym (ap (λ (x : State). x.standing.unread) logs.is) ∙ ap (λ (l : List ℕ). l ++ unread t) (sym empty)) still asks (inl at) (λ some more. absurd (more empty))
stage_executes last message tag size past todo sofar flow s t stands (out.DoesExecute n text is logs) (Gathers done rest whole waits part idle none empty still carries at own) = some_wait _ _ waits is
stage_executes last message tag size past todo sofar flow s t stands (out.DoesExecute n text is logs) (Rests response waits part idle ran all still asks at further) = some_wait _ _ waits is
stage_executes last message tag size past todo sofar flow s t stands (out.DoesExecute n text is logs) (Owes response waits part owed ran all still none at further) = some_wait _ _ waits is
stage_executes last message tag size past todo sofar flow s t stands (out.DoesExecute n text is logs) (Sends response carried bytes piece waits part sends ran all giving fits bits none own at) = some_wait _ _ waits is
stage_executes last message tag size past todo sofar flow s t stands (out.DoesExecute n text is logs) (Sent response carried bytes waits part idle ran all over fits bits none at) = some_wait _ _ waits is
stage_executes last message tag size past todo sofar flow s t stands (out.DoesExecute n text is logs) (Tears response carried bytes dropped waits part idle ran all torn fits bits none at) = some_wait _ _ waits is
stage_executes last message tag size past todo sofar flow s t stands (out.DoesExecute n text is logs) (Barred shuts another part idle none empty still over at) =
    let other : n ≢ last = subst (λ (o : Option Waiting). IsAnother last o) is another in
    Barred (ap (λ (x : State). x.halted.bulk_out) logs.is ∙ shuts) (subst (λ (o : Option Waiting). IsAnother last o) (sym (ap (λ (x : State). x.waiting) logs.is)) tt) (ap (λ (x : State). x.part) logs.is ∙ part) (ap (λ (x : State). x.side) logs.is ∙ idle)
    (subst (λ (l : List LogEntry). NoExec last l) (sym (ap (λ (x : State). x.log) logs.is)) (noexec-append last s.log (entry.Exec n text ∷ []) none (other, tt))) empty still over at
stage_executes last message tag size past todo sofar flow s t stands (out.DoesExecute n text is logs) (Dropped response closed waits part idle ran all still none at) = some_wait _ _ waits is

-- ---- a piece

idle_owes : {B : Type 0} (side : Side) (tag size : ℕ) → side ≡ Idle → side ≡ Owed tag size → B
idle_owes side tag size idle owed = let e : Idle ≡ Owed tag size = sym idle ∙ owed in absurd (cc)

sends_owes : {B : Type 0} (side : Side) (tag size : ℕ) (piece : Piece) → side ≡ Sending piece → side ≡ Owed tag size → B
sends_owes side tag size piece sends owed = let e : Sending piece ≡ Owed tag size = sym sends ∙ owed in absurd (cc)

idle_sends : {B : Type 0} (side : Side) (piece : Piece) → side ≡ Idle → side ≡ Sending piece → B
idle_sends side piece idle sends = let e : Idle ≡ Sending piece = sym idle ∙ sends in absurd (cc)

one_owed : (a b c d : ℕ) → Owed a b ≡ Owed c d → (a ≡ c) × (b ≡ d)
one_owed a b c d e = (cc, cc)

one_piece : (a b : Piece) → Sending a ≡ Sending b → a ≡ b
one_piece a b e = cc

one_giving : (a b : List ℕ) → Giving a ≡ Giving b → a ≡ b
one_giving a b e = cc

pub stage_begins : (last : ℕ) (message : List ℕ) (tag size : ℕ) (past : List Job) (todo : List Job) (sofar : List ℕ) (flow : Flow) (s t : State) (count : ℕ) → Begins s count t
    → Stage last message tag size past todo sofar flow s → (flow ≡ Still) × Stage last message tag size past todo sofar (Giving []) t
stage_begins last message tag size past todo sofar flow s t count («in».DoesBegin g n owes free low high logs) (Owes response waits part owed ran all still none at further) =
    let one = one_owed g n tag size (sym owes ∙ owed) in
    let carried : List ℕ = take count (unread s) in
    let left : unread t ≡ drop count (unread s) = ap (λ (x : State). x.standing.unread) logs.is ∙ ap (λ (x : Standing). x.unread) logs.after in
    let whole : carried ++ unread t ≡ unread s = ap (λ (l : List ℕ). carried ++ l) left ∙ take-append-drop count (unread s) in
    let long : length carried ≡ count = length-take count (unread s) ∙ omega (arith, high) in (
      still,
      Sends response carried [] (record { tag = g; size = count; left = piece_bytes g count (unread s) })
          (ap (λ (x : State). x.waiting) logs.is ∙ waits) (ap (λ (x : State). x.part) logs.is ∙ part) (ap (λ (x : State). x.side) logs.is)
          (subst (λ (l : List LogEntry). Ran last message response l) (sym (ap (λ (x : State). x.log) logs.is)) (ran_more last message response s.log (entry.Took count) tt ran))
          (all ∙ ap (λ (l : List ℕ). sofar ++ l) (sym whole)) refl (omega (arith, long, low), omega (arith, long, high, one.1))
          (ap (λ (k : ℕ). piece_bytes tag k (carried ++ unread t)) long ∙ ap (λ (l : List ℕ). piece_bytes tag count l) whole ∙ ap (λ (k : ℕ). piece_bytes k count (unread s)) (sym one.0)) none one.0 at,
    )
stage_begins last message tag size past todo sofar flow s t count («in».DoesBegin g n owes free low high logs) (Follows seq earlier waits other part idle none empty still carries at) = idle_owes _ _ _ idle owes
stage_begins last message tag size past todo sofar flow s t count («in».DoesBegin g n owes free low high logs) (Gathers done rest whole waits part idle none empty still carries at own) = idle_owes _ _ _ idle owes
stage_begins last message tag size past todo sofar flow s t count («in».DoesBegin g n owes free low high logs) (Waits waits part idle none empty still asks at) = idle_owes _ _ _ idle owes
stage_begins last message tag size past todo sofar flow s t count («in».DoesBegin g n owes free low high logs) (Rests response waits part idle ran all still asks at further) = idle_owes _ _ _ idle owes
stage_begins last message tag size past todo sofar flow s t count («in».DoesBegin g n owes free low high logs) (Sends response carried bytes piece waits part sends ran all giving fits text none own at) =
    sends_owes _ _ _ _ sends owes
stage_begins last message tag size past todo sofar flow s t count («in».DoesBegin g n owes free low high logs) (Sent response carried bytes waits part idle ran all over fits text none at) = idle_owes _ _ _ idle owes
stage_begins last message tag size past todo sofar flow s t count («in».DoesBegin g n owes free low high logs) (Tears response carried bytes dropped waits part idle ran all torn fits text none at) = idle_owes _ _ _ idle owes
stage_begins last message tag size past todo sofar flow s t count («in».DoesBegin g n owes free low high logs) (Barred shuts another part idle none empty still over at) = idle_owes _ _ _ idle owes
stage_begins last message tag size past todo sofar flow s t count («in».DoesBegin g n owes free low high logs) (Dropped response closed waits part idle ran all still none at) = idle_owes _ _ _ idle owes

-- what is sent is what is given
pub stage_sends : (last : ℕ) (message : List ℕ) (tag size : ℕ) (past : List Job) (todo : List Job) (sofar : List ℕ) (flow : Flow) (s : State) (piece : Piece) → s.side ≡ Sending piece
    → Stage last message tag size past todo sofar flow s → (bytes : List ℕ) × (flow ≡ Giving bytes)
stage_sends last message tag size past todo sofar flow s piece side (Follows seq earlier waits other part idle none empty still carries at) = idle_sends _ _ idle side
stage_sends last message tag size past todo sofar flow s piece side (Gathers done rest whole waits part idle none empty still carries at own) = idle_sends _ _ idle side
stage_sends last message tag size past todo sofar flow s piece side (Waits waits part idle none empty still asks at) = idle_sends _ _ idle side
stage_sends last message tag size past todo sofar flow s piece side (Rests response waits part idle ran all still asks at further) = idle_sends _ _ idle side
stage_sends last message tag size past todo sofar flow s piece side (Owes response waits part owed ran all still none at further) = sends_owes _ _ _ _ side owed
stage_sends last message tag size past todo sofar flow s piece side (Sends response carried bytes other waits part sends ran all giving fits text none own at) = (bytes, giving)
stage_sends last message tag size past todo sofar flow s piece side (Sent response carried bytes waits part idle ran all over fits text none at) = idle_sends _ _ idle side
stage_sends last message tag size past todo sofar flow s piece side (Tears response carried bytes dropped waits part idle ran all torn fits text none at) = idle_sends _ _ idle side
stage_sends last message tag size past todo sofar flow s piece side (Barred shuts another part idle none empty still over at) = idle_sends _ _ idle side
stage_sends last message tag size past todo sofar flow s piece side (Dropped response closed waits part idle ran all still none at) = idle_sends _ _ idle side

-- packets of it were given, and it goes on
pub stage_gives : (last : ℕ) (message : List ℕ) (tag size : ℕ) (past : List Job) (todo : List Job) (sofar bytes : List ℕ) (s t : State) (piece : Piece) (queue : List Pending) (n : ℕ) → s.side ≡ Sending piece
    → t ≡ record s { bulk_in = queue; side = Sending (given n piece) } → Stage last message tag size past todo sofar (Giving bytes) s
    → Stage last message tag size past todo sofar (Giving (bytes ++ take n piece.left)) t
stage_gives last message tag size past todo sofar bytes s t piece queue n side is (Sends response carried gone other waits part sends ran all giving fits text none own at) =
    let one : other ≡ piece = one_piece other piece (sym sends ∙ side) in
    let known : bytes ≡ gone = one_giving bytes gone giving in
    subst (λ (x : State). Stage last message tag size past todo sofar (Giving (bytes ++ take n piece.left)) x) (sym is)
    (Sends response carried (bytes ++ take n piece.left) (given n piece) waits part refl ran all refl fits
    (text ∙ ap (λ (l : List ℕ). l ++ other.left) (sym known) ∙ ap (λ (x : Piece). bytes ++ x.left) one ∙ ap (λ (l : List ℕ). bytes ++ l) (sym (take-append-drop n piece.left))
    ∙ sym (append_assoc bytes (take n piece.left) (drop n piece.left))) none (ap (λ (x : Piece). x.tag) (sym one) ∙ own) at)
stage_gives last message tag size past todo sofar bytes s t piece queue n side is (Follows seq earlier waits other part idle none empty still carries at) = idle_sends _ _ idle side
stage_gives last message tag size past todo sofar bytes s t piece queue n side is (Gathers done rest whole waits part idle none empty still carries at own) = idle_sends _ _ idle side
stage_gives last message tag size past todo sofar bytes s t piece queue n side is (Waits waits part idle none empty still asks at) = idle_sends _ _ idle side
stage_gives last message tag size past todo sofar bytes s t piece queue n side is (Rests response waits part idle ran all still asks at further) = idle_sends _ _ idle side
stage_gives last message tag size past todo sofar bytes s t piece queue n side is (Owes response waits part owed ran all still none at further) = sends_owes _ _ _ _ side owed
stage_gives last message tag size past todo sofar bytes s t piece queue n side is (Sent response carried gone waits part idle ran all over fits text none at) = idle_sends _ _ idle side
stage_gives last message tag size past todo sofar bytes s t piece queue n side is (Tears response carried gone dropped waits part idle ran all torn fits text none at) = idle_sends _ _ idle side
stage_gives last message tag size past todo sofar bytes s t piece queue n side is (Barred shuts another part idle none empty still over at) = idle_sends _ _ idle side
stage_gives last message tag size past todo sofar bytes s t piece queue n side is (Dropped response closed waits part idle ran all still none at) = idle_sends _ _ idle side

-- its last packet was given
pub stage_ends : (last : ℕ) (message : List ℕ) (tag size : ℕ) (past : List Job) (todo : List Job) (sofar bytes : List ℕ) (s t : State) (piece : Piece) (queue : List Pending) → s.side ≡ Sending piece
    → t ≡ record s { bulk_in = queue; side = Idle } → Stage last message tag size past todo sofar (Giving bytes) s → Stage last message tag size past todo sofar (Over (bytes ++ piece.left)) t
stage_ends last message tag size past todo sofar bytes s t piece queue side is (Sends response carried gone other waits part sends ran all giving fits text none own at) =
    let one : other ≡ piece = one_piece other piece (sym sends ∙ side) in
    let known : bytes ≡ gone = one_giving bytes gone giving in
    subst (λ (x : State). Stage last message tag size past todo sofar (Over (bytes ++ piece.left)) x) (sym is)
    (Sent response carried (bytes ++ piece.left) waits part refl ran all refl fits
    (text ∙ ap (λ (l : List ℕ). l ++ other.left) (sym known) ∙ ap (λ (x : Piece). bytes ++ x.left) one) none at)
stage_ends last message tag size past todo sofar bytes s t piece queue side is (Follows seq earlier waits other part idle none empty still carries at) = idle_sends _ _ idle side
stage_ends last message tag size past todo sofar bytes s t piece queue side is (Gathers done rest whole waits part idle none empty still carries at own) = idle_sends _ _ idle side
stage_ends last message tag size past todo sofar bytes s t piece queue side is (Waits waits part idle none empty still asks at) = idle_sends _ _ idle side
stage_ends last message tag size past todo sofar bytes s t piece queue side is (Rests response waits part idle ran all still asks at further) = idle_sends _ _ idle side
stage_ends last message tag size past todo sofar bytes s t piece queue side is (Owes response waits part owed ran all still none at further) = sends_owes _ _ _ _ side owed
stage_ends last message tag size past todo sofar bytes s t piece queue side is (Sent response carried gone waits part idle ran all over fits text none at) = idle_sends _ _ idle side
stage_ends last message tag size past todo sofar bytes s t piece queue side is (Tears response carried gone dropped waits part idle ran all torn fits text none at) = idle_sends _ _ idle side
stage_ends last message tag size past todo sofar bytes s t piece queue side is (Barred shuts another part idle none empty still over at) = idle_sends _ _ idle side
stage_ends last message tag size past todo sofar bytes s t piece queue side is (Dropped response closed waits part idle ran all still none at) = idle_sends _ _ idle side

-- ---- a transfer takes effect

message_fits : (job : Job) (t n : ℕ) (eom : Bool) (done rest more message : List ℕ) → IsJob job → job.header ≡ Message t n eom → message ≡ done ++ rest → rest ≡ job.message ++ more
    → length message ≤ message_most → Suits done job.header
message_fits job t n eom done rest more message is header whole part short =
    subst (λ (h : OutHeader). Suits done h) (sym header)
    (omega (arith, short, ap (λ (l : List ℕ). length l) whole, ap (λ (l : List ℕ). length l) part, length-append done rest, length-append job.message more, size))
  where
    size : length job.message ≡ n
    size = is.text.counted ∙ ap data_size header

-- the first transfer may begin
pub may_begin : (last : ℕ) (message : List ℕ) (tag size : ℕ) (past : List Job) (todo : List Job) (sofar : List ℕ) (flow : Flow) (s : State) → AllJobs todo → length message ≤ message_most → s.waiting ≡ None
    → Stage last message tag size past todo sofar flow s → MayBegin todo s
may_begin last message tag size past todo sofar flow s jobs short free (Follows seq earlier waits other part idle none empty still carries at) job rest first = some_wait _ _ free waits
may_begin last message tag size past todo sofar flow s jobs short free (Waits waits part idle none empty still asks at) job rest first = some_wait _ _ free waits
may_begin last message tag size past todo sofar flow s jobs short free (Owes response waits part owed ran all still none at further) job rest first = no_job _ _ _ none first
may_begin last message tag size past todo sofar flow s jobs short free (Sends response carried bytes piece waits part sends ran all giving fits text none own at) job rest first = no_job _ _ _ none first
may_begin last message tag size past todo sofar flow s jobs short free (Sent response carried bytes waits part idle ran all over fits text none at) job rest first = no_job _ _ _ none first
may_begin last message tag size past todo sofar flow s jobs short free (Tears response carried bytes dropped waits part idle ran all torn fits text none at) job rest first = no_job _ _ _ none first
may_begin last message tag size past todo sofar flow s jobs short free (Barred shuts another part idle none empty still over at) job rest first = no_job _ _ _ over first
may_begin last message tag size past todo sofar flow s jobs short free (Dropped response closed waits part idle ran all still none at) job rest first = no_job _ _ _ none first
may_begin last message tag size past todo sofar flow s jobs short free (Rests response waits part idle ran all still (NoneComes none) at further) job rest first = no_job _ _ _ none first
may_begin last message tag size past todo sofar flow s jobs short free (Rests response waits part idle ran all still (OneComes job is header) at further) other rest first =
    (idle, subst (λ (h : OutHeader). Suits s.part h) (sym header ∙ ap (λ (j : Job). j.header) (one_job job other [] rest (sym is ∙ first)).0) part)
may_begin last message tag size past todo sofar flow s jobs short free (Gathers done rest whole waits part idle none empty still carries at own) job jobs' first =
    (idle, subst (λ (p : List ℕ). Suits p job.header) (sym part) (by (subst (λ (l : List Job). Carries last tag size rest l) first carries)))
  where
    is : IsJob job
    is = (subst (λ (l : List Job). AllJobs l) first jobs).0

    by : Carries last tag size rest (job ∷ jobs') → Suits done job.header
    by (Inner t n more header carried further) = message_fits job t n false done rest more message is header whole carried short
    by (Final t n header carried number asks) = message_fits job t n true done rest [] message is header whole (carried ∙ sym (append-nil job.message)) short

-- the first part of a message drops what is unread
record DroppedOutput (n : ℕ) (s mid : State) : Type 0 where
  pub waiting : mid.waiting ≡ s.waiting
  pub part : mid.part ≡ s.part
  pub side : mid.side ≡ s.side
  pub none : NoExec n mid.log

dropped : (n : ℕ) (s mid : State) → NoExec n s.log → Interrupts s mid → DroppedOutput n s mid
dropped n s mid none (out.Dropped first some logs) = record {
  waiting = ap (λ (x : State). x.waiting) logs.is;
  part = ap (λ (x : State). x.part) logs.is;
  side = ap (λ (x : State). x.side) logs.is;
  none = subst (λ (l : List LogEntry). NoExec n l) (sym (ap (λ (x : State). x.log) logs.is)) (noexec-append n s.log (entry.Interrupt ∷ []) none tt);
}
dropped n s mid none (out.NothingUnread read is) = record {
  waiting = ap (λ (x : State). x.waiting) is;
  part = ap (λ (x : State). x.part) is;
  side = ap (λ (x : State). x.side) is;
  none = subst (λ (l : List LogEntry). NoExec n l) (sym (ap (λ (x : State). x.log) is)) none;
}
dropped n s mid none (out.LaterPart part is) = record {
  waiting = ap (λ (x : State). x.waiting) is;
  part = ap (λ (x : State). x.part) is;
  side = ap (λ (x : State). x.side) is;
  none = subst (λ (l : List LogEntry). NoExec n l) (sym (ap (λ (x : State). x.log) is)) none;
}

inner_not_last : {B : Type 0} (header : OutHeader) (t n u m : ℕ) → header ≡ Message t n false → header ≡ Message u m true → B
inner_not_last header t n u m a b = let e : Message t n false ≡ Message u m true = sym a ∙ b in absurd (cc)

no_request : {B : Type 0} (header : OutHeader) (t n u m : ℕ) (eom : Bool) → header ≡ Message t n eom → header ≡ Request u m → B
no_request header t n u m eom a b = let e : Message t n eom ≡ Request u m = sym a ∙ b in absurd (cc)

no_trigger : {B : Type 0} (header : OutHeader) (t n u : ℕ) (eom : Bool) → header ≡ Message t n eom → header ≡ Trigger u → B
no_trigger header t n u eom a b = let e : Message t n eom ≡ Trigger u = sym a ∙ b in absurd (cc)

request_no_trigger : {B : Type 0} (header : OutHeader) (t n u : ℕ) → header ≡ Request t n → header ≡ Trigger u → B
request_no_trigger header t n u a b = let e : Request t n ≡ Trigger u = sym a ∙ b in absurd (cc)

one_request : (a b c d : ℕ) → Request a b ≡ Request c d → (a ≡ c) × (b ≡ d)
one_request a b c d e = (cc, cc)

-- a part of the message
part_taken : (last : ℕ) (message : List ℕ) (tag size : ℕ) (past : List Job) (done rest sofar : List ℕ) (flow : Flow) (s t : State) (job : Job) (jobs : List Job) → IsJob job → done ≡ data_in past → message ≡ done ++ rest
    → s.waiting ≡ None → s.part ≡ done → s.side ≡ Idle → NoExec last s.log → sofar ≡ [] → flow ≡ Still
    → NextPart last tag size rest job jobs (λ more. Carries last tag size more jobs)
    → TakesEffect job.head.seqnum (transfer_of job job.bytes) s t → Stage last message tag size (past ++ job ∷ []) jobs sofar flow t
part_taken last message tag size past done rest sofar flow s t job jobs is own whole waits part idle none empty still (Inner g n more header carried further) (out.Part u m text mid h spelled interrupts to) =
    let d = dropped last s mid none interrupts in
    let words : text ≡ job.message = one_text job.header text job.message job.bytes spelled is.text in
    subst (λ (x : State). Stage last message tag size (past ++ job ∷ []) jobs sofar flow x) (sym to)
    (Gathers (done ++ job.message) more (whole ∙ ap (λ (l : List ℕ). done ++ l) carried ∙ sym (append_assoc done job.message more)) (d.waiting ∙ waits)
    (ap (λ (l : List ℕ). l ++ text) (d.part ∙ part) ∙ ap (λ (l : List ℕ). done ++ l) words) (d.side ∙ idle) d.none empty still further (subst (λ (o : Option OutHeader). IsInner o) (sym (last_more past job ∙ ap (λ (h : OutHeader). Some h) header)) tt)
    (ap (λ (l : List ℕ). l ++ job.message) own ∙ sym (data-more past job)))
part_taken last message tag size past done rest sofar flow s t job jobs is own whole waits part idle none empty still (Final g n header carried number asks) (out.Last u m text mid h spelled interrupts to) =
    let d = dropped last s mid none interrupts in
    let words : text ≡ job.message = one_text job.header text job.message job.bytes spelled is.text in
    let all : mid.part ++ text ≡ message = ap (λ (l : List ℕ). l ++ text) (d.part ∙ part) ∙ ap (λ (l : List ℕ). done ++ l) (words ∙ sym carried) ∙ sym whole in
    subst (λ (x : State). Stage last message tag size (past ++ job ∷ []) jobs sofar flow x) (sym to)
    (Waits (ap (λ (l : List ℕ). Some (record { seq = job.head.seqnum; message = l })) all ∙ ap (λ (k : ℕ). Some (record { seq = k; message = message })) number) refl (d.side ∙ idle) d.none empty still asks (subst (λ (o : Option OutHeader). IsFinal o) (sym (last_more past job ∙ ap (λ (h : OutHeader). Some h) header)) tt))
part_taken last message tag size past done rest sofar flow s t job jobs is own whole waits part idle none empty still (Inner g n more header carried further) (out.Last u m text mid h spelled interrupts to) =
    inner_not_last _ _ _ _ _ header h
part_taken last message tag size past done rest sofar flow s t job jobs is own whole waits part idle none empty still (Inner g n more header carried further) (out.Requests u m h some to) = no_request _ _ _ _ _ _ header h
part_taken last message tag size past done rest sofar flow s t job jobs is own whole waits part idle none empty still (Inner g n more header carried further) (out.RequestsNothing u m h read logs) = no_request _ _ _ _ _ _ header h
part_taken last message tag size past done rest sofar flow s t job jobs is own whole waits part idle none empty still (Inner g n more header carried further) (out.Triggers u h logs) = no_trigger _ _ _ _ _ header h
part_taken last message tag size past done rest sofar flow s t job jobs is own whole waits part idle none empty still (Final g n header carried number asks) (out.Part u m text mid h spelled interrupts to) =
    inner_not_last _ _ _ _ _ h header
part_taken last message tag size past done rest sofar flow s t job jobs is own whole waits part idle none empty still (Final g n header carried number asks) (out.Requests u m h some to) = no_request _ _ _ _ _ _ header h
part_taken last message tag size past done rest sofar flow s t job jobs is own whole waits part idle none empty still (Final g n header carried number asks) (out.RequestsNothing u m h read logs) = no_request _ _ _ _ _ _ header h
part_taken last message tag size past done rest sofar flow s t job jobs is own whole waits part idle none empty still (Final g n header carried number asks) (out.Triggers u h logs) = no_trigger _ _ _ _ _ header h

some_job : (todo : List Job) (job : Job) (rest : List Job) → todo ≡ [] → todo ≡ job ∷ rest → ⊥
some_job todo job rest none first = let e : [] ≡ job ∷ rest = sym none ∙ first in cc

-- a request
request_taken : (last : ℕ) (message : List ℕ) (tag size : ℕ) (past : List Job) (response sofar : List ℕ) (flow : Flow) (s t : State) (job : Job) → job.header ≡ Request tag size
    → s.waiting ≡ None → s.part ≡ [] → Ran last message response s.log → response ≡ sofar ++ unread s → flow ≡ Still → (sofar ≢ [] → sofar ≢ response)
    → TakesEffect job.head.seqnum (transfer_of job job.bytes) s t → Stage last message tag size (past ++ job ∷ []) [] sofar flow t
request_taken last message tag size past response sofar flow s t job header waits part ran all still further (out.Requests u m h some to) =
    let one = one_request u m tag size (sym h ∙ header) in
    subst (λ (x : State). Stage last message tag size (past ++ job ∷ []) [] sofar flow x) (sym to)
    (Owes response waits part (ap (λ (k : ℕ). Owed k m) one.0 ∙ ap (λ (k : ℕ). Owed tag k) one.1) ran all still refl (last_more past job ∙ ap (λ (h : OutHeader). Some h) header) further)
request_taken last message tag size past response sofar flow s t job header waits part ran all still further (out.RequestsNothing u m h read logs) =
    let one = one_request u m tag size (sym h ∙ header) in
    Owes response (ap (λ (x : State). x.waiting) logs.is ∙ waits) (ap (λ (x : State). x.part) logs.is ∙ part)
    (ap (λ (x : State). x.side) logs.is ∙ (ap (λ (k : ℕ). Owed k m) one.0 ∙ ap (λ (k : ℕ). Owed tag k) one.1))
    (subst (λ (l : List LogEntry). Ran last message response l) (sym (ap (λ (x : State). x.log) logs.is)) (ran_more last message response s.log entry.Bare tt ran))
    (all ∙ ap (λ (l : List ℕ). sofar ++ l) (sym (ap (λ (x : State). x.standing.unread) logs.is ∙ ap (λ (x : Standing). x.unread) logs.after))) still refl (last_more past job ∙ ap (λ (h : OutHeader). Some h) header) further
request_taken last message tag size past response sofar flow s t job header waits part ran all still further (out.Part u m text mid h spelled interrupts to) = no_request _ _ _ _ _ _ h header
request_taken last message tag size past response sofar flow s t job header waits part ran all still further (out.Last u m text mid h spelled interrupts to) = no_request _ _ _ _ _ _ h header
request_taken last message tag size past response sofar flow s t job header waits part ran all still further (out.Triggers u h logs) = request_no_trigger _ _ _ _ header h

pub stage_takes : (last : ℕ) (message : List ℕ) (tag size : ℕ) (past : List Job) (todo : List Job) (sofar : List ℕ) (flow : Flow) (s t : State) (job : Job) (rest : List Job) (queue : List Pending) → AllJobs todo
    → s.waiting ≡ None → todo ≡ job ∷ rest → TakesEffect job.head.seqnum (transfer_of job job.bytes) (record s { bulk_out = queue; transfer = None }) t
    → Stage last message tag size past todo sofar flow s → Stage last message tag size (past ++ job ∷ []) rest sofar flow t
stage_takes last message tag size past todo sofar flow s t job rest queue jobs free first effect (Follows seq earlier waits other part idle none empty still carries at) = some_wait _ _ free waits
stage_takes last message tag size past todo sofar flow s t job rest queue jobs free first effect (Waits waits part idle none empty still asks at) = some_wait _ _ free waits
stage_takes last message tag size past todo sofar flow s t job rest queue jobs free first effect (Owes response waits part owed ran all still none at further) = no_job _ _ _ none first
stage_takes last message tag size past todo sofar flow s t job rest queue jobs free first effect (Sends response carried bytes piece waits part sends ran all giving fits text none own at) = no_job _ _ _ none first
stage_takes last message tag size past todo sofar flow s t job rest queue jobs free first effect (Sent response carried bytes waits part idle ran all over fits text none at) = no_job _ _ _ none first
stage_takes last message tag size past todo sofar flow s t job rest queue jobs free first effect (Tears response carried bytes dropped waits part idle ran all torn fits text none at) = no_job _ _ _ none first
stage_takes last message tag size past todo sofar flow s t job rest queue jobs free first effect (Barred shuts another part idle none empty still over at) = no_job _ _ _ over first
stage_takes last message tag size past todo sofar flow s t job rest queue jobs free first effect (Dropped response closed waits part idle ran all still none at) = no_job _ _ _ none first
stage_takes last message tag size past todo sofar flow s t job rest queue jobs free first effect (Rests response waits part idle ran all still (NoneComes none) at further) = no_job _ _ _ none first
stage_takes last message tag size past todo sofar flow s t job rest queue jobs free first effect (Rests response waits part idle ran all still (OneComes other is header) at further) =
    let one = one_job other job [] rest (sym is ∙ first) in
    subst (λ (l : List Job). Stage last message tag size (past ++ job ∷ []) l sofar flow t) one.1
    (request_taken last message tag size past response sofar flow (record s { bulk_out = queue; transfer = None }) t job (ap (λ (j : Job). j.header) (sym one.0) ∙ header) waits part ran all still (further (λ e. some_job todo job rest e first)) effect)
stage_takes last message tag size past todo sofar flow s t job rest queue jobs free first effect (Gathers done tail whole waits part idle none empty still carries at own) =
    part_taken last message tag size past done tail sofar flow (record s { bulk_out = queue; transfer = None }) t job rest (subst (λ (l : List Job). AllJobs l) first jobs).0 own whole waits part idle none empty still
    (subst (λ (l : List Job). Carries last tag size tail l) first carries) effect

-- ---- an unlink hits the last transfer

no_end : {B : Type 0} (left : List Job) (job : Job) → [] ≡ left ++ job ∷ [] → B
no_end [] job e = absurd (cc)
no_end (x ∷ left) job e = absurd (cc)

one_end : (left : List Job) (a b : Job) → a ∷ [] ≡ left ++ b ∷ [] → left ≡ []
one_end [] a b e = refl
one_end (x ∷ []) a b e = absurd (cc)
one_end (x ∷ y ∷ left) a b e = absurd (cc)

asks_shorter : (tag size : ℕ) (todo left : List Job) (job : Job) → todo ≡ left ++ job ∷ [] → Asks tag size todo → Asks tag size left
asks_shorter tag size todo left job ends (NoneComes none) = no_end left job (sym none ∙ ends)
asks_shorter tag size todo left job ends (OneComes request is header) = NoneComes (one_end left request job (sym is ∙ ends))

carries_shorter : (last tag size : ℕ) (rest : List ℕ) (left : List Job) (job : Job) → Carries last tag size rest (left ++ job ∷ []) → Carries last tag size rest left
carries_shorter last tag size rest [] job h = tt
carries_shorter last tag size rest (first ∷ left) job (Inner t n more header carried further) = Inner t n more header carried (carries_shorter last tag size more left job further)
carries_shorter last tag size rest (first ∷ left) job (Final t n header carried number asks) = Final t n header carried number (asks_shorter tag size (left ++ job ∷ []) left job refl asks)

pub stage_shorter : (last : ℕ) (message : List ℕ) (tag size : ℕ) (past : List Job) (todo left : List Job) (job : Job) (sofar : List ℕ) (flow : Flow) (s : State) → todo ≡ left ++ job ∷ []
    → Stage last message tag size past todo sofar flow s → Stage last message tag size past left sofar flow s
stage_shorter last message tag size past todo left job sofar flow s ends (Follows seq earlier waits other part idle none empty still carries at) =
    Follows seq earlier waits other part idle none empty still (carries_shorter last tag size message left job (subst (λ (l : List Job). Carries last tag size message l) ends carries)) at
stage_shorter last message tag size past todo left job sofar flow s ends (Gathers done rest whole waits part idle none empty still carries at own) =
    Gathers done rest whole waits part idle none empty still (carries_shorter last tag size rest left job (subst (λ (l : List Job). Carries last tag size rest l) ends carries)) at own
stage_shorter last message tag size past todo left job sofar flow s ends (Waits waits part idle none empty still asks at) =
    Waits waits part idle none empty still (asks_shorter tag size todo left job ends asks) at
stage_shorter last message tag size past todo left job sofar flow s ends (Rests response waits part idle ran all still asks at further) =
    Rests response waits part idle ran all still (asks_shorter tag size todo left job ends asks) at (λ some. further (λ e. no_end left job (sym e ∙ ends)))
stage_shorter last message tag size past todo left job sofar flow s ends (Owes response waits part owed ran all still none at further) = no_end left job (sym none ∙ ends)
stage_shorter last message tag size past todo left job sofar flow s ends (Sends response carried bytes piece waits part sends ran all giving fits text none own at) = no_end left job (sym none ∙ ends)
stage_shorter last message tag size past todo left job sofar flow s ends (Sent response carried bytes waits part idle ran all over fits text none at) = no_end left job (sym none ∙ ends)
stage_shorter last message tag size past todo left job sofar flow s ends (Tears response carried bytes dropped waits part idle ran all torn fits text none at) = no_end left job (sym none ∙ ends)
stage_shorter last message tag size past todo left job sofar flow s ends (Barred shuts another part idle none empty still over at) = no_end left job (sym over ∙ ends)
stage_shorter last message tag size past todo left job sofar flow s ends (Dropped response closed waits part idle ran all still none at) = no_end left job (sym none ∙ ends)

-- ---- halts

-- Bulk-OUT halts: no transfer is taken any more, and an unfinished message is dropped
pub stage_shuts : (last : ℕ) (message : List ℕ) (tag size : ℕ) (past : List Job) (todo : List Job) (sofar : List ℕ) (flow : Flow) (s : State) → Stage last message tag size past todo sofar flow s
    → Stage last message tag size past [] sofar flow (halts BulkOut s)
stage_shuts last message tag size past todo sofar flow s (Follows seq earlier waits other part idle none empty still carries at) =
    Barred refl (subst (λ (o : Option Waiting). IsAnother last o) (sym waits) other) refl idle none empty still refl (subst (λ (o : Option OutHeader). IsInner o) (sym at) tt)
stage_shuts last message tag size past todo sofar flow s (Gathers done rest whole waits part idle none empty still carries at own) =
    Barred refl (subst (λ (o : Option Waiting). IsAnother last o) (sym waits) tt) refl idle none empty still refl at
stage_shuts last message tag size past todo sofar flow s (Waits waits part idle none empty still asks at) = Waits waits refl idle none empty still (NoneComes refl) at
stage_shuts last message tag size past todo sofar flow s (Rests response waits part idle ran all still asks at further) = Rests response waits refl idle ran all still (NoneComes refl) at (λ some. absurd (some refl))
stage_shuts last message tag size past todo sofar flow s (Owes response waits part owed ran all still none at further) = Owes response waits refl owed ran all still refl at further
stage_shuts last message tag size past todo sofar flow s (Sends response carried bytes piece waits part sends ran all giving fits text none own at) =
    Sends response carried bytes piece waits refl sends ran all giving fits text refl own at
stage_shuts last message tag size past todo sofar flow s (Sent response carried bytes waits part idle ran all over fits text none at) = Sent response carried bytes waits refl idle ran all over fits text refl at
stage_shuts last message tag size past todo sofar flow s (Tears response carried bytes dropped waits part idle ran all torn fits text none at) =
    Tears response carried bytes dropped waits refl idle ran all torn fits text refl at
stage_shuts last message tag size past todo sofar flow s (Barred shuts another part idle none empty still over at) = Barred refl another refl idle none empty still refl at
stage_shuts last message tag size past todo sofar flow s (Dropped response closed waits part idle ran all still none at) = Dropped response closed waits refl idle ran all still refl at

-- Bulk-IN halts: what is owed or sent is dropped
pub stage_tears : (last : ℕ) (message : List ℕ) (tag size : ℕ) (past : List Job) (todo : List Job) (sofar : List ℕ) (flow : Flow) (s : State) → Stage last message tag size past todo sofar flow s
    → Stage last message tag size past todo sofar (torn flow) (halts BulkIn s)
stage_tears last message tag size past todo sofar flow s (Follows seq earlier waits other part idle none empty still carries at) =
    Follows seq earlier waits other part refl none empty (ap torn still) carries at
stage_tears last message tag size past todo sofar flow s (Gathers done rest whole waits part idle none empty still carries at own) = Gathers done rest whole waits part refl none empty (ap torn still) carries at own
stage_tears last message tag size past todo sofar flow s (Waits waits part idle none empty still asks at) = Waits waits part refl none empty (ap torn still) asks at
stage_tears last message tag size past todo sofar flow s (Rests response waits part idle ran all still asks at further) = Rests response waits part refl ran all (ap torn still) asks at further
stage_tears last message tag size past todo sofar flow s (Owes response waits part owed ran all still none at further) = Dropped response refl waits part refl ran all (ap torn still) none at
stage_tears last message tag size past todo sofar flow s (Sends response carried bytes piece waits part sends ran all giving fits text none own at) =
    Tears response carried bytes piece.left waits part refl ran all (ap torn giving) fits text none at
stage_tears last message tag size past todo sofar flow s (Sent response carried bytes waits part idle ran all over fits text none at) = Sent response carried bytes waits part refl ran all (ap torn over) fits text none at
stage_tears last message tag size past todo sofar flow s (Tears response carried bytes dropped waits part idle ran all tears fits text none at) =
    Tears response carried bytes dropped waits part refl ran all (ap torn tears) fits text none at
stage_tears last message tag size past todo sofar flow s (Barred shuts another part idle none empty still over at) = Barred shuts another part refl none empty (ap torn still) over at
stage_tears last message tag size past todo sofar flow s (Dropped response closed waits part idle ran all still none at) = Dropped response refl waits part refl ran all (ap torn still) none at
