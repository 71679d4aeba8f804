-- what an ask leaves to the recovery behind it, once each of its submits and unlinks was answered
use Rattle.std.proofs.Common.{◌≡◌, ◌≢◌, ◌∙◌, ℕ, Bool, List, [], ◌∷◌, ◌++◌, length, Option, Some, None, refl, ap, sym, subst, append-nil, arith}
use Rattle.usbip_wire.specs.Up as up
use Rattle.tmc_wire.specs.declared.header.OutHeader.{OutHeader}
use Rattle.tmc_wire.specs.declared.header.OutHeader.TheVariants.{Request}
use Rattle.tmc_law.specs.Endpoint.{BulkOut, BulkIn}
use Rattle.tmc_law.specs.State.{State, Pending, Transfer, Idle}
use Rattle.tmc_law.specs.Put.{Put}
use Rattle.tmc_law.specs.Aborts.{tag_of}
use Rattle.host_joint.specs.Lines.{Sent as OnWay, sent_to, Event, events_of}
use Rattle.host_joint.specs.Jobs.{data_in, Job, OutLine, Unbegun, Partly, Cut, Shut, sent, fresh, last_header}
use Rattle.host_joint.specs.Reads as reads
use Rattle.host_joint.specs.Reads.{Answered, answer, answers, Flow, Still, Giving, Over, Torn, InLine, gives}
use Rattle.host_joint.specs.Stage.{Stage, Follows, Gathers, Waits, Rests, Owes, Sends, Sent, Tears, Barred, Dropped, IsFinal}
use Rattle.host_joint.specs.Asking.{Asking}
use Rattle.host_joint.specs.Positions as position_of
use Rattle.host_joint.specs.Positions.{IsAt, rests, in_begun, out_begun, out_first, InTag, OutTag}
use Rattle.host_joint.proofs.Listing.{last_more}
use Rattle.host_joint.proofs.Counting.{all_past, not_inner, not_final, not_unasked}
use Rattle.host_joint.proofs.Parts.{ask_of}
use Rattle.host_joint.proofs.Sending.{inner_final, final_request, no_mix}

-- no transfer is in progress where none is to be taken
pub no_transfer : (shut gone : Bool) (todo : List Job) (coming : List OnWay) (queue : List Pending) (transfer : Option Transfer) → todo ≡ [] → OutLine shut gone todo coming queue transfer → transfer ≡ None
no_transfer shut gone todo coming queue transfer none (Unbegun here later unshut whole come line free) = free
no_transfer shut gone todo coming queue transfer none (Partly job here later moved left unshut whole come bytes begun more line runs) = let e : [] ≡ job ∷ (here ++ later) = sym none ∙ whole in absurd (cc)
no_transfer shut gone todo coming queue transfer none (Cut job moved left was unshut whole come bytes begun more line runs) = let e : [] ≡ job ∷ [] = sym none ∙ whole in absurd (cc)
no_transfer shut gone todo coming queue transfer none (Shut shuts whole line free) = free

-- a transfer that is over has an answer on its way
no_end : {B : Type 0} (front : List Event) (last : Event) (rest events : List Event) → events ≡ (front ++ last ∷ []) ++ rest → events ≡ [] → B
no_end [] last rest events is none = let e : [] ≡ last ∷ rest = sym none ∙ is in absurd (cc)
no_end (x ∷ front) last rest events is none = let e : [] ≡ x ∷ ((front ++ last ∷ []) ++ rest) = sym none ∙ is in absurd (cc)

not_over : {B : Type 0} (shut gone : Bool) (flow : Flow) (read bytes : List ℕ) (events : List Event) (coming : List OnWay) (queue : List Pending) → flow ≡ Over bytes → events ≡ []
    → InLine shut gone flow read events coming queue → B
not_over shut gone flow read bytes events coming queue over none (reads.Unread heads unshut still empty come line are) = let e : Still ≡ Over bytes = sym still ∙ over in absurd (cc)
not_over shut gone flow read bytes events coming queue over none (reads.Between all full heads unshut giving are whole come line rs) = let e : Giving all ≡ Over bytes = sym giving ∙ over in absurd (cc)
not_over shut gone flow read bytes events coming queue over none (reads.Inside all moved packets full first heads unshut giving are whole come counted space line rs) = let e : Giving all ≡ Over bytes = sym giving ∙ over in absurd (cc)
not_over shut gone flow read bytes events coming queue over none (reads.Behind all full short heads unshut o are small whole come line rs) =
    no_end (answers full) (answer short) [] events (come ∙ sym (append-nil (answers full ++ answer short ∷ []))) none
not_over shut gone flow read bytes events coming queue over none (reads.Lost all lost full was unshut giving are whole come empty line) = let e : Giving all ≡ Over bytes = sym giving ∙ over in absurd (cc)
not_over shut gone flow read bytes events coming queue over none (reads.Closed front rest shuts come (reads.NoneOf still empty is) halted line) = let e : Still ≡ Over bytes = sym still ∙ over in absurd (cc)
not_over shut gone flow read bytes events coming queue over none (reads.Closed front rest shuts come (reads.Front all lost full (reads.Gave gave) are whole is) halted line) =
    let e : Giving all ≡ Over bytes = sym gave ∙ over in absurd (cc)
not_over shut gone flow read bytes events coming queue over none (reads.Closed front rest shuts come (reads.Front all lost full (reads.Tore tore) are whole is) halted line) =
    let e : Torn all ≡ Over bytes = sym tore ∙ over in absurd (cc)
not_over shut gone flow read bytes events coming queue over none (reads.Closed front rest shuts come (reads.Whole all full short o are small whole is) halted line) =
    no_end (answers full) (answer short) rest events (come ∙ ap (λ (l : List Event). l ++ rest) is) none

-- ---- what the last header says of the stage

not_none : {B : Type 0} (tag size : ℕ) (o : Option OutHeader) → o ≡ Some (Request tag size) → o ≡ None → B
not_none tag size o is none = let e : None ≡ Some (Request tag size) = sym none ∙ is in absurd (cc)

record Asked (tag : ℕ) (s : State) : Type 0 where
  pub side : InTag tag s.side
  pub part : s.part ≡ []

-- the request was taken, and its transfer has not ended
asked : (last : ℕ) (message : List ℕ) (tag size : ℕ) (past todo : List Job) (sofar : List ℕ) (flow : Flow) (s : State) → last_header past ≡ Some (Request tag size)
    → ((bytes : List ℕ) → flow ≡ Over bytes → ⊥) → Stage last message tag size past todo sofar flow s → Asked tag s
asked last message tag size past todo sofar flow s is unended (Follows seq earlier waits other part idle none empty still carries at) = not_none tag size (last_header past) is at
asked last message tag size past todo sofar flow s is unended (Gathers done rest whole waits part idle none empty still carries at own) = not_inner tag size (last_header past) is at
asked last message tag size past todo sofar flow s is unended (Waits waits part idle none empty still asks at) = not_final tag size (last_header past) is at
asked last message tag size past todo sofar flow s is unended (Rests response waits part idle ran all still asks at further) = not_unasked tag size past sofar is at
asked last message tag size past todo sofar flow s is unended (Barred shuts another part idle none empty still over at) = not_inner tag size (last_header past) is at
asked last message tag size past todo sofar flow s is unended (Owes response waits part owed ran all still none at further) = record { side = position_of.IsOwed size owed; part = part }
asked last message tag size past todo sofar flow s is unended (Sends response carried bytes piece waits part sends ran all giving fits text none own at) =
    record { side = position_of.IsSent piece sends own; part = part }
asked last message tag size past todo sofar flow s is unended (Sent response carried bytes waits part idle ran all over fits text none at) = absurd (unended bytes over)
asked last message tag size past todo sofar flow s is unended (Tears response carried bytes dropped waits part idle ran all torn fits text none at) = record { side = position_of.NoPiece idle; part = part }
asked last message tag size past todo sofar flow s is unended (Dropped response closed waits part idle ran all still none at) = record { side = position_of.NoPiece idle; part = part }

-- All that was written was taken, with the request as the last. No answer to a read is on its way. So the recovery can
-- begin with an abort of Bulk-IN.
pub hands_in : (last : ℕ) (message : List ℕ) (tag size : ℕ) (front : List Job) (request : Job) (sofar read : List ℕ) (gone : Bool) (ups : List up.Message) (downs : List Put) (s : State)
    → request.header ≡ Request tag size → Asking (ask_of last message tag size (front ++ request ∷ []) (length (front ++ request ∷ [])) sofar read gone) ups downs s
    → s.bulk_out ≡ [] → s.bulk_in ≡ [] → gives (events_of BulkIn downs) ≡ [] → IsAt (in_begun tag) s
hands_in last message tag size front request sofar read gone ups downs s header a outs ins quiet =
    let past = all_past (front ++ request ∷ []) a.past a.todo a.hit a.came a.whole a.counted in
    let latest : last_header a.past ≡ Some (Request tag size) = ap last_header past.past_all ∙ last_more front request ∙ ap (λ (h : OutHeader). Some h) header in
    let at = asked last message tag size a.past a.todo sofar a.flow s latest (λ bytes over. not_over s.halted.bulk_in gone a.flow read bytes (gives (events_of BulkIn downs)) (sent_to BulkIn ups) s.bulk_in over quiet a.ins) a.stage in
    record {
      bulk_out = outs;
      bulk_in = ins;
      running = a.calm.running;
      side = at.side;
      out = (no_transfer s.halted.bulk_out gone a.todo (sent_to BulkOut ups) s.bulk_out s.transfer past.todo_none a.out, at.part);
      waits = tt;
      shut = tt;
    }

-- ---- the last transfer was not taken

pub record LastLeft (front past : List Job) (job : Job) (todo hit : List Job) : Type 0 where
  pub past_is : past ≡ front
  pub rest_is : todo ++ hit ≡ job ∷ []

split : (a b xs ys : List Job) → length a ≡ length b → a ++ xs ≡ b ++ ys → (a ≡ b) × (xs ≡ ys)
split [] [] xs ys long e = (refl, e)
split [] (y ∷ b) xs ys long e = absurd (omega (arith, long))
split (x ∷ a) [] xs ys long e = absurd (omega (arith, long))
split (x ∷ a) (y ∷ b) xs ys long e =
    let rest : a ++ xs ≡ b ++ ys = cc in let first : x ≡ y = cc in let go = split a b xs ys (omega (arith, long)) rest in
    (ap (λ (n : Job). n ∷ a) first ∙ ap (λ (l : List Job). y ∷ l) go.0, go.1)

pub last_left : (front past : List Job) (job : Job) (todo hit : List Job) → front ++ job ∷ [] ≡ past ++ (todo ++ hit) → length past ≡ length front → LastLeft front past job todo hit
last_left front past job todo hit whole long =
    let both = split front past (job ∷ []) (todo ++ hit) (sym long) whole in record { past_is = sym both.0; rest_is = sym both.1 }

no_fresh : (here : List Job) → fresh here ≡ [] → here ≡ []
no_fresh [] e = refl
no_fresh (x ∷ here) e = absurd (cc)

no_later : (later : List Job) → sent later ≡ [] → later ≡ []
no_later [] e = refl
no_later (x ∷ later) e = absurd (cc)

one_todo : (x job : Job) (todo hit : List Job) → todo ≡ x ∷ [] → todo ++ hit ≡ job ∷ [] → x ≡ job
one_todo x job todo hit is all = let e : x ∷ hit ≡ job ∷ [] = ap (λ (l : List Job). l ++ hit) (sym is) ∙ all in cc

out_tag : (shut gone : Bool) (job : Job) (todo hit : List Job) (coming : List OnWay) (queue : List Pending) (transfer : Option Transfer) → todo ++ hit ≡ job ∷ [] → coming ≡ [] → queue ≡ []
    → OutLine shut gone todo coming queue transfer → OutTag (tag_of job.header) transfer
out_tag shut gone job todo hit coming queue transfer all nothing empty (Unbegun here later unshut whole come line free) = position_of.NoTransfer free
out_tag shut gone job todo hit coming queue transfer all nothing empty (Partly x here later moved left unshut whole come bytes begun more line runs) =
    absurd (none (sym empty ∙ line))
  where
    none : {p : Pending} {l : List Pending} → [] ≡ p ∷ l → ⊥
    none e = cc
out_tag shut gone job todo hit coming queue transfer all nothing empty (Cut x moved left was unshut whole come bytes begun more line runs) =
    position_of.ThisTransfer (record { header = x.header; taken = moved }) runs (ap (λ (j : Job). tag_of j.header) (one_todo x job todo hit whole all))
out_tag shut gone job todo hit coming queue transfer all nothing empty (Shut shuts whole line free) = position_of.NoTransfer free

-- no request was taken
not_asked : {B : Type 0} (tag size : ℕ) (o : Option OutHeader) → ((t n : ℕ) → o ≡ Some (Request t n) → ⊥) → o ≡ Some (Request tag size) → B
not_asked tag size o none is = absurd (none tag size is)

idle : (last : ℕ) (message : List ℕ) (tag size : ℕ) (past todo : List Job) (sofar : List ℕ) (flow : Flow) (s : State) → ((t n : ℕ) → last_header past ≡ Some (Request t n) → ⊥)
    → Stage last message tag size past todo sofar flow s → s.side ≡ Idle
idle last message tag size past todo sofar flow s none (Follows seq earlier waits other part is free empty still carries at) = is
idle last message tag size past todo sofar flow s none (Gathers done rest whole waits part is free empty still carries at own) = is
idle last message tag size past todo sofar flow s none (Waits waits part is free empty still asks at) = is
idle last message tag size past todo sofar flow s none (Rests response waits part is ran all still asks at further) = is
idle last message tag size past todo sofar flow s none (Barred shuts another part is free empty still over at) = is
idle last message tag size past todo sofar flow s none (Owes response waits part owed ran all still over at further) = not_asked tag size (last_header past) none at
idle last message tag size past todo sofar flow s none (Sends response carried bytes piece waits part sends ran all giving fits text over own at) = not_asked tag size (last_header past) none at
idle last message tag size past todo sofar flow s none (Sent response carried bytes waits part is ran all over fits text empty at) = is
idle last message tag size past todo sofar flow s none (Tears response carried bytes dropped waits part is ran all torn fits text empty at) = is
idle last message tag size past todo sofar flow s none (Dropped response closed waits part is ran all still empty at) = is

-- The last transfer was unlinked, and those before it were taken, with no request among them. So the recovery can begin with
-- an abort of Bulk-OUT of its tag.
pub hands_out : (last : ℕ) (message : List ℕ) (tag size : ℕ) (front : List Job) (job : Job) (sofar read : List ℕ) (gone : Bool) (ups : List up.Message) (downs : List Put) (s : State)
    → ((t n : ℕ) → last_header front ≡ Some (Request t n) → ⊥) → (a : Asking (ask_of last message tag size (front ++ job ∷ []) (length front) sofar read gone) ups downs s) → a.came ≡ 0
    → s.bulk_out ≡ [] → s.bulk_in ≡ [] → sent_to BulkOut ups ≡ [] → IsAt (out_begun (tag_of job.header)) s
hands_out last message tag size front job sofar read gone ups downs s unasked a none outs ins nothing =
    let left = last_left front a.past job a.todo a.hit a.whole (omega (arith, a.counted, none)) in
    record {
      bulk_out = outs;
      bulk_in = ins;
      running = a.calm.running;
      side = idle last message tag size a.past a.todo sofar a.flow s (λ t n is. unasked t n (ap last_header (sym left.past_is) ∙ is)) a.stage;
      out = out_tag s.halted.bulk_out gone job a.todo a.hit (sent_to BulkOut ups) s.bulk_out s.transfer left.rest_is nothing outs a.out;
      waits = tt;
      shut = tt;
    }

-- all parts so far were taken: a message may be unfinished, and no transfer is in progress, so that an abort of any tag can begin
pub hands_part : (last : ℕ) (message : List ℕ) (tag size : ℕ) (written : List Job) (mark : ℕ) (sofar read : List ℕ) (gone : Bool) (ups : List up.Message) (downs : List Put) (s : State)
    → ((t n : ℕ) → last_header written ≡ Some (Request t n) → ⊥) → Asking (ask_of last message tag size written (length written) sofar read gone) ups downs s
    → s.bulk_out ≡ [] → s.bulk_in ≡ [] → IsAt (out_begun mark) s
hands_part last message tag size written mark sofar read gone ups downs s unasked a outs ins =
    let past = all_past written a.past a.todo a.hit a.came a.whole a.counted in
    record {
      bulk_out = outs;
      bulk_in = ins;
      running = a.calm.running;
      side = idle last message tag size a.past a.todo sofar a.flow s (λ t n is. unasked t n (ap last_header (sym past.past_all) ∙ is)) a.stage;
      out = position_of.NoTransfer (no_transfer s.halted.bulk_out gone a.todo (sent_to BulkOut ups) s.bulk_out s.transfer past.todo_none a.out);
      waits = tt;
      shut = tt;
    }

-- ---- a ticket that is complete

pub none_front : (past todo hit : List Job) → [] ≡ past ++ (todo ++ hit) → (past ≡ []) × (todo ≡ [])
none_front [] [] hit e = (refl, refl)
none_front [] (x ∷ todo) hit e = absurd (cc)
none_front (x ∷ past) todo hit e = absurd (cc)

pub no_last : {B : Type 0} (past : List Job) (tag size : ℕ) → past ≡ [] → last_header past ≡ Some (Request tag size) → B
no_last past tag size none some = let e : None ≡ Some (Request tag size) = sym (ap last_header none) ∙ some in absurd (cc)

record Free (s : State) : Type 0 where
  pub side : s.side ≡ Idle
  pub part : s.part ≡ []

free : (last : ℕ) (message : List ℕ) (tag size : ℕ) (past todo : List Job) (sofar : List ℕ) (flow : Flow) (s : State) → past ≡ [] → sofar ≢ [] → Stage last message tag size past todo sofar flow s → Free s
free last message tag size past todo sofar flow s none some (Follows seq earlier waits other part idle log empty still carries at) = absurd (some empty)
free last message tag size past todo sofar flow s none some (Gathers done rest whole waits part idle log empty still carries at own) = absurd (some empty)
free last message tag size past todo sofar flow s none some (Waits waits part idle log empty still asks at) = absurd (some empty)
free last message tag size past todo sofar flow s none some (Barred shuts another part idle log empty still over at) = absurd (some empty)
free last message tag size past todo sofar flow s none some (Rests response waits part idle ran all still asks at further) = record { side = idle; part = part }
free last message tag size past todo sofar flow s none some (Owes response waits part owed ran all still over at further) = no_last past tag size none at
free last message tag size past todo sofar flow s none some (Sends response carried bytes piece waits part sends ran all giving fits text over own at) = no_last past tag size none at
free last message tag size past todo sofar flow s none some (Sent response carried bytes waits part idle ran all over fits text empty at) = no_last past tag size none at
free last message tag size past todo sofar flow s none some (Tears response carried bytes dropped waits part idle ran all torn fits text empty at) = no_last past tag size none at
free last message tag size past todo sofar flow s none some (Dropped response closed waits part idle ran all still over at) = no_last past tag size none at

-- A piece was read to its end, and no other was requested: nothing is in progress.
pub hands_none : (last : ℕ) (message : List ℕ) (tag size : ℕ) (sofar read : List ℕ) (gone : Bool) (ups : List up.Message) (downs : List Put) (s : State)
    → Asking (ask_of last message tag size [] 0 sofar read gone) ups downs s → sofar ≢ [] → s.bulk_out ≡ [] → s.bulk_in ≡ [] → IsAt rests s
hands_none last message tag size sofar read gone ups downs s a some outs ins =
    let none = none_front a.past a.todo a.hit a.whole in
    let f = free last message tag size a.past a.todo sofar a.flow s none.0 some a.stage in
    record {
      bulk_out = outs;
      bulk_in = ins;
      running = a.calm.running;
      side = f.side;
      out = (no_transfer s.halted.bulk_out gone a.todo (sent_to BulkOut ups) s.bulk_out s.transfer none.1 a.out, f.part);
      waits = tt;
      shut = tt;
    }

-- ---- what an ask leaves besides

no_parts : (last : ℕ) (message : List ℕ) (tag size : ℕ) (past todo : List Job) (sofar : List ℕ) (flow : Flow) (s : State) → past ≡ [] → Stage last message tag size past todo sofar flow s → s.part ≡ []
no_parts last message tag size past todo sofar flow s none (Follows seq earlier waits other part idle log empty still carries at) = part
no_parts last message tag size past todo sofar flow s none (Gathers done rest whole waits part idle log empty still carries at own) = part ∙ own ∙ ap data_in none
no_parts last message tag size past todo sofar flow s none (Waits waits part idle log empty still asks at) = part
no_parts last message tag size past todo sofar flow s none (Rests response waits part idle ran all still asks at further) = part
no_parts last message tag size past todo sofar flow s none (Owes response waits part owed ran all still over at further) = part
no_parts last message tag size past todo sofar flow s none (Sends response carried bytes piece waits part sends ran all giving fits text over own at) = part
no_parts last message tag size past todo sofar flow s none (Sent response carried bytes waits part idle ran all over fits text empty at) = part
no_parts last message tag size past todo sofar flow s none (Tears response carried bytes dropped waits part idle ran all torn fits text empty at) = part
no_parts last message tag size past todo sofar flow s none (Barred shuts another part idle log empty still over at) = part
no_parts last message tag size past todo sofar flow s none (Dropped response closed waits part idle ran all still over at) = part

-- the first transfer was not taken: no part of the message is at the device
pub hands_first : (last : ℕ) (message : List ℕ) (tag size : ℕ) (job : Job) (sofar read : List ℕ) (gone : Bool) (ups : List up.Message) (downs : List Put) (s : State)
    → (a : Asking (ask_of last message tag size (job ∷ []) 0 sofar read gone) ups downs s) → a.came ≡ 0 → s.bulk_out ≡ [] → s.bulk_in ≡ [] → sent_to BulkOut ups ≡ [] → IsAt (out_first (tag_of job.header)) s
hands_first last message tag size job sofar read gone ups downs s a none outs ins nothing =
    let r = hands_out last message tag size [] job sofar read gone ups downs s (λ t n e. nothing_asked t n e) a none outs ins nothing in
    record {
      bulk_out = r.bulk_out;
      bulk_in = r.bulk_in;
      running = r.running;
      side = r.side;
      out = (r.out, no_parts last message tag size a.past a.todo sofar a.flow s (empty a.past (a.counted ∙ omega (arith, none))) a.stage);
      waits = tt;
      shut = tt;
    }
  where
    nothing_asked : (t n : ℕ) → None ≡ Some (Request t n) → ⊥
    nothing_asked t n e = cc

    empty : (l : List Job) → length l ≡ 0 → l ≡ []
    empty [] e = refl
    empty (x ∷ l) e = absurd (omega (arith, e))

pub record AtEnd (s : State) : Type 0 where
  pub side : s.side ≡ Idle
  pub part : s.part ≡ []

pub at_end : (last : ℕ) (message : List ℕ) (tag size : ℕ) (past todo : List Job) (sofar : List ℕ) (flow : Flow) (s : State) → IsFinal (last_header past) → Stage last message tag size past todo sofar flow s → AtEnd s
at_end last message tag size past todo sofar flow s final (Follows seq earlier waits other part idle none empty still carries at) = no_mix (last_header past) at final
at_end last message tag size past todo sofar flow s final (Gathers done rest whole waits part idle none empty still carries at own) = inner_final (last_header past) at final
at_end last message tag size past todo sofar flow s final (Barred shuts another part idle none empty still over at) = inner_final (last_header past) at final
at_end last message tag size past todo sofar flow s final (Waits waits part idle none empty still asks at) = record { side = idle; part = part }
at_end last message tag size past todo sofar flow s final (Rests response waits part idle ran all still asks at further) = record { side = idle; part = part }
at_end last message tag size past todo sofar flow s final (Owes response waits part owed ran all still none at further) = final_request tag size (last_header past) final at
at_end last message tag size past todo sofar flow s final (Sends response carried bytes piece waits part sends ran all giving fits text none own at) = final_request tag size (last_header past) final at
at_end last message tag size past todo sofar flow s final (Sent response carried bytes waits part idle ran all over fits text none at) = final_request tag size (last_header past) final at
at_end last message tag size past todo sofar flow s final (Tears response carried bytes dropped waits part idle ran all torn fits text none at) = final_request tag size (last_header past) final at
at_end last message tag size past todo sofar flow s final (Dropped response closed waits part idle ran all still none at) = final_request tag size (last_header past) final at

-- the message was taken, and no request was written: nothing is in progress
pub hands_message : (last : ℕ) (message : List ℕ) (tag size : ℕ) (written : List Job) (sofar read : List ℕ) (gone : Bool) (ups : List up.Message) (downs : List Put) (s : State)
    → Asking (ask_of last message tag size written (length written) sofar read gone) ups downs s → IsFinal (last_header written) → s.bulk_out ≡ [] → s.bulk_in ≡ [] → IsAt rests s
hands_message last message tag size written sofar read gone ups downs s a final outs ins =
    let past = all_past written a.past a.todo a.hit a.came a.whole a.counted in
    let e = at_end last message tag size a.past a.todo sofar a.flow s (subst (λ (l : List Job). IsFinal (last_header l)) (sym past.past_all) final) a.stage in
    record {
      bulk_out = outs;
      bulk_in = ins;
      running = a.calm.running;
      side = e.side;
      out = (no_transfer s.halted.bulk_out gone a.todo (sent_to BulkOut ups) s.bulk_out s.transfer past.todo_none a.out, e.part);
      waits = tt;
      shut = tt;
    }

-- the message was taken whole, and its request was taken back
pub hands_request : (last : ℕ) (message : List ℕ) (tag size : ℕ) (front : List Job) (job : Job) (sofar read : List ℕ) (gone : Bool) (ups : List up.Message) (downs : List Put) (s : State)
    → IsFinal (last_header front) → (a : Asking (ask_of last message tag size (front ++ job ∷ []) (length front) sofar read gone) ups downs s) → a.came ≡ 0
    → s.bulk_out ≡ [] → s.bulk_in ≡ [] → sent_to BulkOut ups ≡ [] → IsAt (out_first (tag_of job.header)) s
hands_request last message tag size front job sofar read gone ups downs s final a none outs ins nothing =
    let r = hands_out last message tag size front job sofar read gone ups downs s (λ t n is. unasked (last_header front) t n final is) a none outs ins nothing in
    let left = last_left front a.past job a.todo a.hit a.whole (omega (arith, a.counted, none)) in
    let e = at_end last message tag size a.past a.todo sofar a.flow s (subst (λ (l : List Job). IsFinal (last_header l)) (sym left.past_is) final) a.stage in
    record {
      bulk_out = r.bulk_out;
      bulk_in = r.bulk_in;
      running = r.running;
      side = r.side;
      out = (r.out, e.part);
      waits = tt;
      shut = tt;
    }
  where
    unasked : (o : Option OutHeader) (t n : ℕ) → IsFinal o → o ≡ Some (Request t n) → ⊥
    unasked o t n is e = subst (λ (x : Option OutHeader). IsFinal x) e is

-- ---- several transfers were not taken

front_split : (front past : List Job) (job : Job) (more todo hit : List Job) → front ++ job ∷ more ≡ past ++ (todo ++ hit) → length past ≡ length front → (past ≡ front) × (todo ++ hit ≡ job ∷ more)
front_split front past job more todo hit whole long = let both = split front past (job ∷ more) (todo ++ hit) (sym long) whole in (sym both.0, sym both.1)

first_todo : (x job : Job) (more todo hit : List Job) → todo ≡ x ∷ [] → todo ++ hit ≡ job ∷ more → x ≡ job
first_todo x job more todo hit is all = let e : x ∷ hit ≡ job ∷ more = ap (λ (l : List Job). l ++ hit) (sym is) ∙ all in cc

ahead_tag : (shut gone : Bool) (job : Job) (more todo hit : List Job) (coming : List OnWay) (queue : List Pending) (transfer : Option Transfer) → todo ++ hit ≡ job ∷ more → queue ≡ []
    → OutLine shut gone todo coming queue transfer → OutTag (tag_of job.header) transfer
ahead_tag shut gone job more todo hit coming queue transfer all empty (Unbegun here later unshut whole come line free) = position_of.NoTransfer free
ahead_tag shut gone job more todo hit coming queue transfer all empty (Partly x here later moved left unshut whole come bytes begun some line runs) =
    absurd (none (sym empty ∙ line))
  where
    none : {p : Pending} {l : List Pending} → [] ≡ p ∷ l → ⊥
    none e = cc
ahead_tag shut gone job more todo hit coming queue transfer all empty (Cut x moved left was unshut whole come bytes begun some line runs) =
    position_of.ThisTransfer (record { header = x.header; taken = moved }) runs (ap (λ (j : Job). tag_of j.header) (first_todo x job more todo hit whole all))
ahead_tag shut gone job more todo hit coming queue transfer all empty (Shut shuts whole line free) = position_of.NoTransfer free

-- the transfers from this one on were not taken, and those before it were
pub hands_ahead : (last : ℕ) (message : List ℕ) (tag size : ℕ) (front : List Job) (job : Job) (more : List Job) (sofar read : List ℕ) (gone : Bool) (ups : List up.Message) (downs : List Put) (s : State)
    → ((t n : ℕ) → last_header front ≡ Some (Request t n) → ⊥) → (a : Asking (ask_of last message tag size (front ++ job ∷ more) (length front) sofar read gone) ups downs s) → a.came ≡ 0
    → s.bulk_out ≡ [] → s.bulk_in ≡ [] → IsAt (out_begun (tag_of job.header)) s
hands_ahead last message tag size front job more sofar read gone ups downs s unasked a none outs ins =
    let left = front_split front a.past job more a.todo a.hit a.whole (omega (arith, a.counted, none)) in
    record {
      bulk_out = outs;
      bulk_in = ins;
      running = a.calm.running;
      side = idle last message tag size a.past a.todo sofar a.flow s (λ t n is. unasked t n (ap last_header (sym left.0) ∙ is)) a.stage;
      out = ahead_tag s.halted.bulk_out gone job more a.todo a.hit (sent_to BulkOut ups) s.bulk_out s.transfer left.1 outs a.out;
      waits = tt;
      shut = tt;
    }

-- none was taken
pub hands_none_taken : (last : ℕ) (message : List ℕ) (tag size : ℕ) (job : Job) (more : List Job) (sofar read : List ℕ) (gone : Bool) (ups : List up.Message) (downs : List Put) (s : State)
    → (a : Asking (ask_of last message tag size (job ∷ more) 0 sofar read gone) ups downs s) → a.came ≡ 0 → s.bulk_out ≡ [] → s.bulk_in ≡ [] → IsAt (out_first (tag_of job.header)) s
hands_none_taken last message tag size job more sofar read gone ups downs s a none outs ins =
    let r = hands_ahead last message tag size [] job more sofar read gone ups downs s (λ t n e. nothing_asked t n e) a none outs ins in
    record {
      bulk_out = r.bulk_out;
      bulk_in = r.bulk_in;
      running = r.running;
      side = r.side;
      out = (r.out, no_parts last message tag size a.past a.todo sofar a.flow s (no_past a.past (a.counted ∙ omega (arith, none))) a.stage);
      waits = tt;
      shut = tt;
    }
  where
    nothing_asked : (t n : ℕ) → None ≡ Some (Request t n) → ⊥
    nothing_asked t n e = cc

    no_past : (l : List Job) → length l ≡ 0 → l ≡ []
    no_past [] e = refl
    no_past (x ∷ l) e = absurd (omega (arith, e))
