-- what a host settles while nothing of its ask is on its way
use Rattle.std.proofs.Common.{◌≡◌, ◌≢◌, ◌∙◌, ℕ, ◌+◌, Bool, false, true, List, [], ◌∷◌, ◌++◌, length, length-append, arith, Option, Some, refl, ap, sym, subst}
use Rattle.usbip_wire.specs.Up as up
use Rattle.tmc_wire.specs.declared.header.OutHeader.TheVariants.{Request}
use Rattle.tmc_law.specs.Endpoint.{BulkOut, BulkIn}
use Rattle.tmc_law.specs.State.{State, Pending, Waiting, Transfer}
use Rattle.tmc_law.specs.Put.{Put}
use Rattle.host_joint.specs.Lines.{Sent as OnWay, sent_to, Event, events_of, unlinks_in}
use Rattle.host_joint.specs.Jobs.{Job, last_header, OutLine, Unbegun, Partly, Cut, Shut}
use Rattle.host_joint.specs.Reads as reads
use Rattle.host_joint.specs.Reads.{Flow, Still, Giving, Over, InLine, gives}
use Rattle.host_joint.specs.Stage.{NoExec, IsAnother, NoneComes, Stage, Follows, Gathers, Waits, Rests, Owes, Sends, Sent, Tears, Barred, Dropped, IsInner}
use Rattle.host_joint.specs.Asking.{Ask, Asking}
use Rattle.usbip_wire.specs.declared.submit.SubmitHead.{SubmitHead}
use Rattle.usbip_wire.specs.declared.ret_submit.RetSubmitHead.{RetSubmitHead}
use Rattle.tmc_law.specs.Put.{stalled}
use Rattle.host_joint.specs.Lines.{Gives}
use Rattle.host_joint.proofs.Owning.{NextRead, FullCame, ShortCame, HaltCame, next_read, HasRead, has_read, none_of as still_none}
use Rattle.host_joint.proofs.Counting.{all_past}
use Rattle.host_joint.proofs.Sending.{inner_final, inner_request, unasked}
use Rattle.host_joint.proofs.Handing.{none_front, no_last}

abbrev pub NotAsked : List Job → Type 0
NotAsked past = (t n : ℕ) → last_header past ≡ Some (Request t n) → ⊥

pub sets_request : (last : ℕ) (message : List ℕ) (tag size later more : ℕ) (past : List Job) (sofar : List ℕ) (flow : Flow) (s : State) → NotAsked past
    → Stage last message tag size past [] sofar flow s → Stage last message later more past [] sofar flow s
sets_request last message tag size later more past sofar flow s free (Follows seq earlier waits other part idle none empty still carries at) = Follows seq earlier waits other part idle none empty still tt at
sets_request last message tag size later more past sofar flow s free (Gathers done rest whole waits part idle none empty still carries at own) = Gathers done rest whole waits part idle none empty still tt at own
sets_request last message tag size later more past sofar flow s free (Waits waits part idle none empty still asks at) = Waits waits part idle none empty still (NoneComes refl) at
sets_request last message tag size later more past sofar flow s free (Rests response waits part idle ran all still asks at further) = Rests response waits part idle ran all still (NoneComes refl) at further
sets_request last message tag size later more past sofar flow s free (Owes response waits part owed ran all still none at further) = absurd (free tag size at)
sets_request last message tag size later more past sofar flow s free (Sends response carried bytes piece waits part sends ran all giving fits text none own at) = absurd (free tag size at)
sets_request last message tag size later more past sofar flow s free (Sent response carried bytes waits part idle ran all over fits text none at) = absurd (free tag size at)
sets_request last message tag size later more past sofar flow s free (Tears response carried bytes dropped waits part idle ran all torn fits text none at) = absurd (free tag size at)
sets_request last message tag size later more past sofar flow s free (Barred shuts another part idle none empty still over at) = Barred shuts another part idle none empty still over at
sets_request last message tag size later more past sofar flow s free (Dropped response closed waits part idle ran all still none at) = absurd (free tag size at)

sets_last : (last later : ℕ) (message : List ℕ) (tag size : ℕ) (past : List Job) (sofar : List ℕ) (flow : Flow) (s : State) → IsInner (last_header past) → sofar ≡ [] → NoExec later s.log
    → IsAnother later s.waiting → Stage last message tag size past [] sofar flow s → Stage later message tag size past [] sofar flow s
sets_last last later message tag size past sofar flow s inner nothing new other (Follows seq earlier waits differs part idle none empty still carries at) =
    Follows seq earlier waits (subst (λ (o : Option Waiting). IsAnother later o) waits other) part idle new empty still tt at
sets_last last later message tag size past sofar flow s inner nothing new other (Gathers done rest whole waits part idle none empty still carries at own) = Gathers done rest whole waits part idle new empty still tt at own
sets_last last later message tag size past sofar flow s inner nothing new other (Waits waits part idle none empty still asks at) = inner_final (last_header past) inner at
sets_last last later message tag size past sofar flow s inner nothing new other (Rests response waits part idle ran all still asks at further) = unasked past sofar inner nothing at
sets_last last later message tag size past sofar flow s inner nothing new other (Owes response waits part owed ran all still none at further) = inner_request tag size (last_header past) inner at
sets_last last later message tag size past sofar flow s inner nothing new other (Sends response carried bytes piece waits part sends ran all giving fits text none own at) = inner_request tag size (last_header past) inner at
sets_last last later message tag size past sofar flow s inner nothing new other (Sent response carried bytes waits part idle ran all over fits text none at) = inner_request tag size (last_header past) inner at
sets_last last later message tag size past sofar flow s inner nothing new other (Tears response carried bytes dropped waits part idle ran all torn fits text none at) = inner_request tag size (last_header past) inner at
sets_last last later message tag size past sofar flow s inner nothing new other (Barred shuts another part idle none empty still over at) = Barred shuts other part idle new empty still over at
sets_last last later message tag size past sofar flow s inner nothing new other (Dropped response closed waits part idle ran all still none at) = inner_request tag size (last_header past) inner at

-- an ask with another stage
restaged : (ask later : Ask) (ups : List up.Message) (downs : List Put) (s : State) (a : Asking ask ups downs s) → later.written ≡ ask.written → later.message ≡ ask.message
    → later.answered ≡ ask.answered → later.read ≡ ask.read → later.gone ≡ ask.gone
    → Stage later.last later.message later.tag later.size a.past a.todo later.sofar a.flow s → Asking later ups downs s
restaged ask later ups downs s a whole message answered read gone stage = record {
  past = a.past;
  todo = a.todo;
  hit = a.hit;
  whole = whole ∙ a.whole;
  missed = rw gone a.missed;
  jobs = a.jobs;
  short = rw message a.short;
  out = rw gone a.out;
  came = a.came;
  taken = a.taken;
  counted = rw answered a.counted;
  flow = a.flow;
  stage = stage;
  ins = rw (gone, read) a.ins;
  reads = a.reads;
  calm = rw gone a.calm;
}

pub request_set : (ask : Ask) (tag size : ℕ) (ups : List up.Message) (downs : List Put) (s : State) → NotAsked ask.written → ask.answered ≡ length ask.written → Asking ask ups downs s
    → Asking (record ask { tag = tag; size = size }) ups downs s
request_set ask tag size ups downs s free all a =
    let past = all_past ask.written a.past a.todo a.hit a.came a.whole (a.counted ∙ ap (λ (n : ℕ). n + a.came) all) in
    restaged ask (record ask { tag = tag; size = size }) ups downs s a refl refl refl refl refl
    (subst (λ (l : List Job). Stage ask.last ask.message tag size a.past l ask.sofar a.flow s) (sym past.todo_none)
    (sets_request ask.last ask.message ask.tag ask.size tag size a.past ask.sofar a.flow s (subst (λ (l : List Job). NotAsked l) (sym past.past_all) free)
    (subst (λ (l : List Job). Stage ask.last ask.message ask.tag ask.size a.past l ask.sofar a.flow s) past.todo_none a.stage)))

pub last_set : (ask : Ask) (last : ℕ) (ups : List up.Message) (downs : List Put) (s : State) → IsInner (last_header ask.written) → ask.sofar ≡ [] → ask.answered ≡ length ask.written
    → NoExec last s.log → IsAnother last s.waiting → Asking ask ups downs s → Asking (record ask { last = last }) ups downs s
last_set ask last ups downs s inner nothing all new other a =
    let past = all_past ask.written a.past a.todo a.hit a.came a.whole (a.counted ∙ ap (λ (n : ℕ). n + a.came) all) in
    restaged ask (record ask { last = last }) ups downs s a refl refl refl refl refl
    (subst (λ (l : List Job). Stage last ask.message ask.tag ask.size a.past l ask.sofar a.flow s) (sym past.todo_none)
    (sets_last ask.last last ask.message ask.tag ask.size a.past ask.sofar a.flow s (subst (λ (l : List Job). IsInner (last_header l)) (sym past.past_all) inner) nothing new other
    (subst (λ (l : List Job). Stage ask.last ask.message ask.tag ask.size a.past l ask.sofar a.flow s) past.todo_none a.stage)))

-- ---- behind the unlinks of reads that were left over

pub still_flow : (last : ℕ) (message : List ℕ) (tag size : ℕ) (past todo : List Job) (sofar : List ℕ) (flow : Flow) (s : State) → past ≡ [] → sofar ≢ [] → Stage last message tag size past todo sofar flow s → flow ≡ Still
still_flow last message tag size past todo sofar flow s none some (Follows seq earlier waits other part idle log empty still carries at) = still
still_flow last message tag size past todo sofar flow s none some (Gathers done rest whole waits part idle log empty still carries at own) = still
still_flow last message tag size past todo sofar flow s none some (Waits waits part idle log empty still asks at) = still
still_flow last message tag size past todo sofar flow s none some (Barred shuts another part idle log empty still over at) = still
still_flow last message tag size past todo sofar flow s none some (Rests response waits part idle ran all still asks at further) = still
still_flow last message tag size past todo sofar flow s none some (Owes response waits part owed ran all still over at further) = still
still_flow last message tag size past todo sofar flow s none some (Dropped response closed waits part idle ran all still over at) = still
still_flow last message tag size past todo sofar flow s none some (Sends response carried bytes piece waits part sends ran all giving fits text over own at) = no_last past tag size none at
still_flow last message tag size past todo sofar flow s none some (Sent response carried bytes waits part idle ran all over fits text empty at) = no_last past tag size none at
still_flow last message tag size past todo sofar flow s none some (Tears response carried bytes dropped waits part idle ran all torn fits text empty at) = no_last past tag size none at

none_lost : (shut gone now : Bool) (flow : Flow) (read : List ℕ) (events : List Event) (coming : List OnWay) (queue : List Pending) → flow ≡ Still → InLine shut gone flow read events coming queue
    → InLine shut now flow read events coming queue
none_lost shut gone now flow read events coming queue is (reads.Unread heads unshut still none come line are) = reads.Unread heads unshut still none come line are
none_lost shut gone now flow read events coming queue is (reads.Between bytes full heads unshut giving are whole come line rs) = reads.Between bytes full heads unshut giving are whole come line rs
none_lost shut gone now flow read events coming queue is (reads.Inside bytes moved packets full first heads unshut giving are whole come counted space line rs) =
    reads.Inside bytes moved packets full first heads unshut giving are whole come counted space line rs
none_lost shut gone now flow read events coming queue is (reads.Behind bytes full short heads unshut over are small whole come line rs) = reads.Behind bytes full short heads unshut over are small whole come line rs
none_lost shut gone now flow read events coming queue is (reads.Lost bytes lost full was unshut giving are whole come none line) = let e : Still ≡ Giving bytes = sym is ∙ giving in absurd (cc)
none_lost shut gone now flow read events coming queue is (reads.Closed front rest shuts come infront halted line) = reads.Closed front rest shuts come infront halted line

none_hit : (past todo hit : List Job) → [] ≡ past ++ (todo ++ hit) → hit ≡ []
none_hit [] [] hit e = sym e
none_hit [] (x ∷ todo) hit e = absurd (cc)
none_hit (x ∷ past) todo hit e = absurd (cc)

none_cut : (shut gone now : Bool) (todo : List Job) (coming : List OnWay) (queue : List Pending) (transfer : Option Transfer) → todo ≡ [] → OutLine shut gone todo coming queue transfer → OutLine shut now todo coming queue transfer
none_cut shut gone now todo coming queue transfer none (Unbegun here later unshut whole come line free) = Unbegun here later unshut whole come line free
none_cut shut gone now todo coming queue transfer none (Partly first here later moved left unshut whole come bytes begun more line runs) = Partly first here later moved left unshut whole come bytes begun more line runs
none_cut shut gone now todo coming queue transfer none (Cut first moved left was unshut whole come bytes begun more line runs) = let e : [] ≡ first ∷ [] = sym none ∙ whole in absurd (cc)
none_cut shut gone now todo coming queue transfer none (Shut shuts whole line free) = Shut shuts whole line free

pub unlinks_over : (ask : Ask) (ups : List up.Message) (downs : List Put) (s : State) → ask.written ≡ [] → ask.sofar ≢ [] → unlinks_in ups ≡ [] → Asking ask ups downs s
    → Asking (record ask { gone = false }) ups downs s
unlinks_over ask ups downs s none some over a =
    let past = (none_front a.past a.todo a.hit (sym none ∙ a.whole)).0 in
    record {
      past = a.past;
      todo = a.todo;
      hit = a.hit;
      whole = a.whole;
      missed = λ kept usable. none_hit a.past a.todo a.hit (sym none ∙ a.whole);
      jobs = a.jobs;
      short = a.short;
      out = none_cut s.halted.bulk_out ask.gone false a.todo (sent_to BulkOut ups) s.bulk_out s.transfer (none_front a.past a.todo a.hit (sym none ∙ a.whole)).1 a.out;
      came = a.came;
      taken = a.taken;
      counted = a.counted;
      flow = a.flow;
      stage = a.stage;
      ins = none_lost s.halted.bulk_in ask.gone false a.flow ask.read (gives (events_of BulkIn downs)) (sent_to BulkIn ups) s.bulk_in
          (still_flow ask.last ask.message ask.tag ask.size a.past a.todo ask.sofar a.flow s past some a.stage) a.ins;
      reads = a.reads;
      calm = record { control = a.calm.control; none_comes = a.calm.none_comes; running = a.calm.running; unlinks = λ e. over };
    }

-- where no piece has begun, a read is answered by a halt alone
pub still_read : (shut gone : Bool) (flow : Flow) (read : List ℕ) (head : SubmitHead) (a : RetSubmitHead) (transferred : List ℕ) (events : List Event) (coming : List OnWay) (queue : List Pending) → flow ≡ Still
    → InLine shut gone flow read (Gives head a transferred ∷ events) coming queue → (shut ≡ true) × (a.status ≡ stalled)
still_read shut gone flow read head a transferred events coming queue still line = by (next_read shut gone flow read (Gives head a transferred) events coming queue line) (has_read shut gone flow read (Gives head a transferred ∷ events) coming queue line)
  where
    by : NextRead shut gone flow read (Gives head a transferred) events coming queue → HasRead flow read → (shut ≡ true) × (a.status ≡ stalled)
    by (HaltCame shuts halted later) has = (shuts, halted.0)
    by (ShortCame x bytes is small over whole later) has = let e : Still ≡ Over bytes = sym still ∙ over in absurd (cc)
    by (FullCame x is full later) has = absurd (not_full later)
      where
        not_full : InLine shut gone flow (read ++ x.bytes) events coming queue → ⊥
        not_full l = full_none (still_none flow (read ++ x.bytes) still (has_read shut gone flow (read ++ x.bytes) events coming queue l))
          where
            full_none : read ++ x.bytes ≡ [] → ⊥
            full_none e = omega (arith, full, ap (λ (k : List ℕ). length k) e, length-append read x.bytes)
