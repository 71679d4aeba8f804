-- what the host does with an ask: it writes the next transfer, a read, and the unlinks of a cancel
use Rattle.std.proofs.Common.{◌≡◌, ◌≢◌, ◌∙◌, inl, inr, ℕ, Bool, true, false, cond, eqb, List, [], ◌∷◌, ◌++◌, length, Option, Some, None, refl, ap, sym, subst, append-nil}
use Rattle.std.proofs.lemmas.Bool.{eq-eqb}
use Rattle.std.proofs.lemmas.List.{append_cancel_left}
use Rattle.usbip_wire.specs.declared.submit.SubmitHead.{SubmitHead}
use Rattle.usbip_wire.specs.declared.unlink.UnlinkHead.{UnlinkHead}
use Rattle.usbip_wire.specs.Up as up
use Rattle.tmc_wire.specs.declared.header.OutHeader.{OutHeader}
use Rattle.tmc_wire.specs.declared.header.OutHeader.TheVariants.{Message, Request, Trigger}
use Rattle.tmc_law.specs.Endpoint.{Endpoint, Control, BulkOut, BulkIn, number_of}
use Rattle.tmc_law.specs.State.{State, Pending, Transfer}
use Rattle.tmc_law.specs.Put.{Put}
use Rattle.host_joint.specs.Lines.{Sent as OnWay, sent_to, events_of, unlinks_in}
use Rattle.host_joint.specs.Jobs.{Job, IsJob, AllJobs, OutLine, Unbegun, Partly, Cut, Shut, sent, fresh, last_header, data_in}
use Rattle.tmc_law.specs.Logging.{unread}
use Rattle.host_joint.specs.Reads.{Flow, IsRead, InLine, gives}
use Rattle.host_joint.specs.Stage.{OneComes, Carries, Stage, Follows, Gathers, Waits, Rests, Owes, Sends, Sent, Tears, Barred, Dropped, IsInner, IsFinal, IsUnasked}
use Rattle.host_joint.specs.Asking.{Asking, SentReads, Calm}
use Rattle.host_joint.specs.Hosted.{IsNext, unlinks_of}
use Rattle.host_joint.proofs.Filling.{read_writes, line_goes}
use Rattle.host_joint.proofs.Listing.{last_none}
use Rattle.host_joint.proofs.Counting.{AllPast, all_past, not_unasked}
use Rattle.host_joint.proofs.Parts.{ask_of}

-- ---- the host writes the next transfer, where those before it were taken

pub sent-append : (e : Endpoint) (a b : List up.Message) → sent_to e (a ++ b) ≡ sent_to e a ++ sent_to e b
sent-append e [] b = refl
sent-append e (up.Submit head transferred ∷ a) b = by (eqb head.ep (number_of e)) (sent-append e a b)
  where
    by : (c : Bool) → sent_to e (a ++ b) ≡ sent_to e a ++ sent_to e b
        → cond c (record { head = head; transferred = transferred } ∷ sent_to e (a ++ b)) (sent_to e (a ++ b)) ≡ cond c (record { head = head; transferred = transferred } ∷ sent_to e a) (sent_to e a) ++ sent_to e b
    by true h = ap (λ (l : List OnWay). record { head = head; transferred = transferred } ∷ l) h
    by false h = h
sent-append e (up.Unlink head ∷ a) b = sent-append e a b

pub sent_one : (job : Job) → IsJob job → sent_to BulkOut (up.Submit job.head job.bytes ∷ []) ≡ record { head = job.head; transferred = job.bytes } ∷ []
sent_one job is = rw (eq-eqb job.head.ep 1 is.number) refl

pub sent_same : (e : Endpoint) (job : Job) (ups : List up.Message) → IsJob job → eqb 1 (number_of e) ≡ false → sent_to e (ups ++ up.Submit job.head job.bytes ∷ []) ≡ sent_to e ups
sent_same e job ups is other =
    sent-append e ups (up.Submit job.head job.bytes ∷ []) ∙ ap (λ (l : List OnWay). sent_to e ups ++ l) (rw (ap (λ (n : ℕ). eqb n (number_of e)) is.number ∙ other) refl) ∙ append-nil (sent_to e ups)

pub unlinks_same : (job : Job) (ups : List up.Message) → unlinks_in (ups ++ up.Submit job.head job.bytes ∷ []) ≡ unlinks_in ups
unlinks_same job [] = refl
unlinks_same job (up.Submit head transferred ∷ ups) = unlinks_same job ups
unlinks_same job (up.Unlink head ∷ ups) = ap (λ (l : List UnlinkHead). head ∷ l) (unlinks_same job ups)

-- where the transfer stands: it is on its way, or it will never be taken
pub data Wrote (shut gone : Bool) (job : Job) (todo hit : List Job) (coming : List OnWay) (queue : List Pending) (transfer : Option Transfer) : Type 0 where
  OnItsWay : todo ≡ job ∷ [] → hit ≡ [] → OutLine shut gone todo coming queue transfer → Wrote shut gone job todo hit coming queue transfer
  Never : shut ≡ true → todo ≡ [] → hit ≡ job ∷ [] → OutLine shut gone todo coming queue transfer → Wrote shut gone job todo hit coming queue transfer

record Writing (shut gone : Bool) (job : Job) (coming : List OnWay) (queue : List Pending) (transfer : Option Transfer) : Type 0 where
  pub todo : List Job
  pub hit : List Job
  pub wrote : Wrote shut gone job todo hit coming queue transfer

no_fresh_later : (here later : List Job) → here ++ later ≡ [] → (here ≡ []) × (later ≡ [])
no_fresh_later [] later e = (refl, e)
no_fresh_later (x ∷ here) later e = absurd (cc)

writes_line : (shut gone : Bool) (job : Job) (coming : List OnWay) (queue : List Pending) (transfer : Option Transfer) → OutLine shut gone [] coming queue transfer
    → Writing shut gone job (coming ++ record { head = job.head; transferred = job.bytes } ∷ []) queue transfer
writes_line shut gone job coming queue transfer (Unbegun here later unshut whole come line free) =
    let none = no_fresh_later here later (sym whole) in
    record {
      todo = job ∷ [];
      hit = [];
      wrote = OnItsWay refl refl (Unbegun [] (job ∷ []) unshut refl
          (ap (λ (l : List OnWay). l ++ record { head = job.head; transferred = job.bytes } ∷ []) (come ∙ ap sent none.1)) (line ∙ ap fresh none.0) free);
    }
writes_line shut gone job coming queue transfer (Partly first here later moved left unshut whole come bytes begun more line runs) = let e : [] ≡ first ∷ (here ++ later) = whole in absurd (cc)
writes_line shut gone job coming queue transfer (Cut first moved left was unshut whole come bytes begun more line runs) = let e : [] ≡ first ∷ [] = whole in absurd (cc)
writes_line shut gone job coming queue transfer (Shut shuts whole line free) = record { todo = []; hit = job ∷ []; wrote = Never shuts refl refl (Shut shuts refl line free) }

pub inner_final : {B : Type 0} (o : Option OutHeader) → IsInner o → IsFinal o → B
inner_final None a b = absurd b
inner_final (Some (Message tag size true)) a b = absurd a
inner_final (Some (Message tag size false)) a b = absurd b
inner_final (Some (Request tag size)) a b = absurd a
inner_final (Some (Trigger tag)) a b = absurd a

pub inner_request : {B : Type 0} (tag size : ℕ) (o : Option OutHeader) → IsInner o → o ≡ Some (Request tag size) → B
inner_request tag size o a is = absurd (subst (λ (x : Option OutHeader). IsInner x) is a)

pub final_request : {B : Type 0} (tag size : ℕ) (o : Option OutHeader) → IsFinal o → o ≡ Some (Request tag size) → B
final_request tag size o a is = absurd (subst (λ (x : Option OutHeader). IsFinal x) is a)

pub no_mix : {B : Type 0} (o : Option OutHeader) → o ≡ None → IsFinal o → B
no_mix o is a = absurd (subst (λ (x : Option OutHeader). IsFinal x) is a)

pub unasked : {B : Type 0} (past : List Job) (sofar : List ℕ) → IsInner (last_header past) → sofar ≡ [] → IsUnasked past sofar → B
unasked past sofar inner none (inl final) = inner_final (last_header past) inner final
unasked past sofar inner none (inr (empty, some)) = absurd (some none)

next_part : (last : ℕ) (message : List ℕ) (tag size : ℕ) (past : List Job) (job : Job) (sofar : List ℕ) (flow : Flow) (s : State) → IsNext last message tag size past job sofar → s.halted.bulk_out ≡ false
    → Stage last message tag size past [] sofar flow s → Stage last message tag size past (job ∷ []) sofar flow s
next_part last message tag size past job sofar flow s next usable (Follows seq earlier waits other part idle none empty still carries at) =
    Follows seq earlier waits other part idle none empty still
    (subst (λ (l : List ℕ). Carries last tag size l (job ∷ [])) (sym (next.left ∙ ap (λ (l : List Job). data_in l ++ next.rest) (last_none past at))) next.carries) at
next_part last message tag size past job sofar flow s next usable (Gathers done rest whole waits part idle none empty still carries at own) =
    let same : rest ≡ next.rest = append_cancel_left done rest next.rest (sym whole ∙ next.left ∙ ap (λ (l : List ℕ). l ++ next.rest) (sym own)) in
    Gathers done rest whole waits part idle none empty still (subst (λ (l : List ℕ). Carries last tag size l (job ∷ [])) (sym same) next.carries) at own
next_part last message tag size past job sofar flow s next usable (Waits waits part idle none empty still asks at) = inner_final (last_header past) next.inner at
next_part last message tag size past job sofar flow s next usable (Rests response waits part idle ran all still asks at further) = unasked past sofar next.inner next.unread at
next_part last message tag size past job sofar flow s next usable (Owes response waits part owed ran all still none at further) = inner_request tag size (last_header past) next.inner at
next_part last message tag size past job sofar flow s next usable (Sends response carried bytes piece waits part sends ran all giving fits text none own at) = inner_request tag size (last_header past) next.inner at
next_part last message tag size past job sofar flow s next usable (Sent response carried bytes waits part idle ran all over fits text none at) = inner_request tag size (last_header past) next.inner at
next_part last message tag size past job sofar flow s next usable (Tears response carried bytes dropped waits part idle ran all torn fits text none at) = inner_request tag size (last_header past) next.inner at
next_part last message tag size past job sofar flow s next usable (Dropped response closed waits part idle ran all still none at) = inner_request tag size (last_header past) next.inner at
next_part last message tag size past job sofar flow s next usable (Barred shuts another part idle none empty still over at) = let e : false ≡ true = sym usable ∙ shuts in absurd (cc)

-- the stage with the request on its way
abbrev pub IsStarted : List ℕ → Type 0
IsStarted sofar = sofar ≢ []

pub asks_next : (last : ℕ) (message : List ℕ) (tag size : ℕ) (past : List Job) (job : Job) (sofar : List ℕ) (flow : Flow) (s : State) → job.header ≡ Request tag size → IsUnasked past sofar → s.halted.bulk_out ≡ false
    → ((past ≡ []) → IsStarted sofar) → (sofar ≢ [] → unread s ≢ []) → Stage last message tag size past [] sofar flow s → Stage last message tag size past (job ∷ []) sofar flow s
asks_next last message tag size past job sofar flow s header done usable started more (Waits waits part idle none empty still asks at) = Waits waits part idle none empty still (OneComes job refl header) at
asks_next last message tag size past job sofar flow s header done usable started more (Rests response waits part idle ran all still asks at further) = Rests response waits part idle ran all still (OneComes job refl header) at
    (λ some begun whole. more begun (sym (append_cancel_left sofar [] (unread s) (append-nil sofar ∙ whole ∙ all))))
asks_next last message tag size past job sofar flow s header done usable started more (Follows seq earlier waits other part idle none empty still carries at) = absurd (started (last_none past at) empty)
asks_next last message tag size past job sofar flow s header done usable started more (Gathers d rest whole waits part idle none empty still carries at own) = gathered done
  where
    gathered : {B : Type 0} → IsUnasked past sofar → B
    gathered (inl final) = inner_final (last_header past) at final
    gathered (inr (none, some)) = absurd (some empty)
asks_next last message tag size past job sofar flow s header done usable started more (Owes response waits part owed ran all still none at further) = not_unasked tag size past sofar at done
asks_next last message tag size past job sofar flow s header done usable started more (Sends response carried bytes piece waits part sends ran all giving fits text none own at) = not_unasked tag size past sofar at done
asks_next last message tag size past job sofar flow s header done usable started more (Sent response carried bytes waits part idle ran all over fits text none at) = not_unasked tag size past sofar at done
asks_next last message tag size past job sofar flow s header done usable started more (Tears response carried bytes dropped waits part idle ran all torn fits text none at) = not_unasked tag size past sofar at done
asks_next last message tag size past job sofar flow s header done usable started more (Dropped response closed waits part idle ran all still none at) = not_unasked tag size past sofar at done
asks_next last message tag size past job sofar flow s header done usable started more (Barred shuts another part idle none empty still over at) = let e : false ≡ true = sym usable ∙ shuts in absurd (cc)

-- ---- the whole ask

written_asking : (last : ℕ) (message : List ℕ) (tag size : ℕ) (written : List Job) (sofar read : List ℕ) (gone : Bool) (ups : List up.Message) (downs : List Put) (s : State) (job : Job) → IsJob job
    → ((past : List Job) (flow : Flow) → past ≡ written → s.halted.bulk_out ≡ false → Stage last message tag size past [] sofar flow s → Stage last message tag size past (job ∷ []) sofar flow s)
    → Asking (ask_of last message tag size written (length written) sofar read gone) ups downs s
    → Asking (ask_of last message tag size (written ++ job ∷ []) (length written) sofar read gone) (ups ++ up.Submit job.head job.bytes ∷ []) downs s
written_asking last message tag size written sofar read gone ups downs s job is goes h =
    let past = all_past written h.past h.todo h.hit h.came h.whole h.counted in
    let w = writes_line s.halted.bulk_out gone job (sent_to BulkOut ups) s.bulk_out s.transfer
    (subst (λ (l : List Job). OutLine s.halted.bulk_out gone l (sent_to BulkOut ups) s.bulk_out s.transfer) past.todo_none h.out) in
    by past w.todo w.hit (subst (λ (l : List OnWay). Wrote s.halted.bulk_out gone job w.todo w.hit l s.bulk_out s.transfer)
    (ap (λ (l : List OnWay). sent_to BulkOut ups ++ l) (sym (sent_one job is)) ∙ sym (sent-append BulkOut ups (up.Submit job.head job.bytes ∷ []))) w.wrote)
  where
    later : List up.Message
    later = ups ++ up.Submit job.head job.bytes ∷ []

    ins : InLine s.halted.bulk_in gone h.flow read (gives (events_of BulkIn downs)) (sent_to BulkIn later) s.bulk_in
    ins = subst (λ (l : List OnWay). InLine s.halted.bulk_in gone h.flow read (gives (events_of BulkIn downs)) l s.bulk_in) (sym (sent_same BulkIn job ups is refl)) h.ins

    calm : Calm gone later s
    calm = record { control = h.calm.control; none_comes = sent_same Control job ups is refl ∙ h.calm.none_comes; running = h.calm.running; unlinks = λ e. unlinks_same job ups ∙ h.calm.unlinks e }

    by : AllPast written h.past h.todo h.hit → (todo hit : List Job) → Wrote s.halted.bulk_out gone job todo hit (sent_to BulkOut later) s.bulk_out s.transfer
        → Asking (ask_of last message tag size (written ++ job ∷ []) (length written) sofar read gone) later downs s
    by past todo hit (OnItsWay comes none line) = record {
      past = h.past;
      todo = todo;
      hit = hit;
      whole = ap (λ (l : List Job). l ++ job ∷ []) (sym past.past_all) ∙ ap (λ (l : List Job). h.past ++ l) (sym (append-nil (job ∷ []))) ∙ ap (λ (l : List Job). h.past ++ (job ∷ [] ++ l)) (sym none)
          ∙ ap (λ (l : List Job). h.past ++ (l ++ hit)) (sym comes);
      missed = λ kept usable_out. none;
      flow = h.flow;
      short = h.short;
      jobs = subst (λ (l : List Job). AllJobs l) (sym comes) (is, tt);
      out = line;
      stage = subst (λ (l : List Job). Stage last message tag size h.past l sofar h.flow s) (sym comes)
          (goes h.past h.flow past.past_all (usable s.halted.bulk_out comes line) (subst (λ (l : List Job). Stage last message tag size h.past l sofar h.flow s) past.todo_none h.stage));
      ins = ins;
      reads = subst (λ (l : List OnWay). SentReads l) (sym (sent_same BulkIn job ups is refl)) h.reads;
      came = h.came;
      taken = h.taken;
      counted = h.counted;
      calm = calm;
    }
      where
        usable : (shut : Bool) → todo ≡ job ∷ [] → OutLine shut gone todo (sent_to BulkOut later) s.bulk_out s.transfer → shut ≡ false
        usable shut some (Unbegun here rest unshut whole come q free) = unshut
        usable shut some (Partly first here rest moved left unshut whole come bytes begun more q runs) = unshut
        usable shut some (Cut first moved left was unshut whole come bytes begun more q runs) = unshut
        usable shut some (Shut shuts whole q free) = let e : [] ≡ job ∷ [] = sym whole ∙ some in absurd (cc)
    by past todo hit (Never shuts none never line) = record {
      past = h.past;
      todo = todo;
      hit = hit;
      whole = ap (λ (l : List Job). l ++ job ∷ []) (sym past.past_all) ∙ ap (λ (l : List Job). h.past ++ l) (sym never) ∙ ap (λ (l : List Job). h.past ++ (l ++ hit)) (sym none);
      missed = λ kept usable_out. let e : false ≡ true = sym usable_out ∙ shuts in absurd (cc);
      flow = h.flow;
      short = h.short;
      jobs = subst (λ (l : List Job). AllJobs l) (sym none) tt;
      out = line;
      stage = subst (λ (l : List Job). Stage last message tag size h.past l sofar h.flow s) (past.todo_none ∙ sym none) h.stage;
      ins = ins;
      reads = subst (λ (l : List OnWay). SentReads l) (sym (sent_same BulkIn job ups is refl)) h.reads;
      came = h.came;
      taken = h.taken;
      counted = h.counted;
      calm = calm;
    }

-- the next part of the message is written, where those before it were taken
pub part_written : (last : ℕ) (message : List ℕ) (tag size : ℕ) (written : List Job) (sofar read : List ℕ) (gone : Bool) (ups : List up.Message) (downs : List Put) (s : State) (job : Job) → IsJob job
    → IsNext last message tag size written job sofar → Asking (ask_of last message tag size written (length written) sofar read gone) ups downs s
    → Asking (ask_of last message tag size (written ++ job ∷ []) (length written) sofar read gone) (ups ++ up.Submit job.head job.bytes ∷ []) downs s
part_written last message tag size written sofar read gone ups downs s job is next h =
    written_asking last message tag size written sofar read gone ups downs s job is
    (λ past flow same usable stage. next_part last message tag size past job sofar flow s (subst (λ (l : List Job). IsNext last message tag size l job sofar) (sym same) next) usable stage) h

-- the request is written, where the message was taken
pub request_written : (last : ℕ) (message : List ℕ) (tag size : ℕ) (written : List Job) (sofar read : List ℕ) (gone : Bool) (ups : List up.Message) (downs : List Put) (s : State) (job : Job) → IsJob job
    → job.header ≡ Request tag size → IsUnasked written sofar → (sofar ≢ [] → unread s ≢ []) → Asking (ask_of last message tag size written (length written) sofar read gone) ups downs s
    → Asking (ask_of last message tag size (written ++ job ∷ []) (length written) sofar read gone) (ups ++ up.Submit job.head job.bytes ∷ []) downs s
request_written last message tag size written sofar read gone ups downs s job is header done more h =
    written_asking last message tag size written sofar read gone ups downs s job is
    (λ past flow same usable stage. asks_next last message tag size past job sofar flow s header (subst (λ (l : List Job). IsUnasked l sofar) (sym same) done) usable
    (λ none. begun (subst (λ (l : List Job). IsUnasked l sofar) (sym same ∙ none) done)) more stage) h
  where
    begun : IsUnasked [] sofar → IsStarted sofar
    begun (inl final) = absurd final
    begun (inr (none, some)) = some

-- ---- the host writes a read, and it cancels

pub sent_other : (e : Endpoint) (head : SubmitHead) (ups : List up.Message) → head.ep ≡ 2 → eqb 2 (number_of e) ≡ false → sent_to e (ups ++ up.Submit head [] ∷ []) ≡ sent_to e ups
sent_other e head ups is other =
    sent-append e ups (up.Submit head [] ∷ []) ∙ ap (λ (l : List OnWay). sent_to e ups ++ l) (rw (ap (λ (n : ℕ). eqb n (number_of e)) is ∙ other) refl) ∙ append-nil (sent_to e ups)

sent_read : (head : SubmitHead) (ups : List up.Message) → head.ep ≡ 2 → sent_to BulkIn (ups ++ up.Submit head [] ∷ []) ≡ sent_to BulkIn ups ++ record { head = head; transferred = [] } ∷ []
sent_read head ups is = sent-append BulkIn ups (up.Submit head [] ∷ []) ∙ ap (λ (l : List OnWay). sent_to BulkIn ups ++ l) (rw (eq-eqb head.ep 2 is) refl)

reads_more : (l : List OnWay) (head : SubmitHead) → IsRead head → SentReads l → SentReads (l ++ record { head = head; transferred = [] } ∷ [])
reads_more [] head is h = (is, refl, tt)
reads_more (x ∷ l) head is h = (h.0, h.1, reads_more l head is h.2)

pub unlinks_kept : (head : SubmitHead) (ups : List up.Message) → unlinks_in (ups ++ up.Submit head [] ∷ []) ≡ unlinks_in ups
unlinks_kept head [] = refl
unlinks_kept head (up.Submit x transferred ∷ ups) = unlinks_kept head ups
unlinks_kept head (up.Unlink x ∷ ups) = ap (λ (l : List UnlinkHead). x ∷ l) (unlinks_kept head ups)

-- a read is written, at any depth
pub read_written : (last : ℕ) (message : List ℕ) (tag size : ℕ) (written : List Job) (answered : ℕ) (sofar read : List ℕ) (ups : List up.Message) (downs : List Put) (s : State) (head : SubmitHead) → IsRead head
    → Asking (ask_of last message tag size written answered sofar read false) ups downs s → Asking (ask_of last message tag size written answered sofar read false) (ups ++ up.Submit head [] ∷ []) downs s
read_written last message tag size written answered sofar read ups downs s head is h = record {
  past = h.past;
  todo = h.todo;
  hit = h.hit;
  whole = h.whole;
  missed = h.missed;
  flow = h.flow;
  short = h.short;
  jobs = h.jobs;
  out = subst (λ (l : List OnWay). OutLine s.halted.bulk_out false h.todo l s.bulk_out s.transfer) (sym (sent_other BulkOut head ups is.number refl)) h.out;
  stage = h.stage;
  ins = subst (λ (l : List OnWay). InLine s.halted.bulk_in false h.flow read (gives (events_of BulkIn downs)) l s.bulk_in) (sym (sent_read head ups is.number))
      (read_writes s.halted.bulk_in false h.flow read (gives (events_of BulkIn downs)) (sent_to BulkIn ups) (record { head = head; transferred = [] } ∷ []) s.bulk_in refl h.ins);
  reads = subst (λ (l : List OnWay). SentReads l) (sym (sent_read head ups is.number)) (reads_more (sent_to BulkIn ups) head is h.reads);
  came = h.came;
  taken = h.taken;
  counted = h.counted;
  calm = record {
    control = h.calm.control;
    none_comes = sent_other Control head ups is.number refl ∙ h.calm.none_comes;
    running = h.calm.running;
    unlinks = λ e. unlinks_kept head ups ∙ h.calm.unlinks e;
  };
}

sent_none : (e : Endpoint) (heads : List UnlinkHead) → sent_to e (unlinks_of heads) ≡ []
sent_none e [] = refl
sent_none e (head ∷ heads) = sent_none e heads

sent_kept : (e : Endpoint) (ups : List up.Message) (heads : List UnlinkHead) → sent_to e (ups ++ unlinks_of heads) ≡ sent_to e ups
sent_kept e ups heads = sent-append e ups (unlinks_of heads) ∙ ap (λ (l : List OnWay). sent_to e ups ++ l) (sent_none e heads) ∙ append-nil (sent_to e ups)

out_goes : (shut gone : Bool) (todo : List Job) (coming : List OnWay) (queue : List Pending) (transfer : Option Transfer) → OutLine shut gone todo coming queue transfer → OutLine shut true todo coming queue transfer
out_goes shut gone todo coming queue transfer (Unbegun here later unshut whole come line free) = Unbegun here later unshut whole come line free
out_goes shut gone todo coming queue transfer (Partly first here later moved left unshut whole come bytes begun more line runs) = Partly first here later moved left unshut whole come bytes begun more line runs
out_goes shut gone todo coming queue transfer (Cut first moved left was unshut whole come bytes begun more line runs) = Cut first moved left refl unshut whole come bytes begun more line runs
out_goes shut gone todo coming queue transfer (Shut shuts whole line free) = Shut shuts whole line free

-- the unlinks of a cancel are written
pub unlinks_written : (last : ℕ) (message : List ℕ) (tag size : ℕ) (written : List Job) (answered : ℕ) (sofar read : List ℕ) (gone : Bool) (ups : List up.Message) (downs : List Put) (s : State) (heads : List UnlinkHead)
    → Asking (ask_of last message tag size written answered sofar read gone) ups downs s → Asking (ask_of last message tag size written answered sofar read true) (ups ++ unlinks_of heads) downs s
unlinks_written last message tag size written answered sofar read gone ups downs s heads h = record {
  past = h.past;
  todo = h.todo;
  hit = h.hit;
  whole = h.whole;
  missed = λ kept. clash kept;
  flow = h.flow;
  short = h.short;
  jobs = h.jobs;
  out = subst (λ (l : List OnWay). OutLine s.halted.bulk_out true h.todo l s.bulk_out s.transfer) (sym (sent_kept BulkOut ups heads))
      (out_goes s.halted.bulk_out gone h.todo (sent_to BulkOut ups) s.bulk_out s.transfer h.out);
  stage = h.stage;
  ins = subst (λ (l : List OnWay). InLine s.halted.bulk_in true h.flow read (gives (events_of BulkIn downs)) l s.bulk_in) (sym (sent_kept BulkIn ups heads))
      (line_goes s.halted.bulk_in gone h.flow read (gives (events_of BulkIn downs)) (sent_to BulkIn ups) s.bulk_in h.ins);
  reads = subst (λ (l : List OnWay). SentReads l) (sym (sent_kept BulkIn ups heads)) h.reads;
  came = h.came;
  taken = h.taken;
  counted = h.counted;
  calm = record { control = h.calm.control; none_comes = sent_kept Control ups heads ∙ h.calm.none_comes; running = h.calm.running; unlinks = λ e. clash e };
}
  where
    clash : {A : Type 0} → true ≡ false → A
    clash e = absurd (cc)

kept_of : (e : Endpoint) (head : SubmitHead) (ups : List up.Message) → head.ep ≡ 3 → eqb 3 (number_of e) ≡ false → sent_to e (ups ++ up.Submit head [] ∷ []) ≡ sent_to e ups
kept_of e head ups is other =
    sent-append e ups (up.Submit head [] ∷ []) ∙ ap (λ (l : List OnWay). sent_to e ups ++ l) (rw (ap (λ (n : ℕ). eqb n (number_of e)) is ∙ other) refl) ∙ append-nil (sent_to e ups)

pub other_written : (last : ℕ) (message : List ℕ) (tag size : ℕ) (written : List Job) (answered : ℕ) (sofar read : List ℕ) (gone : Bool) (ups : List up.Message) (downs : List Put) (s : State) (head : SubmitHead) → head.ep ≡ 3
    → Asking (ask_of last message tag size written answered sofar read gone) ups downs s → Asking (ask_of last message tag size written answered sofar read gone) (ups ++ up.Submit head [] ∷ []) downs s
other_written last message tag size written answered sofar read gone ups downs s head is h = record {
  past = h.past;
  todo = h.todo;
  hit = h.hit;
  whole = h.whole;
  missed = h.missed;
  flow = h.flow;
  short = h.short;
  jobs = h.jobs;
  out = subst (λ (l : List OnWay). OutLine s.halted.bulk_out gone h.todo l s.bulk_out s.transfer) (sym (kept_of BulkOut head ups is refl)) h.out;
  stage = h.stage;
  ins = subst (λ (l : List OnWay). InLine s.halted.bulk_in gone h.flow read (gives (events_of BulkIn downs)) l s.bulk_in) (sym (kept_of BulkIn head ups is refl)) h.ins;
  reads = subst (λ (l : List OnWay). SentReads l) (sym (kept_of BulkIn head ups is refl)) h.reads;
  came = h.came;
  taken = h.taken;
  counted = h.counted;
  calm = record {
    control = h.calm.control;
    none_comes = kept_of Control head ups is refl ∙ h.calm.none_comes;
    running = h.calm.running;
    unlinks = λ e. unlinks_kept head ups ∙ h.calm.unlinks e;
  };
}
