-- the host writes the request right behind the last transfer of the message, before that one was answered
use Rattle.std.proofs.Common.{◌≡◌, ◌∙◌, inl, inr, ℕ, zero, suc, Bool, true, false, List, [], ◌∷◌, ◌++◌, length, Option, Some, refl, ap, sym, subst, append_assoc, append-nil, length-append, arith}
use Rattle.usbip_wire.specs.Up as up
use Rattle.tmc_wire.specs.declared.header.OutHeader.{OutHeader}
use Rattle.tmc_wire.specs.declared.header.OutHeader.TheVariants.{Request}
use Rattle.tmc_law.specs.Endpoint.{Control, BulkOut, BulkIn}
use Rattle.tmc_law.specs.State.{State, Pending, Transfer}
use Rattle.tmc_law.specs.Put.{Put}
use Rattle.host_joint.specs.Lines.{Sent as OnWay, sent_to, events_of}
use Rattle.host_joint.specs.Jobs.{Job, IsJob, AllJobs, OutLine, Unbegun, Partly, Cut, Shut, sent, last_header}
use Rattle.host_joint.specs.Reads.{Flow, InLine, gives}
use Rattle.host_joint.specs.Stage.{NextPart, Inner, Final, OneComes, Stage, Follows, Gathers, Waits, Rests, Owes, Sends, Sent, Tears, Barred, Dropped, IsInner, IsFinal}
use Rattle.host_joint.specs.Asking.{Asking, SentReads}
use Rattle.host_joint.proofs.Parts.{ask_of}
use Rattle.host_joint.proofs.Counting.{all_past, not_inner, not_final}
use Rattle.host_joint.proofs.Listing.{last_more}
use Rattle.host_joint.proofs.Sending.{inner_final, inner_request, asks_next, sent-append, sent_one, sent_same, unlinks_same}
use Rattle.host_joint.proofs.Setting.{NotAsked, sets_request}
use Rattle.host_joint.proofs.Handing.{last_left}

-- ---- Bulk-OUT

sent-more : (jobs : List Job) (job : Job) → sent (jobs ++ job ∷ []) ≡ sent jobs ++ record { head = job.head; transferred = job.bytes } ∷ []
sent-more [] job = refl
sent-more (x ∷ jobs) job = ap (λ (l : List OnWay). record { head = x.head; transferred = x.bytes } ∷ l) (sent-more jobs job)

out_more : (shut : Bool) (todo : List Job) (job : Job) (coming : List OnWay) (queue : List Pending) (transfer : Option Transfer) → shut ≡ false → OutLine shut false todo coming queue transfer
    → OutLine shut false (todo ++ job ∷ []) (coming ++ record { head = job.head; transferred = job.bytes } ∷ []) queue transfer
out_more shut todo job coming queue transfer usable (Unbegun here later unshut whole come line free) =
    Unbegun here (later ++ job ∷ []) unshut (ap (λ (l : List Job). l ++ job ∷ []) whole ∙ append_assoc here later (job ∷ []))
    (ap (λ (l : List OnWay). l ++ record { head = job.head; transferred = job.bytes } ∷ []) come ∙ sym (sent-more later job)) line free
out_more shut todo job coming queue transfer usable (Partly first here later moved left unshut whole come bytes begun more line runs) =
    Partly first here (later ++ job ∷ []) moved left unshut (ap (λ (l : List Job). l ++ job ∷ []) whole ∙ ap (λ (l : List Job). first ∷ l) (append_assoc here later (job ∷ [])))
    (ap (λ (l : List OnWay). l ++ record { head = job.head; transferred = job.bytes } ∷ []) come ∙ sym (sent-more later job)) bytes begun more line runs
out_more shut todo job coming queue transfer usable (Cut first moved left was unshut whole come bytes begun more line runs) = let e : false ≡ true = was in absurd (cc)
out_more shut todo job coming queue transfer usable (Shut shuts whole line free) = let e : false ≡ true = sym usable ∙ shuts in absurd (cc)

-- where it is halted, nothing is to be taken, whatever comes
record Halted (shut : Bool) (todo : List Job) (coming : List OnWay) (queue : List Pending) (transfer : Option Transfer) : Type 0 where
  pub todo_none : todo ≡ []
  pub line : OutLine shut false [] coming queue transfer

out_shut : (shut : Bool) (todo : List Job) (coming later : List OnWay) (queue : List Pending) (transfer : Option Transfer) → shut ≡ true → OutLine shut false todo coming queue transfer → Halted shut todo later queue transfer
out_shut shut todo coming later queue transfer halted (Unbegun here behind unshut whole come line free) = let e : false ≡ true = sym unshut ∙ halted in absurd (cc)
out_shut shut todo coming later queue transfer halted (Partly first here behind moved left unshut whole come bytes begun more line runs) = let e : false ≡ true = sym unshut ∙ halted in absurd (cc)
out_shut shut todo coming later queue transfer halted (Cut first moved left was unshut whole come bytes begun more line runs) = let e : false ≡ true = was in absurd (cc)
out_shut shut todo coming later queue transfer halted (Shut shuts whole line free) = record { todo_none = whole; line = Shut shuts refl line free }

-- ---- the instrument

-- a request behind the last part
part_asks : (last tag size later most : ℕ) (rest : List ℕ) (final job : Job) (F G : List ℕ → Type 0) → IsFinal (Some final.header) → job.header ≡ Request later most
    → NextPart last tag size rest final [] F → NextPart last later most rest final (job ∷ []) G
part_asks last tag size later most rest final job F G ends header (Inner t n more inner whole carries) = absurd (subst (λ (h : OutHeader). IsFinal (Some h)) inner ends)
part_asks last tag size later most rest final job F G ends header (Final t n own whole number asks) = Final t n own whole number (OneComes job refl header)

part_comes : (last : ℕ) (message : List ℕ) (tag size later most : ℕ) (past : List Job) (final job : Job) (flow : Flow) (s : State) → IsInner (last_header past) → IsFinal (Some final.header) → job.header ≡ Request later most
    → s.halted.bulk_out ≡ false → Stage last message tag size past (final ∷ []) [] flow s → Stage last message later most past (final ∷ job ∷ []) [] flow s
part_comes last message tag size later most past final job flow s inner ends header usable (Follows seq earlier waits other part idle none empty still carries at) =
    Follows seq earlier waits other part idle none empty still (part_asks last tag size later most message final job _ _ ends header carries) at
part_comes last message tag size later most past final job flow s inner ends header usable (Gathers d rest whole waits part idle none empty still carries at own) =
    Gathers d rest whole waits part idle none empty still (part_asks last tag size later most rest final job _ _ ends header carries) at own
part_comes last message tag size later most past final job flow s inner ends header usable (Waits waits part idle none empty still asks at) = inner_final (last_header past) inner at
part_comes last message tag size later most past final job flow s inner ends header usable (Rests response waits part idle ran all still asks (inl at) further) = inner_final (last_header past) inner at
part_comes last message tag size later most past final job flow s inner ends header usable (Rests response waits part idle ran all still asks (inr (none, some)) further) = absurd (some refl)
part_comes last message tag size later most past final job flow s inner ends header usable (Owes response waits part owed ran all still none at further) = inner_request tag size (last_header past) inner at
part_comes last message tag size later most past final job flow s inner ends header usable (Sends response carried bytes piece waits part sends ran all giving fits text none own at) = inner_request tag size (last_header past) inner at
part_comes last message tag size later most past final job flow s inner ends header usable (Sent response carried bytes waits part idle ran all over fits text none at) = inner_request tag size (last_header past) inner at
part_comes last message tag size later most past final job flow s inner ends header usable (Tears response carried bytes dropped waits part idle ran all torn fits text none at) = inner_request tag size (last_header past) inner at
part_comes last message tag size later most past final job flow s inner ends header usable (Dropped response closed waits part idle ran all still none at) = inner_request tag size (last_header past) inner at
part_comes last message tag size later most past final job flow s inner ends header usable (Barred shuts another part idle none empty still over at) = let e : false ≡ true = sym usable ∙ shuts in absurd (cc)

not_asked_inner : (past : List Job) → IsInner (last_header past) → NotAsked past
not_asked_inner past inner t n e = not_inner t n (last_header past) e inner

not_asked_final : (past : List Job) → IsFinal (last_header past) → NotAsked past
not_asked_final past final t n e = not_final t n (last_header past) e final

-- ---- the ask

-- how the transfers are divided once the request was written
record Divided (last : ℕ) (message : List ℕ) (tag size : ℕ) (written past : List Job) (flow : Flow) (coming : List OnWay) (s : State) : Type 0 where
  pub todo : List Job
  pub hit : List Job
  pub whole : written ≡ past ++ (todo ++ hit)
  pub missed : s.halted.bulk_out ≡ false → hit ≡ []
  pub jobs : AllJobs todo
  pub out : OutLine s.halted.bulk_out false todo coming s.bulk_out s.transfer
  pub stage : Stage last message tag size past todo [] flow s

one_only : (final x : Job) (hit : List Job) → x ∷ hit ≡ final ∷ [] → x ≡ final
one_only final x hit e = cc

-- the last part was not taken yet, or never will be
divide_part : (last : ℕ) (message : List ℕ) (tag size later most : ℕ) (front past todo hit : List Job) (final job : Job) (flow : Flow) (coming : List OnWay) (s : State) → IsInner (last_header front) → IsFinal (Some final.header)
    → job.header ≡ Request later most → IsJob job → past ≡ front → todo ++ hit ≡ final ∷ [] → (s.halted.bulk_out ≡ false → hit ≡ []) → AllJobs todo → OutLine s.halted.bulk_out false todo coming s.bulk_out s.transfer
    → Stage last message tag size past todo [] flow s
    → Divided last message later most ((front ++ final ∷ []) ++ job ∷ []) past flow (coming ++ record { head = job.head; transferred = job.bytes } ∷ []) s
divide_part last message tag size later most front past todo hit final job flow coming s inner ends header is past_is rest missed jobs line stage = by s.halted.bulk_out refl
  where
    own : IsInner (last_header past)
    own = subst (λ (l : List Job). IsInner (last_header l)) (sym past_is) inner

    all : (front ++ final ∷ []) ++ job ∷ [] ≡ past ++ ((todo ++ hit) ++ job ∷ [])
    all = append_assoc front (final ∷ []) (job ∷ []) ∙ ap (λ (l : List Job). l ++ (final ∷ [] ++ job ∷ [])) (sym past_is) ∙ ap (λ (l : List Job). past ++ (l ++ job ∷ [])) (sym rest)

    by : (shut : Bool) → s.halted.bulk_out ≡ shut → Divided last message later most ((front ++ final ∷ []) ++ job ∷ []) past flow (coming ++ record { head = job.head; transferred = job.bytes } ∷ []) s
    by false usable =
        let none = missed usable in
        let todo_is : todo ≡ final ∷ [] = sym (append-nil todo) ∙ ap (λ (l : List Job). todo ++ l) (sym none) ∙ rest in
        record {
          todo = todo ++ job ∷ [];
          hit = [];
          whole = all ∙ ap (λ (l : List Job). past ++ ((todo ++ l) ++ job ∷ [])) none ∙ ap (λ (l : List Job). past ++ (l ++ job ∷ [])) (append-nil todo) ∙ ap (λ (l : List Job). past ++ l) (sym (append-nil (todo ++ job ∷ [])));
          missed = λ e. refl;
          jobs = subst (λ (l : List Job). AllJobs (l ++ job ∷ [])) (sym todo_is) ((subst (λ (l : List Job). AllJobs l) todo_is jobs).0, (is, tt));
          out = out_more s.halted.bulk_out todo job coming s.bulk_out s.transfer usable line;
          stage = subst (λ (l : List Job). Stage last message later most past (l ++ job ∷ []) [] flow s) (sym todo_is)
              (part_comes last message tag size later most past final job flow s own ends header usable (subst (λ (l : List Job). Stage last message tag size past l [] flow s) todo_is stage));
        }
    by true halted =
        let h = out_shut s.halted.bulk_out todo coming (coming ++ record { head = job.head; transferred = job.bytes } ∷ []) s.bulk_out s.transfer halted line in
        record {
          todo = [];
          hit = hit ++ job ∷ [];
          whole = all ∙ ap (λ (l : List Job). past ++ ((l ++ hit) ++ job ∷ [])) h.todo_none;
          missed = λ usable. let e : true ≡ false = sym halted ∙ usable in absurd (cc);
          jobs = tt;
          out = h.line;
          stage = sets_request last message tag size later most past [] flow s (not_asked_inner past own) (subst (λ (l : List Job). Stage last message tag size past l [] flow s) h.todo_none stage);
        }

-- the last part was taken
divide_taken : (last : ℕ) (message : List ℕ) (tag size later most : ℕ) (written past todo hit : List Job) (job : Job) (flow : Flow) (coming : List OnWay) (s : State) → IsFinal (last_header written)
    → job.header ≡ Request later most → IsJob job → past ≡ written → todo ≡ [] → hit ≡ [] → OutLine s.halted.bulk_out false todo coming s.bulk_out s.transfer → Stage last message tag size past todo [] flow s
    → Divided last message later most (written ++ job ∷ []) past flow (coming ++ record { head = job.head; transferred = job.bytes } ∷ []) s
divide_taken last message tag size later most written past todo hit job flow coming s ends header is past_is todo_none hit_none line stage = by s.halted.bulk_out refl
  where
    own : IsFinal (last_header past)
    own = subst (λ (l : List Job). IsFinal (last_header l)) (sym past_is) ends

    set : Stage last message later most past [] [] flow s
    set = sets_request last message tag size later most past [] flow s (not_asked_final past own) (subst (λ (l : List Job). Stage last message tag size past l [] flow s) todo_none stage)

    by : (shut : Bool) → s.halted.bulk_out ≡ shut → Divided last message later most (written ++ job ∷ []) past flow (coming ++ record { head = job.head; transferred = job.bytes } ∷ []) s
    by false usable = record {
      todo = job ∷ [];
      hit = [];
      whole = ap (λ (l : List Job). l ++ job ∷ []) (sym past_is);
      missed = λ e. refl;
      jobs = (is, tt);
      out = out_more s.halted.bulk_out [] job coming s.bulk_out s.transfer usable (subst (λ (l : List Job). OutLine s.halted.bulk_out false l coming s.bulk_out s.transfer) todo_none line);
      stage = asks_next last message later most past job [] flow s header (inl own) usable (λ none. absurd (subst (λ (l : List Job). IsFinal (last_header l)) none own)) (λ some. absurd (some refl)) set;
    }
    by true halted =
        let h = out_shut s.halted.bulk_out todo coming (coming ++ record { head = job.head; transferred = job.bytes } ∷ []) s.bulk_out s.transfer halted line in
        record {
          todo = [];
          hit = job ∷ [];
          whole = ap (λ (l : List Job). l ++ job ∷ []) (sym past_is);
          missed = λ usable. let e : true ≡ false = sym halted ∙ usable in absurd (cc);
          jobs = tt;
          out = h.line;
          stage = set;
        }

pub request_ahead : (last : ℕ) (message : List ℕ) (tag size later most : ℕ) (front : List Job) (final job : Job) (read : List ℕ) (ups : List up.Message) (downs : List Put) (s : State) → IsInner (last_header front) → IsFinal (Some final.header)
    → job.header ≡ Request later most → IsJob job → Asking (ask_of last message tag size (front ++ final ∷ []) (length front) [] read false) ups downs s
    → Asking (ask_of last message later most ((front ++ final ∷ []) ++ job ∷ []) (length front) [] read false) (ups ++ up.Submit job.head job.bytes ∷ []) downs s
request_ahead last message tag size later most front final job read ups downs s inner ends header is a = by a.came refl
  where
    ups_then : List up.Message
    ups_then = ups ++ up.Submit job.head job.bytes ∷ []

    coming_is : sent_to BulkOut ups ++ record { head = job.head; transferred = job.bytes } ∷ [] ≡ sent_to BulkOut ups_then
    coming_is = ap (λ (l : List OnWay). sent_to BulkOut ups ++ l) (sym (sent_one job is)) ∙ sym (sent-append BulkOut ups (up.Submit job.head job.bytes ∷ []))

    made : Divided last message later most ((front ++ final ∷ []) ++ job ∷ []) a.past a.flow (sent_to BulkOut ups ++ record { head = job.head; transferred = job.bytes } ∷ []) s
        → Asking (ask_of last message later most ((front ++ final ∷ []) ++ job ∷ []) (length front) [] read false) ups_then downs s
    made d = record {
      past = a.past;
      todo = d.todo;
      hit = d.hit;
      whole = d.whole;
      missed = λ kept. d.missed;
      jobs = d.jobs;
      short = a.short;
      out = subst (λ (l : List OnWay). OutLine s.halted.bulk_out false d.todo l s.bulk_out s.transfer) coming_is d.out;
      came = a.came;
      taken = a.taken;
      counted = a.counted;
      flow = a.flow;
      stage = d.stage;
      ins = subst (λ (l : List OnWay). InLine s.halted.bulk_in false a.flow read (gives (events_of BulkIn downs)) l s.bulk_in) (sym (sent_same BulkIn job ups is refl)) a.ins;
      reads = subst (λ (l : List OnWay). SentReads l) (sym (sent_same BulkIn job ups is refl)) a.reads;
      calm = record { control = a.calm.control; none_comes = sent_same Control job ups is refl ∙ a.calm.none_comes; running = a.calm.running; unlinks = λ e. unlinks_same job ups ∙ a.calm.unlinks e };
    }

    by : (came : ℕ) → a.came ≡ came → Asking (ask_of last message later most ((front ++ final ∷ []) ++ job ∷ []) (length front) [] read false) ups_then downs s
    by zero none =
        let left = last_left front a.past final a.todo a.hit a.whole (omega (arith, a.counted, none)) in
        made (divide_part last message tag size later most front a.past a.todo a.hit final job a.flow (sent_to BulkOut ups) s inner ends header is left.past_is left.rest_is (a.missed refl) a.jobs a.out a.stage)
    by (suc zero) one =
        let past = all_past (front ++ final ∷ []) a.past a.todo a.hit 0 a.whole (omega (arith, a.counted, one, length-append front (final ∷ []))) in
        made (divide_taken last message tag size later most (front ++ final ∷ []) a.past a.todo a.hit job a.flow (sent_to BulkOut ups) s (subst (λ (o : Option OutHeader). IsFinal o) (sym (last_more front final)) ends) header is
        past.past_all past.todo_none past.hit_none a.out a.stage)
    by (suc (suc n)) more =
        absurd (omega (arith, a.counted, more, length-append front (final ∷ []), ap (λ (l : List Job). length l) a.whole, length-append a.past (a.todo ++ a.hit)))
