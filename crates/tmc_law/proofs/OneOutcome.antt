-- a state that can be reached and a move determine what comes of it
use Rattle.std.proofs.Common.{◌≡◌, ◌∙◌, ℕ, ◌+◌, ◌≤◌, true, false, List, [], ◌∷◌, ◌++◌, refl, ap, sym, subst, arith}
use Rattle.usbip_wire.specs.declared.submit.SubmitHead.{SubmitHead}
use Rattle.usbip_wire.specs.declared.unlink.UnlinkHead.{UnlinkHead}
use Rattle.usbip_wire.specs.Up as up
use Rattle.usb_setup.specs.declared.setup.Setup.{Setup}
use Rattle.tmc_wire.specs.ClassStatus.{STATUS_SUCCESS}
use Rattle.tmc_law.specs.Endpoint.{Endpoint, Control, BulkOut, BulkIn, InterruptIn, number_of}
use Rattle.tmc_law.specs.State.{State, Pending, arrived, queue_of, with_queue, pending, Avoids}
use Rattle.tmc_law.specs.Put.{Put, success, unlink_answer}
use Rattle.tmc_law.specs.Control.{control_answer}
use Rattle.tmc_law.specs.Halts.{HaltsItself, DoesHalt}
use Rattle.tmc_law.specs.Status.{status_layout}
use Rattle.tmc_law.specs.Queues.{Arrives, Queued, TurnedAway, Unlinks, Hits, Polled, Misses}
use Rattle.tmc_law.specs.Step.{Move, Comes, Refuses, Take, Exec, Begin, Fill, Answer, Pend, Poll, Notify, Halt, Unplug, Leads}
use Rattle.tmc_law.proofs.Queued.{times, here, times-append, times_own, not_here, IsSound}
use Rattle.tmc_law.proofs.OneEffect.{OneMeaning, Once, Same, ap2, takes_one}
use Rattle.tmc_law.proofs.OneAnswer.{executes_one, begins_one, fills_one, answers_one, postpones_one, polls_first_one, notifies_one, setup_one, tag_one}

-- ---- arrivals

number_one : (d e : Endpoint) → number_of d ≡ number_of e → d ≡ e
number_one Control Control h = refl
number_one BulkOut BulkOut h = refl
number_one BulkIn BulkIn h = refl
number_one InterruptIn InterruptIn h = refl
number_one Control BulkOut h = absurd (omega (arith, h))
number_one Control BulkIn h = absurd (omega (arith, h))
number_one Control InterruptIn h = absurd (omega (arith, h))
number_one BulkOut Control h = absurd (omega (arith, h))
number_one BulkOut BulkIn h = absurd (omega (arith, h))
number_one BulkOut InterruptIn h = absurd (omega (arith, h))
number_one BulkIn Control h = absurd (omega (arith, h))
number_one BulkIn BulkOut h = absurd (omega (arith, h))
number_one BulkIn InterruptIn h = absurd (omega (arith, h))
number_one InterruptIn Control h = absurd (omega (arith, h))
number_one InterruptIn BulkOut h = absurd (omega (arith, h))
number_one InterruptIn BulkIn h = absurd (omega (arith, h))

arrives_one : (s : State) (head : SubmitHead) (transferred : List ℕ) (a b : List Put) (t u : State) → Arrives s head transferred a t → Arrives s head transferred b u → Same a t b u
arrives_one s head transferred a b t u (Queued d taken put is) (Queued e taken2 put2 is2) = (
  put ∙ sym put2,
  is ∙ ap (λ (x : Endpoint). with_queue x (queue_of x s ++ arrived head transferred ∷ []) s) (number_one d e (sym taken.number ∙ taken2.number)) ∙ sym is2,
)
arrives_one s head transferred a b t u (Queued d taken put is) (TurnedAway none put2 is2) = absurd (none d taken)
arrives_one s head transferred a b t u (TurnedAway none put is) (Queued e taken put2 is2) = absurd (none e taken)
arrives_one s head transferred a b t u (TurnedAway none put is) (TurnedAway none2 put2 is2) = (put ∙ sym put2, is ∙ sym is2)

-- ---- where a number is pending

-- it is pending in this queue
there : (n : ℕ) (before : List Pending) (submit : Pending) (behind : List Pending) → submit.head.seqnum ≡ n → 1 ≤ times n (before ++ submit ∷ behind)
there n before submit behind own =
    omega (arith, times-append n before (submit ∷ behind), subst (λ (m : ℕ). times m (submit ∷ behind) ≡ 1 + times m behind) own (times_own submit behind))

one_queue : (n : ℕ) (d e : Endpoint) (s : State) → here n s ≤ 1 → 1 ≤ times n (queue_of d s) → 1 ≤ times n (queue_of e s) → d ≡ e
one_queue n Control Control s few p q = refl
one_queue n BulkOut BulkOut s few p q = refl
one_queue n BulkIn BulkIn s few p q = refl
one_queue n InterruptIn InterruptIn s few p q = refl
one_queue n Control BulkOut s few p q = absurd (omega (arith, few, p, q))
one_queue n Control BulkIn s few p q = absurd (omega (arith, few, p, q))
one_queue n Control InterruptIn s few p q = absurd (omega (arith, few, p, q))
one_queue n BulkOut Control s few p q = absurd (omega (arith, few, p, q))
one_queue n BulkOut BulkIn s few p q = absurd (omega (arith, few, p, q))
one_queue n BulkOut InterruptIn s few p q = absurd (omega (arith, few, p, q))
one_queue n BulkIn Control s few p q = absurd (omega (arith, few, p, q))
one_queue n BulkIn BulkOut s few p q = absurd (omega (arith, few, p, q))
one_queue n BulkIn InterruptIn s few p q = absurd (omega (arith, few, p, q))
one_queue n InterruptIn Control s few p q = absurd (omega (arith, few, p, q))
one_queue n InterruptIn BulkOut s few p q = absurd (omega (arith, few, p, q))
one_queue n InterruptIn BulkIn s few p q = absurd (omega (arith, few, p, q))

queue_few : (n : ℕ) (e : Endpoint) (s : State) → here n s ≤ 1 → times n (queue_of e s) ≤ 1
queue_few n Control s few = omega (arith, few)
queue_few n BulkOut s few = omega (arith, few)
queue_few n BulkIn s few = omega (arith, few)
queue_few n InterruptIn s few = omega (arith, few)

-- a place in a queue
record Place : Type 0 where
  before : List Pending
  submit : Pending
  behind : List Pending

abbrev place : List Pending → Pending → List Pending → Place
place before submit behind = record { before = before; submit = submit; behind = behind }

one_place : (n : ℕ) (before : List Pending) (submit : Pending) (behind before2 : List Pending) (submit2 : Pending) (behind2 : List Pending) → times n (before ++ submit ∷ behind) ≤ 1
    → submit.head.seqnum ≡ n → submit2.head.seqnum ≡ n → before ++ submit ∷ behind ≡ before2 ++ submit2 ∷ behind2 → place before submit behind ≡ place before2 submit2 behind2
one_place n [] submit behind [] submit2 behind2 few own own2 e = ap2 (λ (x : Pending) (y : List Pending). place [] x y) (cc) (cc)
one_place n [] submit behind (x ∷ before2) submit2 behind2 few own own2 e =
    let rest : behind ≡ before2 ++ submit2 ∷ behind2 = cc in
    absurd (omega (arith, few, subst (λ (m : ℕ). times m (submit ∷ behind) ≡ 1 + times m behind) own (times_own submit behind), ap (λ (q : List Pending). times n q) rest, there n before2 submit2 behind2 own2))
one_place n (x ∷ before) submit behind [] submit2 behind2 few own own2 e =
    let rest : before ++ submit ∷ behind ≡ behind2 = cc in
    let all = ap (λ (q : List Pending). times n q) e in
    absurd (omega (arith, few, all, subst (λ (m : ℕ). times m (submit2 ∷ behind2) ≡ 1 + times m behind2) own2 (times_own submit2 behind2), ap (λ (q : List Pending). times n q) rest, there n before submit behind own))
one_place n (x ∷ before) submit behind (y ∷ before2) submit2 behind2 few own own2 e =
    let first : x ≡ y = cc in
    let rest : before ++ submit ∷ behind ≡ before2 ++ submit2 ∷ behind2 = cc in
    ap2 (λ (z : Pending) (p : Place). place (z ∷ p.before) p.submit p.behind) first (one_place n before submit behind before2 submit2 behind2 (omega (arith, few)) own own2 rest)

-- a pending number has one place in one queue
record OnePlace (d e : Endpoint) (p q : Place) : Type 0 where
  queue : d ≡ e
  place : p ≡ q

found : (s : State) (n : ℕ) (d e : Endpoint) (p q : Place) → IsSound s → queue_of d s ≡ p.before ++ p.submit ∷ p.behind → p.submit.head.seqnum ≡ n
    → queue_of e s ≡ q.before ++ q.submit ∷ q.behind → q.submit.head.seqnum ≡ n → OnePlace d e p q
found s n d e p q whole holds own holds2 own2 =
    let here_d = subst (λ (l : List Pending). 1 ≤ times n l) (sym holds) (there n p.before p.submit p.behind own) in
    let here_e = subst (λ (l : List Pending). 1 ≤ times n l) (sym holds2) (there n q.before q.submit q.behind own2) in
    let same = one_queue n d e s (whole.distinct n) here_d here_e in
    record {
      queue = same;
      place = one_place n p.before p.submit p.behind q.before q.submit q.behind (subst (λ (l : List Pending). times n l ≤ 1) holds (queue_few n d s (whole.distinct n))) own own2
          (sym holds ∙ ap (λ (x : Endpoint). queue_of x s) same ∙ holds2);
    }

-- ---- unlinks

not_pending : {A : Type 0} (s : State) (n : ℕ) (e : Endpoint) (before : List Pending) (submit : Pending) (behind : List Pending) → queue_of e s ≡ before ++ submit ∷ behind
    → submit.head.seqnum ≡ n → Avoids n (pending s) → A
not_pending s n e before submit behind holds own avoids =
    absurd (none e (subst (λ (l : List Pending). 1 ≤ times n l) (sym holds) (there n before submit behind own)))
  where
    none : (e : Endpoint) → 1 ≤ times n (queue_of e s) → ⊥
    none Control h = omega (arith, h, not_here n s avoids)
    none BulkOut h = omega (arith, h, not_here n s avoids)
    none BulkIn h = omega (arith, h, not_here n s avoids)
    none InterruptIn h = omega (arith, h, not_here n s avoids)

polled_not : {A : Type 0} (p q : Place) → p ≡ q → p.submit.polled ≡ false → q.submit.polled ≡ true → A
polled_not p q same fresh polled = let e : false ≡ true = sym fresh ∙ ap (λ (x : Place). x.submit.polled) same ∙ polled in absurd (cc)

left_same : (s : State) (d e : Endpoint) (p q : Place) → OnePlace d e p q → with_queue d (p.before ++ p.behind) s ≡ with_queue e (q.before ++ q.behind) s
left_same s d e p q one = ap2 (λ (x : Endpoint) (y : Place). with_queue x (y.before ++ y.behind) s) one.queue one.place

unlinks_one : OneMeaning → (s : State) (head : UnlinkHead) (a b : List Put) (t u : State) → IsSound s → Unlinks s head a t → Unlinks s head b u → Same a t b u
unlinks_one meaning s head a b t u whole (Hits d before submit behind holds own fresh put is) (Hits e before2 submit2 behind2 holds2 own2 fresh2 put2 is2) =
    let one = found s head.target d e (place before submit behind) (place before2 submit2 behind2) whole holds own holds2 own2 in
    (put ∙ sym put2, is ∙ left_same s d e (place before submit behind) (place before2 submit2 behind2) one ∙ sym is2)
unlinks_one meaning s head a b t u whole (Hits d before submit behind holds own fresh put is) (Polled e before2 submit2 behind2 setup2 tag2 holds2 own2 polled2 asks2 row2 put2 is2) =
    let one = found s head.target d e (place before submit behind) (place before2 submit2 behind2) whole holds own holds2 own2 in
    polled_not (place before submit behind) (place before2 submit2 behind2) one.place fresh polled2
unlinks_one meaning s head a b t u whole (Hits d before submit behind holds own fresh put is) (Misses avoids put2 is2) = not_pending s head.target d before submit behind holds own avoids
unlinks_one meaning s head a b t u whole (Polled d before submit behind setup tag holds own polled asks row put is) (Hits e before2 submit2 behind2 holds2 own2 fresh2 put2 is2) =
    let one = found s head.target d e (place before submit behind) (place before2 submit2 behind2) whole holds own holds2 own2 in
    polled_not (place before2 submit2 behind2) (place before submit behind) (sym one.place) fresh2 polled
unlinks_one meaning s head a b t u whole (Polled d before submit behind setup tag holds own polled asks row put is) (Polled e before2 submit2 behind2 setup2 tag2 holds2 own2 polled2 asks2 row2 put2 is2) =
    let one = found s head.target d e (place before submit behind) (place before2 submit2 behind2) whole holds own holds2 own2 in
    let same : submit ≡ submit2 = ap (λ (x : Place). x.submit) one.place in
    let setups = setup_one meaning submit submit2 setup setup2 same asks asks2 in
    let tags = tag_one meaning setup setup2 tag tag2 setups row row2 in (
      put
          ∙ ap (λ (x : Pending). control_answer x setup (status_layout STATUS_SUCCESS tag) ∷ unlink_answer head success ∷ []) same
          ∙ ap2 (λ (x : Setup) (n : ℕ). control_answer submit2 x (status_layout STATUS_SUCCESS n) ∷ unlink_answer head success ∷ []) setups tags
          ∙ sym put2,
      is ∙ left_same s d e (place before submit behind) (place before2 submit2 behind2) one ∙ sym is2,
    )
unlinks_one meaning s head a b t u whole (Polled d before submit behind setup tag holds own polled asks row put is) (Misses avoids put2 is2) = not_pending s head.target d before submit behind holds own avoids
unlinks_one meaning s head a b t u whole (Misses avoids put is) (Hits e before2 submit2 behind2 holds2 own2 fresh2 put2 is2) = not_pending s head.target e before2 submit2 behind2 holds2 own2 avoids
unlinks_one meaning s head a b t u whole (Misses avoids put is) (Polled e before2 submit2 behind2 setup2 tag2 holds2 own2 polled2 asks2 row2 put2 is2) =
    not_pending s head.target e before2 submit2 behind2 holds2 own2 avoids
unlinks_one meaning s head a b t u whole (Misses avoids put is) (Misses avoids2 put2 is2) = (put ∙ sym put2, is ∙ sym is2)

-- ---- all moves

halts_one : (s : State) (e : Endpoint) (a b : List Put) (t u : State) → HaltsItself s e a t → HaltsItself s e b u → Same a t b u
halts_one s e a b t u (DoesHalt other usable put is) (DoesHalt other2 usable2 put2 is2) = (put ∙ sym put2, is ∙ sym is2)

pub leads_one : (s : State) (move : Move) (a b : List Put) (t u : State) → IsSound s → Once s.standing → Leads s move a t → Leads s move b u → Same a t b u
leads_one s (Comes (up.Submit head transferred)) a b t u whole once h k = arrives_one s head transferred a b t u h.3 k.3
leads_one s (Comes (up.Unlink head)) a b t u whole once h k = unlinks_one once.meaning s head a b t u whole h.1 k.1
leads_one s (Refuses devid bytes f) a b t u whole once h k = (h.1 ∙ sym k.1, h.2 ∙ sym k.2)
leads_one s (Take count) a b t u whole once h k = takes_one s count a b t u once h.1 k.1
leads_one s Exec a b t u whole once h k = (h.1 ∙ sym k.1, executes_one s t u once h.0 k.0)
leads_one s (Begin count) a b t u whole once h k = (h.1 ∙ sym k.1, begins_one s t u count once h.0 k.0)
leads_one s (Fill count) a b t u whole once h k = fills_one s count a b t u h k
leads_one s Answer a b t u whole once h k = answers_one s a b t u once h k
leads_one s Pend a b t u whole once h k = postpones_one s a b t u once h k
leads_one s Poll a b t u whole once h k = (h.1 ∙ sym k.1, polls_first_one s t u once h.0 k.0)
leads_one s Notify a b t u whole once h k = notifies_one s a b t u h k
leads_one s (Halt e) a b t u whole once h k = halts_one s e a b t u h k
leads_one s Unplug a b t u whole once h k = (h.answered ∙ sym k.answered, h.is ∙ sym k.is)
