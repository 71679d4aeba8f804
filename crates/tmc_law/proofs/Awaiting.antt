-- what the fold over answers leaves outstanding, and a reader's list of it
use Rattle.std.proofs.Common.{◌≡◌, ◌∙◌, ◌≢◌, ℕ, ℤ, Bool, true, false, List, [], ◌∷◌, ◌++◌, Option, Some, None, refl, sym, ap, subst, append-nil}
use Rattle.std.specs.Prelude.{◌==◌, if◌then◌else◌}
use Rattle.std.proofs.lemmas.Bool.{ne_eqb, eq-eqb}
use Rattle.usbip_wire.specs.declared.submit.SubmitHead.{SubmitHead}
use Rattle.usbip_wire.specs.declared.unlink.UnlinkHead.{UnlinkHead}
use Rattle.usbip_wire.specs.declared.ret_submit.RetSubmitHead.{RetSubmitHead}
use Rattle.usbip_wire.specs.declared.ret_unlink.RetUnlinkHead.{RetUnlinkHead}
use Rattle.usbip_wire.specs.declared.dirs.Outstanding.{Outstanding}
use Rattle.usbip_wire.specs.declared.dirs.Outstanding.TheVariants as outstanding
use Rattle.usbip_wire.specs.Dirs.{find, others, number_of}
use Rattle.usbip_wire.specs.Down as down
use Rattle.usbip_wire.specs.Up as up
use Rattle.usbip_wire.specs.Awaited as wire
use Rattle.usbip_wire.specs.Awaited.{Awaited, entries_of, sent, sent_by, left, left_by, without}
use Rattle.tmc_law.specs.State.{State}
use Rattle.tmc_law.specs.Put.{Put, Submitted, Unlinked, unlink_answer, success, unlinked}
use Rattle.tmc_law.specs.Queues.{Arrives, Queued, TurnedAway, Unlinks, Hits, Polled, Misses}
use Rattle.tmc_law.specs.Step.{Move, Comes, Refuses, Take, Exec, Begin, Fill, Answer, Pend, Poll, Notify, Halt, Unplug, Leads}
use Rattle.tmc_law.specs.Run.{taken}
use Rattle.tmc_law.specs.Acts.{Acts, Done, Replies, Changes, Hit, Miss}
use Rattle.tmc_law.specs.Laws.{messages_of, AreAccepted, IsNew}
use Rattle.tmc_law.proofs.Entries as entries
use Rattle.tmc_law.proofs.Entries.{with_messages, without_answered}
use Rattle.tmc_law.proofs.Outstanding.{NoneHas, none_has, find_others}
use Rattle.tmc_law.proofs.Queued.{IsSound}
use Rattle.tmc_law.proofs.ActsOf.{acts}
use Rattle.tmc_law.proofs.Owed.{owed_at}
use Rattle.tmc_law.proofs.AnswerPlaces.{TiesAt}
use Rattle.tmc_law.proofs.AnswerArrivals.{owed_amid}

-- what the wire's law says of answers
pub record TakeOut : Type 0 where
  pub submit : (awaited : List Awaited) (head : RetSubmitHead) (transferred : List ℕ) → entries_of (left_by awaited (down.RetSubmit head transferred)) ≡ others head.seqnum (entries_of awaited)
  pub unlink : (old later : List Awaited) (head : RetUnlinkHead) (target : ℕ) → find head.seqnum (entries_of old) ≡ None
      → left_by (old ++ wire.Unlink head.seqnum (Some target) ∷ later) (down.RetUnlink head) ≡ without target old ++ without head.seqnum later
  pub added : (awaited more : List Awaited) → entries_of (awaited ++ more) ≡ entries_of awaited ++ entries_of more

-- ---- what is sent

one_sent : (message : up.Message) → wire.entry_of (sent_by message) ≡ entries.entry_of message
one_sent (up.Submit head transferred) = refl
one_sent (up.Unlink head) = refl

sent_entries : TakeOut → (awaited : List Awaited) (messages : List up.Message) → entries_of (sent awaited messages) ≡ with_messages (entries_of awaited) messages
sent_entries law awaited [] = refl
sent_entries law awaited (message ∷ messages) =
    sent_entries law (awaited ++ sent_by message ∷ []) messages
    ∙ ap (λ (l : List Outstanding). with_messages l messages) (law.added awaited (sent_by message ∷ []) ∙ ap (λ (e : Outstanding). entries_of awaited ++ e ∷ []) (one_sent message))

-- ---- what is answered

-- the answers are accepted, and both leave the same
pub record Keeps (awaited : List Awaited) (list : List Outstanding) (puts : List Put) : Type 0 where
  pub accepted : AreAccepted awaited puts
  pub same : without_answered list puts ≡ entries_of (left awaited (messages_of puts))

-- these answer submits alone
abbrev Submits : List Put → Type 0
Submits [] = Unit {0}
Submits (Submitted asked answer transferred ∷ puts) = Submits puts
Submits (Unlinked asked answer ∷ puts) = ⊥

submits_keep : TakeOut → (puts : List Put) (awaited : List Awaited) (list : List Outstanding) → list ≡ entries_of awaited → Submits puts → entries.AreAccepted list puts → Keeps awaited list puts
submits_keep law [] awaited list is only accepted = record { accepted = tt; same = is }
submits_keep law (Submitted asked answer transferred ∷ puts) awaited list is only accepted =
    let next = submits_keep law puts (left_by awaited (down.RetSubmit answer transferred)) (others answer.seqnum list)
    (ap (λ (l : List Outstanding). others answer.seqnum l) is ∙ sym (law.submit awaited answer transferred)) only accepted.1 in
    record {
      accepted = ((accepted.0.0, subst (λ (l : List Outstanding). down.SpellsAnswer l (down.RetSubmit answer transferred) accepted.0.0) is accepted.0.1), next.accepted);
      same = next.same;
    }
submits_keep law (Unlinked asked answer ∷ puts) awaited list is only accepted = absurd only

acts_submit : (t s : State) (unlinks : List UnlinkHead) (puts : List Put) → Acts t s unlinks puts → unlinks ≡ [] → Submits puts
acts_submit t s _ _ (Done _ same) none = tt
acts_submit t s unlinks _ (Replies _ _ puts e submit behind status moved queue ok within rest) none = acts_submit t _ unlinks puts rest none
acts_submit t s unlinks puts (Changes _ _ _ e submit later behind queue changed rest) none = acts_submit t _ unlinks puts rest none
acts_submit t s _ _ (Hit _ unlinks puts head e before submit behind queue target avoids rest) none = absurd (cc)
acts_submit t s _ _ (Miss _ unlinks puts head avoids rest) none = absurd (cc)

-- ---- an unlink

-- the last entry alone has this number
others_last : (n : ℕ) (list : List Outstanding) → NoneHas n list → others n (list ++ outstanding.Unlink n ∷ []) ≡ list
others_last n [] none = rw (eq-eqb n n refl) refl
others_last n (x ∷ list) none = rw (ne_eqb (number_of x) n none.0) (ap (λ (l : List Outstanding). x ∷ l) (others_last n list none.1))

without_append : (n m : ℕ) (target : Option ℕ) (awaited : List Awaited) → m ≢ n → without n (awaited ++ wire.Unlink m target ∷ []) ≡ without n awaited ++ wire.Unlink m target ∷ []
without_append n m target [] apart = rw (ne_eqb m n apart) refl
without_append n m target (x ∷ awaited) apart = by (wire.number_of x == n) (without_append n m target awaited apart)
  where
    by : (b : Bool) → without n (awaited ++ wire.Unlink m target ∷ []) ≡ without n awaited ++ wire.Unlink m target ∷ []
        → (if b then without n (awaited ++ wire.Unlink m target ∷ []) else x ∷ without n (awaited ++ wire.Unlink m target ∷ [])) ≡ (if b then without n awaited else x ∷ without n awaited) ++ wire.Unlink m target ∷ []
    by true e = e
    by false e = ap (λ (l : List Awaited). x ∷ l) e

without_entries : TakeOut → (n : ℕ) (awaited : List Awaited) → entries_of (without n awaited) ≡ others n (entries_of awaited)
without_entries law n awaited = law.submit awaited (record { seqnum = n; status = success; actual = 0 }) []

unlink_keeps : TakeOut → (awaited : List Awaited) (list : List Outstanding) (head : UnlinkHead) (status : ℤ) → list ≡ entries_of awaited → find head.seqnum list ≡ None
    → entries.AreAccepted (list ++ outstanding.Unlink head.seqnum ∷ []) (unlink_answer head status ∷ [])
    → Keeps (awaited ++ wire.Unlink head.seqnum (Some head.target) ∷ []) (list ++ outstanding.Unlink head.seqnum ∷ []) (unlink_answer head status ∷ [])
unlink_keeps law awaited list head status is new accepted =
    let answer : RetUnlinkHead = record { seqnum = head.seqnum; status = status } in
    let here : list ++ outstanding.Unlink head.seqnum ∷ [] ≡ entries_of (awaited ++ wire.Unlink head.seqnum (Some head.target) ∷ []) =
    ap (λ (l : List Outstanding). l ++ outstanding.Unlink head.seqnum ∷ []) is ∙ sym (law.added awaited (wire.Unlink head.seqnum (Some head.target) ∷ [])) in
    let left_is : left_by (awaited ++ wire.Unlink head.seqnum (Some head.target) ∷ []) (down.RetUnlink answer) ≡ without head.target awaited ++ [] =
    law.unlink awaited [] answer head.target (subst (λ (l : List Outstanding). find head.seqnum l ≡ None) is new) in
    record {
      accepted = ((accepted.0.0, subst (λ (l : List Outstanding). down.SpellsAnswer l (down.RetUnlink answer) accepted.0.0) here accepted.0.1), tt);
      same = ap (λ (l : List Outstanding). others head.target l) (others_last head.seqnum list (none_has head.seqnum list new) ∙ is)
          ∙ sym (without_entries law head.target awaited) ∙ ap entries_of (sym (left_is ∙ append-nil (without head.target awaited)));
    }

some_none : {B : Type 0} (o : Option Outstanding) (e : Outstanding) → o ≡ Some e → o ≡ None → B
some_none o e some none = absurd (clash (sym some ∙ none))
  where
    clash : Some e ≡ None → ⊥
    clash h = cc

-- the answer to the submit comes first
polled_keeps : TakeOut → (awaited : List Awaited) (list : List Outstanding) (asked : SubmitHead) (answer : RetSubmitHead) (transferred : List ℕ) (head : UnlinkHead) (status : ℤ)
    → list ≡ entries_of awaited → find head.seqnum list ≡ None → head.seqnum ≢ answer.seqnum
    → entries.AreAccepted (list ++ outstanding.Unlink head.seqnum ∷ []) (Submitted asked answer transferred ∷ unlink_answer head status ∷ [])
    → Keeps (awaited ++ wire.Unlink head.seqnum (Some head.target) ∷ []) (list ++ outstanding.Unlink head.seqnum ∷ []) (Submitted asked answer transferred ∷ unlink_answer head status ∷ [])
polled_keeps law awaited list asked answer transferred head status is new apart accepted =
    let n : ℕ = answer.seqnum in
    let last : List Awaited = wire.Unlink head.seqnum (Some head.target) ∷ [] in
    let entry : List Outstanding = outstanding.Unlink head.seqnum ∷ [] in
    let here : list ++ entry ≡ entries_of (awaited ++ last) = ap (λ (l : List Outstanding). l ++ entry) is ∙ sym (law.added awaited last) in
    let then_is : without n (awaited ++ last) ≡ without n awaited ++ last = without_append n head.seqnum (Some head.target) awaited apart in
    let few : others n list ≡ entries_of (without n awaited) = ap (λ (l : List Outstanding). others n l) is ∙ sym (without_entries law n awaited) in
    let rest : others n (list ++ entry) ≡ others n list ++ entry =
    ap (λ (l : List Outstanding). others n l) here ∙ sym (without_entries law n (awaited ++ last)) ∙ ap entries_of then_is ∙ law.added (without n awaited) last
    ∙ ap (λ (l : List Outstanding). l ++ entry) (sym few) in
    let next = unlink_keeps law (without n awaited) (others n list) head status few (find_others head.seqnum n list apart ∙ new)
    (subst (λ (l : List Outstanding). entries.AreAccepted l (unlink_answer head status ∷ [])) rest accepted.1) in
    record {
      accepted = (
        (accepted.0.0, subst (λ (l : List Outstanding). down.SpellsAnswer l (down.RetSubmit answer transferred) accepted.0.0) here accepted.0.1),
        subst (λ (l : List Awaited). AreAccepted l (unlink_answer head status ∷ [])) (sym then_is) next.accepted,
      );
      same = ap (λ (l : List Outstanding). without_answered l (unlink_answer head status ∷ [])) rest ∙ next.same
          ∙ ap (λ (l : List Awaited). entries_of (left l (messages_of (unlink_answer head status ∷ [])))) (sym then_is);
    }

put_keeps : (awaited : List Awaited) (list : List Outstanding) (puts others_are : List Put) → puts ≡ others_are → (entries.AreAccepted list others_are → Keeps awaited list others_are)
    → entries.AreAccepted list puts → Keeps awaited list puts
put_keeps awaited list puts others_are is keeps accepted =
    subst (λ (p : List Put). Keeps awaited list p) (sym is) (keeps (subst (λ (p : List Put). entries.AreAccepted list p) is accepted))

unlinks_keep : TakeOut → (s : State) (head : UnlinkHead) (puts : List Put) (t : State) (awaited : List Awaited) (list : List Outstanding) → list ≡ entries_of awaited
    → find head.seqnum list ≡ None → TiesAt list s → Unlinks s head puts t → entries.AreAccepted (list ++ outstanding.Unlink head.seqnum ∷ []) puts
    → Keeps (awaited ++ wire.Unlink head.seqnum (Some head.target) ∷ []) (list ++ outstanding.Unlink head.seqnum ∷ []) puts
unlinks_keep law s head puts t awaited list is new ties (Hits e before submit behind holds number fresh put to) accepted =
    put_keeps _ _ puts _ put (λ h. unlink_keeps law awaited list head unlinked is new h) accepted
unlinks_keep law s head puts t awaited list is new ties (Misses avoids put to) accepted =
    put_keeps _ _ puts _ put (λ h. unlink_keeps law awaited list head success is new h) accepted
unlinks_keep law s head puts t awaited list is new ties (Polled e before submit behind setup tag holds number polled asks row put to) accepted =
    let owed = owed_at list _ submit _ (owed_amid list e s before submit behind holds ties.owed) in
    put_keeps _ _ puts _ put
    (λ h. polled_keeps law awaited list submit.head _ _ head success is new
    (λ same. some_none (find submit.head.seqnum list) _ owed.found (subst (λ (n : ℕ). find n list ≡ None) same new)) h) accepted

-- ---- all moves

listed : TakeOut → (awaited : List Awaited) (list : List Outstanding) (messages : List up.Message) → list ≡ entries_of awaited → with_messages list messages ≡ entries_of (sent awaited messages)
listed law awaited list messages is = ap (λ (l : List Outstanding). with_messages l messages) is ∙ sym (sent_entries law awaited messages)

arrival_submits : (s : State) (head : SubmitHead) (transferred : List ℕ) (puts : List Put) (t : State) → Arrives s head transferred puts t → Submits puts
arrival_submits s head transferred puts t (Queued e is_taken put to) = subst (λ (p : List Put). Submits p) (sym put) tt
arrival_submits s head transferred puts t (TurnedAway none put to) = subst (λ (p : List Put). Submits p) (sym put) tt

pub step_keeps : TakeOut → (s : State) (move : Move) (puts : List Put) (t : State) (awaited : List Awaited) (list : List Outstanding) → IsSound s → list ≡ entries_of awaited
    → IsNew awaited move → TiesAt list s → Leads s move puts t → entries.AreAccepted (with_messages list (taken move)) puts
    → Keeps (sent awaited (taken move)) (with_messages list (taken move)) puts
step_keeps law s (Comes (up.Submit head transferred)) puts t awaited list whole is new ties h accepted =
    submits_keep law puts _ _ (listed law awaited list (up.Submit head transferred ∷ []) is) (arrival_submits s head transferred puts t h.3) accepted
step_keeps law s (Comes (up.Unlink head)) puts t awaited list whole is new ties h accepted =
    unlinks_keep law s head puts t awaited list is (subst (λ (l : List Outstanding). find head.seqnum l ≡ None) (sym is) new) ties h.1 accepted
step_keeps law s (Refuses devid bytes f) puts t awaited list whole is new ties h accepted =
    submits_keep law puts awaited list is (acts_submit t s [] puts (acts s (Refuses devid bytes f) puts t whole (λ no. absurd no) h) refl) accepted
step_keeps law s (Take count) puts t awaited list whole is new ties h accepted =
    submits_keep law puts awaited list is (acts_submit t s [] puts (acts s (Take count) puts t whole (λ no. absurd no) h) refl) accepted
step_keeps law s Exec puts t awaited list whole is new ties h accepted =
    submits_keep law puts awaited list is (acts_submit t s [] puts (acts s Exec puts t whole (λ no. absurd no) h) refl) accepted
step_keeps law s (Begin count) puts t awaited list whole is new ties h accepted =
    submits_keep law puts awaited list is (acts_submit t s [] puts (acts s (Begin count) puts t whole (λ no. absurd no) h) refl) accepted
step_keeps law s (Fill count) puts t awaited list whole is new ties h accepted =
    submits_keep law puts awaited list is (acts_submit t s [] puts (acts s (Fill count) puts t whole (λ no. absurd no) h) refl) accepted
step_keeps law s Answer puts t awaited list whole is new ties h accepted =
    submits_keep law puts awaited list is (acts_submit t s [] puts (acts s Answer puts t whole (λ no. absurd no) h) refl) accepted
step_keeps law s Pend puts t awaited list whole is new ties h accepted =
    submits_keep law puts awaited list is (acts_submit t s [] puts (acts s Pend puts t whole (λ no. absurd no) h) refl) accepted
step_keeps law s Poll puts t awaited list whole is new ties h accepted =
    submits_keep law puts awaited list is (acts_submit t s [] puts (acts s Poll puts t whole (λ no. absurd no) h) refl) accepted
step_keeps law s Notify puts t awaited list whole is new ties h accepted =
    submits_keep law puts awaited list is (acts_submit t s [] puts (acts s Notify puts t whole (λ no. absurd no) h) refl) accepted
step_keeps law s (Halt e) puts t awaited list whole is new ties h accepted =
    submits_keep law puts awaited list is (acts_submit t s [] puts (acts s (Halt e) puts t whole (λ no. absurd no) h) refl) accepted
step_keeps law s Unplug puts t awaited list whole is new ties h accepted =
    submits_keep law puts awaited list is (acts_submit t s [] puts (acts s Unplug puts t whole (λ no. absurd no) h) refl) accepted
