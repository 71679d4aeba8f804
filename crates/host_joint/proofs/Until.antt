-- what ties a host to a device holds until that is unplugged
use Rattle.std.proofs.Common.{◌≡◌, ◌≢◌, ◌∙◌, inl, inr, ℕ, ◌==◌, Bool, true, false, cond, Option, Some, None, List, [], ◌∷◌, ◌++◌, length, refl, ap, sym, subst, append_assoc, append-nil, arith}
use Rattle.std.proofs.lemmas.Bool.{eqb-true}
use Rattle.usbip_wire.specs.declared.submit.SubmitHead.{SubmitHead}
use Rattle.usbip_wire.specs.declared.unlink.UnlinkHead.{UnlinkHead}
use Rattle.usbip_wire.specs.Up as up
use Rattle.tmc_law.specs.Endpoint.{Endpoint, Control, BulkOut, BulkIn, InterruptIn, number_of}
use Rattle.tmc_law.specs.State.{State, Pending, Plugged, Unplugged}
use Rattle.tmc_law.specs.Put.{Put, returned, ended, unplugged}
use Rattle.tmc_law.specs.Halts.{all_ended, unplug_answers}
use Rattle.tmc_law.specs.Step.{Move, Comes, Refuses, Take, Exec, Begin, Fill, Answer, Pend, Poll, Notify, Halt, Unplug, Steps}
use Rattle.tmc_law.specs.Run.{Entry, Runs, inputs, outputs}
use Rattle.host_joint.specs.Lines.{Lines, heads}
use Rattle.host_joint.specs.Asking.{StaysPlugged}
use Rattle.host_joint.specs.Hand.{Free}
use Rattle.host_joint.specs.Tie.{IsUndisturbed, asked_of, Tie}
use Rattle.host_joint.specs.Bond.{Situation, Bound}
use Rattle.host_joint.specs.Unplugged.{Until, TiedUntil, BoundUntil, HaltsNothing, TellsUnplugged, NextUntil, ComesPlugged, ComesBefore, ComesBehind}

-- ---- a run up to the unplugging

-- no step of it unplugs the device, or one does, and is the first such one
pub data Up (run : List Entry) : Type 0 where
  AllUp : StaysPlugged run → Up run
  UpTo : (a : List Entry) (last : Entry) (b : List Entry) → run ≡ a ++ last ∷ b → last.move ≡ Unplug → StaysPlugged a → Up run

one_more : (entry : Entry) (run : List Entry) → entry.move ≢ Unplug → Up run → Up (entry ∷ run)
one_more entry run stays (AllUp plugged) = AllUp (stays, plugged)
one_more entry run stays (UpTo a last b whole is plugged) = UpTo (entry ∷ a) last b (ap (λ (l : List Entry). entry ∷ l) whole) is (stays, plugged)

pub up_to : (run : List Entry) → Up run
up_to [] = AllUp tt
up_to (entry ∷ run) = by entry.move refl (up_to run)
  where
    goes : (move : Move) → entry.move ≡ move → (move ≢ Unplug) → Up run → Up (entry ∷ run)
    goes move is stays rest = one_more entry run (λ e. stays (sym is ∙ e)) rest

    by : (move : Move) → entry.move ≡ move → Up run → Up (entry ∷ run)
    by (Comes message) is rest = goes (Comes message) is (λ e. cc) rest
    by (Refuses devid bytes f) is rest = goes (Refuses devid bytes f) is (λ e. cc) rest
    by (Take count) is rest = goes (Take count) is (λ e. cc) rest
    by Exec is rest = goes Exec is (λ e. cc) rest
    by (Begin count) is rest = goes (Begin count) is (λ e. cc) rest
    by (Fill count) is rest = goes (Fill count) is (λ e. cc) rest
    by Answer is rest = goes Answer is (λ e. cc) rest
    by Pend is rest = goes Pend is (λ e. cc) rest
    by Poll is rest = goes Poll is (λ e. cc) rest
    by Notify is rest = goes Notify is (λ e. cc) rest
    by (Halt endpoint) is rest = goes (Halt endpoint) is (λ e. cc) rest
    by Unplug is rest = UpTo [] entry run refl is tt

-- the last step, and behind it nothing
pub unplugs_of : (s t : State) (entry : Entry) → entry.move ≡ Unplug → Steps s entry.move entry.puts t → (entry.puts ≡ unplug_answers s) × Steps s Unplug (unplug_answers s) t
unplugs_of s t entry is step =
    let same : Steps s Unplug entry.puts t = subst (λ (m : Move). Steps s m entry.puts t) is step in
    let puts : entry.puts ≡ unplug_answers s = same.leads.answered in
    (puts, subst (λ (l : List Put). Steps s Unplug l t) puts same)

pub nothing_more : (before t u : State) (run : List Entry) → Steps before Unplug (unplug_answers before) t → Runs t run u → (run ≡ []) × (u ≡ t)
nothing_more before t u [] unplugs goes = (refl, goes)
nothing_more before t u (entry ∷ run) unplugs goes =
    let gone : t.presence ≡ Unplugged = ap (λ (x : State). x.presence) unplugs.leads.is in
    let e : Plugged ≡ Unplugged = sym goes.1.plugged ∙ gone in
    absurd (cc)

-- ---- under each run

-- what this asks of the laws of runs
pub record RunLaws : Type 0 where
  pub apart : (a b : List Entry) (s t : State) → Runs s (a ++ b) t → (m : State) × Runs s a m × Runs m b t
  pub ins : (a b : List Entry) → inputs (a ++ b) ≡ inputs a ++ inputs b
  pub outs : (a b : List Entry) → outputs (a ++ b) ≡ outputs a ++ outputs b

none_taken : (move : Move) → move ≡ Unplug → (entry : Entry) → entry.move ≡ move → inputs (entry ∷ []) ≡ []
none_taken move is entry same = let e : entry.move ≡ Unplug = same ∙ is in rw e refl

pub until_run : (laws : RunLaws) (Kind : List Entry → Type 0) (Ties : List up.Message → List Put → State → Type 0)
    → ((run : List Entry) (ups : List up.Message) (downs : List Put) (s t : State) → Runs s run t → Kind run → StaysPlugged run → Ties (inputs run ++ ups) downs s → Ties ups (downs ++ outputs run) t)
    → ((a b : List Entry) → Kind (a ++ b) → Kind a)
    → (run : List Entry) (ups : List up.Message) (downs : List Put) (s t : State) → Runs s run t → Kind run → Until Ties (inputs run ++ ups) downs s → Until Ties ups (downs ++ outputs run) t
until_run laws Kind Ties stays front run ups downs s t goes kind (inr held) =
    let none = nothing_more held.before s t run held.unplugs goes in
    inr (record {
      before = held.before;
      front = held.front;
      tie = subst (λ (r : List Entry). Ties (inputs r ++ ups) held.front held.before) none.0 held.tie;
      unplugs = subst (λ (x : State). Steps held.before Unplug (unplug_answers held.before) x) (sym none.1) held.unplugs;
      behind = subst (λ (r : List Entry). downs ++ outputs r ≡ held.front ++ unplug_answers held.before) (sym none.0) (append-nil downs ∙ held.behind);
    })
until_run laws Kind Ties stays front run ups downs s t goes kind (inl tie) = by (up_to run)
  where
    by : Up run → Until Ties ups (downs ++ outputs run) t
    by (AllUp plugged) = inl (stays run ups downs s t goes kind plugged tie)
    by (UpTo a last b whole is plugged) =
        let split = laws.apart a (last ∷ b) s t (subst (λ (r : List Entry). Runs s r t) whole goes) in
        let unplugs = unplugs_of split.0 split.2.0 last is split.2.1 in
        let none = nothing_more split.0 split.2.0 t b unplugs.1 split.2.2 in
        let ended : run ≡ a ++ last ∷ [] = whole ∙ ap (λ (l : List Entry). a ++ last ∷ l) none.0 in
        let ins : inputs run ≡ inputs a = ap inputs ended ∙ laws.ins a (last ∷ []) ∙ ap (λ (l : List up.Message). inputs a ++ l) (none_taken Unplug refl last is) ∙ append-nil (inputs a) in
        let outs : outputs run ≡ outputs a ++ unplug_answers split.0 = ap outputs ended ∙ laws.outs a (last ∷ []) ∙ ap (λ (l : List Put). outputs a ++ l) (append-nil last.puts ∙ unplugs.0) in
        inr (record {
          before = split.0;
          front = downs ++ outputs a;
          tie = stays a ups downs s split.0 split.1 (front a (last ∷ b) (subst (λ (r : List Entry). Kind r) whole kind)) plugged (subst (λ (l : List up.Message). Ties (l ++ ups) downs s) ins tie);
          unplugs = subst (λ (x : State). Steps split.0 Unplug (unplug_answers split.0) x) (sym none.1) unplugs.1;
          behind = ap (λ (l : List Put). downs ++ l) outs ∙ sym (append_assoc downs (outputs a) (unplug_answers split.0));
        })

-- a run that halts nothing and unplugs nothing is undisturbed
pub calm_of : (run : List Entry) → HaltsNothing run → StaysPlugged run → IsUndisturbed run
calm_of [] h k = tt
calm_of (entry ∷ run) h k = (k.0, h.0, calm_of run h.1 k.1)

pub halts_front : (a b : List Entry) → HaltsNothing (a ++ b) → HaltsNothing a
halts_front [] b h = tt
halts_front (entry ∷ a) b h = (h.0, halts_front a b h.1)

-- ---- under each move of the host

pub until_moves : (Before After : List up.Message → List Put → State → Type 0) (ups later : List up.Message) (downs : List Put) (t : State)
    → ((downs : List Put) (s : State) → Before ups downs s → After later downs s) → Until Before ups downs t → Until After later downs t
until_moves Before After ups later downs t moves (inl tie) = inl (moves downs t tie)
until_moves Before After ups later downs t moves (inr held) =
    inr (record { before = held.before; front = held.front; tie = moves held.front held.before held.tie; unplugs = held.unplugs; behind = held.behind })

-- at the end of a recovery
pub ends_until : (situation : Situation) (next : ℕ) (ups : List up.Message) (downs : List Put) (t : State) → t.halted.bulk_out ≡ false → t.halted.bulk_in ≡ false
    → ((ups : List up.Message) (downs : List Put) (s : State) → s.halted.bulk_out ≡ false → s.halted.bulk_in ≡ false → Bound situation None [] next ups downs s → Tie Free None next ups downs s)
    → BoundUntil situation None [] next ups downs t → TiedUntil Free None next ups downs t
ends_until situation next ups downs t out ins ends (inl bound) = inl (ends ups downs t out ins bound)
ends_until situation next ups downs t out ins ends (inr held) =
    inr (record {
      before = held.before;
      front = held.front;
      tie = ends ups held.front held.before (sym (ap (λ (x : State). x.halted.bulk_out) held.unplugs.leads.is) ∙ out) (sym (ap (λ (x : State). x.halted.bulk_in) held.unplugs.leads.is) ∙ ins) held.tie;
      unplugs = held.unplugs;
      behind = held.behind;
    })

-- ---- the answers of the unplugging

-- a queue has nothing, or the one submit that is not answered
data OneAt (head : SubmitHead) (e : Endpoint) (queue : List Pending) : Type 0 where
  NoneAt : queue ≡ [] → OneAt head e queue
  ThisAt : (submit : Pending) → queue ≡ submit ∷ [] → submit.head ≡ head → head.ep ≡ number_of e → OneAt head e queue

one_at : (head : SubmitHead) (e : Endpoint) (queue : List Pending) (more : List SubmitHead) (b : Bool) → (head.ep == number_of e) ≡ b → heads queue ++ more ≡ cond b (head ∷ []) [] → OneAt head e queue
one_at head e [] more b is line = NoneAt refl
one_at head e (x ∷ queue) more false is line = absurd (cc)
one_at head e (x ∷ []) more true is line = ThisAt x refl (first x.head more line) (eqb-true head.ep (number_of e) is)
  where
    first : (y : SubmitHead) (rest : List SubmitHead) → y ∷ rest ≡ head ∷ [] → y ≡ head
    first y rest h = cc
one_at head e (x ∷ y ∷ queue) more true is line = absurd (cc)

none_at : (queue : List Pending) (more : List SubmitHead) → heads queue ++ more ≡ [] → queue ≡ []
none_at [] more line = refl
none_at (x ∷ queue) more line = absurd (cc)

abbrev answers_at : (a b c d : List Pending) → List Put
answers_at a b c d = all_ended unplugged a ++ (all_ended unplugged b ++ (all_ended unplugged c ++ all_ended unplugged d))

answers_are : (a b c d a' b' c' d' : List Pending) (answers : List Put) → a ≡ a' → b ≡ b' → c ≡ c' → d ≡ d' → answers_at a b c d ≡ answers → answers_at a' b' c' d' ≡ answers
answers_are a b c d a' b' c' d' answers pa pb pc pd e =
    subst (λ (q : List Pending). answers_at q b' c' d' ≡ answers) pa (subst (λ (q : List Pending). answers_at a q c' d' ≡ answers) pb
    (subst (λ (q : List Pending). answers_at a b q d' ≡ answers) pc (subst (λ (q : List Pending). answers_at a b c q ≡ answers) pd e)))

pub its_answer : (head : SubmitHead) (x : Pending) (put : Put) (downs : List Put) → x.head ≡ head → ended unplugged x ∷ [] ≡ put ∷ downs → TellsUnplugged (Some head) put downs
its_answer head x put downs is e = record {
  head = x.head;
  answer = record { seqnum = x.head.seqnum; status = unplugged; actual = length x.moved };
  transferred = returned x.head.dir x.moved;
  is = first (ended unplugged x) e;
  awaited = ap (λ (h : SubmitHead). Some h) (sym is);
  number = refl;
  status = refl;
  last = rest (ended unplugged x) e;
}
  where
    first : (p : Put) → p ∷ [] ≡ put ∷ downs → put ≡ p
    first p h = cc

    rest : (p : Put) → p ∷ [] ≡ put ∷ downs → downs ≡ []
    rest p h = cc

tells_one : (head : SubmitHead) (a b c d : List Pending) (put : Put) (downs : List Put) → OneAt head Control a → OneAt head BulkOut b → OneAt head BulkIn c → OneAt head InterruptIn d
    → answers_at a b c d ≡ put ∷ downs → TellsUnplugged (Some head) put downs
tells_one head a b c d put downs (NoneAt pa) (NoneAt pb) (NoneAt pc) (NoneAt pd) e = let none = answers_are a b c d [] [] [] [] (put ∷ downs) pa pb pc pd e in absurd (cc)
tells_one head a b c d put downs (ThisAt x pa is at) (NoneAt pb) (NoneAt pc) (NoneAt pd) e = its_answer head x put downs is (answers_are a b c d (x ∷ []) [] [] [] (put ∷ downs) pa pb pc pd e)
tells_one head a b c d put downs (NoneAt pa) (ThisAt x pb is at) (NoneAt pc) (NoneAt pd) e = its_answer head x put downs is (answers_are a b c d [] (x ∷ []) [] [] (put ∷ downs) pa pb pc pd e)
tells_one head a b c d put downs (NoneAt pa) (NoneAt pb) (ThisAt x pc is at) (NoneAt pd) e = its_answer head x put downs is (answers_are a b c d [] [] (x ∷ []) [] (put ∷ downs) pa pb pc pd e)
tells_one head a b c d put downs (NoneAt pa) (NoneAt pb) (NoneAt pc) (ThisAt x pd is at) e = its_answer head x put downs is (answers_are a b c d [] [] [] (x ∷ []) (put ∷ downs) pa pb pc pd e)
tells_one head a b c d put downs (ThisAt x pa is at) (ThisAt y pb also there) _ _ e = absurd (omega (arith, at, there))
tells_one head a b c d put downs (ThisAt x pa is at) _ (ThisAt y pc also there) _ e = absurd (omega (arith, at, there))
tells_one head a b c d put downs (ThisAt x pa is at) _ _ (ThisAt y pd also there) e = absurd (omega (arith, at, there))
tells_one head a b c d put downs _ (ThisAt x pb is at) (ThisAt y pc also there) _ e = absurd (omega (arith, at, there))
tells_one head a b c d put downs _ (ThisAt x pb is at) _ (ThisAt y pd also there) e = absurd (omega (arith, at, there))
tells_one head a b c d put downs _ _ (ThisAt x pc is at) (ThisAt y pd also there) e = absurd (omega (arith, at, there))

pub tells : (waits : Option SubmitHead) (unlinks : List UnlinkHead) (put : Put) (ups : List up.Message) (downs : List Put) (s : State) → Lines (asked_of waits) unlinks ups [] s → unplug_answers s ≡ put ∷ downs
    → TellsUnplugged waits put downs
tells None unlinks put ups downs s lines e =
    let none = answers_are s.control s.bulk_out s.bulk_in s.interrupt_in [] [] [] [] (put ∷ downs)
    (none_at s.control _ (lines.submits Control)) (none_at s.bulk_out _ (lines.submits BulkOut)) (none_at s.bulk_in _ (lines.submits BulkIn)) (none_at s.interrupt_in _ (lines.submits InterruptIn)) e in
    absurd (cc)
tells (Some head) unlinks put ups downs s lines e =
    tells_one head s.control s.bulk_out s.bulk_in s.interrupt_in put downs
    (one_at head Control s.control _ (head.ep == number_of Control) refl (lines.submits Control)) (one_at head BulkOut s.bulk_out _ (head.ep == number_of BulkOut) refl (lines.submits BulkOut))
    (one_at head BulkIn s.bulk_in _ (head.ep == number_of BulkIn) refl (lines.submits BulkIn)) (one_at head InterruptIn s.interrupt_in _ (head.ep == number_of InterruptIn) refl (lines.submits InterruptIn)) e

pub next_until : (situation : Situation) (waits : Option SubmitHead) (unlinks : List UnlinkHead) (next : ℕ) (put : Put) (ups : List up.Message) (downs : List Put) (t : State)
    → BoundUntil situation waits unlinks next ups (put ∷ downs) t → NextUntil situation waits unlinks next put ups downs t
next_until situation waits unlinks next put ups downs t (inl bound) = ComesPlugged bound
next_until situation waits unlinks next put ups downs t (inr held) = by held.front held.tie held.behind
  where
    first : (p : Put) (front rest : List Put) → put ∷ downs ≡ p ∷ (front ++ rest) → (p ≡ put) × (downs ≡ front ++ rest)
    first p front rest h = (cc, cc)

    by : (front : List Put) → Bound situation waits unlinks next ups front held.before → put ∷ downs ≡ front ++ unplug_answers held.before → NextUntil situation waits unlinks next put ups downs t
    by [] bound is = ComesBehind held.before bound held.unplugs (tells waits unlinks put ups downs held.before bound.bond.lines (sym is))
    by (p ∷ front) bound is =
        let same = first p front (unplug_answers held.before) is in
        ComesBefore held.before front (subst (λ (x : Put). Bound situation waits unlinks next ups (x ∷ front) held.before) same.0 bound) held.unplugs same.1
