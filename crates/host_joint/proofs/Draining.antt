-- the read of a drain under each move
use Rattle.std.proofs.Common.{◌≡◌, ◌∙◌, ℕ, true, false, eqb, List, [], ◌∷◌, ◌++◌, refl, ap, sym, subst}
use Rattle.std.proofs.lemmas.Bool.{eq-eqb}
use Rattle.usbip_wire.specs.declared.submit.SubmitHead.{SubmitHead}
use Rattle.usbip_wire.specs.declared.urb.Dir.{Dir}
use Rattle.usbip_wire.specs.declared.urb.Dir.TheVariants.{In, Out}
use Rattle.usbip_wire.specs.Up as up
use Rattle.tmc_law.specs.Endpoint.{Endpoint, Control, BulkOut, BulkIn, InterruptIn, number_of}
use Rattle.tmc_law.specs.State.{State, Pending, Idle, Running, AbortsIn, arrived}
use Rattle.tmc_law.specs.Put.{Put, Submitted, answer_of, ended, success, stalled, returned}
use Rattle.tmc_law.specs.Halts.{all_ended, halt_answers, HaltsItself, DoesHalt}
use Rattle.tmc_law.specs.Queues.{Arrives, Queued, TurnedAway}
use Rattle.tmc_law.specs.BulkOut as out
use Rattle.tmc_law.specs.BulkIn as «in»
use Rattle.tmc_law.specs.Status as status
use Rattle.tmc_law.specs.Step.{Move, Comes, Refuses, Take, Exec, Begin, Fill, Answer, Pend, Poll, Notify, Halt, Unplug, Leads}
use Rattle.tmc_law.specs.Run.{taken}
use Rattle.tmc_law.specs.Acts.{FitsAt}
use Rattle.tmc_law.specs.Reached.{AllFit}
use Rattle.host_joint.proofs.Queues.{IsSound}
use Rattle.host_joint.specs.Lines.{Sent, sent_to, Event, Gives, events_of, unlinks_in, Fitting, AllFitting}
use Rattle.host_joint.specs.Reads.{IsRead}
use Rattle.host_joint.specs.Positions.{IsAt, in_wants, in_ended}
use Rattle.host_joint.specs.Requests.{NoBulk, IsPlugged}
use Rattle.host_joint.specs.Drains.{OnlyRead, unread_state, DrainAt, ReadComes, ReadPends, ReadShort, ReadHalted}
use Rattle.host_joint.proofs.Flows.{events-append}
use Rattle.host_joint.proofs.Resting.{SameRest, rest_same, rest_is, rest_halts, rest_goes, no_take, no_fill, in_wants_closed, in_ended_closed}
use Rattle.host_joint.proofs.Requesting.{events_same, other_event, other_ended, no_answer, no_pend, no_first_poll}

one_event : (head : SubmitHead) (answer : _) (transferred : List ℕ) → IsRead head → events_of BulkIn (Submitted head answer transferred ∷ []) ≡ Gives head answer transferred ∷ []
one_event head answer transferred is = rw (eq-eqb head.ep 2 is.number) refl

none_returned : (d : Dir) → returned d [] ≡ []
none_returned In = refl
none_returned Out = refl

one_pending : (x y : Pending) (xs : List Pending) → x ∷ xs ≡ y ∷ [] → (x ≡ y) × (xs ≡ [])
one_pending x y xs e = (cc, cc)

wants_not_ended : {B : Type 0} (r : Running) (g : ℕ) → r ≡ AbortsIn true g → «in».NoAbortIn r → B
wants_not_ended r g is free = absurd (subst (λ (x : Running). «in».NoAbortIn x) is free)

wants_packet : {B : Type 0} (r : Running) (g : ℕ) → r ≡ AbortsIn true g → «in».NoPacketWanted r → B
wants_packet r g is free = absurd (subst (λ (x : Running). «in».NoPacketWanted x) is free)

-- ---- it is pending

-- the packet of length 0 goes into it
fills : (head : SubmitHead) (coming : List Sent) (downs puts : List Put) (s t : State) (count : ℕ) → IsRead head → coming ≡ [] → events_of BulkIn downs ≡ [] → s.bulk_in ≡ arrived head [] ∷ []
    → IsAt in_wants (unread_state s) → «in».Fills s count puts t → DrainAt head coming (events_of BulkIn (downs ++ puts)) t
fills head coming downs puts s t count is come empty pends rest («in».Ends submit behind n line wants one put to) =
    let e = one_pending submit (arrived head []) behind (sym line ∙ pends) in
    let state : t ≡ record s { bulk_in = []; side = Idle; running = AbortsIn false n } = to ∙ ap (λ (q : List Pending). record s { bulk_in = q; side = Idle; running = AbortsIn false n }) e.1 in
    ReadShort come
    (events-append BulkIn downs puts ∙ ap (λ (l : List Event). l ++ events_of BulkIn puts) empty ∙ ap (λ (p : List Put). events_of BulkIn p) put
    ∙ ap (λ (x : Pending). events_of BulkIn (ended success x ∷ [])) e.0 ∙ one_event head _ _ is
    ∙ ap (λ (l : List ℕ). Gives head (record { seqnum = head.seqnum; status = success; actual = 0 }) l ∷ []) (none_returned head.dir))
    (rest_is in_ended _ t state (record { bulk_out = rest.bulk_out; bulk_in = refl; running = (n, refl); side = refl; out = rest.out; waits = tt; shut = tt }))
fills head coming downs puts s t count is come empty pends rest («in».Inside submit behind piece line side free low within fits put to) = wants_packet s.running _ rest.running.1 free
fills head coming downs puts s t count is come empty pends rest («in».Full submit behind piece line side free low within fits put to) = wants_packet s.running _ rest.running.1 free
fills head coming downs puts s t count is come empty pends rest («in».Short submit behind piece n line side free counts leaves within less fits put to) = wants_packet s.running _ rest.running.1 free
fills head coming downs puts s t count is come empty pends rest («in».Overflows submit behind piece n line side free counts leaves within over put to) = wants_packet s.running _ rest.running.1 free

-- what leaves it pending
pends_on : (head : SubmitHead) (coming : List Sent) (downs puts : List Put) (s t : State) → coming ≡ [] → events_of BulkIn downs ≡ [] → s.bulk_in ≡ arrived head [] ∷ []
    → t.bulk_in ≡ s.bulk_in → events_of BulkIn puts ≡ [] → IsAt in_wants (unread_state t) → DrainAt head coming (events_of BulkIn (downs ++ puts)) t
pends_on head coming downs puts s t come empty pends same none rest = ReadPends come (events_same BulkIn downs puts none ∙ empty) (same ∙ pends) rest

executes : (head : SubmitHead) (coming : List Sent) (downs puts : List Put) (s t : State) → puts ≡ [] → coming ≡ [] → events_of BulkIn downs ≡ [] → s.bulk_in ≡ arrived head [] ∷ []
    → IsAt in_wants (unread_state s) → out.Executes s t → DrainAt head coming (events_of BulkIn (downs ++ puts)) t
executes head coming downs puts s t none come empty pends rest (out.DoesExecute seq message waits logs) =
    pends_on head coming downs puts s t come empty pends (ap (λ (x : State). x.bulk_in) logs.is) (ap (λ (p : List Put). events_of BulkIn p) none)
    (rest_is in_wants _ (unread_state t) (ap unread_state logs.is)
    (record { bulk_out = rest.bulk_out; bulk_in = refl; running = rest.running; side = tt; out = rest.out; waits = tt; shut = tt }))

begins : {B : Type 0} (s t : State) (count : ℕ) → IsAt in_wants (unread_state s) → «in».Begins s count t → B
begins s t count rest («in».DoesBegin tag size owes free low high logs) = wants_not_ended s.running _ rest.running.1 free

notifies : (head : SubmitHead) (coming : List Sent) (downs puts : List Put) (s t : State) → IsSound s → coming ≡ [] → events_of BulkIn downs ≡ [] → s.bulk_in ≡ arrived head [] ∷ []
    → IsAt in_wants (unread_state s) → status.Notifies s puts t → DrainAt head coming (events_of BulkIn (downs ++ puts)) t
notifies head coming downs puts s t sound come empty pends rest (status.Gives submit behind packet packets line there long put is) =
    let fit : FitsAt InterruptIn submit = (subst (λ (q : List Pending). AllFit InterruptIn q) line (sound.fits InterruptIn)).0 in
    pends_on head coming downs puts s t come empty pends (ap (λ (x : State). x.bulk_in) is)
    (ap (λ (p : List Put). events_of BulkIn p) put ∙ other_event BulkIn submit.head _ _ [] 3 fit.number refl)
    (rest_is in_wants _ (unread_state t) (ap unread_state is) (record { bulk_out = rest.bulk_out; bulk_in = refl; running = rest.running; side = tt; out = rest.out; waits = tt; shut = tt }))
notifies head coming downs puts s t sound come empty pends rest (status.NoRoom submit behind packet packets line there short put is) =
    pends_on head coming downs puts s t come empty pends (ap (λ (x : State). x.bulk_in) is)
    (ap (λ (p : List Put). events_of BulkIn p) put ∙ other_ended BulkIn InterruptIn stalled s.interrupt_in (sound.fits InterruptIn) refl)
    (rest_is in_wants _ (unread_state t) (ap unread_state is) (record { bulk_out = rest.bulk_out; bulk_in = refl; running = rest.running; side = tt; out = rest.out; waits = tt; shut = tt }))

halts_itself : (head : SubmitHead) (coming : List Sent) (downs puts : List Put) (s t : State) (e : Endpoint) → IsRead head → IsSound s → coming ≡ [] → events_of BulkIn downs ≡ []
    → s.bulk_in ≡ arrived head [] ∷ [] → IsAt in_wants (unread_state s) → HaltsItself s e puts t → DrainAt head coming (events_of BulkIn (downs ++ puts)) t
halts_itself head coming downs puts s t Control is sound come empty pends rest (DoesHalt other usable put to) = absurd (other refl)
halts_itself head coming downs puts s t BulkOut is sound come empty pends rest (DoesHalt other usable put to) =
    pends_on head coming downs puts s t come empty pends (ap (λ (x : State). x.bulk_in) to)
    (ap (λ (p : List Put). events_of BulkIn p) put ∙ other_ended BulkIn BulkOut stalled s.bulk_out (sound.fits BulkOut) refl)
    (rest_is in_wants _ (unread_state t) (ap unread_state to) (rest_halts in_wants (unread_state s) BulkOut in_wants_closed rest))
halts_itself head coming downs puts s t InterruptIn is sound come empty pends rest (DoesHalt other usable put to) =
    pends_on head coming downs puts s t come empty pends (ap (λ (x : State). x.bulk_in) to)
    (ap (λ (p : List Put). events_of BulkIn p) put ∙ other_ended BulkIn InterruptIn stalled s.interrupt_in (sound.fits InterruptIn) refl)
    (rest_is in_wants _ (unread_state t) (ap unread_state to) (record { bulk_out = rest.bulk_out; bulk_in = refl; running = rest.running; side = tt; out = rest.out; waits = tt; shut = tt }))
halts_itself head coming downs puts s t BulkIn is sound come empty pends rest (DoesHalt other usable put to) =
    ReadHalted come
    (events-append BulkIn downs puts ∙ ap (λ (l : List Event). l ++ events_of BulkIn puts) empty ∙ ap (λ (p : List Put). events_of BulkIn p) put
    ∙ ap (λ (q : List Pending). events_of BulkIn (all_ended stalled q)) pends ∙ one_event head _ _ is
    ∙ ap (λ (l : List ℕ). Gives head (record { seqnum = head.seqnum; status = stalled; actual = 0 }) l ∷ []) (none_returned head.dir))
    (rest_is in_wants _ t to (record { bulk_out = rest.bulk_out; bulk_in = refl; running = rest.running; side = tt; out = rest.out; waits = tt; shut = tt }))

-- ---- arrivals

sent_own : (e : Endpoint) (x : SubmitHead) (transferred : List ℕ) (ups : List up.Message) → x.ep ≡ number_of e
    → sent_to e (up.Submit x transferred ∷ ups) ≡ record { head = x; transferred = transferred } ∷ sent_to e ups
sent_own e x transferred ups is = rw (eq-eqb x.ep (number_of e) is) refl

sent_other : (e : Endpoint) (x : SubmitHead) (transferred : List ℕ) (ups : List up.Message) (n : ℕ) → x.ep ≡ n → eqb n (number_of e) ≡ false
    → sent_to e (up.Submit x transferred ∷ ups) ≡ sent_to e ups
sent_other e x transferred ups n is other = rw (ap (λ (k : ℕ). eqb k (number_of e)) is ∙ other) refl

some_none : {B : Type 0} (x : Sent) (more l : List Sent) → l ≡ x ∷ more → l ≡ [] → B
some_none x more l some none = let e : x ∷ more ≡ [] = sym some ∙ none in absurd (cc)

one_sent : (x y : Sent) (ups : List Sent) → x ∷ ups ≡ y ∷ [] → (x ≡ y) × (ups ≡ [])
one_sent x y ups e = (cc, cc)

-- a submit to Interrupt-IN concerns it not
elsewhere : (head : SubmitHead) (coming later : List Sent) (downs puts : List Put) (s t : State) → coming ≡ later → events_of BulkIn puts ≡ [] → t.bulk_in ≡ s.bulk_in
    → SameRest s t → DrainAt head coming (events_of BulkIn downs) s → DrainAt head later (events_of BulkIn (downs ++ puts)) t
elsewhere head coming later downs puts s t same none queue rests (ReadComes come empty rest) =
    ReadComes (sym same ∙ come) (events_same BulkIn downs puts none ∙ empty) (rest_same in_wants s t rests rest)
elsewhere head coming later downs puts s t same none queue rests (ReadPends come empty pends rest) =
    ReadPends (sym same ∙ come) (events_same BulkIn downs puts none ∙ empty) (queue ∙ pends)
    (rest_same in_wants (unread_state s) (unread_state t) (record { bulk_out = rests.bulk_out; bulk_in = refl; running = rests.running; side = rests.side; transfer = rests.transfer; part = rests.part; waiting = rests.waiting; shut = rests.shut }) rest)
elsewhere head coming later downs puts s t same none queue rests (ReadShort come given rest) =
    ReadShort (sym same ∙ come) (events_same BulkIn downs puts none ∙ given) (rest_same in_ended s t rests rest)
elsewhere head coming later downs puts s t same none queue rests (ReadHalted come given rest) =
    ReadHalted (sym same ∙ come) (events_same BulkIn downs puts none ∙ given) (rest_same in_wants s t rests rest)

arrives : (head : SubmitHead) (x : SubmitHead) (transferred : List ℕ) (ups : List up.Message) (downs puts : List Put) (s t : State) → IsRead head → OnlyRead (up.Submit x transferred ∷ ups) → Fitting x
    → Arrives s x transferred puts t → DrainAt head (sent_to BulkIn (up.Submit x transferred ∷ ups)) (events_of BulkIn downs) s
    → DrainAt head (sent_to BulkIn ups) (events_of BulkIn (downs ++ puts)) t
arrives head x transferred ups downs puts s t is only fits (Queued Control taken put to) at = some_none _ _ _ (sent_own Control x transferred ups taken.number) only.controls
arrives head x transferred ups downs puts s t is only fits (Queued BulkOut taken put to) at = some_none _ _ _ (sent_own BulkOut x transferred ups taken.number) only.outs
arrives head x transferred ups downs puts s t is only fits (Queued InterruptIn taken put to) at =
    elsewhere head _ _ downs puts s t (sent_other BulkIn x transferred ups 3 taken.number refl) (ap (λ (p : List Put). events_of BulkIn p) put) (ap (λ (y : State). y.bulk_in) to)
    (record {
      bulk_out = ap (λ (y : State). y.bulk_out) to;
      bulk_in = ap (λ (y : State). y.bulk_in) to;
      running = ap (λ (y : State). y.running) to;
      side = ap (λ (y : State). y.side) to;
      transfer = ap (λ (y : State). y.transfer) to;
      part = ap (λ (y : State). y.part) to;
      waiting = ap (λ (y : State). y.waiting) to;
      shut = ap (λ (y : State). y.halted.bulk_out) to;
    }) at
arrives head x transferred ups downs puts s t is only fits (Queued BulkIn taken put to) (ReadComes come empty rest) =
    let e = one_sent _ (record { head = head; transferred = [] }) (sent_to BulkIn ups) (sym (sent_own BulkIn x transferred ups taken.number) ∙ come) in
    ReadPends e.1 (events_same BulkIn downs puts (ap (λ (p : List Put). events_of BulkIn p) put) ∙ empty)
    (ap (λ (y : State). y.bulk_in) to ∙ ap (λ (q : List Pending). q ++ arrived x transferred ∷ []) rest.bulk_in ∙ ap (λ (y : Sent). arrived y.head y.transferred ∷ []) e.0)
    (rest_is in_wants _ (unread_state t) (ap unread_state to) (record { bulk_out = rest.bulk_out; bulk_in = refl; running = rest.running; side = tt; out = rest.out; waits = tt; shut = tt }))
arrives head x transferred ups downs puts s t is only fits (Queued BulkIn taken put to) (ReadPends come empty pends rest) = some_none _ _ _ (sent_own BulkIn x transferred ups taken.number) come
arrives head x transferred ups downs puts s t is only fits (Queued BulkIn taken put to) (ReadShort come given rest) = some_none _ _ _ (sent_own BulkIn x transferred ups taken.number) come
arrives head x transferred ups downs puts s t is only fits (Queued BulkIn taken put to) (ReadHalted come given rest) = some_none _ _ _ (sent_own BulkIn x transferred ups taken.number) come
arrives head x transferred ups downs puts s t is only fits (TurnedAway none put to) at = by fits.endpoint refl at
  where
    same : SameRest s t
    same = record {
      bulk_out = ap (λ (y : State). y.bulk_out) to;
      bulk_in = ap (λ (y : State). y.bulk_in) to;
      running = ap (λ (y : State). y.running) to;
      side = ap (λ (y : State). y.side) to;
      transfer = ap (λ (y : State). y.transfer) to;
      part = ap (λ (y : State). y.part) to;
      waiting = ap (λ (y : State). y.waiting) to;
      shut = ap (λ (y : State). y.halted.bulk_out) to;
    }

    turned : x.ep ≡ 2 → DrainAt head (sent_to BulkIn (up.Submit x transferred ∷ ups)) (events_of BulkIn downs) s → DrainAt head (sent_to BulkIn ups) (events_of BulkIn (downs ++ puts)) t
    turned own (ReadComes come empty rest) =
        let e = one_sent _ (record { head = head; transferred = [] }) (sent_to BulkIn ups) (sym (sent_own BulkIn x transferred ups own) ∙ come) in
        ReadHalted e.1
        (events-append BulkIn downs puts ∙ ap (λ (l : List Event). l ++ events_of BulkIn puts) empty ∙ ap (λ (p : List Put). events_of BulkIn p) put
        ∙ ap (λ (y : Sent). events_of BulkIn (answer_of y.head stalled [] ∷ [])) e.0 ∙ one_event head _ _ is
        ∙ ap (λ (l : List ℕ). Gives head (record { seqnum = head.seqnum; status = stalled; actual = 0 }) l ∷ []) (none_returned head.dir))
        (rest_same in_wants s t same rest)
    turned own (ReadPends come empty pends rest) = some_none _ _ _ (sent_own BulkIn x transferred ups own) come
    turned own (ReadShort come given rest) = some_none _ _ _ (sent_own BulkIn x transferred ups own) come
    turned own (ReadHalted come given rest) = some_none _ _ _ (sent_own BulkIn x transferred ups own) come

    by : (e : Endpoint) → fits.endpoint ≡ e → DrainAt head (sent_to BulkIn (up.Submit x transferred ∷ ups)) (events_of BulkIn downs) s → DrainAt head (sent_to BulkIn ups) (events_of BulkIn (downs ++ puts)) t
    by Control h at = some_none _ _ _ (sent_own Control x transferred ups (fits.number ∙ ap number_of h)) only.controls
    by BulkOut h at = some_none _ _ _ (sent_own BulkOut x transferred ups (fits.number ∙ ap number_of h)) only.outs
    by InterruptIn h at =
        let own : x.ep ≡ 3 = fits.number ∙ ap number_of h in
        elsewhere head _ _ downs puts s t (sent_other BulkIn x transferred ups 3 own refl) (ap (λ (p : List Put). events_of BulkIn p) put ∙ other_event BulkIn x _ _ [] 3 own refl) (ap (λ (y : State). y.bulk_in) to) same at
    by BulkIn h at = turned (fits.number ∙ ap number_of h) at

-- ---- all moves

-- a move that puts no answer to a read out, unless one is pending
quiet_goes : (head : SubmitHead) (coming : List Sent) (downs puts : List Put) (s t : State) → events_of BulkIn puts ≡ [] → (IsAt in_wants s → IsAt in_wants t) → (IsAt in_ended s → IsAt in_ended t)
    → (s.bulk_in ≡ arrived head [] ∷ [] → IsAt in_wants (unread_state s) → coming ≡ [] → events_of BulkIn downs ≡ [] → DrainAt head coming (events_of BulkIn (downs ++ puts)) t)
    → DrainAt head coming (events_of BulkIn downs) s → DrainAt head coming (events_of BulkIn (downs ++ puts)) t
quiet_goes head coming downs puts s t none wants ends pending (ReadComes come empty rest) = ReadComes come (events_same BulkIn downs puts none ∙ empty) (wants rest)
quiet_goes head coming downs puts s t none wants ends pending (ReadPends come empty pends rest) = pending pends rest come empty
quiet_goes head coming downs puts s t none wants ends pending (ReadShort come given rest) = ReadShort come (events_same BulkIn downs puts none ∙ given) (ends rest)
quiet_goes head coming downs puts s t none wants ends pending (ReadHalted come given rest) = ReadHalted come (events_same BulkIn downs puts none ∙ given) (wants rest)

no_bulk : NoBulk []
no_bulk = record { outs = refl; ins = refl; unlinks = refl }

none_ended : (s : State) → s.bulk_in ≡ [] → events_of BulkIn (halt_answers BulkIn s) ≡ []
none_ended s none = ap (λ (q : List Pending). events_of BulkIn (all_ended stalled q)) none

halts_in : (head : SubmitHead) (coming : List Sent) (downs puts : List Put) (s t : State) → IsRead head → IsSound s → HaltsItself s BulkIn puts t
    → DrainAt head coming (events_of BulkIn downs) s → DrainAt head coming (events_of BulkIn (downs ++ puts)) t
halts_in head coming downs puts s t is sound (DoesHalt other usable put to) (ReadComes come empty rest) =
    ReadComes come (events_same BulkIn downs puts (ap (λ (p : List Put). events_of BulkIn p) put ∙ none_ended s rest.bulk_in) ∙ empty) (rest_is in_wants _ t to (rest_halts in_wants s BulkIn in_wants_closed rest))
halts_in head coming downs puts s t is sound halt (ReadPends come empty pends rest) = halts_itself head coming downs puts s t BulkIn is sound come empty pends rest halt
halts_in head coming downs puts s t is sound (DoesHalt other usable put to) (ReadShort come given rest) =
    ReadShort come (events_same BulkIn downs puts (ap (λ (p : List Put). events_of BulkIn p) put ∙ none_ended s rest.bulk_in) ∙ given) (rest_is in_ended _ t to (rest_halts in_ended s BulkIn in_ended_closed rest))
halts_in head coming downs puts s t is sound (DoesHalt other usable put to) (ReadHalted come given rest) =
    ReadHalted come (events_same BulkIn downs puts (ap (λ (p : List Put). events_of BulkIn p) put ∙ none_ended s rest.bulk_in) ∙ given) (rest_is in_wants _ t to (rest_halts in_wants s BulkIn in_wants_closed rest))

fills_at : (head : SubmitHead) (coming : List Sent) (downs puts : List Put) (s t : State) (count : ℕ) → IsRead head → «in».Fills s count puts t
    → DrainAt head coming (events_of BulkIn downs) s → DrainAt head coming (events_of BulkIn (downs ++ puts)) t
fills_at head coming downs puts s t count is fill (ReadComes come empty rest) = absurd (no_fill s t count puts rest.bulk_in fill)
fills_at head coming downs puts s t count is fill (ReadPends come empty pends rest) = fills head coming downs puts s t count is come empty pends rest fill
fills_at head coming downs puts s t count is fill (ReadShort come given rest) = absurd (no_fill s t count puts rest.bulk_in fill)
fills_at head coming downs puts s t count is fill (ReadHalted come given rest) = absurd (no_fill s t count puts rest.bulk_in fill)

drain_out : (head : SubmitHead) (coming : List Sent) (events : List Event) (s : State) → DrainAt head coming events s → s.bulk_out ≡ []
drain_out head coming events s (ReadComes come empty rest) = rest.bulk_out
drain_out head coming events s (ReadPends come empty pends rest) = rest.bulk_out
drain_out head coming events s (ReadShort come given rest) = rest.bulk_out
drain_out head coming events s (ReadHalted come given rest) = rest.bulk_out

halt_events : (s : State) (e : Endpoint) (puts : List Put) → IsSound s → puts ≡ halt_answers e s → eqb (number_of e) 2 ≡ false → events_of BulkIn puts ≡ []
halt_events s Control puts sound put other = ap (λ (p : List Put). events_of BulkIn p) put ∙ other_ended BulkIn Control stalled s.control (sound.fits Control) refl
halt_events s BulkOut puts sound put other = ap (λ (p : List Put). events_of BulkIn p) put ∙ other_ended BulkIn BulkOut stalled s.bulk_out (sound.fits BulkOut) refl
halt_events s BulkIn puts sound put other = let e : true ≡ false = other in absurd (cc)
halt_events s InterruptIn puts sound put other = ap (λ (p : List Put). events_of BulkIn p) put ∙ other_ended BulkIn InterruptIn stalled s.interrupt_in (sound.fits InterruptIn) refl

halt_puts : (s t : State) (e : Endpoint) (puts : List Put) → HaltsItself s e puts t → puts ≡ halt_answers e s
halt_puts s t e puts (DoesHalt other usable put to) = put

notify_events : (s t : State) (puts : List Put) → IsSound s → status.Notifies s puts t → events_of BulkIn puts ≡ []
notify_events s t puts sound (status.Gives submit behind packet packets line there long put is) =
    let fit : FitsAt InterruptIn submit = (subst (λ (q : List Pending). AllFit InterruptIn q) line (sound.fits InterruptIn)).0 in
    ap (λ (p : List Put). events_of BulkIn p) put ∙ other_event BulkIn submit.head _ _ [] 3 fit.number refl
notify_events s t puts sound (status.NoRoom submit behind packet packets line there short put is) =
    ap (λ (p : List Put). events_of BulkIn p) put ∙ other_ended BulkIn InterruptIn stalled s.interrupt_in (sound.fits InterruptIn) refl

pub drain_goes : (head : SubmitHead) (ups : List up.Message) (downs puts : List Put) (s t : State) (move : Move) → IsRead head → IsSound s → OnlyRead (taken move ++ ups) → AllFitting (taken move ++ ups)
    → s.control ≡ [] → IsPlugged move → Leads s move puts t
    → DrainAt head (sent_to BulkIn (taken move ++ ups)) (events_of BulkIn downs) s → DrainAt head (sent_to BulkIn ups) (events_of BulkIn (downs ++ puts)) t
drain_goes head ups downs puts s t (Comes (up.Submit x transferred)) is sound only fit control plugged h at = arrives head x transferred ups downs puts s t is only fit.0 h.3 at
drain_goes head ups downs puts s t (Comes (up.Unlink x)) is sound only fit control plugged h at = let f : x ∷ unlinks_in ups ≡ [] = only.unlinks in absurd (cc)
drain_goes head ups downs puts s t (Refuses devid bytes f) is sound only fit control plugged h at =
    quiet_goes head _ downs puts s t (ap (λ (p : List Put). events_of BulkIn p) h.1)
    (λ rest. rest_goes in_wants s t (Refuses devid bytes f) puts [] in_wants_closed no_bulk tt h rest) (λ rest. rest_goes in_ended s t (Refuses devid bytes f) puts [] in_ended_closed no_bulk tt h rest)
    (λ pends rest come empty. pends_on head _ downs puts s t come empty pends (ap (λ (x : State). x.bulk_in) h.2) (ap (λ (p : List Put). events_of BulkIn p) h.1)
    (rest_is in_wants _ (unread_state t) (ap unread_state h.2) (record { bulk_out = rest.bulk_out; bulk_in = refl; running = rest.running; side = tt; out = rest.out; waits = tt; shut = tt }))) at
drain_goes head ups downs puts s t (Take count) is sound only fit control plugged h at = absurd (no_take s t count puts (drain_out head _ _ s at) h.1)
drain_goes head ups downs puts s t Exec is sound only fit control plugged h at =
    quiet_goes head _ downs puts s t (ap (λ (p : List Put). events_of BulkIn p) h.1)
    (λ rest. rest_goes in_wants s t Exec puts [] in_wants_closed no_bulk tt h rest) (λ rest. rest_goes in_ended s t Exec puts [] in_ended_closed no_bulk tt h rest)
    (λ pends rest come empty. executes head _ downs puts s t h.1 come empty pends rest h.0) at
drain_goes head ups downs puts s t (Begin count) is sound only fit control plugged h at =
    quiet_goes head _ downs puts s t (ap (λ (p : List Put). events_of BulkIn p) h.1)
    (λ rest. rest_goes in_wants s t (Begin count) puts [] in_wants_closed no_bulk tt h rest) (λ rest. rest_goes in_ended s t (Begin count) puts [] in_ended_closed no_bulk tt h rest)
    (λ pends rest come empty. begins s t count rest h.0) at
drain_goes head ups downs puts s t (Fill count) is sound only fit control plugged h at = fills_at head _ downs puts s t count is h at
drain_goes head ups downs puts s t Answer is sound only fit control plugged h at = absurd (no_answer s t puts control h)
drain_goes head ups downs puts s t Pend is sound only fit control plugged h at = absurd (no_pend s t puts control h)
drain_goes head ups downs puts s t Poll is sound only fit control plugged h at = absurd (no_first_poll s t control h.0)
drain_goes head ups downs puts s t Notify is sound only fit control plugged h at =
    quiet_goes head _ downs puts s t (notify_events s t puts sound h)
    (λ rest. rest_goes in_wants s t Notify puts [] in_wants_closed no_bulk tt h rest) (λ rest. rest_goes in_ended s t Notify puts [] in_ended_closed no_bulk tt h rest)
    (λ pends rest come empty. notifies head _ downs puts s t sound come empty pends rest h) at
drain_goes head ups downs puts s t (Halt BulkIn) is sound only fit control plugged h at = halts_in head _ downs puts s t is sound h at
drain_goes head ups downs puts s t (Halt Control) is sound only fit control plugged h at =
    quiet_goes head _ downs puts s t (halt_events s Control puts sound (halt_puts s t Control puts h) refl)
    (λ rest. rest_goes in_wants s t (Halt Control) puts [] in_wants_closed no_bulk tt h rest) (λ rest. rest_goes in_ended s t (Halt Control) puts [] in_ended_closed no_bulk tt h rest)
    (λ pends rest come empty. halts_itself head _ downs puts s t Control is sound come empty pends rest h) at
drain_goes head ups downs puts s t (Halt BulkOut) is sound only fit control plugged h at =
    quiet_goes head _ downs puts s t (halt_events s BulkOut puts sound (halt_puts s t BulkOut puts h) refl)
    (λ rest. rest_goes in_wants s t (Halt BulkOut) puts [] in_wants_closed no_bulk tt h rest) (λ rest. rest_goes in_ended s t (Halt BulkOut) puts [] in_ended_closed no_bulk tt h rest)
    (λ pends rest come empty. halts_itself head _ downs puts s t BulkOut is sound come empty pends rest h) at
drain_goes head ups downs puts s t (Halt InterruptIn) is sound only fit control plugged h at =
    quiet_goes head _ downs puts s t (halt_events s InterruptIn puts sound (halt_puts s t InterruptIn puts h) refl)
    (λ rest. rest_goes in_wants s t (Halt InterruptIn) puts [] in_wants_closed no_bulk tt h rest) (λ rest. rest_goes in_ended s t (Halt InterruptIn) puts [] in_ended_closed no_bulk tt h rest)
    (λ pends rest come empty. halts_itself head _ downs puts s t InterruptIn is sound come empty pends rest h) at
drain_goes head ups downs puts s t Unplug is sound only fit control plugged h at = absurd plugged
