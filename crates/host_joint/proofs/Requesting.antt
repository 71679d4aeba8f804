-- a request of the recovery, on its way, pending or answered, under each move
use Rattle.std.proofs.Common.{◌≡◌, ◌∙◌, ℕ, min, false, eqb, ℤ, ◌≤◌, List, [], ◌∷◌, ◌++◌, length, take, map, refl, ap, sym, subst, append-nil, take_all, arith}
use Rattle.std.proofs.lemmas.Bool.{eq-eqb}
use Rattle.usbip_wire.specs.declared.submit.SubmitHead.{SubmitHead}
use Rattle.usbip_wire.specs.declared.urb.Dir.{Dir}
use Rattle.usbip_wire.specs.declared.urb.Dir.TheVariants.{In, Out}
use Rattle.usbip_wire.specs.Up as up
use Rattle.usb_setup.specs.declared.setup.Setup.{Setup}
use Rattle.tmc_wire.specs.declared.class_request.ClassRequest.{ClassRequest}
use Rattle.tmc_wire.specs.declared.class_request.ClassRequest.TheVariants.{ReadStatus}
use Rattle.tmc_wire.specs.ClassAnswer.{answer_length}
use Rattle.tmc_law.specs.Endpoint.{Endpoint, Control, BulkOut, BulkIn, InterruptIn, number_of, ends}
use Rattle.tmc_law.specs.State.{State, Pending, arrived, is_halted, with_halt}
use Rattle.tmc_law.specs.Put.{Put, Submitted, answer_of, success, stalled, returned}
use Rattle.tmc_law.specs.Control.{Asks, control_answer, sent_back}
use Rattle.tmc_law.specs.Halts.{all_ended, HaltsItself, DoesHalt}
use Rattle.tmc_law.specs.Queues.{Arrives, Queued, TurnedAway}
use Rattle.tmc_law.specs.BulkOut as out
use Rattle.tmc_law.specs.BulkIn as «in»
use Rattle.tmc_law.specs.Status as status
use Rattle.tmc_wire.specs.ControlTable.{IsRow}
use Rattle.tmc_law.specs.Class.{IsUnknown}
use Rattle.tmc_law.specs.Standard.{Standard, IsStandard, ClearHalt, standard_layout, standard_effect}
use Rattle.tmc_law.specs.Class as class
use Rattle.tmc_law.specs.Class.{Serves, StaysPending}
use Rattle.tmc_law.specs.Aborts.{Served}
use Rattle.tmc_law.specs.Logging.{Logs}
use Rattle.tmc_law.specs.Step.{Move, Comes, Refuses, Take, Exec, Begin, Fill, Answer, Pend, Poll, Notify, Halt, Unplug, Leads}
use Rattle.tmc_law.specs.Run.{taken}
use Rattle.tmc_law.specs.Acts.{FitsAt}
use Rattle.tmc_law.specs.Reached.{AllFit}
use Rattle.host_joint.proofs.Queues.{IsSound}
use Rattle.host_joint.specs.Lines.{Sent, sent_to, Event, Gives, events_of, unlinks_in, Fitting, AllFitting}
use Rattle.host_joint.specs.Requests as recovery
use Rattle.host_joint.specs.Positions.{Position, IsClosed, IsAt}
use Rattle.host_joint.specs.Requests.{NoBulk, IsPlugged, IsClearHalt, Choice, Says, SaysOne, SaysOther, RequestAt, IsClass}
use Rattle.host_joint.proofs.Flows.{events-append}
use Rattle.host_joint.proofs.Resting.{LeavesControl, rest_goes, none_first, no_take, no_fill}

-- ---- a setup has one meaning

-- it asks for this class request and for nothing else
pub record OnlyClass (head : SubmitHead) (request : ClassRequest) : Type 0 where
  pub number : head.ep ≡ 0
  pub way : head.dir ≡ In
  pub only : (setup : Setup) (other : ClassRequest) → Asks (arrived head []) setup → IsRow ends other setup → other ≡ request
  pub not_standard : (setup : Setup) (other : Standard) → Asks (arrived head []) setup → IsStandard other setup → ⊥
  pub known : (setup : Setup) → Asks (arrived head []) setup → IsUnknown setup → ⊥
  pub room : (setup : Setup) → Asks (arrived head []) setup → answer_length request ≤ min setup.length head.length

-- it asks for the end of this endpoint's halt and for nothing else
pub record OnlyClearHalt (head : SubmitHead) (e : Endpoint) : Type 0 where
  pub number : head.ep ≡ 0
  pub only : (setup : Setup) (other : Standard) → Asks (arrived head []) setup → IsStandard other setup → other ≡ ClearHalt e
  pub not_class : (setup : Setup) (other : ClassRequest) → Asks (arrived head []) setup → IsRow ends other setup → ⊥
  pub known : (setup : Setup) → Asks (arrived head []) setup → IsUnknown setup → ⊥

-- what the law says of the meaning of setups
pub record Meaning : Type 0 where
  pub one : (submit : Pending) (a b : Setup) → Asks submit a → Asks submit b → a ≡ b
  pub class_one : (setup : Setup) (a b : ClassRequest) → IsRow ends a setup → IsRow ends b setup → a ≡ b
  pub standard_one : (setup : Setup) (a b : Standard) → IsStandard a setup → IsStandard b setup → a ≡ b
  pub apart : (setup : Setup) (a : ClassRequest) (b : Standard) → IsRow ends a setup → IsStandard b setup → ⊥

pub only_class : (laws : Meaning) (head : SubmitHead) (request : ClassRequest) → IsClass head request → OnlyClass head request
only_class laws head request is = record {
  number = is.number;
  way = is.way;
  only = λ setup other asks found. laws.class_one setup other request found (own setup asks);
  not_standard = λ setup other asks found. laws.apart setup request other (own setup asks) found;
  known = λ setup asks unknown. unknown.no_class request (own setup asks);
  room = λ setup asks. subst (λ (x : Setup). answer_length request ≤ min x.length head.length) (laws.one (arrived head []) is.setup setup is.asks asks) is.room;
}
  where
    own : (setup : Setup) → Asks (arrived head []) setup → IsRow ends request setup
    own setup asks = subst (λ (x : Setup). IsRow ends request x) (laws.one (arrived head []) is.setup setup is.asks asks) is.row

pub only_clear_halt : (laws : Meaning) (head : SubmitHead) (e : Endpoint) → IsClearHalt head e → OnlyClearHalt head e
only_clear_halt laws head e is = record {
  number = is.number;
  only = λ setup other asks found. laws.standard_one setup other (ClearHalt e) found (own setup asks);
  not_class = λ setup other asks found. laws.apart setup other (ClearHalt e) found (own setup asks);
  known = λ setup asks unknown. unknown.no_standard (ClearHalt e) (own setup asks);
}
  where
    own : (setup : Setup) → Asks (arrived head []) setup → IsStandard (ClearHalt e) setup
    own setup asks = subst (λ (x : Setup). IsStandard (ClearHalt e) x) (laws.one (arrived head []) is.setup setup is.asks asks) is.row

-- ---- events

pub events_same : (e : Endpoint) (downs puts : List Put) → events_of e puts ≡ [] → events_of e (downs ++ puts) ≡ events_of e downs
events_same e downs puts none = events-append e downs puts ∙ ap (λ (l : List Event). events_of e downs ++ l) none ∙ append-nil (events_of e downs)

pub other_event : (e : Endpoint) (head : SubmitHead) (answer : _) (transferred : List ℕ) (puts : List Put) (n : ℕ) → head.ep ≡ n → eqb n (number_of e) ≡ false
    → events_of e (Submitted head answer transferred ∷ puts) ≡ events_of e puts
other_event e head answer transferred puts n is other = rw (ap (λ (k : ℕ). eqb k (number_of e)) is ∙ other) refl

pub other_ended : (e d : Endpoint) (st : ℤ) (queue : List Pending) → AllFit d queue → eqb (number_of d) (number_of e) ≡ false → events_of e (all_ended st queue) ≡ []
other_ended e d st [] fit other = refl
other_ended e d st (first ∷ others) fit other =
    other_event e first.head _ _ (map (λ submit. answer_of submit.head st []) others) (number_of d) fit.0.number other ∙ rest others fit.1
  where
    rest : (l : List Pending) → AllFit d l → events_of e (map (λ submit. answer_of submit.head st []) l) ≡ []
    rest [] h = refl
    rest (x ∷ l) h = other_event e x.head _ _ (map (λ submit. answer_of submit.head st []) l) (number_of d) h.0.number other ∙ rest l h.1

-- what a move does at the control endpoint, where it answers nothing there and nothing arrives there
pub record Apart (s t : State) (puts : List Put) : Type 0 where
  pub queue : t.control ≡ s.control
  pub events : events_of Control puts ≡ []

logs_control : (e : _) (s t : State) → Logs e s t → t.control ≡ s.control
logs_control e s t logs = ap (λ (x : State). x.control) logs.is

pub executes : (s t : State) (puts : List Put) → puts ≡ [] → out.Executes s t → Apart s t puts
executes s t puts none (out.DoesExecute seq message waits logs) = record { queue = logs_control _ _ t logs; events = ap (λ (p : List Put). events_of Control p) none }

pub begins : (s t : State) (count : ℕ) (puts : List Put) → puts ≡ [] → «in».Begins s count t → Apart s t puts
begins s t count puts none («in».DoesBegin tag size owes free low high logs) = record { queue = logs_control _ _ t logs; events = ap (λ (p : List Put). events_of Control p) none }

pub notifies : (s t : State) (puts : List Put) → IsSound s → status.Notifies s puts t → Apart s t puts
notifies s t puts sound (status.Gives submit behind packet packets line there long put is) =
    let fit : FitsAt InterruptIn submit = (subst (λ (q : List Pending). AllFit InterruptIn q) line (sound.fits InterruptIn)).0 in
    record { queue = ap (λ (x : State). x.control) is; events = ap (λ (p : List Put). events_of Control p) put ∙ other_event Control submit.head _ _ [] 3 fit.number refl }
notifies s t puts sound (status.NoRoom submit behind packet packets line there short put is) =
    record { queue = ap (λ (x : State). x.control) is; events = ap (λ (p : List Put). events_of Control p) put ∙ other_ended Control InterruptIn stalled s.interrupt_in (sound.fits InterruptIn) refl }

pub halts_itself : (s t : State) (e : Endpoint) (puts : List Put) → IsSound s → HaltsItself s e puts t → Apart s t puts
halts_itself s t Control puts sound (DoesHalt other usable put is) = absurd (other refl)
halts_itself s t BulkOut puts sound (DoesHalt other usable put is) =
    record { queue = ap (λ (x : State). x.control) is; events = ap (λ (p : List Put). events_of Control p) put ∙ other_ended Control BulkOut stalled s.bulk_out (sound.fits BulkOut) refl }
halts_itself s t BulkIn puts sound (DoesHalt other usable put is) =
    record { queue = ap (λ (x : State). x.control) is; events = ap (λ (p : List Put). events_of Control p) put ∙ other_ended Control BulkIn stalled s.bulk_in (sound.fits BulkIn) refl }
halts_itself s t InterruptIn puts sound (DoesHalt other usable put is) =
    record { queue = ap (λ (x : State). x.control) is; events = ap (λ (p : List Put). events_of Control p) put ∙ other_ended Control InterruptIn stalled s.interrupt_in (sound.fits InterruptIn) refl }

-- a submit arrives: at the control endpoint, or elsewhere
pub data Came (head : SubmitHead) (transferred : List ℕ) (ups : List up.Message) (s t : State) (puts : List Put) : Type 0 where
  CameHere : puts ≡ [] → t ≡ record s { control = s.control ++ arrived head transferred ∷ [] }
      → sent_to Control (up.Submit head transferred ∷ ups) ≡ record { head = head; transferred = transferred } ∷ sent_to Control ups → Came head transferred ups s t puts
  CameElsewhere : Apart s t puts → sent_to Control (up.Submit head transferred ∷ ups) ≡ sent_to Control ups → Came head transferred ups s t puts

sent_one : (head : SubmitHead) (transferred : List ℕ) (ups : List up.Message) → head.ep ≡ 0
    → sent_to Control (up.Submit head transferred ∷ ups) ≡ record { head = head; transferred = transferred } ∷ sent_to Control ups
sent_one head transferred ups is = rw (eq-eqb head.ep 0 is) refl

sent_other : (head : SubmitHead) (transferred : List ℕ) (ups : List up.Message) (n : ℕ) → head.ep ≡ n → eqb n 0 ≡ false → sent_to Control (up.Submit head transferred ∷ ups) ≡ sent_to Control ups
sent_other head transferred ups n is other = rw (ap (λ (k : ℕ). eqb k 0) is ∙ other) refl

pub came : (head : SubmitHead) (transferred : List ℕ) (ups : List up.Message) (s t : State) (puts : List Put) → Fitting head → Arrives s head transferred puts t → Came head transferred ups s t puts
came head transferred ups s t puts fits (Queued Control taken put is) = CameHere put is (sent_one head transferred ups taken.number)
came head transferred ups s t puts fits (Queued BulkOut taken put is) =
    CameElsewhere (record { queue = ap (λ (x : State). x.control) is; events = ap (λ (p : List Put). events_of Control p) put }) (sent_other head transferred ups 1 taken.number refl)
came head transferred ups s t puts fits (Queued BulkIn taken put is) =
    CameElsewhere (record { queue = ap (λ (x : State). x.control) is; events = ap (λ (p : List Put). events_of Control p) put }) (sent_other head transferred ups 2 taken.number refl)
came head transferred ups s t puts fits (Queued InterruptIn taken put is) =
    CameElsewhere (record { queue = ap (λ (x : State). x.control) is; events = ap (λ (p : List Put). events_of Control p) put }) (sent_other head transferred ups 3 taken.number refl)
came head transferred ups s t puts fits (TurnedAway none put is) = by fits.endpoint refl
  where
    away : (n : ℕ) → head.ep ≡ n → eqb n 0 ≡ false → Came head transferred ups s t puts
    away n own other =
        CameElsewhere (record { queue = ap (λ (x : State). x.control) is; events = ap (λ (p : List Put). events_of Control p) put ∙ other_event Control head _ _ [] n own other })
        (sent_other head transferred ups n own other)

    by : (e : Endpoint) → fits.endpoint ≡ e → Came head transferred ups s t puts
    by Control h = absurd (none fits.endpoint (record { number = fits.number; way = fits.way; usable = ap (λ (d : Endpoint). is_halted d s) h }))
    by BulkOut h = away 1 (fits.number ∙ ap number_of h) refl
    by BulkIn h = away 2 (fits.number ∙ ap number_of h) refl
    by InterruptIn h = away 3 (fits.number ∙ ap number_of h) refl

-- ---- what a request finds, and what its answers leave

pub record AreClosed (position : Position) (one other : Choice) : Type 0 where
  pub form_closed : IsClosed position
  pub one_closed : IsClosed one.position
  pub other_closed : IsClosed other.position

pub record IsLetter (request : ClassRequest) (position : Position) (one other : Choice) : Type 0 where
  pub closed : AreClosed position one other
  pub no_status : (tag : ℕ) → ReadStatus tag ≡ request → ⊥
  pub answers : (submit : Pending) (s : State) (served : Served) → IsAt position s → Serves request submit s served
      → (served.behind ≡ []) × (length served.layout ≡ answer_length request) × Says one other served.layout served.state × (served.state.control ≡ s.control)
  pub pends : (s : State) (layout : List ℕ) → IsAt position s → StaysPending s.running request layout → (length layout ≡ answer_length request) × Says one other layout s

says_goes : (one other : Choice) (layout : List ℕ) (s t : State) (move : Move) (puts : List Put) (ups : List up.Message) → IsClosed one.position → IsClosed other.position → NoBulk (taken move ++ ups)
    → LeavesControl move → Leads s move puts t → Says one other layout s → Says one other layout t
says_goes one other layout s t move puts ups a b none leaves h (SaysOne is rest) = SaysOne is (rest_goes one.position s t move puts ups a none leaves h rest)
says_goes one other layout s t move puts ups a b none leaves h (SaysOther is rest) = SaysOther is (rest_goes other.position s t move puts ups b none leaves h rest)

says_is : (one other : Choice) (layout : List ℕ) (w t : State) → t ≡ w → Says one other layout w → Says one other layout t
says_is one other layout w t is says = subst (λ (x : State). Says one other layout x) (sym is) says

-- a move that does nothing at the control endpoint
stays : (head : SubmitHead) (position : Position) (one other : Choice) (coming later : List Sent) (downs puts : List Put) (ups : List up.Message) (s t : State) (move : Move)
    → AreClosed position one other → NoBulk (taken move ++ ups) → LeavesControl move → Leads s move puts t → Apart s t puts → coming ≡ later
    → RequestAt head position one other coming (events_of Control downs) s → RequestAt head position one other later (events_of Control (downs ++ puts)) t
stays head position one other coming later downs puts ups s t move letter none leaves h apart same (recovery.Comes come empty free rest) =
    recovery.Comes (sym same ∙ come) (events_same Control downs puts apart.events ∙ empty) (apart.queue ∙ free) (rest_goes position s t move puts ups letter.form_closed none leaves h rest)
stays head position one other coming later downs puts ups s t move letter none leaves h apart same (recovery.Pends come empty pends rest) =
    recovery.Pends (sym same ∙ come) (events_same Control downs puts apart.events ∙ empty) (apart.queue ∙ pends) (rest_goes position s t move puts ups letter.form_closed none leaves h rest)
stays head position one other coming later downs puts ups s t move letter none leaves h apart same (recovery.Answered layout come given free says) =
    recovery.Answered layout (sym same ∙ come) (events_same Control downs puts apart.events ∙ given) (apart.queue ∙ free)
    (says_goes one other layout s t move puts ups letter.one_closed letter.other_closed none leaves h says)

pub one_sent : (head : SubmitHead) (transferred : List ℕ) (x : SubmitHead) (ups : List Sent) → record { head = head; transferred = transferred } ∷ ups ≡ (record { head = x; transferred = [] }) ∷ []
    → (head ≡ x) × (transferred ≡ []) × (ups ≡ [])
one_sent head transferred x ups e =
    let first : record { head = head; transferred = transferred } ≡ (let y : Sent = record { head = x; transferred = [] } in y) = cc in
    (ap (λ (y : Sent). y.head) first, ap (λ (y : Sent). y.transferred) first, cc)

pub no_sent : {B : Type 0} (x : Sent) (more coming : List Sent) → coming ≡ x ∷ more → coming ≡ [] → B
no_sent x more coming some none = let e : x ∷ more ≡ [] = sym some ∙ none in absurd (cc)

arrives : (head : SubmitHead) (position : Position) (one other : Choice) (downs puts : List Put) (x : SubmitHead) (transferred : List ℕ) (ups : List up.Message) (s t : State)
    → AreClosed position one other → NoBulk (up.Submit x transferred ∷ ups) → Leads s (Comes (up.Submit x transferred)) puts t → Came x transferred ups s t puts
    → RequestAt head position one other (sent_to Control (up.Submit x transferred ∷ ups)) (events_of Control downs) s
    → RequestAt head position one other (sent_to Control ups) (events_of Control (downs ++ puts)) t
arrives head position one other downs puts x transferred ups s t letter none h (CameElsewhere apart same) at =
    stays head position one other _ _ downs puts ups s t (Comes (up.Submit x transferred)) letter none tt h apart same at
arrives head position one other downs puts x transferred ups s t letter none h (CameHere put is same) (recovery.Comes come empty free rest) =
    let e = one_sent x transferred head (sent_to Control ups) (sym same ∙ come) in
    recovery.Pends e.2 (events_same Control downs puts (ap (λ (p : List Put). events_of Control p) put) ∙ empty)
    (ap (λ (y : State). y.control) is ∙ ap (λ (q : List Pending). q ++ arrived x transferred ∷ []) free ∙ ap (λ (y : SubmitHead). arrived y transferred ∷ []) e.0 ∙ ap (λ (l : List ℕ). arrived head l ∷ []) e.1)
    (rest_goes position s t (Comes (up.Submit x transferred)) puts ups letter.form_closed none tt h rest)
arrives head position one other downs puts x transferred ups s t letter none h (CameHere put is same) (recovery.Pends come empty pends rest) = no_sent _ _ _ same come
arrives head position one other downs puts x transferred ups s t letter none h (CameHere put is same) (recovery.Answered layout come given free says) = no_sent _ _ _ same come

-- ---- it is answered

pub one_pending : (x y : Pending) (xs : List Pending) → x ∷ xs ≡ y ∷ [] → (x ≡ y) × (xs ≡ [])
one_pending x y xs e = (cc, cc)

pub answer_event : (head : SubmitHead) (request : ClassRequest) (setup : Setup) (layout : List ℕ) → OnlyClass head request → Asks (arrived head []) setup → length layout ≡ answer_length request
    → events_of Control (control_answer (arrived head []) setup layout ∷ []) ≡ Gives head (record { seqnum = head.seqnum; status = success; actual = length layout }) layout ∷ []
answer_event head request setup layout is asks long =
    rw (eq-eqb head.ep 0 is.number)
    (ap (λ (d : Dir). Gives head (record { seqnum = head.seqnum; status = success; actual = length (sent_back d most layout) }) (returned d (sent_back d most layout)) ∷ []) is.way
    ∙ ap (λ (l : List ℕ). Gives head (record { seqnum = head.seqnum; status = success; actual = length l }) l ∷ []) (take_all most layout (omega (arith, is.room setup asks, long))))
  where
    most : ℕ
    most = min setup.length head.length

-- the answer, and what it leaves
answered : (head : SubmitHead) (request : ClassRequest) (position : Position) (one other : Choice) (coming : List Sent) (downs puts : List Put) (setup : Setup) (layout : List ℕ) (t : State)
    → OnlyClass head request → Asks (arrived head []) setup → length layout ≡ answer_length request → puts ≡ control_answer (arrived head []) setup layout ∷ []
    → coming ≡ [] → events_of Control downs ≡ [] → t.control ≡ [] → Says one other layout t → RequestAt head position one other coming (events_of Control (downs ++ puts)) t
answered head request position one other coming downs puts setup layout t is asks long put come empty free says =
    recovery.Answered layout come
    (events-append Control downs puts ∙ ap (λ (l : List Event). l ++ events_of Control puts) empty ∙ ap (λ (p : List Put). events_of Control p) put ∙ answer_event head request setup layout is asks long)
    free says

at_rest : (position : Position) (s : State) → IsAt position s → IsAt position (record s { control = [] })
at_rest position s rest = record { bulk_out = rest.bulk_out; bulk_in = rest.bulk_in; running = rest.running; side = rest.side; out = rest.out; waits = rest.waits; shut = rest.shut }

answers : (head : SubmitHead) (request : ClassRequest) (position : Position) (one other : Choice) (coming : List Sent) (downs puts : List Put) (s t : State) → OnlyClass head request
    → IsLetter request position one other → class.Answers s puts t → coming ≡ [] → events_of Control downs ≡ [] → s.control ≡ arrived head [] ∷ [] → IsAt position s
    → RequestAt head position one other coming (events_of Control (downs ++ puts)) t
answers head request position one other coming downs puts s t is letter (class.ByClass submit behind setup found served line asks row serving put to) come empty pends rest =
    let e = one_pending submit (arrived head []) behind (sym line ∙ pends) in
    let ask : Asks (arrived head []) setup = subst (λ (x : Pending). Asks x setup) e.0 asks in
    let own : Serves request submit (record s { control = [] }) served =
    subst (λ (r : ClassRequest). Serves r submit (record s { control = [] }) served) (is.only setup found ask row)
    (subst (λ (q : List Pending). Serves found submit (record s { control = q }) served) e.1 serving) in
    let said = letter.answers submit (record s { control = [] }) served (at_rest position s rest) own in
    answered head request position one other coming downs puts setup served.layout t is ask said.1
    (put ∙ ap (λ (l : List Put). control_answer submit setup served.layout ∷ l) said.0 ∙ ap (λ (x : Pending). control_answer x setup served.layout ∷ []) e.0) come empty
    (ap (λ (x : State). x.control) to ∙ said.3) (says_is one other served.layout served.state t to said.2)
answers head request position one other coming downs puts s t is letter (class.ByStandard submit behind setup found line asks row put to) come empty pends rest =
    let e = one_pending submit (arrived head []) behind (sym line ∙ pends) in absurd (is.not_standard setup found (subst (λ (x : Pending). Asks x setup) e.0 asks) row)
answers head request position one other coming downs puts s t is letter (class.Unknown submit behind setup line asks unknown put to) come empty pends rest =
    let e = one_pending submit (arrived head []) behind (sym line ∙ pends) in absurd (is.known setup (subst (λ (x : Pending). Asks x setup) e.0 asks) unknown)

postpones : (head : SubmitHead) (request : ClassRequest) (position : Position) (one other : Choice) (coming : List Sent) (downs puts : List Put) (s t : State) → OnlyClass head request
    → IsLetter request position one other → class.Postpones s puts t → coming ≡ [] → events_of Control downs ≡ [] → s.control ≡ arrived head [] ∷ [] → IsAt position s
    → RequestAt head position one other coming (events_of Control (downs ++ puts)) t
postpones head request position one other coming downs puts s t is letter (class.DoesPostpone submit behind setup found layout line asks row pending put to) come empty pends rest =
    let e = one_pending submit (arrived head []) behind (sym line ∙ pends) in
    let ask : Asks (arrived head []) setup = subst (λ (x : Pending). Asks x setup) e.0 asks in
    let own : StaysPending s.running request layout = subst (λ (r : ClassRequest). StaysPending s.running r layout) (is.only setup found ask row) pending in
    let said = letter.pends (record s { control = [] }) layout (at_rest position s rest) own in
    answered head request position one other coming downs puts setup layout t is ask said.0 (put ∙ ap (λ (x : Pending). control_answer x setup layout ∷ []) e.0) come empty
    (ap (λ (x : State). x.control) to ∙ e.1) (says_is one other layout (record s { control = [] }) t (to ∙ ap (λ (q : List Pending). record s { control = q }) e.1) said.1)

no_poll : (head : SubmitHead) (request : ClassRequest) (s t : State) → OnlyClass head request → ((tag : ℕ) → ReadStatus tag ≡ request → ⊥) → class.PollsFirst s t → s.control ≡ arrived head [] ∷ [] → ⊥
no_poll head request s t is no_status (class.DoesPollFirst submit behind setup tag line asks row good fresh free polls) pends =
    let e = one_pending submit (arrived head []) behind (sym line ∙ pends) in
    no_status tag (is.only setup (ReadStatus tag) (subst (λ (x : Pending). Asks x setup) e.0 asks) row)

pub no_answer : (s t : State) (puts : List Put) → s.control ≡ [] → class.Answers s puts t → ⊥
no_answer s t puts none (class.ByClass submit behind setup request served line asks row serving put is) = none_first _ _ _ none line
no_answer s t puts none (class.ByStandard submit behind setup request line asks row put is) = none_first _ _ _ none line
no_answer s t puts none (class.Unknown submit behind setup line asks unknown put is) = none_first _ _ _ none line

pub no_pend : (s t : State) (puts : List Put) → s.control ≡ [] → class.Postpones s puts t → ⊥
no_pend s t puts none (class.DoesPostpone submit behind setup request layout line asks row stays put is) = none_first _ _ _ none line

pub no_first_poll : (s t : State) → s.control ≡ [] → class.PollsFirst s t → ⊥
no_first_poll s t none (class.DoesPollFirst submit behind setup tag line asks row good fresh free polls) = none_first _ _ _ none line

-- ---- all moves

pub request_goes : (head : SubmitHead) (request : ClassRequest) (position : Position) (one other : Choice) (downs puts : List Put) (ups : List up.Message) (s t : State) (move : Move)
    → OnlyClass head request → IsLetter request position one other → IsSound s → NoBulk (taken move ++ ups) → AllFitting (taken move ++ ups) → IsPlugged move → Leads s move puts t
    → RequestAt head position one other (sent_to Control (taken move ++ ups)) (events_of Control downs) s → RequestAt head position one other (sent_to Control ups) (events_of Control (downs ++ puts)) t
request_goes head request position one other downs puts ups s t (Comes (up.Submit x transferred)) is letter sound none fit plugged h at =
    arrives head position one other downs puts x transferred ups s t letter.closed none h (came x transferred ups s t puts fit.0 h.3) at
request_goes head request position one other downs puts ups s t (Comes (up.Unlink x)) is letter sound none fit plugged h at = let e : x ∷ unlinks_in ups ≡ [] = none.unlinks in absurd (cc)
request_goes head request position one other downs puts ups s t (Refuses devid bytes f) is letter sound none fit plugged h at =
    stays head position one other _ _ downs puts ups s t (Refuses devid bytes f) letter.closed none tt h
    (record { queue = ap (λ (x : State). x.control) h.2; events = ap (λ (p : List Put). events_of Control p) h.1 }) refl at
request_goes head request position one other downs puts ups s t (Take count) is letter sound none fit plugged h at = absurd (no_take s t count puts (rest_out at) h.1)
  where
    rest_out : RequestAt head position one other (sent_to Control ups) (events_of Control downs) s → s.bulk_out ≡ []
    rest_out (recovery.Comes come empty free rest) = rest.bulk_out
    rest_out (recovery.Pends come empty pends rest) = rest.bulk_out
    rest_out (recovery.Answered layout come given free (SaysOne a rest)) = rest.bulk_out
    rest_out (recovery.Answered layout come given free (SaysOther a rest)) = rest.bulk_out
request_goes head request position one other downs puts ups s t Exec is letter sound none fit plugged h at =
    stays head position one other _ _ downs puts ups s t Exec letter.closed none tt h (executes s t puts h.1 h.0) refl at
request_goes head request position one other downs puts ups s t (Begin count) is letter sound none fit plugged h at =
    stays head position one other _ _ downs puts ups s t (Begin count) letter.closed none tt h (begins s t count puts h.1 h.0) refl at
request_goes head request position one other downs puts ups s t (Fill count) is letter sound none fit plugged h at = absurd (no_fill s t count puts (rest_in at) h)
  where
    rest_in : RequestAt head position one other (sent_to Control ups) (events_of Control downs) s → s.bulk_in ≡ []
    rest_in (recovery.Comes come empty free rest) = rest.bulk_in
    rest_in (recovery.Pends come empty pends rest) = rest.bulk_in
    rest_in (recovery.Answered layout come given free (SaysOne a rest)) = rest.bulk_in
    rest_in (recovery.Answered layout come given free (SaysOther a rest)) = rest.bulk_in
request_goes head request position one other downs puts ups s t Answer is letter sound none fit plugged h (recovery.Comes come empty free rest) = absurd (no_answer s t puts free h)
request_goes head request position one other downs puts ups s t Answer is letter sound none fit plugged h (recovery.Pends come empty pends rest) =
    answers head request position one other (sent_to Control ups) downs puts s t is letter h come empty pends rest
request_goes head request position one other downs puts ups s t Answer is letter sound none fit plugged h (recovery.Answered layout come given free says) = absurd (no_answer s t puts free h)
request_goes head request position one other downs puts ups s t Pend is letter sound none fit plugged h (recovery.Comes come empty free rest) = absurd (no_pend s t puts free h)
request_goes head request position one other downs puts ups s t Pend is letter sound none fit plugged h (recovery.Pends come empty pends rest) =
    postpones head request position one other (sent_to Control ups) downs puts s t is letter h come empty pends rest
request_goes head request position one other downs puts ups s t Pend is letter sound none fit plugged h (recovery.Answered layout come given free says) = absurd (no_pend s t puts free h)
request_goes head request position one other downs puts ups s t Poll is letter sound none fit plugged h (recovery.Comes come empty free rest) = absurd (no_first_poll s t free h.0)
request_goes head request position one other downs puts ups s t Poll is letter sound none fit plugged h (recovery.Pends come empty pends rest) = absurd (no_poll head request s t is letter.no_status h.0 pends)
request_goes head request position one other downs puts ups s t Poll is letter sound none fit plugged h (recovery.Answered layout come given free says) = absurd (no_first_poll s t free h.0)
request_goes head request position one other downs puts ups s t Notify is letter sound none fit plugged h at =
    stays head position one other _ _ downs puts ups s t Notify letter.closed none tt h (notifies s t puts sound h) refl at
request_goes head request position one other downs puts ups s t (Halt e) is letter sound none fit plugged h at =
    stays head position one other _ _ downs puts ups s t (Halt e) letter.closed none tt h (halts_itself s t e puts sound h) refl at
request_goes head request position one other downs puts ups s t Unplug is letter sound none fit plugged h at = absurd plugged

-- ---- a halt is cleared

-- what CLEAR_FEATURE finds, and what it leaves
pub record IsClearing (e : Endpoint) (position : Position) (one other : Choice) : Type 0 where
  pub closed : AreClosed position one other
  pub clears : (s : State) → IsAt position s → Says one other [] (with_halt e false s)

none_back : (d : Dir) (most : ℕ) → sent_back d most [] ≡ []
none_back In most = omega_take most
  where
    omega_take : (n : ℕ) → take n (let l : List ℕ = [] in l) ≡ []
    omega_take n = take_all n [] (omega arith)
none_back Out most = refl

none_returned : (d : Dir) → returned d [] ≡ []
none_returned In = refl
none_returned Out = refl

clear_event : (head : SubmitHead) (setup : Setup) → head.ep ≡ 0
    → events_of Control (control_answer (arrived head []) setup [] ∷ []) ≡ Gives head (record { seqnum = head.seqnum; status = success; actual = 0 }) [] ∷ []
clear_event head setup is =
    rw (eq-eqb head.ep 0 is)
    (ap (λ (l : List ℕ). Gives head (record { seqnum = head.seqnum; status = success; actual = length l }) (returned head.dir l) ∷ []) (none_back head.dir (min setup.length head.length))
    ∙ ap (λ (l : List ℕ). Gives head (record { seqnum = head.seqnum; status = success; actual = 0 }) l ∷ []) (none_returned head.dir))

halt_control : (e : Endpoint) (s : State) → (with_halt e false s).control ≡ s.control
halt_control Control s = refl
halt_control BulkOut s = refl
halt_control BulkIn s = refl
halt_control InterruptIn s = refl

clear_answers : (head : SubmitHead) (e : Endpoint) (position : Position) (one other : Choice) (coming : List Sent) (downs puts : List Put) (s t : State) → OnlyClearHalt head e
    → IsClearing e position one other → class.Answers s puts t → coming ≡ [] → events_of Control downs ≡ [] → s.control ≡ arrived head [] ∷ [] → IsAt position s
    → RequestAt head position one other coming (events_of Control (downs ++ puts)) t
clear_answers head e position one other coming downs puts s t is letter (class.ByClass submit behind setup found served line asks row serving put to) come empty pends rest =
    let g = one_pending submit (arrived head []) behind (sym line ∙ pends) in absurd (is.not_class setup found (subst (λ (x : Pending). Asks x setup) g.0 asks) row)
clear_answers head e position one other coming downs puts s t is letter (class.Unknown submit behind setup line asks unknown put to) come empty pends rest =
    let g = one_pending submit (arrived head []) behind (sym line ∙ pends) in absurd (is.known setup (subst (λ (x : Pending). Asks x setup) g.0 asks) unknown)
clear_answers head e position one other coming downs puts s t is letter (class.ByStandard submit behind setup found line asks row put to) come empty pends rest =
    let g = one_pending submit (arrived head []) behind (sym line ∙ pends) in
    let own : found ≡ ClearHalt e = is.only setup found (subst (λ (x : Pending). Asks x setup) g.0 asks) row in
    let state : t ≡ with_halt e false (record s { control = [] }) =
    to ∙ ap (λ (r : Standard). standard_effect r (record s { control = behind })) own ∙ ap (λ (q : List Pending). with_halt e false (record s { control = q })) g.1 in
    recovery.Answered [] come
    (events-append Control downs puts ∙ ap (λ (l : List Event). l ++ events_of Control puts) empty ∙ ap (λ (p : List Put). events_of Control p) put
    ∙ ap (λ (r : Standard). events_of Control (control_answer submit setup (standard_layout r s) ∷ [])) own
    ∙ ap (λ (x : Pending). events_of Control (control_answer x setup [] ∷ [])) g.0 ∙ clear_event head setup is.number)
    (ap (λ (x : State). x.control) state ∙ halt_control e (record s { control = [] }))
    (says_is one other [] (with_halt e false (record s { control = [] })) t state (letter.clears (record s { control = [] }) (at_rest position s rest)))

pub no_row_pend : (head : SubmitHead) (e : Endpoint) (s t : State) (puts : List Put) → OnlyClearHalt head e → class.Postpones s puts t → s.control ≡ arrived head [] ∷ [] → ⊥
no_row_pend head e s t puts is (class.DoesPostpone submit behind setup found layout line asks row pending put to) pends =
    let g = one_pending submit (arrived head []) behind (sym line ∙ pends) in is.not_class setup found (subst (λ (x : Pending). Asks x setup) g.0 asks) row

no_row_poll : (head : SubmitHead) (e : Endpoint) (s t : State) → OnlyClearHalt head e → class.PollsFirst s t → s.control ≡ arrived head [] ∷ [] → ⊥
no_row_poll head e s t is (class.DoesPollFirst submit behind setup tag line asks row good fresh free polls) pends =
    let g = one_pending submit (arrived head []) behind (sym line ∙ pends) in is.not_class setup (ReadStatus tag) (subst (λ (x : Pending). Asks x setup) g.0 asks) row

pub rest_out : (head : SubmitHead) (position : Position) (one other : Choice) (coming : List Sent) (events : List Event) (s : State) → RequestAt head position one other coming events s → s.bulk_out ≡ []
rest_out head position one other coming events s (recovery.Comes come empty free rest) = rest.bulk_out
rest_out head position one other coming events s (recovery.Pends come empty pends rest) = rest.bulk_out
rest_out head position one other coming events s (recovery.Answered layout come given free (SaysOne a rest)) = rest.bulk_out
rest_out head position one other coming events s (recovery.Answered layout come given free (SaysOther a rest)) = rest.bulk_out

pub rest_in : (head : SubmitHead) (position : Position) (one other : Choice) (coming : List Sent) (events : List Event) (s : State) → RequestAt head position one other coming events s → s.bulk_in ≡ []
rest_in head position one other coming events s (recovery.Comes come empty free rest) = rest.bulk_in
rest_in head position one other coming events s (recovery.Pends come empty pends rest) = rest.bulk_in
rest_in head position one other coming events s (recovery.Answered layout come given free (SaysOne a rest)) = rest.bulk_in
rest_in head position one other coming events s (recovery.Answered layout come given free (SaysOther a rest)) = rest.bulk_in

pub clear_halt_goes : (head : SubmitHead) (e : Endpoint) (position : Position) (one other : Choice) (downs puts : List Put) (ups : List up.Message) (s t : State) (move : Move)
    → OnlyClearHalt head e → IsClearing e position one other → IsSound s → NoBulk (taken move ++ ups) → AllFitting (taken move ++ ups) → IsPlugged move → Leads s move puts t
    → RequestAt head position one other (sent_to Control (taken move ++ ups)) (events_of Control downs) s → RequestAt head position one other (sent_to Control ups) (events_of Control (downs ++ puts)) t
clear_halt_goes head e position one other downs puts ups s t (Comes (up.Submit x transferred)) is letter sound none fit plugged h at =
    arrives head position one other downs puts x transferred ups s t letter.closed none h (came x transferred ups s t puts fit.0 h.3) at
clear_halt_goes head e position one other downs puts ups s t (Comes (up.Unlink x)) is letter sound none fit plugged h at = let f : x ∷ unlinks_in ups ≡ [] = none.unlinks in absurd (cc)
clear_halt_goes head e position one other downs puts ups s t (Refuses devid bytes f) is letter sound none fit plugged h at =
    stays head position one other _ _ downs puts ups s t (Refuses devid bytes f) letter.closed none tt h
    (record { queue = ap (λ (x : State). x.control) h.2; events = ap (λ (p : List Put). events_of Control p) h.1 }) refl at
clear_halt_goes head e position one other downs puts ups s t (Take count) is letter sound none fit plugged h at = absurd (no_take s t count puts (rest_out head position one other _ _ s at) h.1)
clear_halt_goes head e position one other downs puts ups s t Exec is letter sound none fit plugged h at =
    stays head position one other _ _ downs puts ups s t Exec letter.closed none tt h (executes s t puts h.1 h.0) refl at
clear_halt_goes head e position one other downs puts ups s t (Begin count) is letter sound none fit plugged h at =
    stays head position one other _ _ downs puts ups s t (Begin count) letter.closed none tt h (begins s t count puts h.1 h.0) refl at
clear_halt_goes head e position one other downs puts ups s t (Fill count) is letter sound none fit plugged h at = absurd (no_fill s t count puts (rest_in head position one other _ _ s at) h)
clear_halt_goes head e position one other downs puts ups s t Answer is letter sound none fit plugged h (recovery.Comes come empty free rest) = absurd (no_answer s t puts free h)
clear_halt_goes head e position one other downs puts ups s t Answer is letter sound none fit plugged h (recovery.Pends come empty pends rest) =
    clear_answers head e position one other (sent_to Control ups) downs puts s t is letter h come empty pends rest
clear_halt_goes head e position one other downs puts ups s t Answer is letter sound none fit plugged h (recovery.Answered layout come given free says) = absurd (no_answer s t puts free h)
clear_halt_goes head e position one other downs puts ups s t Pend is letter sound none fit plugged h (recovery.Comes come empty free rest) = absurd (no_pend s t puts free h)
clear_halt_goes head e position one other downs puts ups s t Pend is letter sound none fit plugged h (recovery.Pends come empty pends rest) = absurd (no_row_pend head e s t puts is h pends)
clear_halt_goes head e position one other downs puts ups s t Pend is letter sound none fit plugged h (recovery.Answered layout come given free says) = absurd (no_pend s t puts free h)
clear_halt_goes head e position one other downs puts ups s t Poll is letter sound none fit plugged h (recovery.Comes come empty free rest) = absurd (no_first_poll s t free h.0)
clear_halt_goes head e position one other downs puts ups s t Poll is letter sound none fit plugged h (recovery.Pends come empty pends rest) = absurd (no_row_poll head e s t is h.0 pends)
clear_halt_goes head e position one other downs puts ups s t Poll is letter sound none fit plugged h (recovery.Answered layout come given free says) = absurd (no_first_poll s t free h.0)
clear_halt_goes head e position one other downs puts ups s t Notify is letter sound none fit plugged h at =
    stays head position one other _ _ downs puts ups s t Notify letter.closed none tt h (notifies s t puts sound h) refl at
clear_halt_goes head e position one other downs puts ups s t (Halt d) is letter sound none fit plugged h at =
    stays head position one other _ _ downs puts ups s t (Halt d) letter.closed none tt h (halts_itself s t d puts sound h) refl at
clear_halt_goes head e position one other downs puts ups s t Unplug is letter sound none fit plugged h at = absurd plugged

-- ---- between two requests

-- a position stays under each step while no request is there
pub quiet_goes : (position : Position) (s t : State) (move : Move) (puts : List Put) (ups : List up.Message) → IsClosed position → NoBulk (taken move ++ ups) → s.control ≡ [] → Leads s move puts t
    → IsAt position s → IsAt position t
quiet_goes position s t Answer puts ups closed none free h at = absurd (no_answer s t puts free h)
quiet_goes position s t Pend puts ups closed none free h at = absurd (no_pend s t puts free h)
quiet_goes position s t Poll puts ups closed none free h at = absurd (no_first_poll s t free h.0)
quiet_goes position s t (Comes message) puts ups closed none free h at = rest_goes position s t (Comes message) puts ups closed none tt h at
quiet_goes position s t (Refuses devid bytes f) puts ups closed none free h at = rest_goes position s t (Refuses devid bytes f) puts ups closed none tt h at
quiet_goes position s t (Take count) puts ups closed none free h at = rest_goes position s t (Take count) puts ups closed none tt h at
quiet_goes position s t Exec puts ups closed none free h at = rest_goes position s t Exec puts ups closed none tt h at
quiet_goes position s t (Begin count) puts ups closed none free h at = rest_goes position s t (Begin count) puts ups closed none tt h at
quiet_goes position s t (Fill count) puts ups closed none free h at = rest_goes position s t (Fill count) puts ups closed none tt h at
quiet_goes position s t Notify puts ups closed none free h at = rest_goes position s t Notify puts ups closed none tt h at
quiet_goes position s t (Halt e) puts ups closed none free h at = rest_goes position s t (Halt e) puts ups closed none tt h at
quiet_goes position s t Unplug puts ups closed none free h at = rest_goes position s t Unplug puts ups closed none tt h at
