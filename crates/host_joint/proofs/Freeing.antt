-- an endpoint whose halt a host ended stays usable where it does not halt by itself
use Rattle.std.proofs.Common.{◌≡◌, ◌≢◌, ◌∙◌, ◌⊎◌, inl, inr, ℕ, Bool, true, false, Some, None, Option, List, [], ◌∷◌, ◌++◌, refl, ap, sym, subst, append_assoc, append-nil}
use Rattle.usbip_wire.specs.declared.submit.SubmitHead.{SubmitHead}
use Rattle.usbip_wire.specs.declared.unlink.UnlinkHead.{UnlinkHead}
use Rattle.usbip_wire.specs.Up as up
use Rattle.usb_setup.specs.declared.setup.Setup.{Setup}
use Rattle.tmc_wire.specs.declared.class_request.ClassRequest.{ClassRequest}
use Rattle.tmc_wire.specs.declared.class_request.ClassRequest.TheVariants.{AbortOut, CheckOut, AbortIn, CheckIn, Clear, CheckClear}
use Rattle.tmc_wire.specs.ControlTable.{IsRow}
use Rattle.tmc_law.specs.Endpoint.{Endpoint, Control, BulkOut, BulkIn, InterruptIn, ends}
use Rattle.tmc_law.specs.State.{State, Pending, arrived, start, is_halted, with_halt}
use Rattle.tmc_law.specs.Put.{Put}
use Rattle.tmc_law.specs.Class as class
use Rattle.tmc_law.specs.Control.{Asks}
use Rattle.tmc_law.specs.Standard.{Standard, ClearHalt, standard_effect}
use Rattle.tmc_law.specs.HaltCauses.{IsClassFirst}
use Rattle.tmc_law.specs.Step.{Move, Comes, Refuses, Take, Exec, Begin, Fill, Answer, Pend, Poll, Notify, Halt, Unplug, Leads, Steps}
use Rattle.tmc_law.specs.Run.{Entry, Runs, taken, inputs, outputs}
use Rattle.host_joint.specs.Lines.{Sent, sent_to, Event, events_of, unlinks_in, Lines, AllFitting}
use Rattle.host_joint.specs.Unlinking.{IsBulk}
use Rattle.host_joint.specs.Positions.{Position, rests, cleared}
use Rattle.host_joint.specs.Requests as recovery
use Rattle.host_joint.specs.Requests.{Choice, NoBulk, RequestAt, IsClass, never, usable_again, usable_cleared}
use Rattle.host_joint.specs.Tie.{asked_of}
use Rattle.host_joint.specs.Bond.{Situation, Reading, Saying, Read, Stands, Requests, Drains, Bound, Letter, AbortsIn, ChecksIn, AbortsOut, AbortsFirst, ChecksOut, BeginsClear, ChecksClear, Frees, FreesBehind, IsOf, position_of, finds, one_of, other_of}
use Rattle.host_joint.specs.Reasons.{HaltsFor, ItHalts, ItAborts, ItClears, IsBound, Spares, HaltsOut, MayHalt, IsFreeing, IsUsable, BoundUsable}
use Rattle.host_joint.proofs.Queues.{IsSound}
use Rattle.host_joint.proofs.Resting.{none_first, no_take, no_fill}
use Rattle.host_joint.proofs.Requesting.{Meaning, only_class, only_clear_halt, OnlyClearHalt, Came, CameHere, CameElsewhere, came, executes, begins, notifies, halts_itself, events_same, one_pending, no_answer, no_pend, no_row_pend, rest_out, rest_in}
use Rattle.host_joint.proofs.Bonding.{empty_at, control_only}
use Rattle.host_joint.proofs.Writing.{other_asked}
use Rattle.host_joint.proofs.Recovering.{of_control}
use Rattle.host_joint.proofs.Reasoning.{HaltLaws, newly, bound_step}

-- what it asks of the laws besides
pub record FreeLaws : Type 0 where
  pub halts : HaltLaws
  pub meaning : Meaning
  pub sound : (run : List Entry) (s : State) → Runs start run s → IsSound s

-- ---- the request that ends a halt

freed_halt : (e : Endpoint) (s : State) → IsBulk e → is_halted e (with_halt e false s) ≡ false
freed_halt Control s bulk = absurd bulk
freed_halt BulkOut s bulk = refl
freed_halt BulkIn s bulk = refl
freed_halt InterruptIn s bulk = absurd bulk

frees : (head : SubmitHead) (e : Endpoint) (s t : State) (puts : List Put) → OnlyClearHalt head e → IsBulk e → class.Answers s puts t → s.control ≡ arrived head [] ∷ [] → is_halted e t ≡ false
frees head e s t puts is bulk (class.ByClass submit behind setup found served line asks row serving put to) pends =
    let g = one_pending submit (arrived head []) behind (sym line ∙ pends) in absurd (is.not_class setup found (subst (λ (x : Pending). Asks x setup) g.0 asks) row)
frees head e s t puts is bulk (class.Unknown submit behind setup line asks unknown put to) pends =
    let g = one_pending submit (arrived head []) behind (sym line ∙ pends) in absurd (is.known setup (subst (λ (x : Pending). Asks x setup) g.0 asks) unknown)
frees head e s t puts is bulk (class.ByStandard submit behind setup found line asks row put to) pends =
    let g = one_pending submit (arrived head []) behind (sym line ∙ pends) in
    let own : found ≡ ClearHalt e = is.only setup found (subst (λ (x : Pending). Asks x setup) g.0 asks) row in
    ap (λ (x : State). is_halted e x) (to ∙ ap (λ (r : Standard). standard_effect r (record s { control = behind })) own) ∙ freed_halt e (record s { control = behind }) bulk

-- a step answers nothing at the control endpoint, or the halt is over
freeing_goes : (head : SubmitHead) (e : Endpoint) (position : Position) (one other : Choice) (downs puts : List Put) (ups : List up.Message) (s t : State) (move : Move)
    → OnlyClearHalt head e → IsBulk e → IsSound s → NoBulk (taken move ++ ups) → AllFitting (taken move ++ ups) → move ≢ Unplug → Leads s move puts t → events_of Control downs ≡ []
    → RequestAt head position one other (sent_to Control (taken move ++ ups)) (events_of Control downs) s → (events_of Control puts ≡ []) ⊎ (is_halted e t ≡ false)
freeing_goes head e position one other downs puts ups s t (Comes (up.Submit x transferred)) is bulk sound none fit plugged h empty at = by (came x transferred ups s t puts fit.0 h.3)
  where
    by : Came x transferred ups s t puts → (events_of Control puts ≡ []) ⊎ (is_halted e t ≡ false)
    by (CameHere put to sent) = inl (ap (λ (p : List Put). events_of Control p) put)
    by (CameElsewhere apart sent) = inl apart.events
freeing_goes head e position one other downs puts ups s t (Comes (up.Unlink x)) is bulk sound none fit plugged h empty at = let f : x ∷ unlinks_in ups ≡ [] = none.unlinks in absurd (cc)
freeing_goes head e position one other downs puts ups s t (Refuses devid bytes f) is bulk sound none fit plugged h empty at = inl (ap (λ (p : List Put). events_of Control p) h.1)
freeing_goes head e position one other downs puts ups s t (Take count) is bulk sound none fit plugged h empty at = absurd (no_take s t count puts (rest_out head position one other _ _ s at) h.1)
freeing_goes head e position one other downs puts ups s t Exec is bulk sound none fit plugged h empty at = inl (executes s t puts h.1 h.0).events
freeing_goes head e position one other downs puts ups s t (Begin count) is bulk sound none fit plugged h empty at = inl (begins s t count puts h.1 h.0).events
freeing_goes head e position one other downs puts ups s t (Fill count) is bulk sound none fit plugged h empty at = absurd (no_fill s t count puts (rest_in head position one other _ _ s at) h)
freeing_goes head e position one other downs puts ups s t Answer is bulk sound none fit plugged h empty (recovery.Comes come nothing free rest) = absurd (no_answer s t puts free h)
freeing_goes head e position one other downs puts ups s t Answer is bulk sound none fit plugged h empty (recovery.Pends come nothing pends rest) = inr (frees head e s t puts is bulk h pends)
freeing_goes head e position one other downs puts ups s t Answer is bulk sound none fit plugged h empty (recovery.Answered layout come given free says) = absurd (no_answer s t puts free h)
freeing_goes head e position one other downs puts ups s t Pend is bulk sound none fit plugged h empty (recovery.Comes come nothing free rest) = absurd (no_pend s t puts free h)
freeing_goes head e position one other downs puts ups s t Pend is bulk sound none fit plugged h empty (recovery.Pends come nothing pends rest) = absurd (no_row_pend head e s t puts is h pends)
freeing_goes head e position one other downs puts ups s t Pend is bulk sound none fit plugged h empty (recovery.Answered layout come given free says) = absurd (no_pend s t puts free h)
freeing_goes head e position one other downs puts ups s t Poll is bulk sound none fit plugged h empty at = inl (ap (λ (p : List Put). events_of Control p) h.1)
freeing_goes head e position one other downs puts ups s t Notify is bulk sound none fit plugged h empty at = inl (notifies s t puts sound h).events
freeing_goes head e position one other downs puts ups s t (Halt d) is bulk sound none fit plugged h empty at = inl (halts_itself s t d puts sound h).events
freeing_goes head e position one other downs puts ups s t Unplug is bulk sound none fit plugged h empty at = absurd (plugged refl)

-- ---- a request that does not halt Bulk-OUT

-- it is none of these, which do not
record IsShutting (request : ClassRequest) : Type 0 where
  pub abort_in : (tag : ℕ) → request ≢ AbortIn tag
  pub check_in : request ≢ CheckIn
  pub check_out : request ≢ CheckOut
  pub check_clear : request ≢ CheckClear

aborts : (tag : ℕ) → IsShutting (AbortOut tag)
aborts tag = record { abort_in = λ n e. cc; check_in = λ e. cc; check_out = λ e. cc; check_clear = λ e. cc }

clears : IsShutting Clear
clears = record { abort_in = λ n e. cc; check_in = λ e. cc; check_out = λ e. cc; check_clear = λ e. cc }

mild : (meaning : Meaning) (letter : Letter) (head : SubmitHead) (request : ClassRequest) (setup : Setup) → IsOf head letter → (HaltsOut letter → ⊥) → IsShutting request → Asks (arrived head []) setup → IsRow ends request setup → ⊥
mild meaning (AbortsIn tag) head request setup is may shuts asks row = shuts.abort_in tag ((only_class meaning head (AbortIn tag) is).only setup request asks row)
mild meaning ChecksIn head request setup is may shuts asks row = shuts.check_in ((only_class meaning head CheckIn is).only setup request asks row)
mild meaning (AbortsOut tag) head request setup is may shuts asks row = may tt
mild meaning (AbortsFirst tag) head request setup is may shuts asks row = may tt
mild meaning ChecksOut head request setup is may shuts asks row = shuts.check_out ((only_class meaning head CheckOut is).only setup request asks row)
mild meaning BeginsClear head request setup is may shuts asks row = may tt
mild meaning ChecksClear head request setup is may shuts asks row = shuts.check_clear ((only_class meaning head CheckClear is).only setup request asks row)
mild meaning (Frees e) head request setup is may shuts asks row = (only_clear_halt meaning head e is).not_class setup request asks row
mild meaning (FreesBehind e) head request setup is may shuts asks row = (only_clear_halt meaning head e is).not_class setup request asks row

first_is : (meaning : Meaning) (letter : Letter) (head : SubmitHead) (request : ClassRequest) (coming : List Sent) (events : List Event) (s : State) → IsOf head letter → (HaltsOut letter → ⊥) → IsShutting request → IsClassFirst s request
    → RequestAt head (position_of (finds letter)) (one_of letter) (other_of letter) coming events s → ⊥
first_is meaning letter head request coming events s is may shuts first (recovery.Comes come nothing free rest) = none_first first.submit first.behind s.control free first.first
first_is meaning letter head request coming events s is may shuts first (recovery.Answered layout come given free says) = none_first first.submit first.behind s.control free first.first
first_is meaning letter head request coming events s is may shuts first (recovery.Pends come nothing pends rest) =
    let g = one_pending first.submit (arrived head []) first.behind (sym first.first ∙ pends) in
    mild meaning letter head request first.setup is may shuts (subst (λ (x : Pending). Asks x first.setup) g.0 first.asks) first.row

-- ---- each situation

-- no request is pending, and the endpoint does not halt by itself
spared : {B : Type 0} (s : State) (e : Endpoint) (move : Move) → s.control ≡ [] → move ≢ Halt e → HaltsFor s e move → B
spared s e move none apart (ItHalts is) = absurd (apart is)
spared s e move none apart (ItAborts tag is at class) = none_first class.submit class.behind s.control none class.first
spared s e move none apart (ItClears is at class) = none_first class.submit class.behind s.control none class.first

stays_off : (e : Endpoint) (s t : State) (move : Move) → is_halted e s ≡ false → (is_halted e s ≡ false → is_halted e t ≡ true → HaltsFor s e move) → (HaltsFor s e move → ⊥) → is_halted e t ≡ false
stays_off e s t move off newly_halted never_so = by (is_halted e t) refl
  where
    by : (b : Bool) → is_halted e t ≡ b → is_halted e t ≡ false
    by false is = is
    by true on = absurd (never_so (newly_halted off on))

none_control : (waits : Option SubmitHead) (unlinks : List UnlinkHead) (ups : List up.Message) (downs : List Put) (s : State) → asked_of waits Control ≡ [] → unlinks ≡ [] → Lines (asked_of waits) unlinks ups downs s → s.control ≡ []
none_control waits unlinks ups downs s none free lines =
    (empty_at (asked_of waits) ups downs s Control (subst (λ (l : List UnlinkHead). Lines (asked_of waits) l ups downs s) free lines) none).queue

usable_step : (laws : FreeLaws) (situation : Situation) (waits : Option SubmitHead) (unlinks : List UnlinkHead) (next : ℕ) (ups : List up.Message) (downs puts : List Put) (s t : State) (move : Move) (e : Endpoint) → IsBulk e
    → Steps s move puts t → move ≢ Unplug → move ≢ Halt e → (MayHalt situation e → ⊥) → Bound situation waits unlinks next (taken move ++ ups) downs s → IsUsable e situation downs s → IsUsable e situation (downs ++ puts) t
usable_step laws (Reading last message tag size sofar read took) waits unlinks next ups downs puts s t move e bulk step plugged apart mild_so bound off =
    stays_off e s t move off (newly laws.halts s t move puts ups downs e (IsBound _ waits unlinks next bound) step bulk) (λ h. spared s e move bound.bond.held.asking.calm.control apart h)
usable_step laws (Saying tag first ended took) waits unlinks next ups downs puts s t move e bulk step plugged apart mild_so bound off =
    stays_off e s t move off (newly laws.halts s t move puts ups downs e (IsBound _ waits unlinks next bound) step bulk) (λ h. spared s e move bound.bond.held.asking.calm.control apart h)
usable_step laws (Read last message sofar) waits unlinks next ups downs puts s t move e bulk step plugged apart mild_so bound off =
    stays_off e s t move off (newly laws.halts s t move puts ups downs e (IsBound _ waits unlinks next bound) step bulk) (λ h. spared s e move bound.bond.held.asking.calm.control apart h)
usable_step laws (Stands place) waits unlinks next ups downs puts s t move e bulk step plugged apart mild_so bound off =
    stays_off e s t move off (newly laws.halts s t move puts ups downs e (IsBound _ waits unlinks next bound) step bulk)
    (λ h. spared s e move (none_control waits unlinks (taken move ++ ups) downs s (ap (λ (w : Option SubmitHead). asked_of w Control) bound.awaited.0) bound.awaited.1 bound.bond.lines) apart h)
usable_step laws (Drains head) waits unlinks next ups downs puts s t move e bulk step plugged apart mild_so bound off =
    stays_off e s t move off (newly laws.halts s t move puts ups downs e (IsBound _ waits unlinks next bound) step bulk)
    (λ h. spared s e move (none_control waits unlinks (taken move ++ ups) downs s
    (ap (λ (w : Option SubmitHead). asked_of w Control) bound.awaited.0 ∙ other_asked BulkIn Control head bound.awaited.2.number (λ same. cc)) bound.awaited.1 bound.bond.lines) apart h)
usable_step laws (Requests head letter) waits unlinks next ups downs puts s t move e bulk step plugged apart mild_so bound (inr off) =
    inr (stays_off e s t move off (newly laws.halts s t move puts ups downs e (IsBound _ waits unlinks next bound) step bulk) never_so)
  where
    never_so : HaltsFor s e move → ⊥
    never_so (ItHalts is) = apart is
    never_so (ItAborts tag is at class) = first_is laws.meaning letter head (AbortOut tag) _ _ s bound.awaited.2 (λ shuts. mild_so (at, shuts)) (aborts tag) class bound.bond.held
    never_so (ItClears is at class) = first_is laws.meaning letter head Clear _ _ s bound.awaited.2 (λ shuts. mild_so (at, shuts)) clears class bound.bond.held
usable_step laws (Requests head letter) waits unlinks next ups downs puts s t move e bulk step plugged apart mild_so bound (inl h) = by letter bound.awaited.2 h.0 bound.bond.held
  where
    none : NoBulk (taken move ++ ups)
    none = control_only head (taken move ++ ups) downs s (of_control head letter bound.awaited.2)
        (subst (λ (w : Option SubmitHead). Lines (asked_of w) [] (taken move ++ ups) downs s) bound.awaited.0
        (subst (λ (l : List UnlinkHead). Lines (asked_of waits) l (taken move ++ ups) downs s) bound.awaited.1 bound.bond.lines))

    over : (x : Letter) → IsFreeing x e → (events_of Control puts ≡ []) ⊎ (is_halted e t ≡ false) → (IsFreeing x e × (events_of Control (downs ++ puts) ≡ [])) ⊎ (is_halted e t ≡ false)
    over x freeing (inl nothing) = inl (freeing, events_same Control downs puts nothing ∙ h.1)
    over x freeing (inr off) = inr off

    by : (x : Letter) → IsOf head x → IsFreeing x e → RequestAt head (position_of (finds x)) (one_of x) (other_of x) (sent_to Control (taken move ++ ups)) (events_of Control downs) s
        → (IsFreeing x e × (events_of Control (downs ++ puts) ≡ [])) ⊎ (is_halted e t ≡ false)
    by (AbortsIn tag) is freeing at = absurd freeing
    by ChecksIn is freeing at = absurd freeing
    by (AbortsOut tag) is freeing at = absurd freeing
    by (AbortsFirst tag) is freeing at = absurd freeing
    by ChecksOut is freeing at = absurd freeing
    by BeginsClear is freeing at = absurd freeing
    by ChecksClear is freeing at = absurd freeing
    by (Frees d) is freeing at =
        over (Frees d) freeing (freeing_goes head e rests usable_again never downs puts ups s t move (subst (λ (x : Endpoint). OnlyClearHalt head x) freeing (only_clear_halt laws.meaning head d is)) bulk
        (laws.sound bound.bond.run s bound.bond.reached) none bound.bond.fitting plugged step.leads h.1 at)
    by (FreesBehind d) is freeing at =
        over (FreesBehind d) freeing (freeing_goes head e cleared usable_cleared never downs puts ups s t move (subst (λ (x : Endpoint). OnlyClearHalt head x) freeing (only_clear_halt laws.meaning head d is)) bulk
        (laws.sound bound.bond.run s bound.bond.reached) none bound.bond.fitting plugged step.leads h.1 at)

-- ---- each run

pub usable_run : (laws : FreeLaws) (which : Endpoint → Bool) (situation : Situation) (run : List Entry) (waits : Option SubmitHead) (unlinks : List UnlinkHead) (next : ℕ) (ups : List up.Message) (downs : List Put) (s t : State)
    → Runs s run t → Spares which run → ((endpoint : Endpoint) → which endpoint ≡ true → MayHalt situation endpoint → ⊥)
    → BoundUsable which situation waits unlinks next (inputs run ++ ups) downs s → BoundUsable which situation waits unlinks next ups (downs ++ outputs run) t
usable_run laws which situation [] waits unlinks next ups downs s t goes spares mild_so b =
    subst (λ (x : State). BoundUsable which situation waits unlinks next ups (downs ++ []) x) (sym goes) (subst (λ (l : List Put). BoundUsable which situation waits unlinks next ups l s) (sym (append-nil downs)) b)
usable_run laws which situation (entry ∷ run) waits unlinks next ups downs s t goes spares mild_so b =
    let same : ((taken entry.move ++ inputs run) ++ ups) ≡ (taken entry.move ++ (inputs run ++ ups)) = append_assoc (taken entry.move) (inputs run) ups in
    let here : Bound situation waits unlinks next (taken entry.move ++ (inputs run ++ ups)) downs s = subst (λ (l : List up.Message). Bound situation waits unlinks next l downs s) same b.bound in
    let go : BoundUsable which situation waits unlinks next (inputs run ++ ups) (downs ++ entry.puts) goes.0 = record {
      bound = bound_step laws.halts situation waits unlinks next (inputs run ++ ups) downs entry.puts s goes.0 entry.move goes.1 spares.0 here;
      usable = λ e bulk known. usable_step laws situation waits unlinks next (inputs run ++ ups) downs entry.puts s goes.0 entry.move e bulk goes.1 spares.0 (spares.1 e known) (mild_so e known) here (b.usable e bulk known);
    } in
    subst (λ (l : List Put). BoundUsable which situation waits unlinks next ups l t) (append_assoc downs entry.puts (outputs run))
    (usable_run laws which situation run waits unlinks next ups (downs ++ entry.puts) goes.0 t goes.2 spares.2 mild_so go)

pub spares-append : (which : Endpoint → Bool) (a b : List Entry) → Spares which a → Spares which b → Spares which (a ++ b)
spares-append which [] b h k = k
spares-append which (x ∷ a) b h k = (h.0, h.1, spares-append which a b h.2 k)

pub spares_front : (which : Endpoint → Bool) (a b : List Entry) → Spares which (a ++ b) → Spares which a
spares_front which [] b h = tt
spares_front which (x ∷ a) b h = (h.0, h.1, spares_front which a b h.2)

-- ---- the host

pub usable_written : (which later : Endpoint → Bool) (letter : Letter) (head : SubmitHead) (n : ℕ) (next : ℕ) (ups others : List up.Message) (downs : List Put) (s : State)
    → Bound (Requests head letter) (Some head) [] n others downs s → ((endpoint : Endpoint) → later endpoint ≡ true → (which endpoint ≡ true) ⊎ IsFreeing letter endpoint)
    → BoundUsable which (Stands (finds letter)) None [] next ups downs s → BoundUsable later (Requests head letter) (Some head) [] n others downs s
usable_written which later letter head n next ups others downs s written known b = record { bound = written; usable = λ e bulk is. by e bulk (known e is) }
  where
    by : (e : Endpoint) → IsBulk e → (which e ≡ true) ⊎ IsFreeing letter e → IsUsable e (Requests head letter) downs s
    by e bulk (inl is) = inr (b.usable e bulk is)
    by e bulk (inr freeing) = inl (freeing, (empty_at (asked_of None) ups downs s Control b.bound.bond.lines refl).events)
