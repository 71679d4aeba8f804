-- a bond stays under each step of a device that is not unplugged, and under each run
use Rattle.std.proofs.Common.{◌≡◌, ◌≢◌, ◌⊎◌, inl, inr, ℕ, Bool, List, [], ◌∷◌, ◌++◌, Some, None, refl, sym, subst, append_assoc, append-nil}
use Rattle.usbip_wire.specs.declared.submit.SubmitHead.{SubmitHead}
use Rattle.usbip_wire.specs.declared.unlink.UnlinkHead.{UnlinkHead}
use Rattle.usbip_wire.specs.Up as up
use Rattle.tmc_wire.specs.declared.class_request.ClassRequest.{ClassRequest}
use Rattle.tmc_law.specs.Endpoint.{Endpoint, Control, BulkOut, BulkIn}
use Rattle.tmc_law.specs.State.{State, Pending, start, queue_of}
use Rattle.tmc_law.specs.Put.{Put}
use Rattle.tmc_law.specs.AnswerFits.{AllAnswers, IsAnswer, ToPending, ToArriving, ToUnlink, FitsAsked}
use Rattle.tmc_law.specs.Reached.{AllFit}
use Rattle.tmc_law.specs.Step.{Move, Unplug, Steps}
use Rattle.tmc_law.specs.Run.{Entry, Runs, taken, inputs, outputs}
use Rattle.host_joint.specs.Lines.{Lines, EmptyLine, unlinks_in, unlinked_by, sent_to, events_of, AllFitting, InOrder}
use Rattle.host_joint.specs.Unlinking.{Unlinking}
use Rattle.host_joint.specs.Reads.{IsRead}
use Rattle.host_joint.specs.Asking.{Ask, Asking, StaysPlugged}
use Rattle.host_joint.specs.Positions.{Position, IsAt, IsClosed}
use Rattle.host_joint.specs.Requests.{Choice, IsClass, IsClearHalt, NoBulk, IsPlugged, RequestAt, RequestStays, ClearHaltStays}
use Rattle.host_joint.specs.Drains.{DrainAt, OnlyRead}
use Rattle.host_joint.specs.Tie.{asked_of}
use Rattle.host_joint.specs.Bond.{IsFit, Bond, WasReading, WasRead}
use Rattle.host_joint.proofs.Flows.{lines_step, fitting_behind, order_behind, all_answered}
use Rattle.host_joint.proofs.Running.{AskLaws, asking_step, safe_move, cancelled_step}
use Rattle.host_joint.proofs.Requesting.{quiet_goes}
use Rattle.host_joint.proofs.Tying.{TieLaws, none_unlinked, unlinks_taken, stands_at, arriving_fits}
use Rattle.host_joint.proofs.Writing.{other_asked}

-- what holds of the messages on their way and of the state is kept by each step, whatever else is known of it
abbrev pub Keeps : (List up.Message → List Put → State → Type 0) → (Endpoint → List SubmitHead) → List UnlinkHead → Type 0
Keeps Holds asked unlinks =
    (run : List Entry) (s t : State) (move : Move) (ups : List up.Message) (downs puts : List Put) → Runs start run s → Steps s move puts t → move ≢ Unplug
    → AllFitting (taken move ++ ups) → InOrder (taken move ++ ups) → Lines asked unlinks (taken move ++ ups) downs s → Holds (taken move ++ ups) downs s → Holds ups (downs ++ puts) t

fit_of : (s t : State) (move : Move) (ups : List up.Message) (put : Put) → ((e : Endpoint) → AllFit e (queue_of e s)) → AllFitting (taken move ++ ups) → IsAnswer s move t put → FitsAsked put → IsFit put
fit_of s t move ups put stand fit (ToPending e before submit behind status moved line is within by stall packet) fits =
    let at = stands_at e before submit behind (subst (λ (q : List Pending). AllFit e q) line (stand e)) in
    subst (λ (p : Put). IsFit p) (sym is) (record { endpoint = e; number = at.number; way = at.way }, subst (λ (p : Put). FitsAsked p) is fits)
fit_of s t move ups put stand fit (ToArriving head transferred comes is) fits =
    subst (λ (p : Put). IsFit p) (sym is) (arriving_fits head transferred move ups comes fit, subst (λ (p : Put). FitsAsked p) is fits)
fit_of s t move ups put stand fit (ToUnlink head status comes is what) fits = subst (λ (p : Put). IsFit p) (sym is) (subst (λ (p : Put). FitsAsked p) is fits)

all_fit : (s t : State) (move : Move) (ups : List up.Message) (puts : List Put) → ((e : Endpoint) → AllFit e (queue_of e s)) → AllFitting (taken move ++ ups)
    → AllAnswers (IsAnswer s move t) puts → AllAnswers FitsAsked puts → AllAnswers IsFit puts
all_fit s t move ups [] stand fit are fits = tt
all_fit s t move ups (put ∷ puts) stand fit are fits = (fit_of s t move ups put stand fit are.0 fits.0, all_fit s t move ups puts stand fit are.1 fits.1)

fit-append : (a b : List Put) → AllAnswers IsFit a → AllAnswers IsFit b → AllAnswers IsFit (a ++ b)
fit-append [] b h k = k
fit-append (x ∷ a) b h k = (h.0, fit-append a b h.1 k)

pub fits_step : (laws : TieLaws) (run : List Entry) (s t : State) (move : Move) (ups : List up.Message) (downs puts : List Put) → Runs start run s → Steps s move puts t → AllFitting (taken move ++ ups)
    → AllAnswers IsFit downs → AllAnswers IsFit (downs ++ puts)
fits_step laws run s t move ups downs puts reached step fitting fits =
    fit-append downs puts fits (all_fit s t move ups puts (λ e. laws.ask.reaches.fits run s e reached) fitting (laws.answers run s t move puts reached step) (laws.fit run s t move puts reached step))

bond_step : (laws : TieLaws) (Holds : List up.Message → List Put → State → Type 0) (asked : Endpoint → List SubmitHead) (unlinks : List UnlinkHead) → Keeps Holds asked unlinks
    → (next : ℕ) (ups : List up.Message) (downs puts : List Put) (s t : State) (move : Move) → Steps s move puts t → move ≢ Unplug
    → Bond Holds asked unlinks next (taken move ++ ups) downs s → Bond Holds asked unlinks next ups (downs ++ puts) t
bond_step laws Holds asked unlinks keeps next ups downs puts s t move step plugged bond = record {
  run = bond.run ++ record { move = move; puts = puts } ∷ [];
  reached = laws.ask.reaches.joins bond.run (record { move = move; puts = puts } ∷ []) start s t bond.reached (t, step, refl);
  lines = lines_step laws.ask.reaches bond.run asked unlinks s t move puts ups downs bond.reached step bond.fitting bond.order bond.lines;
  fitting = fitting_behind (taken move) ups bond.fitting;
  order = order_behind (taken move) ups bond.order;
  fits = fits_step laws bond.run s t move ups downs puts bond.reached step bond.fitting bond.fits;
  rises = laws.rises s t move puts ups step bond.rises;
  below = laws.below next s t move puts ups step bond.below;
  held = keeps bond.run s t move ups downs puts bond.reached step plugged bond.fitting bond.order bond.lines bond.held;
}

pub bond_run : (laws : TieLaws) (Holds : List up.Message → List Put → State → Type 0) (asked : Endpoint → List SubmitHead) (unlinks : List UnlinkHead) → Keeps Holds asked unlinks
    → (run : List Entry) (next : ℕ) (ups : List up.Message) (downs : List Put) (s t : State) → Runs s run t → StaysPlugged run
    → Bond Holds asked unlinks next (inputs run ++ ups) downs s → Bond Holds asked unlinks next ups (downs ++ outputs run) t
bond_run laws Holds asked unlinks keeps [] next ups downs s t goes plugged bond =
    subst (λ (x : State). Bond Holds asked unlinks next ups (downs ++ []) x) (sym goes) (subst (λ (l : List Put). Bond Holds asked unlinks next ups l s) (sym (append-nil downs)) bond)
bond_run laws Holds asked unlinks keeps (entry ∷ run) next ups downs s t goes plugged bond =
    let same : ((taken entry.move ++ inputs run) ++ ups) ≡ (taken entry.move ++ (inputs run ++ ups)) = append_assoc (taken entry.move) (inputs run) ups in
    let go = bond_step laws Holds asked unlinks keeps next (inputs run ++ ups) downs entry.puts s goes.0 entry.move goes.1 plugged.0
    (subst (λ (l : List up.Message). Bond Holds asked unlinks next l downs s) same bond) in
    subst (λ (l : List Put). Bond Holds asked unlinks next ups l t) (append_assoc downs entry.puts (outputs run))
    (bond_run laws Holds asked unlinks keeps run next ups (downs ++ entry.puts) goes.0 t goes.2 plugged.1 go)

-- ---- what is kept

pub none_linked : (asked : Endpoint → List SubmitHead) (ups : List up.Message) (downs : List Put) (s : State) → Lines asked [] ups downs s → unlinks_in ups ≡ []
none_linked asked ups downs s lines = (none_unlinked (unlinked_by downs) (unlinks_in ups) lines.unlinked).1

-- an ask that is cancelled, or may be
pub cancelled_goes : (laws : AskLaws) (run : List Entry) (asked : Endpoint → List SubmitHead) (unlinks : List UnlinkHead) (ask : Ask) (s t : State) (move : Move) (ups : List up.Message) (downs puts : List Put)
    → Runs start run s → Steps s move puts t → AllFitting (taken move ++ ups) → InOrder (taken move ++ ups) → move ≢ Unplug → Unlinking asked unlinks ⊎ (unlinks ≡ []) → Lines asked unlinks (taken move ++ ups) downs s
    → Asking ask (taken move ++ ups) downs s → Asking ask ups (downs ++ puts) t
cancelled_goes laws run asked unlinks ask s t move ups downs puts reached step fit order plugged (inl unlinking) lines asking =
    (cancelled_step laws run asked unlinks ask s t move ups downs puts reached step fit order plugged (record { lines = lines; order = unlinking; asking = asking })).asking
cancelled_goes laws run asked unlinks ask s t move ups downs puts reached step fit order plugged (inr none) lines asking =
    let free = none_linked asked (taken move ++ ups) downs s (subst (λ (l : List UnlinkHead). Lines asked l (taken move ++ ups) downs s) none lines) in
    asking_step laws run ask s t move ups downs puts reached step fit (safe_move move ups s plugged (unlinks_taken move ups free)) asking

pub reading_keeps : (laws : AskLaws) (last : ℕ) (message : List ℕ) (tag size : ℕ) (sofar read : List ℕ) (taken_it : Bool) (asked : Endpoint → List SubmitHead) (unlinks : List UnlinkHead) → Unlinking asked unlinks ⊎ (unlinks ≡ [])
    → Keeps (WasReading last message tag size sofar read taken_it) asked unlinks
reading_keeps laws last message tag size sofar read taken_it asked unlinks unlinking run s t move ups downs puts reached step plugged fit order lines h = record {
  front = h.front;
  request = h.request;
  answered = h.answered;
  asking = cancelled_goes laws run asked unlinks _ s t move ups downs puts reached step fit order plugged unlinking lines h.asking;
  counted = h.counted;
  behind = h.behind;
  header = h.header;
  tagged = h.tagged;
  sized = h.sized;
  long = h.long;
}

pub read_keeps : (laws : AskLaws) (last : ℕ) (message sofar : List ℕ) (asked : Endpoint → List SubmitHead) (unlinks : List UnlinkHead) → Unlinking asked unlinks ⊎ (unlinks ≡ []) → Keeps (WasRead last message sofar) asked unlinks
read_keeps laws last message sofar asked unlinks unlinking run s t move ups downs puts reached step plugged fit order lines h = record {
  tag = h.tag;
  size = h.size;
  asking = cancelled_goes laws run asked unlinks _ s t move ups downs puts reached step fit order plugged unlinking lines h.asking;
  some = h.some;
}

pub empty_at : (asked : Endpoint → List SubmitHead) (ups : List up.Message) (downs : List Put) (s : State) (e : Endpoint) → Lines asked [] ups downs s → asked e ≡ [] → EmptyLine e ups downs s
empty_at asked ups downs s e lines none = all_answered asked e ups downs s lines none

pub stands_keeps : (position : Position) → IsClosed position → Keeps (λ ups downs s. IsAt position s) (asked_of None) []
stands_keeps position closed run s t move ups downs puts reached step plugged fit order lines at =
    quiet_goes position s t move puts ups closed
    (record { outs = (empty_at (asked_of None) (taken move ++ ups) downs s BulkOut lines refl).sent; ins = (empty_at (asked_of None) (taken move ++ ups) downs s BulkIn lines refl).sent; unlinks = none_linked (asked_of None) (taken move ++ ups) downs s lines })
    (empty_at (asked_of None) (taken move ++ ups) downs s Control lines refl).queue step.leads at

pub plugged_of : (move : Move) → move ≢ Unplug → IsPlugged move
plugged_of Unplug h = h refl
plugged_of _ h = tt

pub control_only : (head : SubmitHead) (ups : List up.Message) (downs : List Put) (s : State) → head.ep ≡ 0 → Lines (asked_of (Some head)) [] ups downs s → NoBulk ups
control_only head ups downs s own lines = record {
  outs = (empty_at (asked_of (Some head)) ups downs s BulkOut lines (other_asked Control BulkOut head own (λ e. cc))).sent;
  ins = (empty_at (asked_of (Some head)) ups downs s BulkIn lines (other_asked Control BulkIn head own (λ e. cc))).sent;
  unlinks = none_linked (asked_of (Some head)) ups downs s lines;
}

pub class_keeps : (request : ClassRequest) (position : Position) (one other : Choice) (head : SubmitHead) → RequestStays request position one other → IsClass head request
    → Keeps (λ ups downs s. RequestAt head position one other (sent_to Control ups) (events_of Control downs) s) (asked_of (Some head)) []
class_keeps request position one other head stays is run s t move ups downs puts reached step plugged fit order lines at =
    stays run head ups downs puts s t move reached is (control_only head (taken move ++ ups) downs s is.number lines) fit (plugged_of move plugged) step at

pub clear_halt_keeps : (e : Endpoint) (position : Position) (one other : Choice) (head : SubmitHead) → ClearHaltStays e position one other → IsClearHalt head e
    → Keeps (λ ups downs s. RequestAt head position one other (sent_to Control ups) (events_of Control downs) s) (asked_of (Some head)) []
clear_halt_keeps e position one other head stays is run s t move ups downs puts reached step plugged fit order lines at =
    stays run head ups downs puts s t move reached is (control_only head (taken move ++ ups) downs s is.number lines) fit (plugged_of move plugged) step at

abbrev pub DrainLaw : Type 0
DrainLaw =
    (run : List Entry) (head : SubmitHead) (ups : List up.Message) (downs puts : List Put) (s t : State) (move : Move)
    → Runs start run s → IsRead head → OnlyRead (taken move ++ ups) → AllFitting (taken move ++ ups) → s.control ≡ [] → IsPlugged move
    → Steps s move puts t → DrainAt head (sent_to BulkIn (taken move ++ ups)) (events_of BulkIn downs) s
    → DrainAt head (sent_to BulkIn ups) (events_of BulkIn (downs ++ puts)) t

pub drain_keeps : DrainLaw → (head : SubmitHead) → IsRead head → Keeps (λ ups downs s. DrainAt head (sent_to BulkIn ups) (events_of BulkIn downs) s) (asked_of (Some head)) []
drain_keeps stays head is run s t move ups downs puts reached step plugged fit order lines at =
    stays run head ups downs puts s t move reached is (record {
      controls = (empty_at (asked_of (Some head)) (taken move ++ ups) downs s Control lines (other_asked BulkIn Control head is.number (λ e. cc))).sent;
      outs = (empty_at (asked_of (Some head)) (taken move ++ ups) downs s BulkOut lines (other_asked BulkIn BulkOut head is.number (λ e. cc))).sent;
      unlinks = none_linked (asked_of (Some head)) (taken move ++ ups) downs s lines;
    }) fit (empty_at (asked_of (Some head)) (taken move ++ ups) downs s Control lines (other_asked BulkIn Control head is.number (λ e. cc))).queue (plugged_of move plugged) step at
