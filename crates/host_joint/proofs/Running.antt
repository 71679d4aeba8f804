-- an ask under whole runs
use Rattle.std.proofs.Common.{◌≡◌, ◌≢◌, ◌∙◌, List, [], ◌∷◌, ◌++◌, true, refl, sym, subst, append_assoc, append-nil}
use Rattle.usbip_wire.specs.declared.submit.SubmitHead.{SubmitHead}
use Rattle.usbip_wire.specs.declared.unlink.UnlinkHead.{UnlinkHead}
use Rattle.usbip_wire.specs.Up as up
use Rattle.instr_plain.specs.Log.{Stands}
use Rattle.tmc_law.specs.Endpoint.{Endpoint, Control}
use Rattle.tmc_law.specs.State.{State, Pending, queue_of, start}
use Rattle.tmc_law.specs.Put.{Put}
use Rattle.tmc_law.specs.Step.{Move, Comes, Unplug, Steps}
use Rattle.tmc_law.specs.Run.{Entry, Runs, taken, inputs, outputs}
use Rattle.host_joint.specs.Lines.{Lines, unlinks_in, AllFitting, InOrder}
use Rattle.host_joint.specs.Unlinking.{Unlinking}
use Rattle.host_joint.specs.Asking.{Ask, Asking, IsSafe, StaysPlugged, Cancelled}
use Rattle.host_joint.proofs.Queues.{IsSound}
use Rattle.host_joint.proofs.Flows.{Reaches, lines_step, unlinks-append, fitting_behind, order_behind}
use Rattle.host_joint.proofs.Taking.{OneHeader}
use Rattle.host_joint.proofs.Falling.{hits_last}
use Rattle.host_joint.proofs.Asking.{asking_goes}

-- what an ask asks of the laws
pub record AskLaws : Type 0 where
  pub reaches : Reaches
  pub polled : (run : List Entry) (s : State) (e : Endpoint) (before : List Pending) (submit : Pending) (behind : List Pending) → Runs start run s
      → queue_of e s ≡ before ++ submit ∷ behind → submit.polled ≡ true → (e ≡ Control) × (before ≡ [])
  pub stands : (run : List Entry) (s : State) → Runs start run s → Stands s.log s.standing
  pub one_header : OneHeader

pub sound : (laws : AskLaws) (run : List Entry) (s : State) → Runs start run s → IsSound s
sound laws run s reached = record {
  fits = λ e. laws.reaches.fits run s e reached;
  polled = λ e before submit behind line polled. laws.polled run s e before submit behind reached line polled;
}

pub asking_step : (laws : AskLaws) (run : List Entry) (ask : Ask) (s t : State) (move : Move) (ups : List up.Message) (downs puts : List Put)
    → Runs start run s → Steps s move puts t → AllFitting (taken move ++ ups) → IsSafe move ups s → Asking ask (taken move ++ ups) downs s → Asking ask ups (downs ++ puts) t
asking_step laws run ask s t move ups downs puts reached step fit safe asking =
    asking_goes laws.one_header ask.last ask.message ask.tag ask.size ask.written ask.answered ask.sofar ask.read ask.gone ups downs puts s t move
    (sound laws run s reached) (laws.stands run s reached) fit safe step.leads asking

-- a move without an unlink
pub safe_move : (move : Move) (ups : List up.Message) (s : State) → move ≢ Unplug → unlinks_in (taken move) ≡ [] → IsSafe move ups s
safe_move (Comes (up.Submit head transferred)) ups s plugged none = tt
safe_move (Comes (up.Unlink head)) ups s plugged none = absurd (cc)
safe_move Unplug ups s plugged none = plugged refl
safe_move _ ups s plugged none = tt

none_front : (a b : List UnlinkHead) → a ++ b ≡ [] → (a ≡ []) × (b ≡ [])
none_front [] b e = (refl, e)
none_front (x ∷ a) b e = absurd (cc)

pub asking_run : (laws : AskLaws) (before run : List Entry) (ask : Ask) (s t : State) (ups : List up.Message) (downs : List Put)
    → Runs start before s → Runs s run t → AllFitting (inputs run ++ ups) → unlinks_in (inputs run) ≡ [] → StaysPlugged run
    → Asking ask (inputs run ++ ups) downs s → Asking ask ups (downs ++ outputs run) t
asking_run laws before [] ask s t ups downs reached h fit none plugged asking =
    subst (λ (x : State). Asking ask ups (downs ++ []) x) (sym h) (subst (λ (l : List Put). Asking ask ups l s) (sym (append-nil downs)) asking)
asking_run laws before (entry ∷ run) ask s t ups downs reached h fit none plugged asking =
    let same : ((taken entry.move ++ inputs run) ++ ups) ≡ (taken entry.move ++ (inputs run ++ ups)) = append_assoc (taken entry.move) (inputs run) ups in
    let fitting : AllFitting (taken entry.move ++ (inputs run ++ ups)) = subst (λ (l : List up.Message). AllFitting l) same fit in
    let both = none_front (unlinks_in (taken entry.move)) (unlinks_in (inputs run)) (sym (unlinks-append (taken entry.move) (inputs run)) ∙ none) in
    let go = asking_step laws before ask s h.0 entry.move (inputs run ++ ups) downs entry.puts reached h.1 fitting (safe_move entry.move (inputs run ++ ups) s plugged.0 both.0)
    (subst (λ (l : List up.Message). Asking ask l downs s) same asking) in
    subst (λ (l : List Put). Asking ask ups l t) (append_assoc downs entry.puts (outputs run))
    (asking_run laws (before ++ entry ∷ []) run ask h.0 t ups (downs ++ entry.puts) (laws.reaches.joins before (entry ∷ []) start s h.0 reached (h.0, h.1, refl)) h.2
    (fitting_behind (taken entry.move) (inputs run ++ ups) fitting) both.1 plugged.1 go)

-- ---- a cancelled ask

safe : (asked : Endpoint → List SubmitHead) (unlinks : List UnlinkHead) (ups : List up.Message) (downs : List Put) (s : State) (move : Move) → move ≢ Unplug → Unlinking asked unlinks
    → Lines asked unlinks (taken move ++ ups) downs s → IsSafe move ups s
safe asked unlinks ups downs s (Comes (up.Submit head transferred)) plugged order lines = tt
safe asked unlinks ups downs s (Comes (up.Unlink head)) plugged order lines = hits_last asked unlinks head ups downs s order lines
safe asked unlinks ups downs s Unplug plugged order lines = plugged refl
safe asked unlinks ups downs s _ plugged order lines = tt

pub cancelled_step : (laws : AskLaws) (run : List Entry) (asked : Endpoint → List SubmitHead) (unlinks : List UnlinkHead) (ask : Ask) (s t : State) (move : Move) (ups : List up.Message) (downs puts : List Put)
    → Runs start run s → Steps s move puts t → AllFitting (taken move ++ ups) → InOrder (taken move ++ ups) → move ≢ Unplug
    → Cancelled asked unlinks ask (taken move ++ ups) downs s → Cancelled asked unlinks ask ups (downs ++ puts) t
cancelled_step laws run asked unlinks ask s t move ups downs puts reached step fit inorder plugged h = record {
  lines = lines_step laws.reaches run asked unlinks s t move puts ups downs reached step fit inorder h.lines;
  order = h.order;
  asking = asking_step laws run ask s t move ups downs puts reached step fit (safe asked unlinks ups downs s move plugged h.order h.lines) h.asking;
}

pub cancelled_run : (laws : AskLaws) (before run : List Entry) (asked : Endpoint → List SubmitHead) (unlinks : List UnlinkHead) (ask : Ask) (s t : State) (ups : List up.Message) (downs : List Put)
    → Runs start before s → Runs s run t → AllFitting (inputs run ++ ups) → InOrder (inputs run ++ ups) → StaysPlugged run
    → Cancelled asked unlinks ask (inputs run ++ ups) downs s → Cancelled asked unlinks ask ups (downs ++ outputs run) t
cancelled_run laws before [] asked unlinks ask s t ups downs reached h fit inorder plugged asking =
    subst (λ (x : State). Cancelled asked unlinks ask ups (downs ++ []) x) (sym h) (subst (λ (l : List Put). Cancelled asked unlinks ask ups l s) (sym (append-nil downs)) asking)
cancelled_run laws before (entry ∷ run) asked unlinks ask s t ups downs reached h fit inorder plugged asking =
    let same : ((taken entry.move ++ inputs run) ++ ups) ≡ (taken entry.move ++ (inputs run ++ ups)) = append_assoc (taken entry.move) (inputs run) ups in
    let fitting : AllFitting (taken entry.move ++ (inputs run ++ ups)) = subst (λ (l : List up.Message). AllFitting l) same fit in
    let ordered : InOrder (taken entry.move ++ (inputs run ++ ups)) = subst (λ (l : List up.Message). InOrder l) same inorder in
    let go = cancelled_step laws before asked unlinks ask s h.0 entry.move (inputs run ++ ups) downs entry.puts reached h.1 fitting ordered plugged.0
    (subst (λ (l : List up.Message). Cancelled asked unlinks ask l downs s) same asking) in
    subst (λ (l : List Put). Cancelled asked unlinks ask ups l t) (append_assoc downs entry.puts (outputs run))
    (cancelled_run laws (before ++ entry ∷ []) run asked unlinks ask h.0 t ups (downs ++ entry.puts) (laws.reaches.joins before (entry ∷ []) start s h.0 reached (h.0, h.1, refl)) h.2
    (fitting_behind (taken entry.move) (inputs run ++ ups) fitting) (order_behind (taken entry.move) (inputs run ++ ups) ordered) plugged.1 go)
