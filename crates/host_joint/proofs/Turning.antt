-- the answers of an ask come in turn
use Rattle.std.proofs.Common.{◌≡◌, ◌≢◌, ◌∙◌, ◌⊎◌, inl, inr, ℕ, ◌+◌, ◌*◌, Bool, true, false, cond, eqb, Option, Some, List, [], ◌∷◌, ◌++◌, length, map, refl, ap, sym, subst, append_assoc, append-nil, arith}
use Rattle.std.proofs.lemmas.Bool.{eq-eqb, eqb-true}
use Rattle.usbip_wire.specs.declared.submit.SubmitHead.{SubmitHead}
use Rattle.usbip_wire.specs.declared.unlink.UnlinkHead.{UnlinkHead}
use Rattle.usbip_wire.specs.declared.ret_submit.RetSubmitHead.{RetSubmitHead}
use Rattle.usbip_wire.specs.Up as up
use Rattle.tmc_wire.specs.declared.header.OutHeader.{OutHeader}
use Rattle.tmc_wire.specs.declared.header.OutHeader.TheVariants.{Request}
use Rattle.tmc_law.specs.Endpoint.{Endpoint, Control, BulkOut, BulkIn, InterruptIn, number_of, packet_size}
use Rattle.tmc_law.specs.State.{State, Pending, Transfer, start, queue_of}
use Rattle.tmc_law.specs.Put.{Put, Submitted, Unlinked, answer_of, success, stalled, unplugged}
use Rattle.tmc_law.specs.Halts as halts
use Rattle.tmc_law.specs.Halts.{all_ended, unplug_answers, halt_answers, DoesHalt}
use Rattle.tmc_law.specs.Queues as queues
use Rattle.tmc_law.specs.BulkOut as out
use Rattle.tmc_law.specs.BulkIn as ins
use Rattle.tmc_law.specs.Status as status
use Rattle.tmc_law.specs.Class as class
use Rattle.tmc_law.specs.AnswerFits.{AllAnswers, IsAnswer, ToPending, ToArriving, ToUnlink}
use Rattle.tmc_law.specs.Reached.{AllFit}
use Rattle.tmc_law.specs.Step.{Move, Comes, Refuses, Take, Exec, Begin, Fill, Answer, Pend, Poll, Notify, Halt, Unplug, Steps}
use Rattle.tmc_law.specs.Run.{Entry, Runs, taken, inputs, outputs}
use Rattle.host_joint.specs.Lines.{Event, Gives, events_of, sent_to, unlinks_in}
use Rattle.host_joint.specs.Jobs.{Job, OutLine, Unbegun, Partly, Cut, Shut, last_header}
use Rattle.host_joint.specs.Reads as reads
use Rattle.host_joint.specs.Reads.{Flow, Still, Giving, Over, Torn, InLine, IsHalted, gives}
use Rattle.host_joint.specs.Stage.{Stage, Follows, Gathers, Waits, Rests, Owes, Sends, Sent, Tears, Barred, Dropped}
use Rattle.host_joint.specs.Asking.{Ask, Asking, AllTaken, StaysPlugged}
use Rattle.host_joint.specs.Turns.{NoneTaken, InTurn, IsPart, AreParts}
use Rattle.host_joint.proofs.Flows.{unlinks-append}
use Rattle.host_joint.proofs.Hosting.{own_event, other_event}
use Rattle.host_joint.proofs.Tying.{stands_at}

-- ---- lists of answers

-- none of these has bytes of a piece
abbrev NoPiece : List Put → Type 0
NoPiece [] = Unit {0}
NoPiece (Submitted head answer transferred ∷ downs) = (head.ep ≡ 2 → answer.status ≢ success) × NoPiece downs
NoPiece (Unlinked asked answer ∷ downs) = NoPiece downs

taken-append : (a b : List Put) → NoneTaken a → NoneTaken b → NoneTaken (a ++ b)
taken-append [] b h k = k
taken-append (Submitted head answer transferred ∷ a) b h k = (h.0, taken-append a b h.1 k)
taken-append (Unlinked asked answer ∷ a) b h k = taken-append a b h k

turn-append : (a b : List Put) → InTurn a → InTurn b → NoPiece a ⊎ NoneTaken b → InTurn (a ++ b)
turn-append [] b h k either = k
turn-append (Submitted head answer transferred ∷ a) b h k (inl none) = ((λ own good. absurd (none.0 own good)), turn-append a b h.1 k (inl none.1))
turn-append (Submitted head answer transferred ∷ a) b h k (inr none) = ((λ own good. taken-append a b (h.0 own good) none), turn-append a b h.1 k (inr none))
turn-append (Unlinked asked answer ∷ a) b h k (inl none) = turn-append a b h k (inl none)
turn-append (Unlinked asked answer ∷ a) b h k (inr none) = turn-append a b h k (inr none)

-- these answers have no status 0
abbrev NoSuccess : List Put → Type 0
NoSuccess [] = Unit {0}
NoSuccess (Submitted head answer transferred ∷ downs) = (answer.status ≢ success) × NoSuccess downs
NoSuccess (Unlinked asked answer ∷ downs) = NoSuccess downs

no_success : (puts : List Put) → NoSuccess puts → InTurn puts
no_success [] h = tt
no_success (Submitted head answer transferred ∷ puts) h = ((λ own good. absurd (h.0 good)), no_success puts h.1)
no_success (Unlinked asked answer ∷ puts) h = no_success puts h

fails : (code : _) → code ≢ success → (queue : List Pending) → NoSuccess (all_ended code queue)
fails code bad [] = tt
fails code bad (x ∷ queue) = (bad, others queue)
  where
    others : (l : List Pending) → NoSuccess (map (λ (submit : Pending). answer_of submit.head code []) l)
    others [] = tt
    others (y ∷ l) = (bad, others l)

fails-append : (a b : List Put) → NoSuccess a → NoSuccess b → NoSuccess (a ++ b)
fails-append [] b h k = k
fails-append (Submitted head answer transferred ∷ a) b h k = (h.0, fails-append a b h.1 k)
fails-append (Unlinked asked answer ∷ a) b h k = fails-append a b h k

stalled_bad : stalled ≢ success
stalled_bad e = cc

unplugged_bad : unplugged ≢ success
unplugged_bad e = cc

stalls : (puts : List Put) (queue : List Pending) → puts ≡ all_ended stalled queue → InTurn puts
stalls puts queue is = subst (λ (l : List Put). InTurn l) (sym is) (no_success (all_ended stalled queue) (fails stalled stalled_bad queue))

single : (puts : List Put) (p : Put) → puts ≡ p ∷ [] → InTurn puts
single puts p is = subst (λ (l : List Put). InTurn l) (sym is) (one p)
  where
    one : (x : Put) → InTurn (x ∷ [])
    one (Submitted head answer transferred) = ((λ own good. tt), tt)
    one (Unlinked asked answer) = tt

nothing : (puts : List Put) → puts ≡ [] → InTurn puts
nothing puts is = subst (λ (l : List Put). InTurn l) (sym is) tt

-- ---- the answers of one step

no_control : {B : Type 0} (submit : Pending) (behind queue : List Pending) → queue ≡ [] → queue ≡ submit ∷ behind → B
no_control submit behind queue none some = let e : [] ≡ submit ∷ behind = sym none ∙ some in absurd (cc)

arrives : (s : State) (head : SubmitHead) (transferred : List ℕ) (puts : List Put) (t : State) → queues.Arrives s head transferred puts t → InTurn puts
arrives s head transferred puts t (queues.Queued e takes is to) = nothing puts is
arrives s head transferred puts t (queues.TurnedAway none is to) = single puts (answer_of head stalled []) is

unlinks : (s : State) (head : UnlinkHead) (puts : List Put) (t : State) → s.control ≡ [] → ((e : Endpoint) (before : List Pending) (submit : Pending) (behind : List Pending) → queue_of e s ≡ before ++ submit ∷ behind → submit.polled ≡ true → e ≡ Control)
    → queues.Unlinks s head puts t → InTurn puts
unlinks s head puts t none polls (queues.Hits e before submit behind line number unpolled is to) = single puts _ is
unlinks s head puts t none polls (queues.Misses free is to) = single puts _ is
unlinks s head puts t none polls (queues.Polled e before submit behind setup tag line number polled asks row is to) =
    by before (subst (λ (d : Endpoint). queue_of d s ≡ before ++ submit ∷ behind) (polls e before submit behind line polled) line)
  where
    by : (l : List Pending) → s.control ≡ l ++ submit ∷ behind → InTurn puts
    by [] at = no_control submit behind s.control none at
    by (x ∷ l) at = no_control x (l ++ submit ∷ behind) s.control none at

takes : (s : State) (count : ℕ) (puts : List Put) (t : State) → out.Takes s count puts t → InTurn puts
takes s count puts t (out.Empty submit behind line none one is to) = single puts _ is
takes s count puts t (out.Spoiled submit behind line some low high spoils is to) = stalls puts s.bulk_out is
takes s count puts t (out.Inside submit later behind transfer grown line some low fine belongs moves left is to) = nothing puts is
takes s count puts t (out.SubmitEnds submit later behind transfer grown line some counted fine belongs moves wants is to) = single puts _ is
takes s count puts t (out.TransferEnds submit later behind transfer grown line some counted fine belongs moves wants effect is) = single puts _ is

fills : (s : State) (count : ℕ) (puts : List Put) (t : State) → ins.Fills s count puts t → InTurn puts
fills s count puts t (ins.Ends submit behind given line runs one is to) = single puts _ is
fills s count puts t (ins.Inside submit behind piece line sends wanted some fits space is to) = nothing puts is
fills s count puts t (ins.Full submit behind piece line sends wanted some fits all is to) = single puts _ is
fills s count puts t (ins.Short submit behind piece full line sends wanted counted space fits small room is to) = single puts _ is
fills s count puts t (ins.Overflows submit behind piece full line sends wanted counted space fits over is to) = stalls puts (ins.filled (full * packet_size) piece submit ∷ behind) is

notifies : (s : State) (puts : List Put) (t : State) → status.Notifies s puts t → InTurn puts
notifies s puts t (status.Gives submit behind packet packets line first room is to) = single puts _ is
notifies s puts t (status.NoRoom submit behind packet packets line first small is to) = stalls puts s.interrupt_in is

answers : (s : State) (puts : List Put) (t : State) → s.control ≡ [] → class.Answers s puts t → InTurn puts
answers s puts t none (class.ByClass submit behind setup request served line asks row serves is to) = no_control submit behind s.control none line
answers s puts t none (class.ByStandard submit behind setup request line asks row is to) = no_control submit behind s.control none line
answers s puts t none (class.Unknown submit behind setup line asks unknown is to) = no_control submit behind s.control none line

postpones : (s : State) (puts : List Put) (t : State) → s.control ≡ [] → class.Postpones s puts t → InTurn puts
postpones s puts t none (class.DoesPostpone submit behind setup request layout line asks row stays is to) = no_control submit behind s.control none line

halts_itself : (s : State) (e : Endpoint) (puts : List Put) (t : State) → halts.HaltsItself s e puts t → InTurn puts
halts_itself s e puts t (DoesHalt free usable is to) = stalls puts (queue_of e s) is

step_turns : (s t : State) (move : Move) (puts : List Put) → s.control ≡ [] → ((e : Endpoint) (before : List Pending) (submit : Pending) (behind : List Pending) → queue_of e s ≡ before ++ submit ∷ behind → submit.polled ≡ true → e ≡ Control)
    → Steps s move puts t → InTurn puts
step_turns s t (Comes (up.Submit head transferred)) puts none polls step = arrives s head transferred puts t step.leads.3
step_turns s t (Comes (up.Unlink head)) puts none polls step = unlinks s head puts t none polls step.leads.1
step_turns s t (Refuses devid bytes f) puts none polls step = nothing puts step.leads.1
step_turns s t (Take count) puts none polls step = takes s count puts t step.leads.1
step_turns s t Exec puts none polls step = nothing puts step.leads.1
step_turns s t (Begin count) puts none polls step = nothing puts step.leads.1
step_turns s t (Fill count) puts none polls step = fills s count puts t step.leads
step_turns s t Answer puts none polls step = answers s puts t none step.leads
step_turns s t Pend puts none polls step = postpones s puts t none step.leads
step_turns s t Poll puts none polls step = nothing puts step.leads.1
step_turns s t Notify puts none polls step = notifies s puts t step.leads
step_turns s t (Halt e) puts none polls step = halts_itself s e puts t step.leads
step_turns s t Unplug puts none polls step =
    subst (λ (l : List Put). InTurn l) (sym step.leads.answered)
    (no_success (unplug_answers s)
    (fails-append (all_ended unplugged s.control) _ (fails unplugged unplugged_bad s.control)
    (fails-append (all_ended unplugged s.bulk_out) _ (fails unplugged unplugged_bad s.bulk_out)
    (fails-append (all_ended unplugged s.bulk_in) _ (fails unplugged unplugged_bad s.bulk_in) (fails unplugged unplugged_bad s.interrupt_in)))))

-- ---- while a piece is given, no transfer is to be taken

-- where it has not begun, the answers to reads tell of a halt
still_halted : (shut gone : Bool) (flow : Flow) (read : List ℕ) (events : List Event) (coming : List _) (queue : List Pending) → flow ≡ Still → InLine shut gone flow read events coming queue → IsHalted events
still_halted shut gone flow read events coming queue still (reads.Unread heads unshut is none come line are) = subst (λ (l : List Event). IsHalted l) (sym come) tt
still_halted shut gone flow read events coming queue still (reads.Between bytes full heads unshut giving are whole come line rs) = let e : Still ≡ Giving bytes = sym still ∙ giving in absurd (cc)
still_halted shut gone flow read events coming queue still (reads.Inside bytes moved packets full first heads unshut giving are whole come counted space line rs) = let e : Still ≡ Giving bytes = sym still ∙ giving in absurd (cc)
still_halted shut gone flow read events coming queue still (reads.Behind bytes full short heads unshut over are small whole come line rs) = let e : Still ≡ Over bytes = sym still ∙ over in absurd (cc)
still_halted shut gone flow read events coming queue still (reads.Lost bytes lost full was unshut giving are whole come none line) = let e : Still ≡ Giving bytes = sym still ∙ giving in absurd (cc)
still_halted shut gone flow read events coming queue still (reads.Closed front rest shuts come (reads.NoneOf is none empty) halted line) =
    subst (λ (l : List Event). IsHalted l) (sym (come ∙ ap (λ (l : List Event). l ++ rest) empty)) halted
still_halted shut gone flow read events coming queue still (reads.Closed front rest shuts come (reads.Front bytes lost full (reads.Gave gave) are whole is) halted line) = let e : Still ≡ Giving bytes = sym still ∙ gave in absurd (cc)
still_halted shut gone flow read events coming queue still (reads.Closed front rest shuts come (reads.Front bytes lost full (reads.Tore tore) are whole is) halted line) = let e : Still ≡ Torn bytes = sym still ∙ tore in absurd (cc)
still_halted shut gone flow read events coming queue still (reads.Closed front rest shuts come (reads.Whole bytes full short over are small whole is) halted line) = let e : Still ≡ Over bytes = sym still ∙ over in absurd (cc)

no_piece : (downs : List Put) → IsHalted (gives (events_of BulkIn downs)) → NoPiece downs
no_piece [] h = tt
no_piece (Unlinked asked answer ∷ downs) h = no_piece downs h
no_piece (Submitted head answer transferred ∷ downs) h = by (eqb head.ep 2) refl h (λ k. no_piece downs k)
  where
    by : (b : Bool) → eqb head.ep 2 ≡ b → IsHalted (gives (cond b (Gives head answer transferred ∷ events_of BulkIn downs) (events_of BulkIn downs)))
        → (IsHalted (gives (events_of BulkIn downs)) → NoPiece downs) → NoPiece (Submitted head answer transferred ∷ downs)
    by true is k rest = ((λ own good. let e : stalled ≡ success = sym k.0 ∙ good in cc), rest k.1)
    by false is k rest = ((λ own. let e : true ≡ false = sym (eq-eqb head.ep 2 own) ∙ is in absurd (cc)), rest k)

-- the request was taken, and nothing is to be taken
record Begun (tag size : ℕ) (past todo : List Job) : Type 0 where
  pub none : todo ≡ []
  pub last : last_header past ≡ Some (Request tag size)

begun : (last : ℕ) (message : List ℕ) (tag size : ℕ) (past todo : List Job) (sofar : List ℕ) (flow : Flow) (s : State) → flow ≢ Still → Stage last message tag size past todo sofar flow s → Begun tag size past todo
begun last message tag size past todo sofar flow s given (Follows seq earlier waits other part idle log empty still carries at) = absurd (given still)
begun last message tag size past todo sofar flow s given (Gathers done rest whole waits part idle log empty still carries at own) = absurd (given still)
begun last message tag size past todo sofar flow s given (Waits waits part idle log empty still asks at) = absurd (given still)
begun last message tag size past todo sofar flow s given (Barred shuts another part idle log empty still over at) = absurd (given still)
begun last message tag size past todo sofar flow s given (Rests response waits part idle ran all still asks at further) = absurd (given still)
begun last message tag size past todo sofar flow s given (Owes response waits part owed ran all still over at further) = absurd (given still)
begun last message tag size past todo sofar flow s given (Dropped response closed waits part idle ran all still over at) = absurd (given still)
begun last message tag size past todo sofar flow s given (Sends response carried bytes piece waits part sends ran all giving fits text over own at) = record { none = over; last = at }
begun last message tag size past todo sofar flow s given (Sent response carried bytes waits part idle ran all over fits text empty at) = record { none = empty; last = at }
begun last message tag size past todo sofar flow s given (Tears response carried bytes dropped waits part idle ran all torn fits text empty at) = record { none = empty; last = at }

empty_queue : (shut gone : Bool) (todo : List Job) (coming : List _) (queue : List Pending) (transfer : Option Transfer) → todo ≡ [] → OutLine shut gone todo coming queue transfer → queue ≡ []
empty_queue shut gone todo coming queue transfer none (Unbegun [] later unshut whole come line free) = line
empty_queue shut gone todo coming queue transfer none (Unbegun (x ∷ here) later unshut whole come line free) = let e : [] ≡ x ∷ (here ++ later) = sym none ∙ whole in absurd (cc)
empty_queue shut gone todo coming queue transfer none (Partly job here later moved left unshut whole come bytes began more line runs) = let e : [] ≡ job ∷ (here ++ later) = sym none ∙ whole in absurd (cc)
empty_queue shut gone todo coming queue transfer none (Cut job moved left was unshut whole come bytes began more line runs) = line
empty_queue shut gone todo coming queue transfer none (Shut shuts whole line free) = line

none_taken_of : (s t : State) (move : Move) (put : Put) → ((e : Endpoint) → AllFit e (queue_of e s)) → s.bulk_out ≡ [] → IsAnswer s move t put → NoneTaken (put ∷ [])
none_taken_of s t move put stand none (ToPending e before submit behind code moved line is within by stall packet) =
    subst (λ (p : Put). NoneTaken (p ∷ [])) (sym is) ((λ own good. at e line (stands_at e before submit behind (subst (λ (q : List Pending). AllFit e q) line (stand e))).number own), tt)
  where
    pending : (queue : List Pending) → queue ≡ [] → queue ≡ before ++ submit ∷ behind → ⊥
    pending queue empty some = none_in before (sym empty ∙ some)
      where
        none_in : (l : List Pending) → [] ≡ l ++ submit ∷ behind → ⊥
        none_in [] h = cc
        none_in (x ∷ l) h = cc

    at : (d : Endpoint) → queue_of d s ≡ before ++ submit ∷ behind → submit.head.ep ≡ number_of d → submit.head.ep ≡ 1 → ⊥
    at Control some number own = omega (arith, number, own)
    at BulkOut some number own = pending s.bulk_out none some
    at BulkIn some number own = omega (arith, number, own)
    at InterruptIn some number own = omega (arith, number, own)
none_taken_of s t move put stand none (ToArriving head transferred comes is) = subst (λ (p : Put). NoneTaken (p ∷ [])) (sym is) ((λ own. stalled_bad), tt)
none_taken_of s t move put stand none (ToUnlink head code comes is what) = subst (λ (p : Put). NoneTaken (p ∷ [])) (sym is) tt

none_taken : (s t : State) (move : Move) (puts : List Put) → ((e : Endpoint) → AllFit e (queue_of e s)) → s.bulk_out ≡ [] → AllAnswers (IsAnswer s move t) puts → NoneTaken puts
none_taken s t move [] stand none are = tt
none_taken s t move (put ∷ puts) stand none are = taken-append (put ∷ []) puts (none_taken_of s t move put stand none are.0) (none_taken s t move puts stand none are.1)

-- ---- under each step

-- what this asks of the laws
pub record TurnLaws : Type 0 where
  pub fits : (run : List Entry) (s : State) (e : Endpoint) → Runs start run s → AllFit e (queue_of e s)
  pub polled : (run : List Entry) (s : State) (e : Endpoint) (before : List Pending) (submit : Pending) (behind : List Pending) → Runs start run s
      → queue_of e s ≡ before ++ submit ∷ behind → submit.polled ≡ true → e ≡ Control
  pub answers : (run : List Entry) (s t : State) (move : Move) (puts : List Put) → Runs start run s → Steps s move puts t → AllAnswers (IsAnswer s move t) puts
  pub joins : (a b : List Entry) (s m t : State) → Runs s a m → Runs m b t → Runs s (a ++ b) t

pub turn_step : (laws : TurnLaws) (run : List Entry) (ask : Ask) (s t : State) (move : Move) (ups : List up.Message) (downs puts : List Put)
    → Runs start run s → Steps s move puts t → Asking ask ups downs s → InTurn downs → InTurn (downs ++ puts)
turn_step laws run ask s t move ups downs puts reached step a turn = turn-append downs puts turn (step_turns s t move puts a.calm.control (λ e before submit behind line polls. laws.polled run s e before submit behind reached line polls) step) (by a.flow refl)
  where
    quiet : a.flow ≡ Still → NoPiece downs
    quiet still = no_piece downs (still_halted s.halted.bulk_in ask.gone a.flow ask.read (gives (events_of BulkIn downs)) (sent_to BulkIn ups) s.bulk_in still a.ins)

    full : a.flow ≢ Still → NoneTaken puts
    full given =
        let b = begun ask.last ask.message ask.tag ask.size a.past a.todo ask.sofar a.flow s given a.stage in
        none_taken s t move puts (λ e. laws.fits run s e reached) (empty_queue s.halted.bulk_out ask.gone a.todo (sent_to BulkOut ups) s.bulk_out s.transfer b.none a.out) (laws.answers run s t move puts reached step)

    by : (flow : Flow) → a.flow ≡ flow → NoPiece downs ⊎ NoneTaken puts
    by Still is = inl (quiet is)
    by (Giving bytes) is = inr (full (λ e. let f : Still ≡ Giving bytes = sym e ∙ is in cc))
    by (Over bytes) is = inr (full (λ e. let f : Still ≡ Over bytes = sym e ∙ is in cc))
    by (Torn bytes) is = inr (full (λ e. let f : Still ≡ Torn bytes = sym e ∙ is in cc))

-- ---- under each run

abbrev pub AllOk : (Entry → Type 0) → List Entry → Type 0
AllOk Ok [] = Unit {0}
AllOk Ok (entry ∷ run) = Ok entry × AllOk Ok run

pub turn_goes : (laws : TurnLaws) (ask : Ask) (Holds : List up.Message → List Put → State → Type 0) (Ok : Entry → Type 0) → ((ups : List up.Message) (downs : List Put) (s : State) → Holds ups downs s → Asking ask ups downs s)
    → ((before : List Entry) (entry : Entry) (ups : List up.Message) (downs : List Put) (s t : State) → Runs start before s → Steps s entry.move entry.puts t → Ok entry → Holds (taken entry.move ++ ups) downs s → Holds ups (downs ++ entry.puts) t)
    → (before run : List Entry) (ups : List up.Message) (downs : List Put) (s t : State) → Runs start before s → Runs s run t → AllOk Ok run → Holds (inputs run ++ ups) downs s → InTurn downs → InTurn (downs ++ outputs run)
turn_goes laws ask Holds Ok asks keeps before [] ups downs s t reached goes ok holds turn = subst (λ (l : List Put). InTurn l) (sym (append-nil downs)) turn
turn_goes laws ask Holds Ok asks keeps before (entry ∷ run) ups downs s t reached goes ok holds turn =
    let same : ((taken entry.move ++ inputs run) ++ ups) ≡ (taken entry.move ++ (inputs run ++ ups)) = append_assoc (taken entry.move) (inputs run) ups in
    let here = subst (λ (l : List up.Message). Holds l downs s) same holds in
    let turned = turn_step laws before ask s goes.0 entry.move (taken entry.move ++ (inputs run ++ ups)) downs entry.puts reached goes.1 (asks (taken entry.move ++ (inputs run ++ ups)) downs s here) turn in
    subst (λ (l : List Put). InTurn l) (append_assoc downs entry.puts (outputs run))
    (turn_goes laws ask Holds Ok asks keeps (before ++ entry ∷ []) run ups (downs ++ entry.puts) goes.0 t (laws.joins before (entry ∷ []) start s goes.0 reached (goes.0, goes.1, refl)) goes.2 ok.1
    (keeps before entry (inputs run ++ ups) downs s goes.0 reached goes.1 ok.0 here) turned)

-- a run that unlinks nothing, and one that is plugged
abbrev pub IsCalm : Entry → Type 0
IsCalm entry = (entry.move ≢ Unplug) × (unlinks_in (taken entry.move) ≡ [])

none_both : (a b : List UnlinkHead) → a ++ b ≡ [] → (a ≡ []) × (b ≡ [])
none_both [] b e = (refl, e)
none_both (x ∷ a) b e = absurd (cc)

pub calm_all : (run : List Entry) → StaysPlugged run → unlinks_in (inputs run) ≡ [] → AllOk IsCalm run
calm_all [] plugged none = tt
calm_all (entry ∷ run) plugged none =
    let both = none_both (unlinks_in (taken entry.move)) (unlinks_in (inputs run)) (sym (unlinks-append (taken entry.move) (inputs run)) ∙ none) in
    ((plugged.0, both.0), calm_all run plugged.1 both.1)

pub plugged_all : (run : List Entry) → StaysPlugged run → AllOk (λ entry. entry.move ≢ Unplug) run
plugged_all [] plugged = tt
plugged_all (entry ∷ run) plugged = (plugged.0, plugged_all run plugged.1)

-- nothing of a ticket is on its way
pub quiet_turn : (downs : List Put) → events_of BulkIn downs ≡ [] → InTurn downs
quiet_turn [] none = tt
quiet_turn (Unlinked asked answer ∷ downs) none = absurd (cc)
quiet_turn (Submitted head answer transferred ∷ downs) none = by (eqb head.ep 2) refl none (λ k. quiet_turn downs k)
  where
    by : (b : Bool) → eqb head.ep 2 ≡ b → cond b (Gives head answer transferred ∷ events_of BulkIn downs) (events_of BulkIn downs) ≡ [] → (events_of BulkIn downs ≡ [] → InTurn downs) → InTurn (Submitted head answer transferred ∷ downs)
    by true is e rest = absurd (cc)
    by false is e rest = ((λ own. let e : true ≡ false = sym (eq-eqb head.ep 2 own) ∙ is in absurd (cc)), rest e)

-- ---- what a host concludes at a read that has bytes

came_none : (shut : Bool) (downs : List Put) (count : ℕ) → NoneTaken downs → AllTaken shut count (events_of BulkOut downs) → count ≡ 0
came_none shut [] count none taken = taken
came_none shut (Unlinked asked answer ∷ downs) count none taken = came_none shut downs count none taken
came_none shut (Submitted head answer transferred ∷ downs) count none taken = by (eqb head.ep 1) refl taken (λ n k. came_none shut downs n none.1 k)
  where
    by : (b : Bool) → eqb head.ep 1 ≡ b → AllTaken shut count (cond b (Gives head answer transferred ∷ events_of BulkOut downs) (events_of BulkOut downs))
        → ((n : ℕ) → AllTaken shut n (events_of BulkOut downs) → n ≡ 0) → count ≡ 0
    by true is (inl k) rest = absurd (none.0 (eqb-true head.ep 1 is) k.0)
    by true is (inr k) rest = k.2
    by false is k rest = rest count k

prefix : (past hit front : List Job) (request : Job) → front ++ request ∷ [] ≡ past ++ hit → (hit ≡ []) ⊎ ((rest : List Job) × (front ≡ past ++ rest))
prefix [] [] front request e = inl refl
prefix [] (x ∷ hit) front request e = inr (front, refl)
prefix (x ∷ past) hit [] request e = inl (none past hit e)
  where
    none : (l m : List Job) → request ∷ [] ≡ x ∷ (l ++ m) → m ≡ []
    none [] [] h = refl
    none [] (y ∷ m) h = absurd (cc)
    none (y ∷ l) m h = absurd (cc)
prefix (x ∷ past) hit (y ∷ front) request e = by (prefix past hit front request (rest e)) (first e)
  where
    rest : y ∷ (front ++ request ∷ []) ≡ x ∷ (past ++ hit) → front ++ request ∷ [] ≡ past ++ hit
    rest h = cc

    first : y ∷ (front ++ request ∷ []) ≡ x ∷ (past ++ hit) → y ≡ x
    first h = cc

    by : (hit ≡ []) ⊎ ((more : List Job) × (front ≡ past ++ more)) → y ≡ x → (hit ≡ []) ⊎ ((more : List Job) × (y ∷ front ≡ x ∷ (past ++ more)))
    by (inl none) same = inl none
    by (inr some) same = inr (some.0, ap (λ (j : Job). j ∷ front) same ∙ ap (λ (l : List Job). x ∷ l) some.1)

parts_front : (a b : List Job) → AreParts (a ++ b) → AreParts a
parts_front [] b h = tt
parts_front (x ∷ a) b h = (h.0, parts_front a b h.1)

not_request : (past : List Job) (tag size : ℕ) → AreParts past → last_header past ≡ Some (Request tag size) → ⊥
not_request [] tag size parts e = cc
not_request (x ∷ []) tag size parts e = let h : x.header ≡ Request tag size = cc in subst (λ (o : OutHeader). IsPart o) h parts.0
not_request (x ∷ y ∷ past) tag size parts e = not_request (y ∷ past) tag size parts.1 e

-- where a read has bytes, the request of its piece was taken, and all answers to transfers were
taken_of : (ask : Ask) (ups : List up.Message) (head : SubmitHead) (answer : RetSubmitHead) (transferred : List ℕ) (downs : List Put) (s : State) → head.ep ≡ 2 → answer.status ≡ success
    → (a : Asking ask ups (Submitted head answer transferred ∷ downs) s) → InTurn (Submitted head answer transferred ∷ downs) → (ask.written ≡ a.past ++ a.hit) × (length a.past ≡ ask.answered) × (last_header a.past ≡ Some (Request ask.tag ask.size))
taken_of ask ups head answer transferred downs s own good a turn =
    let events : gives (events_of BulkIn (Submitted head answer transferred ∷ downs)) ≡ Gives head answer transferred ∷ gives (events_of BulkIn downs) = ap gives (own_event BulkIn head answer transferred downs own) in
    let given : a.flow ≢ Still = λ still. bad (subst (λ (l : List Event). IsHalted l) events
    (still_halted s.halted.bulk_in ask.gone a.flow ask.read (gives (events_of BulkIn (Submitted head answer transferred ∷ downs))) (sent_to BulkIn ups) s.bulk_in still a.ins)) in
    let b = begun ask.last ask.message ask.tag ask.size a.past a.todo ask.sofar a.flow s given a.stage in
    let none : a.came ≡ 0 = came_none s.halted.bulk_out downs a.came (turn.0 own good) (subst (λ (l : List Event). AllTaken s.halted.bulk_out a.came l) (other_event BulkOut head answer transferred downs 2 own refl) a.taken) in
    (a.whole ∙ ap (λ (l : List Job). a.past ++ (l ++ a.hit)) b.none, a.counted ∙ ap (λ (n : ℕ). ask.answered + n) none ∙ omega arith, b.last)
  where
    bad : (answer.status ≡ stalled) × IsHalted (gives (events_of BulkIn downs)) → ⊥
    bad h = let e : stalled ≡ success = sym h.0 ∙ good in cc

pub all_taken : (ask : Ask) (ups : List up.Message) (head : SubmitHead) (answer : RetSubmitHead) (transferred : List ℕ) (downs : List Put) (s : State) → head.ep ≡ 2 → answer.status ≡ success
    → Asking ask ups (Submitted head answer transferred ∷ downs) s → InTurn (Submitted head answer transferred ∷ downs) → ask.gone ≡ false → s.halted.bulk_out ≡ false → ask.answered ≡ length ask.written
all_taken ask ups head answer transferred downs s own good a turn kept usable =
    let t = taken_of ask ups head answer transferred downs s own good a turn in
    sym (ap (λ (l : List Job). length l) (t.0 ∙ ap (λ (l : List Job). a.past ++ l) (a.missed kept usable) ∙ append-nil a.past) ∙ t.1)

pub all_taken_cancelled : (ask : Ask) (front : List Job) (request : Job) (ups : List up.Message) (head : SubmitHead) (answer : RetSubmitHead) (transferred : List ℕ) (downs : List Put) (s : State) → head.ep ≡ 2 → answer.status ≡ success
    → ask.written ≡ front ++ request ∷ [] → AreParts front → Asking ask ups (Submitted head answer transferred ∷ downs) s → InTurn (Submitted head answer transferred ∷ downs) → ask.answered ≡ length ask.written
all_taken_cancelled ask front request ups head answer transferred downs s own good written parts a turn = by (prefix a.past a.hit front request (sym written ∙ t.0))
  where
    t : (ask.written ≡ a.past ++ a.hit) × (length a.past ≡ ask.answered) × (last_header a.past ≡ Some (Request ask.tag ask.size))
    t = taken_of ask ups head answer transferred downs s own good a turn

    by : (a.hit ≡ []) ⊎ ((rest : List Job) × (front ≡ a.past ++ rest)) → ask.answered ≡ length ask.written
    by (inl none) = sym (ap (λ (l : List Job). length l) (t.0 ∙ ap (λ (l : List Job). a.past ++ l) none ∙ append-nil a.past) ∙ t.1)
    by (inr some) = absurd (not_request a.past ask.tag ask.size (parts_front a.past some.0 (subst (λ (l : List Job). AreParts l) some.1 parts)) t.2)
