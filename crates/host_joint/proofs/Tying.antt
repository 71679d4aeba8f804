-- a tie stays under each step of a device, and under each run
use Rattle.std.proofs.Common.{◌≡◌, ◌≢◌, ◌∙◌, ℕ, Bool, true, false, List, [], ◌∷◌, ◌++◌, length, Option, None, refl, sym, subst, append_assoc, append-nil, arith}
use Rattle.std.proofs.lemmas.List.{append_cancel_left}
use Rattle.usbip_wire.specs.declared.submit.SubmitHead.{SubmitHead}
use Rattle.usbip_wire.specs.declared.unlink.UnlinkHead.{UnlinkHead}
use Rattle.usbip_wire.specs.Up as up
use Rattle.instr_plain.specs.declared.log.LogEntry.{LogEntry}
use Rattle.instr_plain.specs.declared.log.LogEntry.TheVariants as entry
use Rattle.instr_plain.specs.Log.{Response}
use Rattle.tmc_law.specs.Endpoint.{Endpoint, Control, BulkOut, BulkIn}
use Rattle.tmc_law.specs.State.{State, Pending, start, queue_of, is_halted}
use Rattle.tmc_law.specs.Logging.{unread}
use Rattle.tmc_law.specs.Put.{Put}
use Rattle.tmc_law.specs.AnswerFits.{AllAnswers, IsAnswer, ToPending, ToArriving, ToUnlink, FitsAsked}
use Rattle.tmc_law.specs.Acts.{FitsAt}
use Rattle.tmc_law.specs.Reached.{AllFit}
use Rattle.tmc_law.specs.HaltCauses.{HaltedBy, ByItself, BySpoiling, ByAbort, ByClear, ByOverflow, ByPacket}
use Rattle.tmc_law.specs.LogStep.{MayLog, Adds}
use Rattle.tmc_law.specs.Numbers.{AllBelow, Rises, numbers}
use Rattle.tmc_law.specs.Step.{Move, Comes, Halt, Unplug, Steps}
use Rattle.tmc_law.specs.Run.{Entry, Runs, taken, inputs, outputs}
use Rattle.host_joint.specs.Lines.{Lines, EmptyLine, unlinks_in, unlinked_by, Fitting, AllFitting, InOrder}
use Rattle.host_joint.specs.Unlinking.{IsBulk}
use Rattle.host_joint.specs.Jobs.{Job}
use Rattle.host_joint.specs.Reads.{Flow}
use Rattle.host_joint.specs.Stage.{Ran, NoExec, Stage, Follows, Gathers, Waits, Rests, Owes, Sends, Sent, Tears, Barred, Dropped}
use Rattle.host_joint.specs.Asking.{Ask, Asking}
use Rattle.host_joint.specs.Positions.{rests}
use Rattle.host_joint.specs.Hand.{Hand, Free, Says, Said, Reads, Pauses}
use Rattle.host_joint.specs.Tie.{IsUndisturbed, asked_of, IsGood, Holds, Tie}
use Rattle.host_joint.proofs.Flows.{lines_step, fitting_behind, all_answered}
use Rattle.host_joint.proofs.Running.{AskLaws, asking_step, safe_move}
use Rattle.host_joint.proofs.Accepting.{by_itself}
use Rattle.host_joint.proofs.Numbered.{ran_waits_not, ran_keeps}
use Rattle.host_joint.proofs.Resting.{rests_closed}
use Rattle.host_joint.proofs.Requesting.{quiet_goes}
use Rattle.host_joint.proofs.Handing.{none_front, no_last}

-- the response to the message of a log's entry is one
abbrev pub OneResponse : Type 0
OneResponse = (log : List LogEntry) (i : ℕ) (response other : List ℕ) → Response log i response → Response log i other → response ≡ other

-- what a tie asks of the laws
pub record TieLaws : Type 0 where
  pub ask : AskLaws
  pub rises : (s t : State) (move : Move) (puts : List Put) (messages : List up.Message) → Steps s move puts t → Rises (numbers s (taken move ++ messages)) → Rises (numbers t messages)
  pub below : (n : ℕ) (s t : State) (move : Move) (puts : List Put) (messages : List up.Message) → Steps s move puts t → AllBelow n (numbers s (taken move ++ messages)) → AllBelow n (numbers t messages)
  pub answers : (run : List Entry) (s t : State) (move : Move) (puts : List Put) → Runs start run s → Steps s move puts t → AllAnswers (IsAnswer s move t) puts
  pub fit : (run : List Entry) (s t : State) (move : Move) (puts : List Put) → Runs start run s → Steps s move puts t → AllAnswers FitsAsked puts
  pub causes : (s t : State) (move : Move) (puts : List Put) (endpoint : Endpoint) → Steps s move puts t → is_halted endpoint s ≡ false → is_halted endpoint t ≡ true → HaltedBy s endpoint move
  pub logs : (s t : State) (move : Move) (puts : List Put) → Steps s move puts t → Adds (MayLog s move) s t
  pub one_response : OneResponse

-- ---- no unlink is there

pub none_unlinked : (a b : List UnlinkHead) → [] ≡ a ++ b → (a ≡ []) × (b ≡ [])
none_unlinked [] b e = (refl, sym e)
none_unlinked (x ∷ a) b e = absurd (cc)

pub in_order : (ups : List up.Message) → unlinks_in ups ≡ [] → InOrder ups
in_order [] none = tt
in_order (up.Submit head transferred ∷ ups) none = in_order ups none
in_order (up.Unlink head ∷ ups) none = absurd (cc)

pub unlinks_taken : (move : Move) (ups : List up.Message) → unlinks_in (taken move ++ ups) ≡ [] → unlinks_in (taken move) ≡ []
unlinks_taken (Comes (up.Submit head transferred)) ups none = refl
unlinks_taken (Comes (up.Unlink head)) ups none = absurd (cc)
unlinks_taken _ ups none = refl

-- ---- the answers of a step

pub stands_at : (e : Endpoint) (before : List Pending) (submit : Pending) (behind : List Pending) → AllFit e (before ++ submit ∷ behind) → FitsAt e submit
stands_at e [] submit behind h = h.0
stands_at e (x ∷ before) submit behind h = stands_at e before submit behind h.1

pub arriving_fits : (head : SubmitHead) (transferred : List ℕ) (move : Move) (ups : List up.Message) → move ≡ Comes (up.Submit head transferred) → AllFitting (taken move ++ ups) → Fitting head
arriving_fits head transferred move ups is h = (subst (λ (m : Move). AllFitting (taken m ++ ups)) is h).0

no_unlink : {B : Type 0} (head : UnlinkHead) (move : Move) (ups : List up.Message) → move ≡ Comes (up.Unlink head) → unlinks_in (taken move ++ ups) ≡ [] → B
no_unlink head move ups is none = let e : head ∷ unlinks_in ups ≡ [] = subst (λ (m : Move). unlinks_in (taken m ++ ups) ≡ []) is none in absurd (cc)

good_of : (s t : State) (move : Move) (ups : List up.Message) (put : Put) → ((e : Endpoint) → AllFit e (queue_of e s)) → AllFitting (taken move ++ ups) → unlinks_in (taken move ++ ups) ≡ []
    → IsAnswer s move t put → FitsAsked put → IsGood put
good_of s t move ups put stand fit none (ToPending e before submit behind status moved line is within by stall packet) fits =
    let at = stands_at e before submit behind (subst (λ (q : List Pending). AllFit e q) line (stand e)) in
    subst (λ (p : Put). IsGood p) (sym is) (record { endpoint = e; number = at.number; way = at.way }, subst (λ (p : Put). FitsAsked p) is fits)
good_of s t move ups put stand fit none (ToArriving head transferred comes is) fits =
    subst (λ (p : Put). IsGood p) (sym is) (arriving_fits head transferred move ups comes fit, subst (λ (p : Put). FitsAsked p) is fits)
good_of s t move ups put stand fit none (ToUnlink head status comes is what) fits = no_unlink head move ups comes none

all_good : (s t : State) (move : Move) (ups : List up.Message) (puts : List Put) → ((e : Endpoint) → AllFit e (queue_of e s)) → AllFitting (taken move ++ ups) → unlinks_in (taken move ++ ups) ≡ []
    → AllAnswers (IsAnswer s move t) puts → AllAnswers FitsAsked puts → AllAnswers IsGood puts
all_good s t move ups [] stand fit none are fits = tt
all_good s t move ups (put ∷ puts) stand fit none are fits = (good_of s t move ups put stand fit none are.0 fits.0, all_good s t move ups puts stand fit none are.1 fits.1)

good-append : (a b : List Put) → AllAnswers IsGood a → AllAnswers IsGood b → AllAnswers IsGood (a ++ b)
good-append [] b h k = k
good-append (x ∷ a) b h k = (h.0, good-append a b h.1 k)

-- ---- no endpoint halts

no_first : {B : Type 0} (submit : Pending) (behind queue : List Pending) → queue ≡ [] → queue ≡ submit ∷ behind → B
no_first submit behind queue none some = let e : [] ≡ submit ∷ behind = sym none ∙ some in absurd (cc)

rest_halts : (s : State) (endpoint : Endpoint) (move : Move) → IsBulk endpoint → ((e : Endpoint) → move ≢ Halt e) → s.control ≡ [] → s.bulk_out ≡ [] → s.bulk_in ≡ [] → HaltedBy s endpoint move → ⊥
rest_halts s endpoint move bulk none control outs ins (ByItself is other) = none endpoint is
rest_halts s endpoint move bulk none control outs ins (BySpoiling count submit behind is at first spoils) = no_first submit behind s.bulk_out outs first
rest_halts s endpoint move bulk none control outs ins (ByAbort tag is at class runs own) = no_first class.submit class.behind s.control control class.first
rest_halts s endpoint move bulk none control outs ins (ByClear is at class) = no_first class.submit class.behind s.control control class.first
rest_halts s endpoint move bulk none control outs ins (ByOverflow count full submit behind piece is at first side within over) = no_first submit behind s.bulk_in ins first
rest_halts s endpoint move bulk none control outs ins (ByPacket submit behind packet packets is at first has small) = subst (λ (e : Endpoint). IsBulk e) at bulk

stays_false : (b : Bool) → (b ≡ true → ⊥) → b ≡ false
stays_false true h = absurd (h refl)
stays_false false h = refl

-- ---- the response to a message is one

-- where two messages were executed under a number, and each is the one of it, they are one message, at one place
same_place : (n : ℕ) (message other : List ℕ) (a b x y : List LogEntry) → NoExec n a → NoExec n b → a ++ entry.Exec n message ∷ x ≡ b ++ entry.Exec n other ∷ y
    → (length a ≡ length b) × (message ≡ other)
same_place n message other [] [] x y left right e = (refl, cc)
same_place n message other [] (z ∷ b) x y left right e = absurd ((subst (λ (l : LogEntry). NoExec n (l ∷ b)) (first e) right).0 refl)
  where
    first : entry.Exec n message ∷ x ≡ z ∷ (b ++ entry.Exec n other ∷ y) → z ≡ entry.Exec n message
    first h = cc
same_place n message other (z ∷ a) [] x y left right e = absurd ((subst (λ (l : LogEntry). NoExec n (l ∷ a)) (first e) left).0 refl)
  where
    first : z ∷ (a ++ entry.Exec n message ∷ x) ≡ entry.Exec n other ∷ y → z ≡ entry.Exec n other
    first h = cc
same_place n message other (z ∷ a) (w ∷ b) x y left right e =
    let further = same_place n message other a b x y (rest z a left) (rest w b right) (tails e) in (omega (arith, further.0), further.1)
  where
    tails : z ∷ (a ++ entry.Exec n message ∷ x) ≡ w ∷ (b ++ entry.Exec n other ∷ y) → a ++ entry.Exec n message ∷ x ≡ b ++ entry.Exec n other ∷ y
    tails h = cc

    rest : (l : LogEntry) (ls : List LogEntry) → NoExec n (l ∷ ls) → NoExec n ls
    rest (entry.Exec k m) ls h = h.1
    rest (entry.Took k) ls h = h
    rest entry.Interrupt ls h = h
    rest entry.Bare ls h = h
    rest (entry.Trigger k) ls h = h
    rest (entry.Poll k) ls h = h
    rest entry.Clear ls h = h
    rest (entry.Remote k) ls h = h

pub one_message : (n : ℕ) (message other response answer : List ℕ) (log : List LogEntry) → Ran n message response log → Ran n other answer log → message ≡ other
one_message n message other response answer log a b =
    (same_place n message other a.before b.before a.behind b.behind a.none_before b.none_before (sym a.whole ∙ b.whole)).1

pub one_ran : (one_response : OneResponse) (n : ℕ) (message other response answer : List ℕ) (log : List LogEntry) → Ran n message response log → Ran n other answer log → response ≡ answer
one_ran one_response n message other response answer log a b =
    one_response log (length a.before) response answer a.responds
    (subst (λ (i : ℕ). Response log i answer) (sym (same_place n message other a.before b.before a.behind b.behind a.none_before b.none_before (sym a.whole ∙ b.whole)).0) b.responds)

pub ran_step : (laws : TieLaws) (n : ℕ) (message response : List ℕ) (s t : State) (move : Move) (puts : List Put) (ups : List up.Message) → Steps s move puts t → Rises (numbers s (taken move ++ ups))
    → Ran n message response s.log → Ran n message response t.log
ran_step laws n message response s t move puts ups step rises ran =
    ran_keeps n message response s t move (ran_waits_not n message response (taken move ++ ups) s rises ran) (laws.logs s t move puts step) ran

-- between pieces, what is unread goes on where they ended
pub record Between (last : ℕ) (message sofar : List ℕ) (s : State) : Type 0 where
  pub response : List ℕ
  pub ran : Ran last message response s.log
  pub all : response ≡ sofar ++ unread s

between : (last : ℕ) (message : List ℕ) (tag size : ℕ) (past todo : List Job) (sofar : List ℕ) (flow : Flow) (s : State) → past ≡ [] → sofar ≢ [] → Stage last message tag size past todo sofar flow s
    → Between last message sofar s
between last message tag size past todo sofar flow s none some (Follows seq earlier waits other part idle log empty still carries at) = absurd (some empty)
between last message tag size past todo sofar flow s none some (Gathers done rest whole waits part idle log empty still carries at own) = absurd (some empty)
between last message tag size past todo sofar flow s none some (Waits waits part idle log empty still asks at) = absurd (some empty)
between last message tag size past todo sofar flow s none some (Barred shuts another part idle log empty still over at) = absurd (some empty)
between last message tag size past todo sofar flow s none some (Rests response waits part idle ran all still asks at further) = record { response = response; ran = ran; all = all }
between last message tag size past todo sofar flow s none some (Owes response waits part owed ran all still over at further) = no_last past tag size none at
between last message tag size past todo sofar flow s none some (Sends response carried bytes piece waits part sends ran all giving fits text over own at) = no_last past tag size none at
between last message tag size past todo sofar flow s none some (Sent response carried bytes waits part idle ran all over fits text empty at) = no_last past tag size none at
between last message tag size past todo sofar flow s none some (Tears response carried bytes dropped waits part idle ran all torn fits text empty at) = no_last past tag size none at
between last message tag size past todo sofar flow s none some (Dropped response closed waits part idle ran all still over at) = no_last past tag size none at

pub asks_between : (ask : Ask) (ups : List up.Message) (downs : List Put) (s : State) → ask.written ≡ [] → ask.sofar ≢ [] → Asking ask ups downs s → Between ask.last ask.message ask.sofar s
asks_between ask ups downs s none some a =
    between ask.last ask.message ask.tag ask.size a.past a.todo ask.sofar a.flow s (none_front a.past a.todo a.hit (sym none ∙ a.whole)).0 some a.stage

-- ---- one step

-- what a step leaves of what is in hand
record Held (hand : Hand) (waits : Option SubmitHead) (ups : List up.Message) (downs : List Put) (t : State) : Type 0 where
  pub held : Holds hand waits ups downs t
  pub out_usable : t.halted.bulk_out ≡ false
  pub in_usable : t.halted.bulk_in ≡ false

-- a step that disturbs nothing
record Calmly (s t : State) (move : Move) (puts : List Put) : Type 0 where
  pub step : Steps s move puts t
  pub plugged : move ≢ Unplug
  pub unhalted : (e : Endpoint) → move ≢ Halt e

asking_held : (laws : TieLaws) (ask : Ask) (run : List Entry) (s t : State) (move : Move) (ups : List up.Message) (downs puts : List Put) → Runs start run s → Calmly s t move puts
    → AllFitting (taken move ++ ups) → unlinks_in (taken move ++ ups) ≡ [] → Asking ask (taken move ++ ups) downs s → Asking ask ups (downs ++ puts) t
asking_held laws ask run s t move ups downs puts reached calm fit none a =
    asking_step laws.ask run ask s t move ups downs puts reached calm.step fit (safe_move move ups s calm.plugged (unlinks_taken move ups none)) a

usable_held : (laws : TieLaws) (ask : Ask) (s t : State) (move : Move) (ups : List up.Message) (downs puts : List Put) (endpoint : Endpoint) → Calmly s t move puts → IsBulk endpoint
    → Asking ask (taken move ++ ups) downs s → is_halted endpoint s ≡ false → is_halted endpoint t ≡ false
usable_held laws ask s t move ups downs puts endpoint calm bulk a off =
    stays_false (is_halted endpoint t) (λ on. calm.unhalted endpoint
    (by_itself laws.ask.one_header ask s t move ups downs puts endpoint bulk calm.step.leads a off on (laws.causes s t move puts endpoint calm.step off on)))

held_step : (laws : TieLaws) (hand : Hand) (waits : Option SubmitHead) (next : ℕ) (ups : List up.Message) (downs puts : List Put) (s t : State) (move : Move) → Calmly s t move puts
    → unlinks_in (taken move ++ ups) ≡ [] → (tie : Tie hand waits next (taken move ++ ups) downs s) → Holds hand waits (taken move ++ ups) downs s → Held hand waits ups (downs ++ puts) t
held_step laws Free waits next ups downs puts s t move calm none tie h = record {
  held = (h.0, quiet_goes rests s t move puts ups rests_closed (record { outs = (empty BulkOut).sent; ins = (empty BulkIn).sent; unlinks = none }) (empty Control).queue calm.step.leads h.1);
  out_usable = usable BulkOut tt tie.out_usable;
  in_usable = usable BulkIn tt tie.in_usable;
}
  where
    empty : (e : Endpoint) → EmptyLine e (taken move ++ ups) downs s
    empty e = all_answered (asked_of None) e (taken move ++ ups) downs s (subst (λ (w : Option SubmitHead). Lines (asked_of w) [] (taken move ++ ups) downs s) h.0 tie.lines) refl

    usable : (e : Endpoint) → IsBulk e → is_halted e s ≡ false → is_halted e t ≡ false
    usable e bulk off =
        stays_false (is_halted e t)
        (λ on. rest_halts s e move bulk calm.unhalted (empty Control).queue (empty BulkOut).queue (empty BulkIn).queue (laws.causes s t move puts e calm.step off on))
held_step laws (Says message said) waits next ups downs puts s t move calm none tie h = record {
  held = record {
    last = h.last;
    tag = h.tag;
    size = h.size;
    front = h.front;
    job = h.job;
    answered = h.answered;
    asking = asking_held laws _ tie.run s t move ups downs puts tie.reached calm tie.fitting none h.asking;
    counted = h.counted;
    inner = h.inner;
    goes_on = h.goes_on;
    so_far = h.so_far;
    out = h.out;
  };
  out_usable = usable_held laws _ s t move ups downs puts BulkOut calm tt h.asking tie.out_usable;
  in_usable = usable_held laws _ s t move ups downs puts BulkIn calm tt h.asking tie.in_usable;
}
held_step laws (Said last message) waits next ups downs puts s t move calm none tie h = record {
  held = record {
    tag = h.tag;
    size = h.size;
    front = h.front;
    job = h.job;
    answered = h.answered;
    asking = asking_held laws _ tie.run s t move ups downs puts tie.reached calm tie.fitting none h.asking;
    counted = h.counted;
    inner = h.inner;
    ended = h.ended;
    out = h.out;
  };
  out_usable = usable_held laws _ s t move ups downs puts BulkOut calm tt h.asking tie.out_usable;
  in_usable = usable_held laws _ s t move ups downs puts BulkIn calm tt h.asking tie.in_usable;
}
held_step laws (Reads last message tag size sofar read) waits next ups downs puts s t move calm none tie h = record {
  held = record {
    front = h.front;
    request = h.request;
    answered = h.answered;
    asking = asking_held laws _ tie.run s t move ups downs puts tie.reached calm tie.fitting none h.asking;
    counted = h.counted;
    behind = h.behind;
    header = h.header;
    tagged = h.tagged;
    sized = h.sized;
    long = h.long;
    bulk = h.bulk;
  };
  out_usable = usable_held laws _ s t move ups downs puts BulkOut calm tt h.asking tie.out_usable;
  in_usable = usable_held laws _ s t move ups downs puts BulkIn calm tt h.asking tie.in_usable;
}
held_step laws (Pauses last message sofar) waits next ups downs puts s t move calm none tie h =
    let later = asking_held laws _ tie.run s t move ups downs puts tie.reached calm tie.fitting none h.asking in
    let before = asks_between _ (taken move ++ ups) downs s refl h.some h.asking in
    let behind = asks_between _ ups (downs ++ puts) t refl h.some later in
    let same = one_ran laws.one_response last message message before.response behind.response t.log (ran_step laws last message before.response s t move puts ups calm.step tie.rises before.ran) behind.ran in
    let unread_same : unread s ≡ unread t = append_cancel_left sofar (unread s) (unread t) (sym before.all ∙ same ∙ behind.all) in
    record {
      held = record { tag = h.tag; size = h.size; asking = later; some = h.some; more = λ e. h.more (unread_same ∙ e); none = h.none };
      out_usable = usable_held laws _ s t move ups downs puts BulkOut calm tt h.asking tie.out_usable;
      in_usable = usable_held laws _ s t move ups downs puts BulkIn calm tt h.asking tie.in_usable;
    }

tie_step : (laws : TieLaws) (hand : Hand) (waits : Option SubmitHead) (next : ℕ) (ups : List up.Message) (downs puts : List Put) (s t : State) (move : Move) → Calmly s t move puts
    → Tie hand waits next (taken move ++ ups) downs s → Tie hand waits next ups (downs ++ puts) t
tie_step laws hand waits next ups downs puts s t move calm tie =
    let none = (none_unlinked (unlinked_by downs) (unlinks_in (taken move ++ ups)) tie.lines.unlinked).1 in
    let h = held_step laws hand waits next ups downs puts s t move calm none tie tie.held in
    record {
      run = tie.run ++ record { move = move; puts = puts } ∷ [];
      reached = laws.ask.reaches.joins tie.run (record { move = move; puts = puts } ∷ []) start s t tie.reached (t, calm.step, refl);
      lines = lines_step laws.ask.reaches tie.run (asked_of waits) [] s t move puts ups downs tie.reached calm.step tie.fitting (in_order (taken move ++ ups) none) tie.lines;
      fitting = fitting_behind (taken move) ups tie.fitting;
      good = good-append downs puts tie.good
          (all_good s t move ups puts (λ e. laws.ask.reaches.fits tie.run s e tie.reached) tie.fitting none (laws.answers tie.run s t move puts tie.reached calm.step) (laws.fit tie.run s t move puts tie.reached calm.step));
      out_usable = h.out_usable;
      in_usable = h.in_usable;
      rises = laws.rises s t move puts ups calm.step tie.rises;
      below = laws.below next s t move puts ups calm.step tie.below;
      held = h.held;
    }

-- ---- runs

pub tie_run : (laws : TieLaws) (run : List Entry) (hand : Hand) (waits : Option SubmitHead) (next : ℕ) (ups : List up.Message) (downs : List Put) (s t : State) → Runs s run t → IsUndisturbed run
    → Tie hand waits next (inputs run ++ ups) downs s → Tie hand waits next ups (downs ++ outputs run) t
tie_run laws [] hand waits next ups downs s t goes calm tie =
    subst (λ (x : State). Tie hand waits next ups (downs ++ []) x) (sym goes) (subst (λ (l : List Put). Tie hand waits next ups l s) (sym (append-nil downs)) tie)
tie_run laws (entry ∷ run) hand waits next ups downs s t goes calm tie =
    let same : ((taken entry.move ++ inputs run) ++ ups) ≡ (taken entry.move ++ (inputs run ++ ups)) = append_assoc (taken entry.move) (inputs run) ups in
    let go = tie_step laws hand waits next (inputs run ++ ups) downs entry.puts s goes.0 entry.move (record { step = goes.1; plugged = calm.0; unhalted = calm.1 })
    (subst (λ (l : List up.Message). Tie hand waits next l downs s) same tie) in
    subst (λ (l : List Put). Tie hand waits next ups l t) (append_assoc downs entry.puts (outputs run)) (tie_run laws run hand waits next ups (downs ++ entry.puts) goes.0 t goes.2 calm.2 go)

pub ran_run : (laws : TieLaws) (run : List Entry) (n : ℕ) (message response : List ℕ) (ups : List up.Message) (s t : State) → Runs s run t → Rises (numbers s (inputs run ++ ups))
    → Ran n message response s.log → Ran n message response t.log
ran_run laws [] n message response ups s t goes rises ran = subst (λ (x : State). Ran n message response x.log) (sym goes) ran
ran_run laws (entry ∷ run) n message response ups s t goes rises ran =
    let same : ((taken entry.move ++ inputs run) ++ ups) ≡ (taken entry.move ++ (inputs run ++ ups)) = append_assoc (taken entry.move) (inputs run) ups in
    let rise = subst (λ (l : List up.Message). Rises (numbers s l)) same rises in
    ran_run laws run n message response ups goes.0 t goes.2 (laws.rises s goes.0 entry.move entry.puts (inputs run ++ ups) goes.1 rise)
    (ran_step laws n message response s goes.0 entry.move entry.puts (inputs run ++ ups) goes.1 rise ran)
