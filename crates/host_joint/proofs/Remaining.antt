-- what is unread behind the pieces that were read
use Rattle.std.proofs.Common.{◌≡◌, ◌≢◌, ◌∙◌, ℕ, List, [], ◌∷◌, ◌++◌, Some, None, refl, ap, sym, subst, append_assoc}
use Rattle.std.proofs.lemmas.List.{append_cancel_left}
use Rattle.usbip_wire.specs.Up as up
use Rattle.tmc_wire.specs.declared.header.OutHeader.{OutHeader}
use Rattle.tmc_law.specs.State.{State}
use Rattle.tmc_law.specs.Put.{Put}
use Rattle.tmc_law.specs.Logging.{unread}
use Rattle.tmc_law.specs.LogStep.{MayLog, Adds}
use Rattle.tmc_law.specs.Numbers.{Rises, numbers}
use Rattle.tmc_law.specs.Step.{Move, Steps}
use Rattle.tmc_law.specs.Run.{Entry, Runs, taken, inputs}
use Rattle.host_joint.specs.Jobs.{Job, last_header}
use Rattle.host_joint.specs.Reads.{Flow}
use Rattle.host_joint.specs.Stage.{Ran, Stage, Follows, Gathers, Waits, Rests, Owes, Sends, Sent, Tears, Barred, Dropped}
use Rattle.host_joint.specs.Asking.{Ask, Asking}
use Rattle.host_joint.specs.Owned.{HasMore}
use Rattle.host_joint.proofs.Numbered.{ran_waits_not, ran_keeps}
use Rattle.host_joint.proofs.Tying.{OneResponse, one_ran}

-- what this asks of the laws
pub record RanLaws : Type 0 where
  pub rises : (s t : State) (move : Move) (puts : List Put) (messages : List up.Message) → Steps s move puts t → Rises (numbers s (taken move ++ messages)) → Rises (numbers t messages)
  pub logs : (s t : State) (move : Move) (puts : List Put) → Steps s move puts t → Adds (MayLog s move) s t
  pub one_response : OneResponse

-- where all that was written was taken, or nothing was written, the instrument rests behind the pieces
record Resting (last : ℕ) (message sofar : List ℕ) (s : State) : Type 0 where
  pub response : List ℕ
  pub ran : Ran last message response s.log
  pub all : response ≡ sofar ++ unread s

no_header : {B : Type 0} (past : List Job) (header : OutHeader) → past ≡ [] → last_header past ≡ Some header → B
no_header past header none is = let e : None ≡ Some header = sym (ap last_header none) ∙ is in absurd (cc)

rests_behind : (last : ℕ) (message : List ℕ) (tag size : ℕ) (past todo : List Job) (sofar : List ℕ) (flow : Flow) (s : State) → past ≡ [] → sofar ≢ [] → Stage last message tag size past todo sofar flow s → Resting last message sofar s
rests_behind last message tag size past todo sofar flow s none some (Follows seq earlier waits differ part side never unread_yet still carries inner) = absurd (some unread_yet)
rests_behind last message tag size past todo sofar flow s none some (Gathers done rest whole waits part side never unread_yet still carries inner own_data) = absurd (some unread_yet)
rests_behind last message tag size past todo sofar flow s none some (Waits waits part side never unread_yet still asks ended) = absurd (some unread_yet)
rests_behind last message tag size past todo sofar flow s none some (Rests response waits part side ran all still asks unasked further) = record { response = response; ran = ran; all = all }
rests_behind last message tag size past todo sofar flow s none some (Owes response waits part side ran all still over header further) = no_header past _ none header
rests_behind last message tag size past todo sofar flow s none some (Sends response carried bytes piece waits part side ran all giving size_is text over tag_is header) = no_header past _ none header
rests_behind last message tag size past todo sofar flow s none some (Sent response carried bytes waits part side ran all giving size_is text over header) = no_header past _ none header
rests_behind last message tag size past todo sofar flow s none some (Tears response carried bytes dropped waits part side ran all giving size_is text over header) = no_header past _ none header
rests_behind last message tag size past todo sofar flow s none some (Barred shuts waits part side never unread_yet still over inner) = absurd (some unread_yet)
rests_behind last message tag size past todo sofar flow s none some (Dropped response shuts waits part side ran all still over header) = no_header past _ none header

front_none : (a b : List Job) → [] ≡ a ++ b → a ≡ []
front_none [] b e = refl
front_none (x ∷ a) b e = absurd (cc)

resting : (ask : Ask) (ups : List up.Message) (downs : List Put) (s : State) → ask.written ≡ [] → ask.sofar ≢ [] → Asking ask ups downs s → Resting ask.last ask.message ask.sofar s
resting ask ups downs s none some a =
    rests_behind ask.last ask.message ask.tag ask.size a.past a.todo ask.sofar a.flow s (front_none a.past (a.todo ++ a.hit) (sym none ∙ a.whole)) some a.stage

pub ran_on : (laws : RanLaws) (n : ℕ) (message response : List ℕ) (s t : State) (move : Move) (puts : List Put) (ups : List up.Message) → Steps s move puts t → Rises (numbers s (taken move ++ ups)) → Ran n message response s.log → Ran n message response t.log
ran_on laws n message response s t move puts ups step rises ran = ran_keeps n message response s t move (ran_waits_not n message response (taken move ++ ups) s rises ran) (laws.logs s t move puts step) ran

-- the response is the same, so what is unread is
pub more_stays : (laws : RanLaws) (ask : Ask) (ups : List up.Message) (downs : List Put) (s t : State) → ask.written ≡ [] → ask.sofar ≢ []
    → ((response : List ℕ) → Ran ask.last ask.message response s.log → Ran ask.last ask.message response t.log)
    → Asking ask ups downs t → HasMore ask s → HasMore ask t × (unread t ≡ unread s)
more_stays laws ask ups downs s t none some keeps later more =
    let behind = resting ask ups downs t none some later in
    let ran = keeps more.response more.ran in
    let same = one_ran laws.one_response ask.last ask.message ask.message behind.response more.response t.log behind.ran ran in
    let kept : unread t ≡ unread s = append_cancel_left ask.sofar (unread t) (unread s) (sym behind.all ∙ same ∙ more.all) in
    (record { response = behind.response; ran = behind.ran; all = behind.all; more = λ e. more.more (sym kept ∙ e) }, kept)

pub ran_over : (laws : RanLaws) (run : List Entry) (n : ℕ) (message response : List ℕ) (ups : List up.Message) (s t : State) → Runs s run t → Rises (numbers s (inputs run ++ ups)) → Ran n message response s.log → Ran n message response t.log
ran_over laws [] n message response ups s t goes rises ran = subst (λ (x : State). Ran n message response x.log) (sym goes) ran
ran_over laws (entry ∷ run) n message response ups s t goes rises ran =
    let here = subst (λ (l : List up.Message). Rises (numbers s l)) (append_assoc (taken entry.move) (inputs run) ups) rises in
    ran_over laws run n message response ups goes.0 t goes.2 (laws.rises s goes.0 entry.move entry.puts (inputs run ++ ups) goes.1 here)
    (ran_on laws n message response s goes.0 entry.move entry.puts (inputs run ++ ups) goes.1 here ran)
