use Rattle.std.proofs.Common.{ℕ, List, ap, subst, ◌≡◌, [], length}
use Rattle.usbip_wire.specs.Up as up
use Rattle.tmc_law.specs.Endpoint.{BulkOut}
use Rattle.tmc_law.specs.State.{State}
use Rattle.tmc_law.specs.Put.{Put}
use Rattle.host_joint.specs.Lines.{Event, events_of}
use Rattle.host_joint.specs.Jobs.{Job}
use Rattle.host_joint.specs.Reads.{gives}
use Rattle.host_joint.specs.Asking.{Ask, Asking, AllTaken}
use Rattle.host_joint.proofs.Handing.{hands_in, hands_out, hands_none, hands_first, hands_message, hands_request}
use Rattle.host_joint.proofs.recovery.asks_hand_over.Goals as goal

-- the same ask, where what was written and answered is known
known : (ask : Ask) (written : List Job) (answered : ℕ) (ups : List up.Message) (downs : List Put) (s : State) → ask.written ≡ written → ask.answered ≡ answered → Asking ask ups downs s
    → Asking (record ask { written = written; answered = answered }) ups downs s
known ask written answered ups downs s whole all asking =
    subst (λ (l : List Job). Asking (record ask { written = l; answered = answered }) ups downs s) whole (subst (λ (n : ℕ). Asking (record ask { answered = n }) ups downs s) all asking)

-- no good answer is on its way
none_came : (ask : Ask) (ups : List up.Message) (downs : List Put) (s : State) (a : Asking ask ups downs s) → events_of BulkOut downs ≡ [] → a.came ≡ 0
none_came ask ups downs s a none = subst (λ (l : List Event). AllTaken s.halted.bulk_out a.came l) none a.taken

pub returns-clause-to_in : goal.returns-clause-to_in
returns-clause-to_in c ask front request ups downs s header whole all out ins asking =
    hands_in ask.last ask.message ask.tag ask.size front request ask.sofar ask.read ask.gone ups downs s header
    (subst (λ (l : List Job). Asking (record ask { written = l; answered = length l }) ups downs s) whole (subst (λ (n : ℕ). Asking (record ask { answered = n }) ups downs s) all asking))
    out.queue ins.queue (ap gives ins.events)

pub returns-clause-to_out : goal.returns-clause-to_out
returns-clause-to_out c ask front job ups downs s unasked whole all out ins asking =
    let a = known ask _ _ ups downs s whole all asking in
    hands_out ask.last ask.message ask.tag ask.size front job ask.sofar ask.read ask.gone ups downs s unasked a (none_came _ ups downs s a out.events) out.queue ins.queue out.sent

pub returns-clause-to_first : goal.returns-clause-to_first
returns-clause-to_first c ask job ups downs s whole all out ins asking =
    let a = known ask _ _ ups downs s whole all asking in
    hands_first ask.last ask.message ask.tag ask.size job ask.sofar ask.read ask.gone ups downs s a (none_came _ ups downs s a out.events) out.queue ins.queue out.sent

pub returns-clause-to_request : goal.returns-clause-to_request
returns-clause-to_request c ask front job ups downs s final whole all out ins asking =
    let a = known ask _ _ ups downs s whole all asking in
    hands_request ask.last ask.message ask.tag ask.size front job ask.sofar ask.read ask.gone ups downs s final a (none_came _ ups downs s a out.events) out.queue ins.queue out.sent

pub returns-clause-to_message : goal.returns-clause-to_message
returns-clause-to_message c ask ups downs s final all out ins asking =
    hands_message ask.last ask.message ask.tag ask.size ask.written ask.sofar ask.read ask.gone ups downs s
    (subst (λ (n : ℕ). Asking (record ask { answered = n }) ups downs s) all asking) final out.queue ins.queue

pub returns-clause-to_piece : goal.returns-clause-to_piece
returns-clause-to_piece c ask ups downs s whole all some out ins asking =
    hands_none ask.last ask.message ask.tag ask.size ask.sofar ask.read ask.gone ups downs s (known ask _ _ ups downs s whole all asking) some out.queue ins.queue

pub returns-clause-to_clear : goal.returns-clause-to_clear
returns-clause-to_clear c ups downs s out ins = record { bulk_out = out.queue; bulk_in = ins.queue; running = tt; side = tt; out = tt; waits = tt; shut = tt }
