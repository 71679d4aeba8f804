use Rattle.std.proofs.Common.{ℕ, List, subst, ◌≡◌, []}
use Rattle.usbip_wire.specs.Up as up
use Rattle.tmc_law.specs.Endpoint.{BulkOut}
use Rattle.tmc_law.specs.State.{State}
use Rattle.tmc_law.specs.Put.{Put}
use Rattle.host_joint.specs.Lines.{Event, events_of}
use Rattle.host_joint.specs.Jobs.{Job}
use Rattle.host_joint.specs.Asking.{Ask, Asking, AllTaken}
use Rattle.host_joint.proofs.Handing.{hands_ahead, hands_none_taken}
use Rattle.host_joint.proofs.turns.asks_ahead_hand_over.Goals as goal

-- the same ask, where what was written and answered is known
known : (ask : Ask) (written : List Job) (answered : ℕ) (ups : List up.Message) (downs : List Put) (s : State) → ask.written ≡ written → ask.answered ≡ answered → Asking ask ups downs s
    → Asking (record ask { written = written; answered = answered }) ups downs s
known ask written answered ups downs s whole all asking =
    subst (λ (l : List Job). Asking (record ask { written = l; answered = answered }) ups downs s) whole (subst (λ (n : ℕ). Asking (record ask { answered = n }) ups downs s) all asking)

-- no good answer is on its way
none_came : (ask : Ask) (ups : List up.Message) (downs : List Put) (s : State) (a : Asking ask ups downs s) → events_of BulkOut downs ≡ [] → a.came ≡ 0
none_came ask ups downs s a none = subst (λ (l : List Event). AllTaken s.halted.bulk_out a.came l) none a.taken

pub returns-clause-to_out : goal.returns-clause-to_out
returns-clause-to_out c ask front job more ups downs s unasked whole all out ins asking =
    let a = known ask _ _ ups downs s whole all asking in
    hands_ahead ask.last ask.message ask.tag ask.size front job more ask.sofar ask.read ask.gone ups downs s unasked a (none_came _ ups downs s a out.events) out.queue ins.queue

pub returns-clause-to_first : goal.returns-clause-to_first
returns-clause-to_first c ask job more ups downs s whole all out ins asking =
    let a = known ask _ _ ups downs s whole all asking in
    hands_none_taken ask.last ask.message ask.tag ask.size job more ask.sofar ask.read ask.gone ups downs s a (none_came _ ups downs s a out.events) out.queue ins.queue
