use Rattle.std.proofs.Common.{List, ap}
use Rattle.usbip_wire.specs.Up as up
use Rattle.instr_plain.specs.Standing.{Standing}
use Rattle.tmc_law.specs.Endpoint.{BulkIn}
use Rattle.tmc_law.specs.State.{State}
use Rattle.tmc_law.specs.Put.{Put}
use Rattle.host_joint.specs.Lines.{sent_to, events_of}
use Rattle.host_joint.specs.Reads.{gives}
use Rattle.host_joint.specs.Asking.{Ask, Asking}
use Rattle.host_joint.specs.Owned.{Owned}
use Rattle.host_joint.proofs.Owning.{has_read, stage_owns, owned_same}
use Rattle.host_joint.proofs.owned.what_is_read_is_owned.Goals as goal

owns : (ask : Ask) (ups : List up.Message) (downs : List Put) (s : State) → Asking ask ups downs s → Owned ask s
owns ask ups downs s a =
    stage_owns ask.last ask.message ask.tag ask.size ask.written ask.answered ask.sofar ask.read ask.gone a.past a.todo a.flow s
    (has_read s.halted.bulk_in ask.gone a.flow ask.read (gives (events_of BulkIn downs)) (sent_to BulkIn ups) s.bulk_in a.ins) a.stage

pub returns-clause-in_hand : goal.returns-clause-in_hand
returns-clause-in_hand c = owns

pub returns-clause-unplugged : goal.returns-clause-unplugged
returns-clause-unplugged c ask ups downs s was =
    owned_same ask was.before s was.log (ap (λ (x : Standing). x.unread) was.standing) (owns ask ups was.front was.before was.asking)
