-- the one request of a remote ticket, and the act that is logged when it is answered (USB488 1.0, section 4.3.2)
use Rattle.std.specs.Prelude.{◌≡◌, ℕ, true, false, Some, List, [], ◌∷◌, ◌++◌}
use Rattle.usbip_wire.specs.declared.submit.SubmitHead.{SubmitHead}
use Rattle.usbip_wire.specs.Up as up
use Rattle.tmc_wire.specs.declared.class_request.ClassRequest.{ClassRequest}
use Rattle.tmc_wire.specs.declared.class_request.ClassRequest.TheVariants as request
use Rattle.tmc_wire.specs.ClassStatus.{STATUS_SUCCESS}
use Rattle.instr_plain.specs.declared.log.LogEntry.{LogEntry}
use Rattle.instr_plain.specs.declared.log.LogEntry.TheVariants.{Remote}
use Rattle.instr_plain.specs.declared.remote.RemoteAct.{RemoteAct}
use Rattle.instr_plain.specs.declared.remote.RemoteAct.TheVariants.{On, Off, GoLocal, Lockout}
use Rattle.tmc_law.specs.Endpoint.{Control}
use Rattle.tmc_law.specs.State.{State, arrived}
use Rattle.tmc_law.specs.Put.{Put, success}
use Rattle.host_joint.specs.Lines.{Sent, sent_to, Event, Gives, events_of}
use Rattle.host_joint.specs.Positions.{IsAt, rests}
use Rattle.host_joint.specs.Requests.{IsClass}
use Rattle.host_joint.specs.Tie.{asked_of}
use Rattle.host_joint.specs.Bond.{Bond}

abbrev pub request_of : RemoteAct → ClassRequest
request_of On = request.Ren true
request_of Off = request.Ren false
request_of GoLocal = request.GoLocal
request_of Lockout = request.Lockout

-- no act of a remote ticket is among these entries
abbrev pub NoAct : List LogEntry → Type 0
NoAct [] = Unit {0}
NoAct (Remote act ∷ entries) = ⊥
NoAct (_ ∷ entries) = NoAct entries

-- since the log was this, no act was logged
pub record NoneSince (since log : List LogEntry) : Type 0 where
  pub more : List LogEntry
  pub whole : log ≡ since ++ more
  pub none : NoAct more

-- since the log was this, exactly one act was logged, which is this one
pub record OneSince (act : RemoteAct) (since log : List LogEntry) : Type 0 where
  pub before : List LogEntry
  pub behind : List LogEntry
  pub whole : log ≡ since ++ (before ++ Remote act ∷ behind)
  pub none_before : NoAct before
  pub none_behind : NoAct behind

-- Where the request is: on its way or pending, and its act was not logged; or answered with SUCCESS, and it was. The device is at rest, though a
-- message of an earlier ticket may wait.
pub data ActAt (act : RemoteAct) (since : List LogEntry) (head : SubmitHead) (coming : List Sent) (events : List Event) (s : State) : Type 0 where
  ActComes : coming ≡ record { head = head; transferred = [] } ∷ [] → events ≡ [] → s.control ≡ [] → IsAt rests s → NoneSince since s.log → ActAt act since head coming events s
  ActPends : coming ≡ [] → events ≡ [] → s.control ≡ arrived head [] ∷ [] → IsAt rests s → NoneSince since s.log → ActAt act since head coming events s
  ActDone : coming ≡ [] → events ≡ Gives head (record { seqnum = head.seqnum; status = success; actual = 1 }) (STATUS_SUCCESS ∷ []) ∷ [] → s.control ≡ [] → IsAt rests s
      → OneSince act since s.log → ActAt act since head coming events s

-- A host whose remote ticket's request is not answered, and a lawful device; the log was this when the request was written.
pub record Operating (act : RemoteAct) (since : List LogEntry) (head : SubmitHead) (next : ℕ) (ups : List up.Message) (downs : List Put) (s : State) : Type 0 where
  pub asks : IsClass head (request_of act)
  pub bond : Bond (λ ups downs s. ActAt act since head (sent_to Control ups) (events_of Control downs) s) (asked_of (Some head)) [] next ups downs s
