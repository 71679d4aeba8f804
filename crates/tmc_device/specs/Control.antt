-- what the first control submit asks for
use Rattle.std.specs.Prelude.{◌≡◌, ◌≢◌, ℕ, ◌+◌, true, List, [], ◌∷◌, ◌++◌}
use Rattle.usb_setup.specs.declared.setup.Setup.{Setup}
use Rattle.tmc_law.specs.State.{State, Pending}
use Rattle.tmc_law.specs.Control.{Asks, control_answer}
use Rattle.tmc_law.specs.Put.{Put}
use Rattle.tmc_law.specs.Endpoint.{ends}
use Rattle.tmc_wire.specs.ClassStatus.{STATUS_SUCCESS}
use Rattle.tmc_law.specs.Aborts.{Served}
use Rattle.tmc_law.specs.Status.{status_layout}
use Rattle.tmc_law.specs.Class.{Serves, Operates}
use Rattle.tmc_wire.specs.declared.class_request.ClassRequest.{ClassRequest}
use Rattle.tmc_wire.specs.declared.class_request.ClassRequest.TheVariants.{ReadStatus}
use Rattle.tmc_wire.specs.ControlTable.{IsRow}
use Rattle.instr_plain.specs.declared.remote.RemoteAct.{RemoteAct}
use Rattle.tmc_device.specs.declared.answer.Asked.{Asked}
use Rattle.tmc_device.specs.declared.body.Body.{Body}
use Rattle.tmc_device.specs.Body.{state_of, seen_of}
use Rattle.tmc_device.specs.Seen.{Seen}

-- this is the first control submit, and its setup
pub record IsAsked (s : State) (asked : Asked) : Type 0 where
  pub submit : Pending
  pub behind : List Pending
  pub first : s.control ≡ submit ∷ behind
  pub head : submit.head ≡ asked.head
  pub polled : submit.polled ≡ asked.polled
  pub asks : Asks submit asked.setup
  pub only : (setup : Setup) → Asks submit setup → asked.setup ≡ setup

-- the first control submit was answered by this, and the others are left
pub record IsReplied (behind : List Pending) (answer : Put) (old new : Body) : Type 0 where
  pub state : state_of new ≡ record (state_of old) { control = behind }
  pub puts : new.outputs.puts ≡ old.outputs.puts ++ answer ∷ []
  pub outputs : new.outputs.room + 1 ≡ old.outputs.room
  pub log : new.exchange.room ≡ old.exchange.room

-- the first control submit was served: answered by a layout, with what else the request puts out behind it
pub record IsServed (Serves : State → Served → Type 0) (submit : Pending) (behind : List Pending) (setup : Setup) (old new : Seen) : Type 0 where
  pub served : Served
  pub serves : Serves (record old.state { control = behind }) served
  pub joins : new.puts ≡ old.puts ++ control_answer submit setup served.layout ∷ served.behind
  pub is : new.state ≡ served.state

abbrev pub ServesFirst : ClassRequest → Asked → (old new : Body) → Type 0
ServesFirst request asked old new = (submit : Pending) (behind : List Pending) → (state_of old).control ≡ submit ∷ behind →
    IsServed (Serves request submit) submit behind asked.setup (seen_of old) (seen_of new)

abbrev pub OperatesFirst : RemoteAct → Asked → (old new : Body) → Type 0
OperatesFirst act asked old new = (submit : Pending) (behind : List Pending) → (state_of old).control ≡ submit ∷ behind →
    IsServed (Operates act) submit behind asked.setup (seen_of old) (seen_of new)

-- the first control submit has this number, and the status byte was polled for it
pub record IsPolledFirst (target : ℕ) (s : State) : Type 0 where
  pub submit : Pending
  pub behind : List Pending
  pub first : s.control ≡ submit ∷ behind
  pub polled : submit.polled ≡ true
  pub number : submit.head.seqnum ≡ target

-- that submit, if the status byte was polled for it, has another number
abbrev pub IsNotPolled : (target : ℕ) → Body → Type 0
IsNotPolled target body = (submit : Pending) (behind : List Pending) → body.polled ≡ true → body.pipes.control ≡ submit ∷ behind → submit.head.seqnum ≢ target

-- the first control submit, a status request that was polled, was answered
pub record AnswersPolled (submit : Pending) (behind : List Pending) (old new : Body) : Type 0 where
  pub setup : Setup
  pub tag : ℕ
  pub asks : Asks submit setup
  pub row : IsRow ends (ReadStatus tag) setup
  pub replied : IsReplied behind (control_answer submit setup (status_layout STATUS_SUCCESS tag)) old new
