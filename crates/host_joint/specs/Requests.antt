-- the requests of a recovery: where each is, and what each of its answers leaves (USBTMC 1.0, sections 4.2.1.2 to 4.2.1.7)
use Rattle.std.specs.Prelude.{◌≡◌, ℕ, ◌≤◌, min, List, [], ◌∷◌, ◌++◌, length}
use Rattle.usbip_wire.specs.declared.submit.SubmitHead.{SubmitHead}
use Rattle.usbip_wire.specs.declared.urb.Dir.TheVariants.{In}
use Rattle.usbip_wire.specs.Up as up
use Rattle.usb_setup.specs.declared.setup.Setup.{Setup}
use Rattle.tmc_wire.specs.declared.class_request.ClassRequest.{ClassRequest}
use Rattle.tmc_wire.specs.ControlTable.{IsRow}
use Rattle.tmc_wire.specs.ClassAnswer.{answer_length}
use Rattle.tmc_wire.specs.ClassStatus.{STATUS_SUCCESS, STATUS_PENDING, STATUS_FAILED}
use Rattle.tmc_law.specs.Endpoint.{Endpoint, Control, BulkOut, BulkIn, ends, number_of}
use Rattle.tmc_law.specs.State.{State, arrived, start}
use Rattle.tmc_law.specs.Put.{Put, success}
use Rattle.tmc_law.specs.Control.{Asks}
use Rattle.tmc_law.specs.Standard.{IsStandard, ClearHalt}
use Rattle.tmc_law.specs.Aborts.{check_out_layout, check_in_layout}
use Rattle.tmc_law.specs.Step.{Move, Unplug, Steps}
use Rattle.tmc_law.specs.Run.{Entry, Runs, taken}
use Rattle.host_joint.specs.Lines.{Sent, sent_to, Event, Gives, events_of, unlinks_in, AllFitting}
use Rattle.host_joint.specs.Positions.{Position, IsAt, rests, in_wants, in_ended, out_unfinished, out_aborted, anything, clears, cleared}

-- one answer that a device may give, and the position that it leaves
pub record Choice : Type 1 where
  pub layout : List ℕ → Type 0
  pub position : Position

-- an answer is one of two, and the device is at the position that it leaves
pub data Says (one other : Choice) (layout : List ℕ) (s : State) : Type 0 where
  SaysOne : one.layout layout → IsAt one.position s → Says one other layout s
  SaysOther : other.layout layout → IsAt other.position s → Says one other layout s

-- Where a request of a recovery is: on its way or pending, with the device where the request finds it; or answered, with the
-- device where the answer leaves it.
pub data RequestAt (head : SubmitHead) (position : Position) (one other : Choice) (coming : List Sent) (events : List Event) (s : State) : Type 0 where
  Comes : coming ≡ record { head = head; transferred = [] } ∷ [] → events ≡ [] → s.control ≡ [] → IsAt position s → RequestAt head position one other coming events s
  Pends : coming ≡ [] → events ≡ [] → s.control ≡ arrived head [] ∷ [] → IsAt position s → RequestAt head position one other coming events s
  Answered : (layout : List ℕ) → coming ≡ [] → events ≡ Gives head (record { seqnum = head.seqnum; status = success; actual = length layout }) layout ∷ []
      → s.control ≡ [] → Says one other layout s → RequestAt head position one other coming events s

-- a control submit IN with the setup of this class request, and room for its answer
pub record IsClass (head : SubmitHead) (request : ClassRequest) : Type 0 where
  pub number : head.ep ≡ number_of Control
  pub way : head.dir ≡ In
  pub setup : Setup
  pub asks : Asks (arrived head []) setup
  pub row : IsRow ends request setup
  pub room : answer_length request ≤ min setup.length head.length

-- a control submit with the setup that ends this endpoint's halt
pub record IsClearHalt (head : SubmitHead) (e : Endpoint) : Type 0 where
  pub number : head.ep ≡ number_of Control
  pub setup : Setup
  pub asks : Asks (arrived head []) setup
  pub row : IsStandard (ClearHalt e) setup

-- ---- the answers of each request

-- of an abort of Bulk-IN: it is aborted, or no transfer was in progress
abbrev pub in_aborts : ℕ → Choice
in_aborts tag = record { layout = λ l. l ≡ STATUS_SUCCESS ∷ tag ∷ []; position = in_wants }

abbrev pub in_fails : Choice
in_fails = record { layout = λ l. l ≡ STATUS_FAILED ∷ 0 ∷ []; position = rests }

-- of its check: it is over, or not yet
abbrev pub in_checked : Choice
in_checked = record { layout = λ l. (given : ℕ) × (l ≡ check_in_layout STATUS_SUCCESS 0 given); position = rests }

abbrev pub in_pending : Choice
in_pending = record { layout = λ l. (given : ℕ) × (l ≡ check_in_layout STATUS_PENDING 0 given); position = in_ended }

-- of an abort of Bulk-OUT: it is aborted; or none was in progress, where an unfinished message may be there, or not
abbrev pub out_aborts : ℕ → Choice
out_aborts tag = record { layout = λ l. l ≡ STATUS_SUCCESS ∷ tag ∷ []; position = out_aborted }

abbrev pub out_fails : Choice
out_fails = record { layout = λ l. l ≡ STATUS_FAILED ∷ 0 ∷ []; position = out_unfinished }

abbrev pub out_rests : Choice
out_rests = record { layout = λ l. l ≡ STATUS_FAILED ∷ 0 ∷ []; position = rests }

-- of its check
abbrev pub out_checked : Choice
out_checked = record { layout = λ l. l ≡ check_out_layout STATUS_SUCCESS; position = rests }

abbrev pub out_pending : Choice
out_pending = record { layout = λ l. l ≡ check_out_layout STATUS_PENDING; position = out_aborted }

-- of a clear, which has one answer
abbrev pub begins_clear : Choice
begins_clear = record { layout = λ l. l ≡ STATUS_SUCCESS ∷ []; position = clears }

abbrev pub never : Choice
never = record { layout = λ l. ⊥; position = anything }

-- of its check
abbrev pub clear_checked : Choice
clear_checked = record { layout = λ l. l ≡ STATUS_SUCCESS ∷ 0 ∷ []; position = cleared }

abbrev pub clear_pending : Choice
clear_pending = record { layout = λ l. l ≡ STATUS_PENDING ∷ 0 ∷ []; position = clears }

-- of the end of a halt, behind an abort of Bulk-OUT and behind a clear
abbrev pub usable_again : Choice
usable_again = record { layout = λ l. l ≡ []; position = rests }

abbrev pub usable_cleared : Choice
usable_cleared = record { layout = λ l. l ≡ []; position = cleared }

-- ---- under each step

-- no submit is on its way to the bulk endpoints, and no unlink
pub record NoBulk (ups : List up.Message) : Type 0 where
  pub outs : sent_to BulkOut ups ≡ []
  pub ins : sent_to BulkIn ups ≡ []
  pub unlinks : unlinks_in ups ≡ []

-- the device is not unplugged
abbrev pub IsPlugged : Move → Type 0
IsPlugged Unplug = ⊥
IsPlugged _ = Unit {0}

-- a class request, with the position that it finds and those that its answers leave, stays one under each step of a device that
-- is not unplugged
abbrev pub RequestStays : ClassRequest → Position → Choice → Choice → Type 0
RequestStays request position one other =
    (run : List Entry) (head : SubmitHead) (ups : List up.Message) (downs puts : List Put) (s t : State) (move : Move)
    → Runs start run s → IsClass head request → NoBulk (taken move ++ ups) → AllFitting (taken move ++ ups) → IsPlugged move → Steps s move puts t
    → RequestAt head position one other (sent_to Control (taken move ++ ups)) (events_of Control downs) s
    → RequestAt head position one other (sent_to Control ups) (events_of Control (downs ++ puts)) t

-- the same of the end of a halt
abbrev pub ClearHaltStays : Endpoint → Position → Choice → Choice → Type 0
ClearHaltStays e position one other =
    (run : List Entry) (head : SubmitHead) (ups : List up.Message) (downs puts : List Put) (s t : State) (move : Move)
    → Runs start run s → IsClearHalt head e → NoBulk (taken move ++ ups) → AllFitting (taken move ++ ups) → IsPlugged move → Steps s move puts t
    → RequestAt head position one other (sent_to Control (taken move ++ ups)) (events_of Control downs) s
    → RequestAt head position one other (sent_to Control ups) (events_of Control (downs ++ puts)) t
