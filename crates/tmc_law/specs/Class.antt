-- the class requests, and the first control submit (USBTMC 1.0, section 4.2.1; USB488 1.0, section 4.3)
use Rattle.std.specs.Prelude.{◌≡◌, ℕ, true, false, List, [], ◌∷◌, ◌++◌, replicate}
use Rattle.usb_setup.specs.declared.setup.Setup.{Setup}
use Rattle.tmc_wire.specs.declared.class_request.ClassRequest.{ClassRequest}
use Rattle.tmc_wire.specs.declared.class_request.ClassRequest.TheVariants.{AbortOut, CheckOut, AbortIn, CheckIn, Clear, CheckClear, Capabilities, Pulse, ReadStatus, Ren, GoLocal, Lockout}
use Rattle.tmc_wire.specs.ControlTable.{IsRow}
use Rattle.tmc_wire.specs.ClassStatus.{STATUS_SUCCESS, STATUS_PENDING}
use Rattle.instr_plain.specs.declared.remote.RemoteAct.{RemoteAct}
use Rattle.instr_plain.specs.declared.remote.RemoteAct.TheVariants as act
use Rattle.instr_plain.specs.declared.log.LogEntry.TheVariants as entry
use Rattle.tmc_law.specs.Endpoint.{ends}
use Rattle.tmc_law.specs.State.{State, Pending, Running, AbortsOut, AbortsIn, Clears}
use Rattle.tmc_law.specs.Put.{Put, answer_of, stalled}
use Rattle.tmc_law.specs.Logging.{Logs, is_queued}
use Rattle.tmc_law.specs.Control.{Asks, control_answer}
use Rattle.tmc_law.specs.Standard.{Standard, IsStandard, standard_layout, standard_effect}
use Rattle.tmc_law.specs.Aborts.{Served, AbortsBulkOut, AbortsBulkIn, ClearsAll, checked_out, checked_in, checked_clear, check_out_layout, check_in_layout}
use Rattle.tmc_law.specs.Status.{ReadsStatus, Polls, IsStatusTag, is_status}

-- GET_CAPABILITIES (USBTMC 1.0, table 37; USB488 1.0, table 8): bcdUSBTMC 1.00, an indicator pulse, neither talk-only nor
-- listen-only, no TermChar; bcdUSB488 1.00, TRIGGER, remote and local requests, a 488.2 interface, DT1, RL1 and SR1
abbrev pub capabilities_layout : List ℕ
capabilities_layout =
    STATUS_SUCCESS ∷ 0x00 ∷ 0x00 ∷ 0x01 ∷ 0x04 ∷ 0x00 ∷ [] ++ (replicate 6 0 ++ (0x00 ∷ 0x01 ∷ 0x07 ∷ 0x07 ∷ [] ++ replicate 8 0))

-- who may operate the instrument changes
pub data Operates (act : RemoteAct) (s : State) (served : Served) : Type 0 where
  DoesOperate : (t : State) → Logs (entry.Remote act) s t
      → served ≡ record { layout = STATUS_SUCCESS ∷ []; behind = []; state = t } → Operates act s served

-- what each class request does
abbrev pub Serves : ClassRequest → Pending → State → Served → Type 0
Serves (AbortOut tag) submit s served = AbortsBulkOut tag s served
Serves CheckOut submit s served = served ≡ checked_out s
Serves (AbortIn tag) submit s served = AbortsBulkIn tag s served
Serves CheckIn submit s served = served ≡ checked_in s
Serves Clear submit s served = ClearsAll s served
Serves CheckClear submit s served = served ≡ checked_clear s
Serves Capabilities submit s served = served ≡ record { layout = capabilities_layout; behind = []; state = s }
Serves Pulse submit s served = served ≡ record { layout = STATUS_SUCCESS ∷ []; behind = []; state = s }
Serves (ReadStatus tag) submit s served = ReadsStatus tag submit s served
Serves (Ren true) submit s served = Operates act.On s served
Serves (Ren false) submit s served = Operates act.Off s served
Serves GoLocal submit s served = Operates act.GoLocal s served
Serves Lockout submit s served = Operates act.Lockout s served

-- the setup is no row of the tables
pub record IsUnknown (setup : Setup) : Type 0 where
  pub no_class : (request : ClassRequest) → IsRow ends request setup → ⊥
  pub no_standard : (request : Standard) → IsStandard request setup → ⊥

-- The first control submit is answered, and what else its request answers comes behind it.
pub data Answers (s : State) (puts : List Put) (t : State) : Type 0 where
  ByClass : (submit : Pending) (behind : List Pending) (setup : Setup) (request : ClassRequest) (served : Served)
      → s.control ≡ submit ∷ behind → Asks submit setup → IsRow ends request setup
      → Serves request submit (record s { control = behind }) served
      → puts ≡ control_answer submit setup served.layout ∷ served.behind → t ≡ served.state → Answers s puts t
  ByStandard : (submit : Pending) (behind : List Pending) (setup : Setup) (request : Standard)
      → s.control ≡ submit ∷ behind → Asks submit setup → IsStandard request setup
      → puts ≡ control_answer submit setup (standard_layout request s) ∷ []
      → t ≡ standard_effect request (record s { control = behind }) → Answers s puts t
  -- a request that the device does not know stalls; the control endpoint stays usable (USB 2.0, section 9.2.7)
  Unknown : (submit : Pending) (behind : List Pending) (setup : Setup)
      → s.control ≡ submit ∷ behind → Asks submit setup → IsUnknown setup
      → puts ≡ answer_of submit.head stalled [] ∷ [] → t ≡ record s { control = behind } → Answers s puts t

-- this request is a check of what runs, and this is the layout of its PENDING
abbrev pub StaysPending : Running → ClassRequest → (layout : List ℕ) → Type 0
StaysPending AbortsOut CheckOut layout = layout ≡ check_out_layout STATUS_PENDING
StaysPending (AbortsIn true given) CheckIn layout = layout ≡ check_in_layout STATUS_PENDING 1 given
StaysPending (AbortsIn false given) CheckIn layout = layout ≡ check_in_layout STATUS_PENDING 0 given
StaysPending Clears CheckClear layout = layout ≡ STATUS_PENDING ∷ 0 ∷ []
StaysPending _ _ layout = ⊥

-- the first control submit, a check of the running abort or clear, is answered with PENDING
pub data Postpones (s : State) (puts : List Put) (t : State) : Type 0 where
  DoesPostpone : (submit : Pending) (behind : List Pending) (setup : Setup) (request : ClassRequest) (layout : List ℕ)
      → s.control ≡ submit ∷ behind → Asks submit setup → IsRow ends request setup → StaysPending s.running request layout
      → puts ≡ control_answer submit setup layout ∷ [] → t ≡ record s { control = behind } → Postpones s puts t

-- the status byte is polled for the first control submit, READ_STATUS_BYTE, which is answered later
pub data PollsFirst (s t : State) : Type 0 where
  DoesPollFirst : (submit : Pending) (behind : List Pending) (setup : Setup) (tag : ℕ)
      → s.control ≡ submit ∷ behind → Asks submit setup → IsRow ends (ReadStatus tag) setup → IsStatusTag tag
      → submit.polled ≡ false → is_queued is_status s.packets ≡ false
      → Polls submit.head.seqnum tag (record s { control = record submit { polled = true } ∷ behind }) t → PollsFirst s t
