-- what the parts of an attachment do: for the contracts of its own functions, no public one
use Rattle.std.specs.Prelude.{◌≡◌, ℕ, pos, ◌+◌, drop, false, true, Option, Some, None, List, [], ◌∷◌, ◌++◌, take, Result, Ok, Err}
use Rattle.tmc_base.specs.declared.link.SendStep.{SendStep}
use Rattle.tmc_base.specs.declared.link.PollStep.{PollStep}
use Rattle.tmc_base.specs.Link.{Counts}
use Rattle.tmc_base.specs.Told.{Told}
use Rattle.usbip_wire.specs.declared.down.DownPhase.{DownPhase}
use Rattle.usbip_wire.specs.declared.down.DownPhase.TheVariants.{Ops, Urbs}
use Rattle.usbip_wire.specs.DownFed.{Held}
use Rattle.usbip_wire.specs.ImportReply.{SpellsImport}
use Rattle.host_urbs.specs.declared.attached.AttachFault.{AttachFault}
use Rattle.host_urbs.specs.declared.replies.Import.{Import}
use Rattle.host_urbs.specs.declared.replies.Import.TheVariants as import
use Rattle.host_urbs.specs.declared.replies.Answer.{Answer}
use Rattle.host_urbs.specs.declared.replies.Answer.TheVariants as answer
use Rattle.usbip_wire.specs.declared.device.DeviceRecord.{DeviceRecord}
use Rattle.usb_setup.specs.declared.ends.Ends.{Ends}
use Rattle.usb_setup.specs.Interface.{Finds}
use Rattle.usbip_wire.specs.declared.ret_submit.RetSubmitHead.{RetSubmitHead}
use Rattle.usbip_wire.specs.declared.urb.TheConstants.{URB_HEADER}
use Rattle.host_urbs.specs.Attach.{At, Stage, Importing, Describing, Path, Stops, Undecided, IsBad, IsAnswer}

-- it went on to here, with so many calls left, or it stopped
abbrev pub Goes : {A X : Type 0} → (A → Told) → (A → Counts) → (A → List ℕ → SendStep → A → Type 0) → (A → ℕ → PollStep → List ℕ → A → Type 0)
    → (turns : ℕ) (busid : List ℕ) (s : At) (old : A) (left : ℕ) (new : A) → (X → At → Type 0) → Result X AttachFault → Type 0
Goes told counts sends polls turns busid s old left new Gives (Ok x) =
    (t : At) × Path told counts sends polls busid s old t new × (t.calls + left ≡ turns) × Gives x t
Goes told counts sends polls turns busid s old left new Gives (Err why) = Stops told counts sends polls turns busid s old why new

-- the request was sent
abbrev pub sent_whole : At → List ℕ → At → Type 0
sent_whole s request t = t ≡ record s { unsent = []; sent = s.sent ++ request; calls = t.calls }

-- one byte more was taken
abbrev pub took_byte : At → ℕ → At → Type 0
took_byte s byte t = t ≡ record s { rest = s.rest ++ byte ∷ []; taken = s.taken ++ byte ∷ []; calls = t.calls }

-- ---- what one more byte makes of an answer

-- a reader that holds these bytes, and no message
abbrev pub holding : DownPhase → List ℕ → Held
holding phase bytes = record { phase = phase; rest = bytes; whole = false; bad = None }

abbrev pub HearsImport : List ℕ → Import → Held → List ℕ → Type 0
HearsImport bytes import.More reader front = Undecided Importing bytes × (reader ≡ holding (Ops 0 0) bytes) × (front ≡ take 4 bytes)
HearsImport bytes (import.Device device) reader front = SpellsImport 0 (Some device) bytes
HearsImport bytes (import.NoDevice status) reader front = SpellsImport status None bytes
HearsImport bytes (import.Bad f) reader front = IsBad Importing bytes f

abbrev pub is_imported : ℕ → Option DeviceRecord → Import → Type 0
is_imported status (Some device) given = given ≡ import.Device device
is_imported status None given = given ≡ import.NoDevice status

abbrev pub HearsAnswer : Stage → List ℕ → Answer → Held → Type 0
HearsAnswer stage bytes answer.More reader = Undecided stage bytes × (reader ≡ holding Urbs bytes)
HearsAnswer stage bytes (answer.Whole head) reader = IsAnswer stage head bytes × (reader ≡ record { phase = Urbs; rest = bytes; whole = true; bad = None })
HearsAnswer stage bytes (answer.Bad f) reader = IsBad stage bytes f

-- the answer was taken whole
abbrev pub took_rest : At → At → Type 0
took_rest s t = t ≡ record s { rest = t.rest; taken = s.taken ++ t.rest; calls = t.calls }

-- ---- what the three exchanges give

-- the answer to an import was taken, with this device
abbrev pub IsImported : DeviceRecord → At → Type 0
IsImported device t = (t.stage ≡ Importing) × (t.unsent ≡ []) × SpellsImport 0 (Some device) t.rest

-- the answer to the stage's submit was taken, with status 0
abbrev pub IsGood : At → Type 0
IsGood t = (t.unsent ≡ []) × (head : RetSubmitHead) × IsAnswer t.stage head t.rest × (head.status ≡ pos 0)

abbrev pub IsDescribed : ℕ → Ends → At → Type 0
IsDescribed devid ends t = (t.stage ≡ Describing devid) × IsGood t × Finds (drop URB_HEADER t.rest) ends
