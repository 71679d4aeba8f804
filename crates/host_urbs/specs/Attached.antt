-- what was sent and taken where a device is attached, and which counts of the link rose
use Rattle.std.specs.Prelude.{◌≡◌, ℕ, pos, Some, List, ◌++◌, drop, Result, Ok, Err}
use Rattle.tmc_base.specs.Faults.{Rose}
use Rattle.tmc_base.specs.Link.{Counts}
use Rattle.tmc_base.specs.Told.{Told, Exchanged}
use Rattle.usb_setup.specs.Interface.{Finds}
use Rattle.usbip_wire.specs.declared.device.DeviceRecord.{DeviceRecord}
use Rattle.usbip_wire.specs.declared.ret_submit.RetSubmitHead.{RetSubmitHead}
use Rattle.usbip_wire.specs.declared.urb.TheConstants.{URB_HEADER}
use Rattle.usbip_wire.specs.ImportReply.{SpellsImport}
use Rattle.host_urbs.specs.declared.attached.AttachFault.{AttachFault}
use Rattle.host_urbs.specs.declared.attached.AttachFault.TheVariants as fault
use Rattle.host_urbs.specs.declared.attached.Attached.{Attached}
use Rattle.host_urbs.specs.Attach.{Describing, Configuring, IsAnswer, devid_of}

-- The bytes taken are an import's answer with status 0, whose record gives the devid; then the answer to submit 1 with
-- status 0, whose data has this interface; then the answer to submit 2 with status 0.
pub record IsAttached (attached : Attached) (taken : List ℕ) : Type 0 where
  pub device : DeviceRecord
  pub import : List ℕ
  pub descriptor : List ℕ
  pub configured : List ℕ
  pub first : RetSubmitHead
  pub second : RetSubmitHead
  pub layout : taken ≡ import ++ (descriptor ++ configured)
  pub imported : SpellsImport 0 (Some device) import
  pub devid : attached.devid ≡ devid_of device
  pub described : IsAnswer (Describing attached.devid) first descriptor
  pub first_status : first.status ≡ pos 0
  pub ends : Finds (drop URB_HEADER descriptor) attached.ends
  pub set : IsAnswer (Configuring attached.devid attached.ends) second configured
  pub second_status : second.status ≡ pos 0

-- some bytes went out, and these came in
abbrev pub Exchanges : Told → Told → (List ℕ → Type 0) → Type 0
Exchanges old new Is = (sent taken : List ℕ) × Exchanged sent taken old new × Is taken

-- the link's faults rose exactly where that is said, and likewise its closings
abbrev pub AttachCounts : Result Attached AttachFault → Counts → Counts → Type 0
AttachCounts (Ok attached) old new = (new.faults ≡ old.faults) × (new.closings ≡ old.closings)
AttachCounts (Err fault.LinkFault) old new = Rose old.faults new.faults × (new.closings ≡ old.closings)
AttachCounts (Err fault.Closed) old new = (new.faults ≡ old.faults) × Rose old.closings new.closings
AttachCounts (Err why) old new = (new.faults ≡ old.faults) × (new.closings ≡ old.closings)
