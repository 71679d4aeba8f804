-- what a host is given: pieces that suit their request, and answers that suit their submits (USBTMC 1.0, section 3.3)
use Rattle.std.specs.Prelude.{◌≡◌, ◌⊎◌, ℕ, ◌<◌, Bool, List, ◌++◌, length}
use Rattle.usbip_wire.specs.declared.submit.SubmitHead.{SubmitHead}
use Rattle.usbip_wire.specs.declared.unlink.UnlinkHead.{UnlinkHead}
use Rattle.usbip_wire.specs.declared.ret_submit.RetSubmitHead.{RetSubmitHead}
use Rattle.usbip_wire.specs.declared.ret_unlink.RetUnlinkHead.{RetUnlinkHead}
use Rattle.tmc_law.specs.Put.{Put, Submitted, Unlinked, success, stalled, unlinked, unplugged}
use Rattle.tmc_law.specs.AnswerFits.{FitsSubmit, FitsUnlink}
use Rattle.host_joint.specs.Lines.{Fitting}
use Rattle.host_joint.specs.Reads.{read_size}
use Rattle.host_joint.specs.Asking.{Ask}
use Rattle.host_joint.specs.Pieces.{IsPiece, BeginsPiece}

-- A read with status 0 brings bytes of the piece in hand, of which the host has read the first. They begin with a header of the tag that was
-- requested and of at most the size, and with this one the piece is over or it is not.
pub data BringsPiece (ask : Ask) (answer : RetSubmitHead) (transferred : List ℕ) : Type 0 where
  -- the read is full, and the piece goes on
  BringsMore : answer.actual ≡ length transferred → length transferred ≡ read_size → BeginsPiece ask.tag ask.size (ask.read ++ transferred)
      → BringsPiece ask answer transferred
  -- the read is short, and with it the piece is whole
  BringsEnd : (eom : Bool) (carried : List ℕ) → answer.actual ≡ length transferred → length transferred < read_size
      → IsPiece ask.tag ask.size eom carried (ask.read ++ transferred) → BringsPiece ask answer transferred

-- An answer suits the submit that it answers, which is one to an endpoint of the instrument: it has its number, at most the bytes that were
-- asked for, and data exactly where it was IN; and it says that the submit was done, that its endpoint halted, or that the device was unplugged.
pub record SuitsSubmit (asked : SubmitHead) (answer : RetSubmitHead) (transferred : List ℕ) : Type 0 where
  pub fitting : Fitting asked
  pub fits : FitsSubmit asked answer transferred
  pub status : (answer.status ≡ success) ⊎ ((answer.status ≡ stalled) ⊎ (answer.status ≡ unplugged))

-- the same of the answer to an unlink: it has its number, and says that it missed or that it hit
pub record SuitsUnlink (asked : UnlinkHead) (answer : RetUnlinkHead) : Type 0 where
  pub fits : FitsUnlink asked answer
  pub status : (answer.status ≡ success) ⊎ (answer.status ≡ unlinked)

abbrev pub Suits : Put → Type 0
Suits (Submitted asked answer transferred) = SuitsSubmit asked answer transferred
Suits (Unlinked asked answer) = SuitsUnlink asked answer
