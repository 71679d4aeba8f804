-- which messages a client may write, and which answers may come
use Rattle.std.specs.Prelude.{◌≡◌, ℕ, ◌<◌, ◌≤◌, ◌==◌, ◌||◌, Bool, true, false, is_some, Some, None, List, [], ◌∷◌, length}
use Rattle.host_urbs.specs.declared.limits.TheConstants.{LAST_SUBMIT}
use Rattle.host_urbs.specs.Record.{Past, Wrote, Took, next, outstanding}
use Rattle.usbip_wire.specs.declared.dirs.TheConstants.{DIRS_MAX}
use Rattle.usbip_wire.specs.declared.submit.SubmitHead.{SubmitHead}
use Rattle.usbip_wire.specs.declared.unlink.UnlinkHead.{UnlinkHead}
use Rattle.usbip_wire.specs.Awaited.{Awaited, Submit, Unlink, entries_of}
use Rattle.usbip_wire.specs.Dirs.{find, submit_of, is_unlink}
use Rattle.usbip_wire.specs.Down as down
use Rattle.usbip_wire.specs.RetSubmit.{Asked, Returns}
use Rattle.usbip_wire.specs.Up as up

-- an unlink of the submit of this number is among these
abbrev pub is_named : ℕ → List Awaited → Bool
is_named n [] = false
is_named n (Submit seqnum dir size ∷ awaited) = is_named n awaited
is_named n (Unlink seqnum None ∷ awaited) = is_named n awaited
is_named n (Unlink seqnum (Some target) ∷ awaited) = (target == n) || is_named n awaited

-- a submit has the next number, which is one that a submit may have, and a free place
pub record MaySubmit (first : ℕ) (past : Past) (head : SubmitHead) : Type 0 where
  pub next : head.seqnum ≡ next first past
  pub last : head.seqnum ≤ LAST_SUBMIT
  pub place : length (outstanding past) < DIRS_MAX

-- an unlink has the next number and a free place; it names a submit that is outstanding, and no other unlink names it
pub record MayUnlink (first : ℕ) (past : Past) (head : UnlinkHead) : Type 0 where
  pub next : head.seqnum ≡ next first past
  pub place : length (outstanding past) < DIRS_MAX
  pub named : is_some (submit_of (find head.target (entries_of (outstanding past)))) ≡ true
  pub once : is_named head.target (outstanding past) ≡ false

abbrev pub MayWrite : (first : ℕ) → Past → up.Message → Type 0
MayWrite first past (up.Submit head transferred) = MaySubmit first past head
MayWrite first past (up.Unlink head) = MayUnlink first past head

-- An answer is to one outstanding message, of its kind. That to a submit brings no more than was asked for, and data
-- exactly where the submit was IN.
abbrev pub MayTake : Past → down.Message → Type 0
MayTake past (down.RetSubmit head transferred) =
    (asked : Asked) × (submit_of (find head.seqnum (entries_of (outstanding past))) ≡ Some (asked.dir, asked.size)) × (head.actual ≤ asked.size)
    × Returns asked.dir head.actual transferred
MayTake past (down.RetUnlink head) = is_unlink (find head.seqnum (entries_of (outstanding past))) ≡ true

-- each message might be written, and each answer might come, where it did
abbrev pub Lawful : (first : ℕ) → Past → Type 0
Lawful first [] = Unit {0}
Lawful first (Wrote message ∷ past) = Lawful first past × MayWrite first past message
Lawful first (Took answer ∷ past) = Lawful first past × MayTake past answer
