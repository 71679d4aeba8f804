-- answers by what is outstanding: each is to one of the messages that were sent, and takes out what it answers (Linux
-- kernel documentation, "USB/IP protocol": USBIP_RET_SUBMIT, USBIP_RET_UNLINK)
use Rattle.std.specs.Prelude.{◌≡◌, ℕ, ◌==◌, Option, Some, None, List, [], ◌∷◌, ◌++◌, if◌then◌else◌}
use Rattle.usbip_wire.specs.declared.dirs.Outstanding.{Outstanding}
use Rattle.usbip_wire.specs.declared.dirs.Outstanding.TheVariants as outstanding
use Rattle.usbip_wire.specs.declared.urb.Dir.{Dir}
use Rattle.usbip_wire.specs.Down.{Message, RetSubmit, RetUnlink, SpellsAnswer}
use Rattle.usbip_wire.specs.Dirs.{others}
use Rattle.usbip_wire.specs.Stream.{NoneWhole}
use Rattle.usbip_wire.specs.Up as up

-- what is outstanding: a submit, or an unlink with the submit that it names, where that is known
pub data Awaited : Type 0 where
  Submit : (seqnum : ℕ) (dir : Dir) (size : ℕ) → Awaited
  Unlink : (seqnum : ℕ) (target : Option ℕ) → Awaited

-- what a reader has to know of it
abbrev pub entry_of : Awaited → Outstanding
entry_of (Submit seqnum dir size) = outstanding.Submit seqnum dir size
entry_of (Unlink seqnum target) = outstanding.Unlink seqnum

abbrev pub entries_of : List Awaited → List Outstanding
entries_of [] = []
entries_of (one ∷ awaited) = entry_of one ∷ entries_of awaited

-- ---- what is sent

abbrev pub sent_by : up.Message → Awaited
sent_by (up.Submit head transferred) = Submit head.seqnum head.dir head.length
sent_by (up.Unlink head) = Unlink head.seqnum (Some head.target)

-- what is outstanding when these messages were sent, in the order in which they were
abbrev pub sent : List Awaited → List up.Message → List Awaited
sent awaited [] = awaited
sent awaited (message ∷ messages) = sent (awaited ++ sent_by message ∷ []) messages

-- ---- what is answered

abbrev pub number_of : Awaited → ℕ
number_of (Submit seqnum dir size) = seqnum
number_of (Unlink seqnum target) = seqnum

-- those of other numbers
abbrev pub without : ℕ → List Awaited → List Awaited
without seqnum [] = []
without seqnum (one ∷ awaited) = if number_of one == seqnum then without seqnum awaited else one ∷ without seqnum awaited

-- what was sent before this number
abbrev pub before : ℕ → List Awaited → List Awaited
before seqnum [] = []
before seqnum (one ∷ awaited) = if number_of one == seqnum then [] else one ∷ before seqnum awaited

-- what was sent with this number, and later
abbrev pub from : ℕ → List Awaited → List Awaited
from seqnum [] = []
from seqnum (one ∷ awaited) = if number_of one == seqnum then one ∷ awaited else from seqnum awaited

-- less the submit that the first of these names, if it is an unlink
abbrev pub without_target : List Awaited → List Awaited → List Awaited
without_target (Unlink seqnum (Some target) ∷ later) awaited = without target awaited
without_target later awaited = awaited

-- The answer to a submit takes that submit out. The answer to an unlink takes out the unlink, and the submit that it
-- named when it was made: that was sent before it, so one that was sent later with the same number stays.
abbrev pub left_by : List Awaited → Message → List Awaited
left_by awaited (RetSubmit head transferred) = without head.seqnum awaited
left_by awaited (RetUnlink head) = without_target (from head.seqnum awaited) (before head.seqnum awaited) ++ without head.seqnum (from head.seqnum awaited)

-- what is outstanding behind these answers
abbrev pub left : List Awaited → List Message → List Awaited
left awaited [] = awaited
left awaited (message ∷ messages) = left (left_by awaited message) messages

-- these bytes are these answers in a row, each to what the one before it left outstanding
abbrev pub SpellsAnswers : List Awaited → List Message → List ℕ → Type 0
SpellsAnswers awaited [] bytes = bytes ≡ []
SpellsAnswers awaited (message ∷ messages) bytes =
    (front : List ℕ) × (rest : List ℕ) × (bytes ≡ front ++ rest) × SpellsAnswer (entries_of awaited) message front
    × SpellsAnswers (left_by awaited message) messages rest

-- The same, and then this rest. No front of the rest is an answer to what is outstanding then.
pub record ReadsAnswers (awaited : List Awaited) (bytes : List ℕ) (messages : List Message) (rest : List ℕ) : Type 0 where
  pub front : List ℕ
  pub holds : bytes ≡ front ++ rest
  pub spelled : SpellsAnswers awaited messages front
  pub none_whole : NoneWhole (SpellsAnswer (entries_of (left awaited messages))) rest

-- ---- a list that names no targets

-- what a list of entries alone keeps: all but what is answered
abbrev pub entries_left : List Outstanding → Message → List Outstanding
entries_left entries (RetSubmit head transferred) = others head.seqnum entries
entries_left entries (RetUnlink head) = others head.seqnum entries

-- no target of these is known
abbrev pub NameNone : List Awaited → Type 0
NameNone [] = Unit {0}
NameNone (Submit seqnum dir size ∷ awaited) = NameNone awaited
NameNone (Unlink seqnum target ∷ awaited) = (target ≡ None) × NameNone awaited
