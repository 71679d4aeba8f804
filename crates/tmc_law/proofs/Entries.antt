-- what is outstanding as a reader's list has it, without the targets of unlinks
use Rattle.std.specs.Prelude.{ℕ, List, [], ◌∷◌, ◌++◌}
use Rattle.usbip_wire.specs.declared.dirs.Outstanding.{Outstanding}
use Rattle.usbip_wire.specs.declared.dirs.Outstanding.TheVariants as outstanding
use Rattle.usbip_wire.specs.Dirs.{others}
use Rattle.usbip_wire.specs.Down as down
use Rattle.usbip_wire.specs.Up as up
use Rattle.tmc_law.specs.Put.{Put, Submitted, Unlinked}
use Rattle.tmc_law.specs.Laws.{message_of}

-- what is outstanding when a message was sent
abbrev pub entry_of : up.Message → Outstanding
entry_of (up.Submit head transferred) = outstanding.Submit head.seqnum head.dir head.length
entry_of (up.Unlink head) = outstanding.Unlink head.seqnum

abbrev pub with_messages : List Outstanding → List up.Message → List Outstanding
with_messages entries [] = entries
with_messages entries (message ∷ messages) = with_messages (entries ++ entry_of message ∷ []) messages

-- what an answer leaves outstanding: not what it answers, and behind the answer to an unlink not the submit that was to
-- be unlinked
abbrev pub left_by : List Outstanding → Put → List Outstanding
left_by entries (Submitted asked answer transferred) = others answer.seqnum entries
left_by entries (Unlinked asked answer) = others asked.target (others answer.seqnum entries)

-- what is outstanding behind answers
abbrev pub without_answered : List Outstanding → List Put → List Outstanding
without_answered entries [] = entries
without_answered entries (put ∷ puts) = without_answered (left_by entries put) puts

-- the answers have spellings that a reader accepts, each by what is outstanding when it comes
abbrev pub AreAccepted : List Outstanding → List Put → Type 0
AreAccepted entries [] = Unit {0}
AreAccepted entries (put ∷ puts) =
    ((bytes : List ℕ) × down.SpellsAnswer entries (message_of put) bytes) × AreAccepted (left_by entries put) puts
