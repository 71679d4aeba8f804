-- what a host has in hand that writes one submit at a time and that nothing disturbs, and what it writes (USBTMC 1.0, sections
-- 3.2 and 3.3)
use Rattle.std.specs.Prelude.{◌≡◌, ℕ, ◌≤◌, true, false, List, [], ◌++◌, length}
use Rattle.usbip_wire.specs.declared.submit.SubmitHead.{SubmitHead}
use Rattle.usbip_wire.specs.declared.urb.Dir.TheVariants.{Out}
use Rattle.tmc_wire.specs.declared.header.OutHeader.{OutHeader}
use Rattle.tmc_wire.specs.declared.header.OutHeader.TheVariants.{Message, Request}
use Rattle.tmc_wire.specs.Header.{IsOutProper, OutFits, out_header_bytes}
use Rattle.tmc_wire.specs.Transfer.{data_size, alignment_of}
use Rattle.tmc_law.specs.Endpoint.{BulkOut, number_of}
use Rattle.tmc_law.specs.BulkOut.{message_most}
use Rattle.host_joint.specs.Reads.{IsRead}

pub data Hand : Type 0 where
  -- nothing: no ticket was begun, or the last one is over
  Free : Hand
  -- a message, that of an ask or of a tell: these first bytes of it were written, in whole transfers, and more follow
  Says : (message said : List ℕ) → Hand
  -- a message that was written whole, and the number of the submit that ended it
  Said : (last : ℕ) (message : List ℕ) → Hand
  -- of its response a piece that was requested with this tag, of at most so many bytes: the pieces before it had this data, and
  -- these bytes of its transfer were read
  Reads : (last : ℕ) (message : List ℕ) (tag size : ℕ) (sofar read : List ℕ) → Hand
  -- the pieces that were read had this data, the last one was read to its end, and output is unread
  Pauses : (last : ℕ) (message sofar : List ℕ) → Hand

-- a submit to Bulk-OUT of one whole transfer: its header, its data, and zeros up to a multiple of 4
pub record IsTransfer (head : SubmitHead) (header : OutHeader) (text bytes : List ℕ) : Type 0 where
  pub number : head.ep ≡ number_of BulkOut
  pub way : head.dir ≡ Out
  pub proper : IsOutProper header
  pub fits : OutFits header
  pub counted : length text ≡ data_size header
  pub layout : bytes ≡ out_header_bytes header ++ (text ++ alignment_of (length text))
  pub sized : head.length ≡ length bytes

-- what comes next is of this message, of which these bytes were written: it begins, or it goes on
abbrev pub Speaks : Hand → (message said : List ℕ) → Type 0
Speaks Free message said = (said ≡ []) × (length message ≤ message_most)
Speaks (Says whole first) message said = (message ≡ whole) × (said ≡ first)
Speaks _ message said = ⊥

-- A host writes this submit, and has this in hand then.
pub data Writes (before : Hand) (head : SubmitHead) (bytes : List ℕ) (after : Hand) : Type 0 where
  -- a transfer of a message that goes on
  WritesPart : (tag : ℕ) (message said text more : List ℕ) → Speaks before message said → message ≡ said ++ (text ++ more)
      → IsTransfer head (Message tag (length text) false) text bytes → after ≡ Says message (said ++ text) → Writes before head bytes after
  -- the transfer that ends it
  WritesLast : (tag : ℕ) (message said text : List ℕ) → Speaks before message said → message ≡ said ++ text
      → IsTransfer head (Message tag (length text) true) text bytes → after ≡ Said head.seqnum message → Writes before head bytes after
  -- the request of the first piece of its response
  WritesRequest : (last tag size : ℕ) (message : List ℕ) → before ≡ Said last message → IsTransfer head (Request tag size) [] bytes
      → after ≡ Reads last message tag size [] [] → Writes before head bytes after
  -- the request of the next piece
  WritesNext : (last tag size : ℕ) (message sofar : List ℕ) → before ≡ Pauses last message sofar → IsTransfer head (Request tag size) [] bytes
      → after ≡ Reads last message tag size sofar [] → Writes before head bytes after
  -- a read
  WritesRead : (last tag size : ℕ) (message sofar read : List ℕ) → before ≡ Reads last message tag size sofar read → IsRead head → bytes ≡ []
      → after ≡ before → Writes before head bytes after
