-- what a hub's fields are when it wrote a submit of the active ticket
use Rattle.std.specs.Prelude.{◌≡◌, ◌≤◌, ◌<◌, ◌*◌, ℕ, Bool, true, false, Some, None, List, [], ◌∷◌, length}
use Rattle.host_urbs.specs.declared.limits.TheConstants.{LAST_SUBMIT}
use Rattle.host_urbs.specs.Held.{Held, Follows, wrote}
use Rattle.host_urbs.specs.Record as urbs
use Rattle.host_transfers.specs.declared.limits.TheConstants.{PART_MAX}
use Rattle.host_hub.specs.declared.hub_core.HubCore.{HubCore}
use Rattle.host_hub.specs.Order.{Order, Part, Read, Setting, message_of}
use Rattle.host_hub.specs.Record.{Asking, Past}
use Rattle.host_hub.specs.Book.{active, asking_of}
use Rattle.host_hub.specs.BookSeen.{BookSeen, Seen, ticket_of}
use Rattle.host_hub.specs.BookChanges.{with_seen}
use Rattle.host_hub.specs.Plan.{ended_at, follows, last, next_tag, parts, request_of}
use Rattle.host_hub.specs.Hand.{in_hand, is_begun}
use Rattle.host_hub.specs.Law.{IsHandOver}
use Rattle.host_hub.specs.Outstanding.{outstanding}
use Rattle.host_hub.specs.Recovery.{AreRecovered}
use Rattle.host_hub.specs.Steps.{IsClean, Working}
use Rattle.host_hub.specs.Causes.{reached}
use Rattle.host_transfers.specs.Assembly.{Holds}
use Rattle.host_hub.specs.declared.kind.Kind.TheVariants as kind
use Rattle.host_hub.specs.Pieces.{Piece, data_in, pieces}
use Rattle.host_hub.specs.Knows.{Knows}
use Rattle.host_hub.specs.Queued.{Queued}

-- nothing is out, there is a number for a submit, and the active ticket asks for this
pub record CanWrite (core : HubCore) (asking : Asking) : Type 0 where
  pub setting : Setting
  pub past : Past
  pub sent : List ℕ
  pub knows : Knows setting past sent core
  pub turn : active past ≡ Some core.active
  pub asks : asking_of core.active past ≡ Some asking
  pub none : core.urbs.entries ≡ []
  pub nothing : core.urbs.outbox ≡ []
  pub last : core.urbs.next ≤ LAST_SUBMIT

-- a part of its message is left
pub record CanPart (core : HubCore) : Type 0 where
  pub asking : Asking
  pub can : CanWrite core asking
  pub there : PART_MAX * core.parts < length asking.message
  pub few : core.parts ≤ 4

-- the message is put behind the others
pub record Puts (s : Setting) (order : Order) (old new : Held) : Type 0 where
  pub written : new ≡ wrote (message_of s old.next order) old
  pub recorded : (past : urbs.Past) (sent : List ℕ) → Follows s.first past sent old → Follows s.first (urbs.Wrote (message_of s old.next order) ∷ past) sent new

-- and the book says where the message of the ticket ends
abbrev pub Ends : Order → (active number : ℕ) → BookSeen → BookSeen → Type 0
Ends order active number old new =
    (seen : Seen) → ticket_of active old.tickets ≡ Some seen → new ≡ with_seen active (record seen { last = ended_at number order seen.last }) old

-- the active ticket may begin: nothing is out, and the recoveries are over
pub record Ready (s : Setting) (past : Past) (sent : List ℕ) (core : HubCore) : Type 0 where
  pub knows : Knows s past sent core
  pub working : Working s past
  pub running : core.end ≡ None
  pub turn : active past ≡ Some core.active
  pub fresh : is_begun core.active past ≡ false
  pub none_out : outstanding past ≡ []
  pub recovered : AreRecovered past
  pub queue : Queued core.urbs

pub record IsReady (core : HubCore) : Type 0 where
  pub setting : Setting
  pub past : Past
  pub sent : List ℕ
  pub ready : Ready setting past sent core

-- the active ticket, which asks for this, goes on: nothing is out, and no other ticket or recovery is in its way
pub record GoesOn (s : Setting) (past : Past) (sent : List ℕ) (core : HubCore) (asking : Asking) (split : Bool) : Type 0 where
  pub knows : Knows s past sent core
  pub working : Working s past
  pub running : core.end ≡ None
  pub turn : active past ≡ Some core.active
  pub begun : is_begun core.active past ≡ true
  pub asks : asking_of core.active past ≡ Some asking
  pub free : reached core.active past ≡ None
  pub none_out : outstanding past ≡ []
  pub clean : IsClean past core.active split
  pub counted : parts core.active past ≡ core.parts
  pub queue : Queued core.urbs

-- its message goes on
pub record PartIsNext (s : Setting) (past : Past) (sent : List ℕ) (core : HubCore) : Type 0 where
  pub asking : Asking
  pub split : Bool
  pub goes : GoesOn s past sent core asking split
  pub tag : ℕ
  pub text : List ℕ
  pub last_part : last core.active past ≡ Some (Part tag text false)
  pub left : PART_MAX * core.parts < length asking.message
  pub none : pieces core.active past ≡ []

pub record IsPartNext (core : HubCore) : Type 0 where
  pub setting : Setting
  pub past : Past
  pub sent : List ℕ
  pub is : PartIsNext setting past sent core

-- bytes of the response of the active ticket are left
pub record CanRequest (core : HubCore) : Type 0 where
  pub asking : Asking
  pub can : CanWrite core asking
  pub left : (seen : Seen) → ticket_of core.active core.book.tickets ≡ Some seen → length seen.bytes < seen.limit

-- the next piece of its response is requested
pub record RequestIsNext (s : Setting) (past : Past) (sent : List ℕ) (core : HubCore) : Type 0 where
  pub asking : Asking
  pub asks : asking.kind ≡ kind.Ask
  pub goes : GoesOn s past sent core asking false
  pub plan : follows asking (last core.active past) (next_tag past) (parts core.active past) (pieces core.active past)
      ≡ Some (request_of (next_tag past) asking.limit (pieces core.active past))
  pub left : length (data_in (pieces core.active past)) < asking.limit

pub record IsRequestNext (core : HubCore) : Type 0 where
  pub setting : Setting
  pub past : Past
  pub sent : List ℕ
  pub is : RequestIsNext setting past sent core

-- the piece that was requested is read
pub record ReadIsNext (s : Setting) (past : Past) (sent : List ℕ) (core : HubCore) : Type 0 where
  pub asking : Asking
  pub asks : asking.kind ≡ kind.Ask
  pub goes : GoesOn s past sent core asking false
  pub plan : follows asking (last core.active past) (next_tag past) (parts core.active past) (pieces core.active past) ≡ Some Read
  pub piece : Piece
  pub earlier : List Piece
  pub now : pieces core.active past ≡ piece ∷ earlier
  pub goes_on : piece.over ≡ None
  pub counts : piece.shut ≡ None
  pub tag : core.assembly.tag ≡ piece.tag
  pub size : core.assembly.size ≡ piece.size
  pub holds : Holds piece.bytes core.assembly
  pub open_still : core.assembly.over ≡ false

pub record IsReadNext (core : HubCore) : Type 0 where
  pub setting : Setting
  pub past : Past
  pub sent : List ℕ
  pub is : ReadIsNext setting past sent core

-- the ticket in hand is settled, nothing is out, and the recoveries are over
pub record Done (s : Setting) (past : Past) (sent : List ℕ) (core : HubCore) : Type 0 where
  pub knows : Knows s past sent core
  pub working : Working s past
  pub running : core.end ≡ None
  pub hand : IsHandOver (in_hand past) past
  pub none_out : outstanding past ≡ []
  pub recovered : AreRecovered past
  pub queue : Queued core.urbs

pub record IsDone (core : HubCore) : Type 0 where
  pub setting : Setting
  pub past : Past
  pub sent : List ℕ
  pub is : Done setting past sent core
