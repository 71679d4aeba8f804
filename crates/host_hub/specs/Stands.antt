-- where a hub that runs stands between its calls: at most one submit is out, and it is the active ticket's
use Rattle.std.specs.Prelude.{◌≡◌, ℕ, ◌*◌, nat_le, Bool, true, false, Some, None, List, [], ◌∷◌, ◌++◌, length}
use Rattle.host_transfers.specs.declared.limits.TheConstants.{PART_MAX}
use Rattle.host_transfers.specs.Assembly.{Holds}
use Rattle.host_hub.specs.declared.hub_core.HubCore.{HubCore}
use Rattle.host_hub.specs.declared.hub_core.Phase.{Phase}
use Rattle.host_hub.specs.declared.hub_core.Phase.TheVariants as phase
use Rattle.host_hub.specs.declared.kind.Kind.TheVariants as kind
use Rattle.host_hub.specs.Order.{Order, Part, Request, Read, Setting, size_of}
use Rattle.host_hub.specs.Record.{Asking, Of, Past}
use Rattle.host_hub.specs.Hand.{is_begun}
use Rattle.host_hub.specs.Outstanding.{outstanding}
use Rattle.host_hub.specs.Book.{active, asking_of, live}
use Rattle.host_hub.specs.Pieces.{Piece, pieces, requested}
use Rattle.host_hub.specs.Causes.{reached}
use Rattle.host_hub.specs.Plan.{last, parts}
use Rattle.host_hub.specs.Recovery.{AreRecovered}
use Rattle.host_hub.specs.Law.{Kept}
use Rattle.host_hub.specs.Calls.{AddsGivingUp, All, IsOwn}
use Rattle.host_hub.specs.Joined.{IsPlain}
use Rattle.host_hub.specs.Steps.{IsClean}
use Rattle.host_hub.specs.Knows.{Knows}
use Rattle.host_hub.specs.Queued.{Queued}

-- no ticket is live, and nothing is out
pub record IsIdle (past : Past) (core : HubCore) : Type 0 where
  pub none : live past ≡ []
  pub nothing : outstanding past ≡ []
  pub recovered : AreRecovered past
  pub queue : Queued core.urbs

-- this submit of the active ticket, which asks for this, is out; `split` says whether the last part of its message that was
-- accepted is not the one with EOM
pub record IsOut (s : Setting) (past : Past) (core : HubCore) (asking : Asking) (order : Order) (split : Bool) : Type 0 where
  pub turn : active past ≡ Some core.active
  pub begun : is_begun core.active past ≡ true
  pub asks : asking_of core.active past ≡ Some asking
  pub free : reached core.active past ≡ None
  pub number : ℕ
  pub alone : outstanding past ≡ record { number = number; owner = Of core.active; order = order } ∷ []
  pub written_last : last core.active past ≡ Some order
  pub clean : IsClean past core.active split
  pub counted : parts core.active past ≡ core.parts
  pub whole : core.asked ≡ size_of s.ends order
  pub queue : Queued core.urbs

pub record IsInMessage (s : Setting) (past : Past) (core : HubCore) : Type 0 where
  pub asking : Asking
  pub tag : ℕ
  pub text : List ℕ
  pub split : Bool
  pub out : IsOut s past core asking (Part tag text (nat_le (length asking.message) (PART_MAX * core.parts))) split
  pub none : pieces core.active past ≡ []

pub record IsInRequest (s : Setting) (past : Past) (core : HubCore) : Type 0 where
  pub asking : Asking
  pub asks : asking.kind ≡ kind.Ask
  pub tag : ℕ
  pub size : ℕ
  pub earlier : List Piece
  pub out : IsOut s past core asking (Request tag size) false
  pub now : pieces core.active past ≡ requested out.number tag size ∷ earlier
  pub assembly : core.assembly ≡ record { tag = tag; size = size; head = []; count = 0; over = false }

pub record IsInResponse (s : Setting) (past : Past) (core : HubCore) : Type 0 where
  pub asking : Asking
  pub asks : asking.kind ≡ kind.Ask
  pub piece : Piece
  pub earlier : List Piece
  pub out : IsOut s past core asking Read false
  pub now : pieces core.active past ≡ piece ∷ earlier
  pub goes_on : piece.over ≡ None
  pub counts : piece.shut ≡ None
  pub tag : core.assembly.tag ≡ piece.tag
  pub size : core.assembly.size ≡ piece.size
  pub holds : Holds piece.bytes core.assembly
  pub open_still : core.assembly.over ≡ false

abbrev pub Stands : Phase → Setting → Past → HubCore → Type 0
Stands phase.Idle s past core = IsIdle past core
Stands phase.Message s past core = IsInMessage s past core
Stands phase.Request s past core = IsInRequest s past core
Stands phase.Response s past core = IsInResponse s past core

-- A hub between its calls, behind this record, when these bytes were sent.
pub record Rests (s : Setting) (past : Past) (sent : List ℕ) (core : HubCore) : Type 0 where
  pub knows : Knows s past sent core
  pub kept : Kept s past
  pub stands : core.end ≡ None → Stands core.phase s past core

-- it went on to there by itself
pub record GoesTo (s : Setting) (past : Past) (sent : List ℕ) (core : HubCore) : Type 0 where
  pub more : Past
  pub by_itself : All IsOwn more
  pub plain : All IsPlain more
  pub rests : Rests s (more ++ past) sent core

-- there is such a record
pub record IsAtRest (core : HubCore) : Type 0 where
  pub setting : Setting
  pub past : Past
  pub sent : List ℕ
  pub rests : Rests setting past sent core

-- it went on by being given up
pub record IsGivenUp (s : Setting) (past : Past) (sent : List ℕ) (core : HubCore) : Type 0 where
  pub more : Past
  pub adds : AddsGivingUp more
  pub rests : Rests s (more ++ past) sent core
