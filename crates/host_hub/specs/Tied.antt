-- a record and the bytes of a link
use Rattle.std.specs.Prelude.{◌≡◌, ◌≢◌, ◌↔◌, ℕ, ◌+◌, ◌<◌, ◌≤◌, nat_lt, Bool, true, false, Option, Some, None, List, [], ◌∷◌, ◌++◌, length, take, drop, if◌then◌else◌}
use Rattle.tmc_base.specs.declared.field.Field.{Field}
use Rattle.usbip_wire.specs.declared.dirs.Outstanding.{Outstanding}
use Rattle.usbip_wire.specs.declared.down.DownPhase.TheVariants.{Urbs}
use Rattle.usbip_wire.specs.Awaited.{Awaited, number_of, entries_of}
use Rattle.usbip_wire.specs.Down.{SpellsAnswer}
use Rattle.usbip_wire.specs.Down as down
use Rattle.usbip_wire.specs.DownFed.{NoneWhole, BadAt}
use Rattle.usbip_wire.specs.Submit as submit
use Rattle.usbip_wire.specs.Unlink as unlink
use Rattle.usbip_wire.specs.Up as up
use Rattle.host_urbs.specs.Record as urbs
use Rattle.host_hub.specs.declared.outcome.End.{End}
use Rattle.host_hub.specs.declared.outcome.End.TheVariants as end
use Rattle.host_hub.specs.Order.{Setting}
use Rattle.host_hub.specs.Record.{Happening, Past, Wrote, Took, Fell, Stopped, written}
use Rattle.host_hub.specs.Crossings.{crossings}
use Rattle.host_hub.specs.Hand.{ended}
use Rattle.host_hub.specs.Calls.{All, IsOfTurn}

-- ---- the bytes of the messages

-- the bytes of a message as a hub writes it
abbrev pub bytes_of : up.Message → List ℕ
bytes_of (up.Submit head transferred) = submit.submit_bytes head submit.unused transferred
bytes_of (up.Unlink head) = unlink.unlink_bytes head unlink.unused

abbrev pub spelled : List up.Message → List ℕ
spelled [] = []
spelled (message ∷ messages) = bytes_of message ++ spelled messages

-- these bytes are the answers that were taken, in a row, each one to a message that was outstanding when it came
abbrev pub Received : urbs.Past → List ℕ → Type 0
Received [] bytes = bytes ≡ []
Received (urbs.Wrote message ∷ past) bytes = Received past bytes
Received (urbs.Took answer ∷ past) bytes =
    (front this : List ℕ) × (bytes ≡ front ++ this) × Received past front × SpellsAnswer (entries_of (urbs.outstanding past)) answer this

-- What was sent and what stands in the outbox are the messages of the record; what was taken is its answers, and a rest.
-- The bytes that the link had sent and taken before the hub was made are left out.
pub record Tied (s : Setting) (past : Past) (sent outbox received rest : List ℕ) : Type 0 where
  pub front : List ℕ
  pub written : sent ++ outbox ≡ spelled (written s past)
  pub taken : received ≡ front ++ rest
  pub answers : Received (crossings s past) front

-- ---- what was sent whole

-- so many of the messages were sent whole, and of the next one not all
pub record AreSent (s : Setting) (past : Past) (sent : List ℕ) (count : ℕ) : Type 0 where
  pub among : count ≤ length (written s past)
  pub part : List ℕ
  pub sent_so_far : sent ≡ spelled (take count (written s past)) ++ part
  pub next : (message : up.Message) (more : List up.Message) → drop count (written s past) ≡ message ∷ more → length part < length (bytes_of message)
  pub none_left : drop count (written s past) ≡ [] → part ≡ []

-- those of them that are outstanding
abbrev pub below : ℕ → List Awaited → List Awaited
below n [] = []
below n (x ∷ xs) = if nat_lt (number_of x) n then x ∷ below n xs else below n xs

abbrev pub entries_sent : Setting → Past → (count : ℕ) → List Outstanding
entries_sent s past count = entries_of (below (s.first + count) (urbs.outstanding (crossings s past)))

-- Answers count only for what was sent whole: those that a turn took, where so many messages were sent whole before it
-- polled.
abbrev pub seqnum_of : down.Message → ℕ
seqnum_of (down.RetSubmit head bytes) = head.seqnum
seqnum_of (down.RetUnlink head) = head.seqnum

abbrev pub IsDueIn : Setting → (count : ℕ) → Happening → Type 0
IsDueIn s count (Took answer) = seqnum_of answer < s.first + count
IsDueIn s count (Fell answer e) = seqnum_of answer < s.first + count
IsDueIn s count x = Unit {0}

-- ---- what is left

-- how a hub ended otherwise than by an answer
abbrev pub stopped_by : Happening → Option End → Option End
stopped_by (Stopped e) before = Some e
stopped_by _ before = before

abbrev pub stopped : Past → Option End
stopped [] = None
stopped (x ∷ past) = stopped_by x (stopped past)

-- whether all that came whole was taken: so it is while a hub runs, and where the link ended it, or its user; not where an
-- answer, refused bytes or want of numbers did
abbrev pub takes_all_by : Option End → Option End → Bool
takes_all_by None stop = true
takes_all_by (Some e) (Some end.LinkFault) = true
takes_all_by (Some e) (Some end.Unplugged) = true
takes_all_by (Some e) (Some end.GivenUp) = true
takes_all_by (Some e) stop = false

abbrev pub takes_all : Past → Bool
takes_all past = takes_all_by (ended past) (stopped past)

-- the rest begins with no whole answer to what was sent whole, and with no bad field
pub record NothingLies (s : Setting) (past : Past) (count : ℕ) (rest : List ℕ) : Type 0 where
  pub none_whole : NoneWhole Urbs (entries_sent s past count) rest
  pub none_bad : (f : Field) → BadAt Urbs (entries_sent s past count) rest f → ⊥

abbrev pub AllTaken : Setting → Past → (count : ℕ) → (rest : List ℕ) → Type 0
AllTaken s past count rest = takes_all past ≡ true → NothingLies s past count rest

-- ---- the ends that show at the link

-- the field at which the rest is refused
abbrev pub IsRefused : Setting → Past → (count : ℕ) → (rest : List ℕ) → Field → Type 0
IsRefused s past count rest f = BadAt Urbs (entries_sent s past count) rest f

-- of a hub that is kept: the link's count of this kind is not 0, or the rest is refused
pub record EndShows (s : Setting) (past : Past) (count : ℕ) (rest : List ℕ) (faults closings : ℕ) : Type 0 where
  pub fault : stopped past ≡ Some end.LinkFault → faults ≢ 0
  pub closing : stopped past ≡ Some end.Unplugged → closings ≢ 0
  pub refused : (f : Field) → stopped past ≡ Some (end.PeerFault f) → IsRefused s past count rest f

-- what a link said in a turn, beside the bytes that it moved: none of the calls failed or found it closed, or one did
pub data Said : Type 0 where
  Went : Said
  Failed : Said
  Closed : Said

-- What a turn of a hub that runs adds: answers to what was sent whole, and what the hub does by itself. It ends by the link
-- exactly where that said so, and by refused bytes only where they are.
pub record AddsTurn (s : Setting) (past : Past) (count : ℕ) (rest : List ℕ) (said : Said) (more : Past) : Type 0 where
  pub own : All IsOfTurn more
  pub sent : All (IsDueIn s count) more
  pub failed : (stopped more ≡ Some end.LinkFault) ↔ (said ≡ Failed)
  pub closed : (stopped more ≡ Some end.Unplugged) ↔ (said ≡ Closed)
  pub refused : (f : Field) → stopped more ≡ Some (end.PeerFault f) → IsRefused s (more ++ past) count rest f

-- neither a message nor an answer
abbrev pub MovesNothing : Happening → Type 0
MovesNothing (Wrote number owner order) = ⊥
MovesNothing (Took answer) = ⊥
MovesNothing (Fell answer e) = ⊥
MovesNothing x = Unit {0}
