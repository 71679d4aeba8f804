-- what the laws on layouts speak of
use Rattle.std.specs.Prelude.{◌≡◌, ◌↔◌, ℕ, Bool, true, List, [], ◌++◌, length, take}
use Rattle.tmc_wire.specs.declared.class_request.ClassRequest.{ClassRequest}
use Rattle.tmc_wire.specs.declared.class_answer.ClassAnswer.{ClassAnswer}
use Rattle.tmc_wire.specs.ClassAnswer.{IsAnswer, answer_length}
use Rattle.tmc_wire.specs.Transfer.{InText}
use Rattle.tmc_wire.specs.declared.notify.Notify.{Notify}
use Rattle.tmc_wire.specs.declared.notify.Notify.TheVariants as notify
use Rattle.tmc_law.specs.State.{State, Piece, Owed, Sending, Packet, StatusPacket, ServicePacket}
use Rattle.tmc_law.specs.Logging.{unread}

-- these bytes are the layout of some answer to this request, and nothing stands behind it
pub record IsLaidOut (request : ClassRequest) (layout : List ℕ) : Type 0 where
  pub size : length layout ≡ answer_length request
  pub answer : ClassAnswer
  pub is : IsAnswer request answer layout

-- A piece of so many bytes begins as a Bulk-IN transfer: it has the tag of the request that was owed and the first unread
-- bytes, and its EOM says whether none are unread behind it.
pub record BeginsTransfer (s : State) (count : ℕ) (t : State) : Type 0 where
  pub tag : ℕ
  pub size : ℕ
  pub eom : Bool
  pub piece : Piece
  pub owed : s.side ≡ Owed tag size
  pub sending : t.side ≡ Sending piece
  pub text : InText (record { tag = tag; size = count; eom = eom }) (take count (unread s)) piece.left
  pub ends : (eom ≡ true) ↔ (unread t ≡ [])

-- what is left of a piece is the end of a Bulk-IN transfer with its tag and its size
pub record IsUnderWay (piece : Piece) : Type 0 where
  pub front : List ℕ
  pub message : List ℕ
  pub eom : Bool
  pub text : InText (record { tag = piece.tag; size = piece.size; eom = eom }) message (front ++ piece.left)

-- what a queued packet tells
abbrev pub notify_of : Packet → Notify
notify_of (StatusPacket tag byte) = notify.Status tag byte
notify_of (ServicePacket byte) = notify.Service byte
