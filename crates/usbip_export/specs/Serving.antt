-- how a client is served over a link
use Rattle.std.specs.Prelude.{◌≡◌, ℕ, true, false, List, [], ◌++◌, None}
use Rattle.tmc_base.specs.Told.{Told, IsFront, Exchanged}
use Rattle.tmc_law.specs.Run.{Entry}
use Rattle.tmc_device.specs.Seen.{is_closed}
use Rattle.usbip_export.specs.Seen.{Seen, standing}
use Rattle.usbip_export.specs.TakenIn.{TakenIn}
use Rattle.usbip_export.specs.Steps.{steps_of, AreServing}

-- a node was fed these bytes, and those of its answers were sent
pub record Works (bytes sent : List ℕ) (old new : Seen) : Type 0 where
  pub took : List ℕ
  pub answered : List ℕ
  pub kept : old.kept ++ bytes ≡ took ++ new.kept
  pub taken : TakenIn took answered old new
  pub out : old.out ++ answered ≡ sent ++ new.out

-- the same, and its instrument made such steps and no others
pub record WorksBy (Only : List Entry → Type 0) (bytes sent : List ℕ) (old new : Seen) : Type 0 where
  pub works : Works bytes sent old new
  pub only : Only (steps_of works.taken)

-- What a node and a link did together: the bytes that were sent over the link are the first of what was pending or was
-- answered, and the node was fed the first of those that came, all of them where it is not closed and memory was not
-- wanting. Its instrument took in what arrived, and made calm moves and no other step.
pub record Crosses {A : Type 0} (tells : A → Told) (ample : Type 0) (node : Seen) (link : A) (later : Seen) (after : A) : Type 0 where
  pub bytes : List ℕ
  pub sent : List ℕ
  pub came : List ℕ
  pub told : Exchanged sent came (tells link) (tells after)
  pub works : Works bytes sent node later
  pub only : AreServing (steps_of works.taken)
  pub front : IsFront bytes came
  pub shut : is_closed (standing node).presence ≡ true → bytes ≡ []
  pub all : ample → is_closed (standing later).presence ≡ false → bytes ≡ came

-- the instrument was unplugged: the node is closed, and refused nothing
pub record IsUnplugged (node : Seen) : Type 0 where
  pub unrefused : node.refused ≡ None
  pub shut : is_closed (standing node).presence ≡ true

-- all that was answered was sent
pub record IsSentOff (node : Seen) : Type 0 where
  pub spelled : node.puts ≡ []
  pub sent : node.out ≡ []
