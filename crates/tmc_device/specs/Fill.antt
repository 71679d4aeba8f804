-- what becomes of the first Bulk-IN submit and the piece, at a device
use Rattle.std.specs.Prelude.{◌≡◌, ℕ, List, [], ◌∷◌, ◌++◌}
use Rattle.tmc_law.specs.Endpoint.{BulkIn}
use Rattle.tmc_law.specs.State.{State, Pending, Piece, Idle, Sending}
use Rattle.tmc_law.specs.Put.{Put, ended, success}
use Rattle.tmc_law.specs.Halts.{halts, halt_answers}
use Rattle.tmc_law.specs.BulkIn.{filled, given}
use Rattle.tmc_device.specs.declared.body.Body.{Body}
use Rattle.tmc_device.specs.Body.{state_of}

-- of the first submit, the others, and the piece, at two states
abbrev Piecewise : ((submit : Pending) (behind : List Pending) (piece : Piece) → Type 0) → Body → Type 0
Piecewise P old = (submit : Pending) (behind : List Pending) (piece : Piece) → old.pipes.bulk_in ≡ submit ∷ behind → old.side ≡ Sending piece
    → P submit behind piece

-- the state, and what was put out
pub record Became (s : State) (more : List Put) (old new : Body) : Type 0 where
  pub state : state_of new ≡ s
  pub puts : new.outputs.puts ≡ old.outputs.puts ++ more

-- the next bytes of the piece went into the submit, and nothing else changed
pub record GaveBytes (size : ℕ) (submit : Pending) (behind : List Pending) (piece : Piece) (old new : Body) : Type 0 where
  pub pipes : new.pipes ≡ record old.pipes { bulk_in = filled size piece submit ∷ behind }
  pub side : new.side ≡ Sending (given size piece)
  pub others : new ≡ record old { pipes = new.pipes; side = new.side }

abbrev pub Gives : (size : ℕ) (old new : Body) → Type 0
Gives size old new = Piecewise (λ submit behind piece. GaveBytes size submit behind piece old new) old

abbrev pub FillsUp : (size : ℕ) (old new : Body) → Type 0
FillsUp size old new = Piecewise (λ submit behind piece.
    Became (record (state_of old) { bulk_in = behind; side = Sending (given size piece) }) (ended success (filled size piece submit) ∷ []) old new) old

abbrev pub EndsPiece : (size : ℕ) (old new : Body) → Type 0
EndsPiece size old new = Piecewise (λ submit behind piece.
    Became (record (state_of old) { bulk_in = behind; side = Idle }) (ended success (filled size piece submit) ∷ []) old new) old

abbrev pub Overflows : (size : ℕ) (old new : Body) → Type 0
Overflows size old new = Piecewise (λ submit behind piece.
    Became (halts BulkIn (state_of old)) (halt_answers BulkIn (record (state_of old) { bulk_in = filled size piece submit ∷ behind })) old new) old
