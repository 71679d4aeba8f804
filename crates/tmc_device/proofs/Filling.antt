-- packets go into the first Bulk-IN submit
use Rattle.std.proofs.Common.{◌≡◌, ◌∙◌, ℕ, List, [], ◌∷◌, ◌++◌, IsSome, refl, ap, sym, subst}
use Rattle.tmc_law.specs.Endpoint.{BulkIn}
use Rattle.tmc_law.specs.State.{Pending, Piece, Side, Idle, Owed, Sending}
use Rattle.tmc_law.specs.Put.{ended, success}
use Rattle.tmc_law.specs.BulkIn.{filled, given}
use Rattle.endpoint_pipes.specs.Held.{Held, list_of, with_list}
use Rattle.endpoint_pipes.specs.Outcome.{first_of, HasRoom}
use Rattle.tmc_device.specs.declared.body.Body.{Body}
use Rattle.tmc_device.specs.Parts.{Outbox}
use Rattle.tmc_device.specs.Events.{IsSending}
use Rattle.tmc_device.specs.Body.{state_of}
use Rattle.tmc_device.specs.Fill.{Became, GaveBytes}

pub record Giving (list : List Pending) (side : Side) : Type 0 where
  pub submit : Pending
  pub behind : List Pending
  pub piece : Piece
  pub first : list ≡ submit ∷ behind
  pub sending : side ≡ Sending piece

pub giving : (n : ℕ) (list : List Pending) (side : Side) → HasRoom n (first_of list) → IsSending side → Giving list side
giving n [] side room sending = absurd room
giving n (submit ∷ behind) Idle room sending = absurd sending
giving n (submit ∷ behind) (Owed tag size) room sending = absurd sending
giving n (submit ∷ behind) (Sending piece) room sending = record { submit = submit; behind = behind; piece = piece; first = refl; sending = refl }

module _ (size : ℕ) (submit : Pending) (behind : List Pending) (piece : Piece) (old gave : Body) (g : GaveBytes size submit behind piece old gave) where
  pub some_gave : IsSome (first_of (list_of BulkIn gave.pipes))
  some_gave = subst (λ (held : Held). IsSome (first_of held.bulk_in)) (sym g.pipes) refl

  pub same_outputs : gave.outputs ≡ old.outputs
  same_outputs = ap (λ (b : Body). b.outputs) g.others

  pub first_gave : list_of BulkIn gave.pipes ≡ filled size piece submit ∷ behind
  first_gave = ap (λ (held : Held). held.bulk_in) g.pipes

  pub state_gave : state_of gave ≡ record (state_of old) { bulk_in = filled size piece submit ∷ behind; side = Sending (given size piece) }
  state_gave =
      ap (λ (b : Body). state_of b) g.others
      ∙ ap (λ (held : Held). state_of (record old { pipes = held; side = gave.side })) g.pipes
      ∙ ap (λ (v : Side). state_of (record old { pipes = record old.pipes { bulk_in = filled size piece submit ∷ behind }; side = v })) g.side

  -- the submit is answered
  pub answered : (p : Held) (o : Outbox) (side : Side) → p ≡ with_list BulkIn behind gave.pipes → o.puts ≡ gave.outputs.puts ++ ended success (filled size piece submit) ∷ []
      → Became (record (state_of old) { bulk_in = behind; side = side }) (ended success (filled size piece submit) ∷ []) old (record gave { pipes = p; outputs = o; side = side })
  answered p o side left put = record {
    state =
        ap (λ (b : Body). state_of (record b { pipes = p; outputs = o; side = side })) g.others
        ∙ ap (λ (held : Held). state_of (record old { pipes = held; outputs = o; side = side })) (left ∙ ap (λ (held : Held). with_list BulkIn behind held) g.pipes);
    puts = put ∙ ap (λ (b : Outbox). b.puts ++ ended success (filled size piece submit) ∷ []) same_outputs;
  }
