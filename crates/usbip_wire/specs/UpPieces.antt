-- a client's stream that is fed to a reader in pieces
use Rattle.std.specs.Prelude.{◌≡◌, ℕ, false, None, List, [], ◌∷◌, ◌++◌, take}
use Rattle.usbip_wire.specs.declared.op_request.OpRequest.{OpRequest}
use Rattle.usbip_wire.specs.declared.up.Up.{Up}
use Rattle.usbip_wire.specs.declared.up.Up.TheVariants as up
use Rattle.usbip_wire.specs.declared.up.UpPhase.{UpPhase}
use Rattle.usbip_wire.specs.declared.up.UpStep.{UpStep}
use Rattle.usbip_wire.specs.Up.{Message, Submit, Unlink}
use Rattle.usbip_wire.specs.UpFed.{Held, Fed, data_of}

-- a reader that was fed nothing
abbrev pub begun : UpPhase → Held
begun phase = record { phase = phase; rest = []; whole = false; bad = None }

-- a call of feed: its piece, its answer, and what is held behind it
pub record Call : Type 0 where
  pub piece : List ℕ
  pub step : UpStep
  pub held : Held

-- these calls came one after another
abbrev pub Calls : Held → List Call → Held → Type 0
Calls old [] end = end ≡ old
Calls old (call ∷ calls) end = Fed old call.piece call.step call.held × Calls call.held calls end

-- the bytes that they used
abbrev pub used_bytes : List Call → List ℕ
used_bytes [] = []
used_bytes (call ∷ calls) = take call.step.used call.piece ++ used_bytes calls

-- the request that an answer gives
abbrev pub request_in : Up → List ℕ → List OpRequest
request_in (up.Op request) told = request ∷ []
request_in what told = []

-- the message that an answer gives, with its data
abbrev pub message_in : Up → List ℕ → List Message
message_in (up.Submit head) told = Submit head told ∷ []
message_in (up.Unlink head) told = Unlink head ∷ []
message_in what told = []

-- what they gave, in its order
abbrev pub given : {M : Type 0} → (Up → List ℕ → List M) → List Call → List M
given what_in [] = []
given what_in (call ∷ calls) = what_in call.step.what (data_of call.held) ++ given what_in calls
