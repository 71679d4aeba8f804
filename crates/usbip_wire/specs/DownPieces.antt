-- a device's stream that is fed to a reader in pieces
use Rattle.std.specs.Prelude.{◌≡◌, ℕ, false, None, List, [], ◌∷◌, ◌++◌, take}
use Rattle.usbip_wire.specs.declared.dirs.Outstanding.{Outstanding}
use Rattle.usbip_wire.specs.declared.down.Down.{Down}
use Rattle.usbip_wire.specs.declared.down.Down.TheVariants as down
use Rattle.usbip_wire.specs.declared.down.DownPhase.{DownPhase}
use Rattle.usbip_wire.specs.declared.down.DownStep.{DownStep}
use Rattle.usbip_wire.specs.DownFed.{Held, Fed, Means, NoneWhole, kept, data_in, data_of}
use Rattle.usbip_wire.specs.DownForm.{after}

-- a reader that was fed nothing
abbrev pub begun : DownPhase → Held
begun phase = record { phase = phase; rest = []; whole = false; bad = None }

-- a call of feed: what was outstanding, its piece, its answer, and what is held behind it
pub record Call : Type 0 where
  pub entries : List Outstanding
  pub piece : List ℕ
  pub step : DownStep
  pub held : Held

-- These calls came one after another. By what is outstanding at a call, no message is whole in what was kept before it:
-- while a part of an answer is held, its entry stands as it did.
abbrev pub Calls : Held → List Call → Held → Type 0
Calls old [] end = end ≡ old
Calls old (call ∷ calls) end =
    (old.bad ≡ None → NoneWhole old.phase call.entries (kept old))
    × Fed old call.entries call.piece call.step call.held
    × Calls call.held calls end

-- the bytes that they used
abbrev pub used_bytes : List Call → List ℕ
used_bytes [] = []
used_bytes (call ∷ calls) = take call.step.used call.piece ++ used_bytes calls

-- what was outstanding at the last of them
abbrev pub last_entries : List Outstanding → List Call → List Outstanding
last_entries entries [] = entries
last_entries entries (call ∷ calls) = last_entries call.entries calls

-- a message that was given, with what was outstanding then, and its data
pub record Given : Type 0 where
  pub entries : List Outstanding
  pub what : Down
  pub carried : List ℕ

abbrev pub given_in : List Outstanding → Down → List ℕ → List Given
given_in entries down.More carried = []
given_in entries (down.Bad f) carried = []
given_in entries what carried = record { entries = entries; what = what; carried = carried } ∷ []

-- what they gave, in its order
abbrev pub given : List Call → List Given
given [] = []
given (call ∷ calls) = given_in call.entries call.step.what (data_of call.held) ++ given calls

-- these bytes are these messages in a row, each of the phase that the one before it led to, and then this rest
abbrev pub InTurn : DownPhase → List Given → List ℕ → List ℕ → Type 0
InTurn phase [] bytes rest = bytes ≡ rest
InTurn phase (message ∷ messages) bytes rest =
    (front : List ℕ) × (behind : List ℕ) × (bytes ≡ front ++ behind) × Means phase message.entries message.what front
    × (message.carried ≡ data_in phase front) × InTurn (after phase message.what) messages behind rest
