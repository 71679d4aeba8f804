-- what contracts see of a node
use Rattle.std.specs.Prelude.{◌≡◌, ℕ, Bool, true, false, List, [], Option, Some, None}
use Rattle.tmc_base.specs.declared.field.Field.{Field}
use Rattle.usbip_wire.specs.declared.up.UpPhase.{UpPhase}
use Rattle.usbip_wire.specs.declared.up.UpPhase.TheVariants.{Ops, Urbs}
use Rattle.usbip_wire.specs.UpFed.{BadAt, NoneWhole}
use Rattle.tmc_law.specs.State.{State, Closed, start}
use Rattle.tmc_law.specs.Put.{Put}
use Rattle.usbip_export.specs.Identity.{devid}

pub record Seen : Type 0 where
  -- whether the client imported the instrument
  pub imported : Bool
  -- the instrument, as the law sees it; a refused node's is closed, which `standing` says
  pub state : State
  -- the field that was refused
  pub refused : Option Field
  -- the bytes that were fed and not taken in
  pub kept : List ℕ
  -- the answers that are not spelled yet, since memory was wanting
  pub puts : List Put
  -- the bytes that were answered and not sent
  pub out : List ℕ
  -- whether memory was wanting, so that whole messages or answers may wait
  pub wanting : Bool

-- the instrument's state where this field was refused
abbrev pub closed_by : Option Field → State → State
closed_by None s = s
closed_by (Some f) s = record s { presence = Closed f }

-- the state of the law
abbrev pub standing : Seen → State
standing seen = closed_by seen.refused seen.state

-- what the client sends now
abbrev pub phase_of : (imported : Bool) → UpPhase
phase_of false = Ops
phase_of true = Urbs devid

-- nothing was fed, put out or refused
abbrev pub begun : (imported : Bool) → Seen
begun imported = record { imported = imported; state = start; refused = None; kept = []; puts = []; out = []; wanting = false }

-- no whole message and no bad field waits to be taken in, and no answer to be spelled
pub record IsCaughtUp (seen : Seen) : Type 0 where
  pub none_whole : NoneWhole (phase_of seen.imported) seen.kept
  pub none_bad : (f : Field) → BadAt (phase_of seen.imported) seen.kept f → ⊥
  pub spelled : seen.puts ≡ []
