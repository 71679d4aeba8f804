-- what looking for a message gave
use Rattle.std.specs.Prelude.{◌≡◌, Bool, true, false, None}
use Rattle.tmc_base.specs.declared.field.Field.{Field}
use Rattle.usbip_wire.specs.UpFed.{BadAt, NoneWhole}
use Rattle.usbip_export.specs.declared.body.Body.{Body}
use Rattle.usbip_export.specs.Body.{seen_of, IsOpen}
use Rattle.usbip_export.specs.Seen.{phase_of}
use Rattle.usbip_export.specs.Steps.{AreArrivals, MovesBy}

-- there is none
pub data Rests (old new : Body) : Type 0 where
  -- the node takes nothing in
  Shut : (IsOpen old → ⊥) → new ≡ old → Rests old new
  -- no message is whole, and no field is bad
  NothingWhole : NoneWhole (phase_of old.imported) (seen_of new).kept
      → ((f : Field) → BadAt (phase_of old.imported) (seen_of new).kept f → ⊥) → seen_of new ≡ seen_of old → Rests old new
  -- a field is refused
  Closes : old.refused ≡ None → MovesBy AreArrivals (seen_of old) (seen_of new) → (IsOpen new → ⊥) → Rests old new

abbrev pub Reads : (waits : Bool) → Body → Body → Type 0
Reads true old new = IsOpen old × IsOpen new × (seen_of new ≡ seen_of old)
Reads false old new = Rests old new
