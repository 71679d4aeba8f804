-- how a node keeps what contracts see
use Rattle.std.specs.Prelude.{◌≡◌, ℕ, true, false, List, [], ◌++◌, Option, Some, None}
use Rattle.tmc_base.specs.declared.field.Field.{Field}
use Rattle.usbip_wire.specs.declared.up.Up.{Up}
use Rattle.usbip_wire.specs.UpFed.{Held, Means, kept}
use Rattle.tmc_law.specs.State.{Plugged, start}
use Rattle.usbip_export.specs.declared.body.Body.{Body}
use Rattle.usbip_export.specs.Seen.{Seen, phase_of}
use Rattle.usbip_export.specs.TakenIn.{SpellsOff}

-- the bytes that the reader holds and that were not taken in: a whole message that waits, or the front of one
abbrev pub held_back : Option Up → Held → List ℕ
held_back None reader = kept reader
held_back (Some what) reader = reader.rest

-- those that were fed and not taken in; a refused node keeps none
abbrev pub kept_of : Option Field → Option Up → Held → (late : List ℕ) → List ℕ
kept_of None waiting reader late = held_back waiting reader ++ late
kept_of (Some f) waiting reader late = []

abbrev pub seen_of : Body → Seen
seen_of body = record {
  imported = body.imported;
  state = body.device.state;
  refused = body.refused;
  kept = kept_of body.refused body.waiting body.reader body.late.items;
  puts = body.device.puts;
  out = body.out.items;
  wanting = body.wanting;
}

-- the reader holds the message that waits
abbrev pub Waits : Held → Option Up → Type 0
Waits reader None = Unit {0}
Waits reader (Some what) = (reader.whole ≡ true) × Means reader.phase what reader.rest

pub record IsSound (body : Body) : Type 0 where
  pub phase : body.reader.phase ≡ phase_of body.imported
  pub good : body.refused ≡ None → body.reader.bad ≡ None
  pub waits : Waits body.reader body.waiting
  pub fresh : body.imported ≡ false → (body.device.state ≡ start) × (body.device.puts ≡ [])

-- the node takes bytes in
pub record IsOpen (body : Body) : Type 0 where
  pub unrefused : body.refused ≡ None
  pub plugged : body.device.state.presence ≡ Plugged

-- answers were spelled, and nothing else changed but whether memory was wanting
pub record IsBodySpelled (old new : Body) : Type 0 where
  pub state : new.device.state ≡ old.device.state
  pub off : SpellsOff old.device.puts new.device.puts old.out.items new.out.items
  pub is : new ≡ record old { device = new.device; out = new.out; wanting = new.wanting }
