-- what both readers hold of a stream
use Rattle.std.specs.Prelude.{ℕ, Bool, true, false, Option, Some, None, List, [], if◌then◌else◌}
use Rattle.tmc_base.specs.declared.field.Field.{Field}
use Rattle.usbip_wire.specs.declared.room.Last.{Last}
use Rattle.usbip_wire.specs.declared.room.Last.TheVariants.{Part, Whole, Refused}

-- the bytes held, and what the last answer said of them
pub record Kept : Type 0 where
  pub rest : List ℕ
  pub last : Last

abbrev pub is_whole : Last → Bool
is_whole Part = false
is_whole Whole = true
is_whole (Refused f) = false

abbrev pub refused_by : Last → Option Field
refused_by Part = None
refused_by Whole = None
refused_by (Refused f) = Some f

-- the bytes that the next message begins with
abbrev pub kept : Kept → List ℕ
kept room = if is_whole room.last then [] else room.rest
