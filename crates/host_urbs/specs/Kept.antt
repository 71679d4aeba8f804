-- what holds of a client at any time
use Rattle.std.specs.Prelude.{◌≡◌, ℕ, ◌<◌, ◌^◌, List}
use Rattle.host_urbs.specs.Entries.{awaited, sent}
use Rattle.host_urbs.specs.Held.{Held, Follows}
use Rattle.host_urbs.specs.Record.{Past}
use Rattle.usbip_wire.specs.declared.dirs.Outstanding.{Outstanding}
use Rattle.usbip_wire.specs.Awaited.{entries_of}
use Rattle.usbip_wire.specs.Dirs.{AreShort}

-- a record of messages leads there
pub record IsReached (held : Held) : Type 0 where
  pub first : ℕ
  pub past : Past
  pub bytes : List ℕ
  pub low : first < 2 ^ 32
  pub follows : Follows first past bytes held

-- Answers are read by those entries that were sent. No submit is longer than a reader accepts.
pub record IsKept (held : Held) (dirs : List Outstanding) : Type 0 where
  pub read_by : dirs ≡ entries_of (sent held.entries)
  pub short : AreShort (entries_of (awaited held.entries))
  pub reached : IsReached held
