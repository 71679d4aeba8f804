-- a log, and the room behind it
use Rattle.std.specs.Prelude.{ℕ, List}
use Rattle.instr_plain.specs.declared.log.LogEntry.{LogEntry}

pub record Entries : Type 0 where
  pub entries : List LogEntry
  pub room : ℕ
