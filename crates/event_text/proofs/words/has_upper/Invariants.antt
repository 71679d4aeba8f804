use Rattle.std.proofs.Common.{◌≡◌, take}
use Rattle.std.specs.Char.{is_ascii_uppercase}
use Rattle.std.specs.List.{list_any}
use Rattle.event_text.proofs.words.has_upper.Given as goal

abbrev pub invariant-bytes : goal.invariant-bytes
invariant-bytes l = l.found ≡ list_any is_ascii_uppercase (take l.byte-index l.word)
