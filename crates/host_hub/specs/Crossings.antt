-- the messages of a record, without the rest that happened
use Rattle.std.specs.Prelude.{[], ◌∷◌}
use Rattle.host_hub.specs.Order.{Setting, message_of}
use Rattle.host_hub.specs.Record.{Happening, Past, Wrote, Took, Fell}
use Rattle.host_urbs.specs.Record as urbs

abbrev pub crosses : Setting → Happening → urbs.Past → urbs.Past
crosses s (Wrote number owner order) crossings = urbs.Wrote (message_of s number order) ∷ crossings
crosses s (Took answer) crossings = urbs.Took answer ∷ crossings
crosses s (Fell answer end) crossings = urbs.Took answer ∷ crossings
crosses s _ crossings = crossings

abbrev pub crossings : Setting → Past → urbs.Past
crossings s [] = []
crossings s (x ∷ past) = crosses s x (crossings s past)
