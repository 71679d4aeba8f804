-- what waits to be sent
use Rattle.std.specs.Prelude.{◌≡◌, ℕ, List, [], ◌∷◌, length}
use Rattle.host_urbs.specs.declared.entry.Entry.{Entry}
use Rattle.host_urbs.specs.Held.{Held}

-- how many bytes are to be sent until the last of these is sent whole
abbrev pub last_unsent : List Entry → ℕ
last_unsent [] = 0
last_unsent (entry ∷ []) = entry.unsent
last_unsent (entry ∷ (other ∷ entries)) = last_unsent (other ∷ entries)

-- nothing, where every message is answered, and else all up to the end of the last one that is not
abbrev pub Queued : Held → Type 0
Queued held = last_unsent held.entries ≡ length held.outbox
