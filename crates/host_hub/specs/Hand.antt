-- which tickets have begun, which one is in hand, and whether the hub has ended
use Rattle.std.specs.Prelude.{ℕ, ◌==◌, Bool, false, ◌||◌, ◌&&◌, not, Option, Some, None, [], ◌∷◌, if◌then◌else◌}
use Rattle.host_hub.specs.declared.outcome.End.{End}
use Rattle.host_hub.specs.Record.{Owner, Of, Recovery, Happening, Past, Wrote, Fell, Stopped}

abbrev pub is_of : ℕ → Owner → Bool
is_of t (Of u) = u == t
is_of t Recovery = false

-- a ticket has begun: something was written for it
abbrev pub begins : ℕ → Happening → Bool → Bool
begins t (Wrote number owner order) before = is_of t owner || before
begins t _ before = before

abbrev pub is_begun : ℕ → Past → Bool
is_begun t [] = false
is_begun t (x ∷ past) = begins t x (is_begun t past)

-- the number of its first submit, and 0 while there is none
abbrev pub starts : ℕ → Past → Happening → ℕ → ℕ
starts t past (Wrote number owner order) before = if is_of t owner && not (is_begun t past) then number else before
starts t past _ before = before

abbrev pub start : ℕ → Past → ℕ
start t [] = 0
start t (x ∷ past) = starts t past x (start t past)

-- the ticket in hand: the last one for which something was written, settled or not
abbrev pub hand_by : Happening → Option ℕ → Option ℕ
hand_by (Wrote number (Of t) order) before = Some t
hand_by _ before = before

abbrev pub in_hand : Past → Option ℕ
in_hand [] = None
in_hand (x ∷ past) = hand_by x (in_hand past)

-- how the hub ended
abbrev pub ended_by : Happening → Option End → Option End
ended_by (Fell answer end) before = Some end
ended_by (Stopped end) before = Some end
ended_by _ before = before

abbrev pub ended : Past → Option End
ended [] = None
ended (x ∷ past) = ended_by x (ended past)
