-- which submits are unlinked
use Rattle.std.specs.Prelude.{ℕ, Bool, false, ◌&&◌, ◌||◌, nat_lt, not, Option, Some, None, List, [], ◌∷◌, is_some, if◌then◌else◌}
use Rattle.host_hub.specs.declared.outcome.End.{End}
use Rattle.host_hub.specs.Order.{Setting}
use Rattle.host_hub.specs.Record.{Past}
use Rattle.host_hub.specs.Outstanding.{Sent, outstanding, not_unlinked, own_bulk}
use Rattle.host_hub.specs.Hand.{in_hand}
use Rattle.host_hub.specs.Book.{is_live}
use Rattle.host_hub.specs.Pieces.{Piece, pieces}
use Rattle.host_hub.specs.Status.{awaits}
use Rattle.host_hub.specs.Causes.{reached}

abbrev pub is_over : List Piece → Bool
is_over [] = false
is_over (piece ∷ pieces) = is_some piece.over

-- more than one submit of a ticket may be out
abbrev pub is_deep : Setting → Bool
is_deep s = nat_lt 1 s.depth

-- The submits of the ticket in hand that are to be unlinked: all that it waits for where it was reached; and, at a depth
-- above 1, its bulk submits where it is settled or its piece has ended.
abbrev pub unwanted : Setting → ℕ → Past → List Sent
unwanted s t past =
    if is_live t past && is_some (reached t past) then awaits t past
    else if is_deep s && (not (is_live t past) || is_over (pieces t past)) then own_bulk t (outstanding past)
    else []

abbrev pub unlinks_of : Setting → Option ℕ → Past → List ℕ
unlinks_of s None past = []
unlinks_of s (Some t) past = not_unlinked (unwanted s t past) (outstanding past)

-- the submits that an unlink is due for, in falling order; a hub that has ended unlinks nothing
abbrev pub unlinks_due : Setting → Option End → Past → List ℕ
unlinks_due s None past = unlinks_of s (in_hand past) past
unlinks_due s (Some e) past = []
