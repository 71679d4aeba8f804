-- what is not answered, by the messages written and the answers taken alone
use Rattle.std.specs.Prelude.{◌≡◌, ℕ, ◌+◌, ◌<◌, ◌≤◌, ◌==◌, ◌&&◌, ◌||◌, Bool, false, List, [], ◌∷◌, if◌then◌else◌}
use Rattle.usbip_wire.specs.Awaited.{Awaited, number_of, sent_by}
use Rattle.usbip_wire.specs.Down as down
use Rattle.usbip_wire.specs.Up as up

-- the sequence number of a message
abbrev pub seqnum_of : up.Message → ℕ
seqnum_of (up.Submit head transferred) = head.seqnum
seqnum_of (up.Unlink head) = head.seqnum

-- the numbers of these are this one and those behind it, in a row
abbrev pub AreInARow : ℕ → List up.Message → Type 0
AreInARow n [] = Unit {0}
AreInARow n (message ∷ messages) = (seqnum_of message ≡ n) × AreInARow (n + 1) messages

-- an answer to the submit of this number came
abbrev pub is_returned : ℕ → List down.Message → Bool
is_returned n [] = false
is_returned n (down.RetSubmit head transferred ∷ answers) = (head.seqnum == n) || is_returned n answers
is_returned n (down.RetUnlink head ∷ answers) = is_returned n answers

-- an answer to the unlink of this number came
abbrev pub is_unlinked : ℕ → List down.Message → Bool
is_unlinked n [] = false
is_unlinked n (down.RetSubmit head transferred ∷ answers) = is_unlinked n answers
is_unlinked n (down.RetUnlink head ∷ answers) = (head.seqnum == n) || is_unlinked n answers

-- an answer to an unlink came that names the submit of this number
abbrev pub is_taken_back : ℕ → List up.Message → List down.Message → Bool
is_taken_back n [] answers = false
is_taken_back n (up.Submit head transferred ∷ messages) answers = is_taken_back n messages answers
is_taken_back n (up.Unlink head ∷ messages) answers = ((head.target == n) && is_unlinked head.seqnum answers) || is_taken_back n messages answers

-- A submit is answered by its answer or by the answer to an unlink of it, and an unlink by its answer.
abbrev pub is_answered : List up.Message → List down.Message → up.Message → Bool
is_answered all answers (up.Submit head transferred) = is_returned head.seqnum answers || is_taken_back head.seqnum all answers
is_answered all answers (up.Unlink head) = is_unlinked head.seqnum answers

-- those of these messages that are not answered, where all of these were written
abbrev pub unanswered : (all : List up.Message) → List down.Message → List up.Message → List Awaited
unanswered all answers [] = []
unanswered all answers (message ∷ messages) =
    if is_answered all answers message then unanswered all answers messages else sent_by message ∷ unanswered all answers messages

-- these numbers rise, from this one on, and stay below that one
abbrev pub AreRising : (from below : ℕ) → List Awaited → Type 0
AreRising from below [] = Unit {0}
AreRising from below (one ∷ awaited) = (from ≤ number_of one) × (number_of one < below) × AreRising (number_of one + 1) below awaited
