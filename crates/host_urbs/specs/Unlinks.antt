-- unlinks of submits
use Rattle.std.specs.Prelude.{ℕ, ◌==◌, suc, List, [], ◌∷◌, if◌then◌else◌}
use Rattle.host_urbs.specs.Law.{is_named}
use Rattle.usbip_wire.specs.Awaited.{Awaited, Submit, Unlink}
use Rattle.usbip_wire.specs.Down as down
use Rattle.usbip_wire.specs.Up as up

-- how many of these messages are unlinks of the submit of this number
abbrev pub unlinks_of : ℕ → List up.Message → ℕ
unlinks_of n [] = 0
unlinks_of n (up.Submit head transferred ∷ messages) = unlinks_of n messages
unlinks_of n (up.Unlink head ∷ messages) = if head.target == n then suc (unlinks_of n messages) else unlinks_of n messages

-- how many of these answers have this number
abbrev pub answers_of : ℕ → List down.Message → ℕ
answers_of n [] = 0
answers_of n (down.RetSubmit head transferred ∷ answers) = if head.seqnum == n then suc (answers_of n answers) else answers_of n answers
answers_of n (down.RetUnlink head ∷ answers) = if head.seqnum == n then suc (answers_of n answers) else answers_of n answers

-- the submits among these that no unlink among all names
abbrev pub not_named : List Awaited → (all : List Awaited) → List ℕ
not_named [] all = []
not_named (Submit seqnum dir size ∷ awaited) all = if is_named seqnum all then not_named awaited all else seqnum ∷ not_named awaited all
not_named (Unlink seqnum target ∷ awaited) all = not_named awaited all

-- those of other numbers
abbrev pub removed : ℕ → List ℕ → List ℕ
removed n [] = []
removed n (k ∷ ks) = if k == n then removed n ks else k ∷ removed n ks
