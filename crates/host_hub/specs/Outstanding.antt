-- what was written and is not answered
use Rattle.std.specs.Prelude.{ℕ, ◌==◌, Bool, false, ◌||◌, ◌&&◌, Option, Some, None, List, [], ◌∷◌, ◌++◌, if◌then◌else◌}
use Rattle.usbip_wire.specs.Awaited.{Awaited, sent_by}
use Rattle.usbip_wire.specs.Down as down
use Rattle.host_hub.specs.Order.{Order, Unlink, Setting, message_of, is_unlink, is_listen, is_bulk}
use Rattle.host_hub.specs.Record.{Owner, Happening, Past, Wrote, Took, Fell}
use Rattle.host_hub.specs.Hand.{is_of}

-- a message that was written
pub record Sent : Type 0 where
  pub number : ℕ
  pub owner : Owner
  pub order : Order

-- the one of this number
abbrev pub find : ℕ → List Sent → Option Sent
find n [] = None
find n (x ∷ xs) = if x.number == n then Some x else find n xs

-- those of other numbers
abbrev pub others : ℕ → List Sent → List Sent
others n [] = []
others n (x ∷ xs) = if x.number == n then others n xs else x ∷ others n xs

-- an unlink names a submit that was written before it
abbrev pub without_named : Order → List Sent → List Sent
without_named (Unlink target) xs = others target xs
without_named order xs = xs

abbrev pub named_among : Order → List Sent → Option Sent
named_among (Unlink target) xs = find target xs
named_among order xs = None

-- the answer to an unlink takes the submit out, too, that the unlink names
abbrev pub less_unlink : ℕ → List Sent → List Sent
less_unlink n [] = []
less_unlink n (x ∷ xs) = if x.number == n then without_named x.order xs else x ∷ less_unlink n xs

abbrev pub less : down.Message → List Sent → List Sent
less (down.RetSubmit head bytes) xs = others head.seqnum xs
less (down.RetUnlink head) xs = less_unlink head.seqnum xs

-- that submit, where it is outstanding
abbrev pub lost_with : ℕ → List Sent → Option Sent
lost_with n [] = None
lost_with n (x ∷ xs) = if x.number == n then named_among x.order xs else lost_with n xs

abbrev pub changed : Happening → List Sent → List Sent
changed (Wrote number owner order) xs = record { number = number; owner = owner; order = order } ∷ xs
changed (Took answer) xs = less answer xs
changed (Fell answer end) xs = less answer xs
changed _ xs = xs

-- the submits and unlinks that are not answered, the latest first
abbrev pub outstanding : Past → List Sent
outstanding [] = []
outstanding (x ∷ past) = changed x (outstanding past)

-- the same as a reader of answers knows them, the first one first
abbrev pub awaited_by : Setting → List Sent → List Awaited
awaited_by s [] = []
awaited_by s (x ∷ xs) = awaited_by s xs ++ sent_by (message_of s x.number x.order) ∷ []

-- all but Interrupt-IN submits
abbrev pub busy : List Sent → List Sent
busy [] = []
busy (x ∷ xs) = if is_listen x.order then busy xs else x ∷ busy xs

-- an Interrupt-IN submit is there
abbrev pub is_listening : List Sent → Bool
is_listening [] = false
is_listening (x ∷ xs) = is_listen x.order || is_listening xs

-- those of a ticket; where it listens, the Interrupt-IN submits too, whichever ticket made them
abbrev pub involved : (t : ℕ) (listens : Bool) → List Sent → List Sent
involved t listens [] = []
involved t listens (x ∷ xs) =
    if is_of t x.owner || (listens && is_listen x.order) then x ∷ involved t listens xs else involved t listens xs

-- the bulk submits of a ticket
abbrev pub own_bulk : ℕ → List Sent → List Sent
own_bulk t [] = []
own_bulk t (x ∷ xs) = if is_of t x.owner && is_bulk x.order then x ∷ own_bulk t xs else own_bulk t xs

-- an unlink of this submit is there
abbrev pub names : ℕ → Order → Bool
names n (Unlink target) = target == n
names n order = false

abbrev pub is_unlinked : ℕ → List Sent → Bool
is_unlinked n [] = false
is_unlinked n (x ∷ xs) = names n x.order || is_unlinked n xs

-- the submits among the first that no unlink among the second names
abbrev pub not_unlinked : List Sent → (all : List Sent) → List ℕ
not_unlinked [] all = []
not_unlinked (x ∷ xs) all =
    if is_unlink x.order || is_unlinked x.number all then not_unlinked xs all else x.number ∷ not_unlinked xs all
