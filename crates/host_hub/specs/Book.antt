-- tickets, and what the book says of them
use Rattle.std.specs.Prelude.{◌≡◌, ℕ, ◌+◌, ◌==◌, Bool, true, false, ◌||◌, Option, Some, None, List, [], ◌∷◌, ◌++◌, if◌then◌else◌}
use Rattle.host_hub.specs.declared.outcome.Outcome.{Outcome}
use Rattle.host_hub.specs.declared.outcome.Outcome.TheVariants.{Live}
use Rattle.host_hub.specs.Record.{Happening, Past, Asked, Cancelled, GaveUp, Settled, Asking}

-- the first of two that there is
abbrev pub or_else : {A : Type 0} → Option A → Option A → Option A
or_else (Some a) other = Some a
or_else None other = other

abbrev pub first_of : {A : Type 0} → List A → Option A
first_of [] = None
first_of (x ∷ xs) = Some x

-- the tickets but this one
abbrev pub remove : ℕ → List ℕ → List ℕ
remove n [] = []
remove n (x ∷ xs) = if x == n then remove n xs else x ∷ remove n xs

abbrev pub has : ℕ → List ℕ → Bool
has n [] = false
has n (x ∷ xs) = (x == n) || has n xs

-- how many tickets there are
abbrev pub asks : Happening → ℕ → ℕ
asks (Asked t asking) n = n + 1
asks _ n = n

abbrev pub tickets : Past → ℕ
tickets [] = 0
tickets (x ∷ past) = asks x (tickets past)

-- the tickets that are not settled, in their order
abbrev pub living : Happening → List ℕ → List ℕ
living (Asked t asking) ts = ts ++ t ∷ []
living (Settled t outcome) ts = remove t ts
living _ ts = ts

abbrev pub live : Past → List ℕ
live [] = []
live (x ∷ past) = living x (live past)

abbrev pub is_live : ℕ → Past → Bool
is_live t past = has t (live past)

-- the first of them is the active one
abbrev pub active : Past → Option ℕ
active past = first_of (live past)

abbrev pub is_active : ℕ → Option ℕ → Bool
is_active t None = false
is_active t (Some u) = u == t

-- what a ticket asks for
abbrev pub asked_by : ℕ → Happening → Option Asking → Option Asking
asked_by t (Asked u asking) before = if u == t then Some asking else before
asked_by t _ before = before

abbrev pub asking_of : ℕ → Past → Option Asking
asking_of t [] = None
asking_of t (x ∷ past) = asked_by t x (asking_of t past)

-- its outcome
abbrev pub settled_by : ℕ → Happening → Option Outcome → Option Outcome
settled_by t (Settled u outcome) before = if u == t then Some outcome else before
settled_by t _ before = before

abbrev pub settled : ℕ → Past → Option Outcome
settled t [] = None
settled t (x ∷ past) = settled_by t x (settled t past)

abbrev pub or_live : Option Outcome → Outcome
or_live None = Live
or_live (Some outcome) = outcome

abbrev pub outcome_of : ℕ → Past → Outcome
outcome_of t past = or_live (settled t past)

-- there is a cancel of it
abbrev pub cancels : ℕ → Happening → Bool → Bool
cancels t (Cancelled u) before = (u == t) || before
cancels t _ before = before

abbrev pub is_cancelled : ℕ → Past → Bool
is_cancelled t [] = false
is_cancelled t (x ∷ past) = cancels t x (is_cancelled t past)

-- the hub was given up
abbrev pub gives_up : Happening → Bool → Bool
gives_up GaveUp before = true
gives_up _ before = before

abbrev pub is_given_up : Past → Bool
is_given_up [] = false
is_given_up (x ∷ past) = gives_up x (is_given_up past)

-- The law of the book: tickets are numbered in order of asking, and each entry of a ticket but the first is made while it
-- is live. It is cancelled at most once.
abbrev pub BookLaw : Past → Happening → Type 0
BookLaw past (Asked t asking) = t ≡ tickets past + 1
BookLaw past (Cancelled t) = (has t (live past) ≡ true) × (is_cancelled t past ≡ false)
BookLaw past (Settled t outcome) = has t (live past) ≡ true
BookLaw past GaveUp = is_given_up past ≡ false
BookLaw past _ = Unit {0}

-- the book's law held at each entry
abbrev pub KeepsBook : Past → Type 0
KeepsBook [] = Unit {0}
KeepsBook (x ∷ past) = KeepsBook past × BookLaw past x
