-- what a hub notes beside its book
use Rattle.std.specs.Prelude.{ℕ, ◌-◌, Option, None, List, [], ◌∷◌, ◌++◌, set, slice_get, if◌then◌else◌, ◌==◌}
use Rattle.host_hub.specs.declared.notes.Mark.{Mark}

pub record Noted : Type 0 where
  -- the mark of each entry
  pub marks : List Mark
  -- of each ticket the number of its first submit, 0 while there is none
  pub starts : List ℕ
  -- of each ticket, how many turns there had been when it was asked
  pub births : List ℕ
  -- so many marks, and so many tickets, take no memory
  pub room : ℕ
  pub places : ℕ

-- an entry was made
abbrev pub with_mark : Mark → Noted → Noted
with_mark mark noted = record noted { marks = noted.marks ++ mark ∷ []; room = noted.room - 1 }

-- a ticket was asked
abbrev pub with_ticket : Mark → (turned : ℕ) → Noted → Noted
with_ticket mark turned noted = record {
  marks = noted.marks ++ mark ∷ [];
  starts = noted.starts ++ 0 ∷ [];
  births = noted.births ++ turned ∷ [];
  room = noted.room - 1;
  places = noted.places - 1;
}

-- a ticket began with this number
abbrev pub with_start : (ticket number : ℕ) → Noted → Noted
with_start ticket number noted = record noted { starts = set noted.starts (ticket - 1) number }

-- when a ticket was asked
abbrev pub born_of : (ticket : ℕ) → List ℕ → Option ℕ
born_of ticket births = if ticket == 0 then None else slice_get births (ticket - 1)
