-- the tags of Bulk-OUT transfers: each has the next one (USBTMC 1.0, table 1: bTag is 1 to 255)
use Rattle.std.specs.Prelude.{ℕ, ◌+◌, ◌%◌}

-- the greatest tag
abbrev pub tag_max : ℕ
tag_max = 255

-- the tag behind this one, and the first one behind 0
abbrev pub tag_behind : ℕ → ℕ
tag_behind tag = tag % tag_max + 1

-- the tag of each transfer, counted from 0
abbrev pub tag_of : ℕ → ℕ
tag_of count = count % tag_max + 1
