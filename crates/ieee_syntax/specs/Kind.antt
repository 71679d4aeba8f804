-- bytes as the grammar of IEEE 488.2 sees them
use Rattle.std.specs.Prelude.{ℕ, ◌-◌, ◌<◌, ⊤, if◌then◌else◌, ◌==◌, nat_le, ◌&&◌, List, map}
use Rattle.ieee_syntax.specs.declared.kind.Kind.{Kind}
use Rattle.ieee_syntax.specs.declared.kind.Kind.TheVariants.{Space, NewLine, Digit, Letter, Underscore, Star, Question, Comma, Semicolon, Plus, Minus, Point, Other}

-- the marks that stand for themselves (7.4 to 7.7): _ * ? , ; + - .
abbrev pub mark_of : ℕ → Kind
mark_of b =
    if b == 95 then Underscore else if b == 42 then Star else if b == 63 then Question
    else if b == 44 then Comma else if b == 59 then Semicolon
    else if b == 43 then Plus else if b == 45 then Minus else if b == 46 then Point else Other

-- NL is 10, and <white space> any other byte from 0 to 32 (7.4.1.2); a digit has its value, and a letter is
-- taken as upper case (7.6.1.2)
unfoldable pub kind_of : ℕ → Kind
kind_of b =
    if b == 10 then NewLine else if nat_le b 32 then Space
    else if nat_le 48 b && nat_le b 57 then Digit (b - 48)
    else if nat_le 65 b && nat_le b 90 then Letter b
    else if nat_le 97 b && nat_le b 122 then Letter (b - 32)
    else mark_of b

abbrev pub kinds : List ℕ → List Kind
kinds bytes = map kind_of bytes

-- a digit has a value below ten
abbrev pub IsSmall : Kind → Type 0
IsSmall (Digit value) = value < 10
IsSmall _ = ⊤
