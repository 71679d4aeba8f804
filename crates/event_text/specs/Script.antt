-- what the lines of a script say, and their faults
use Rattle.std.specs.Prelude.{◌≡◌, ℕ, ◌+◌, nat_le, nat_lt, Option, Some, None, is_some, Result, Ok, Err, List, [], ◌∷◌, if◌then◌else◌, codes, length}
use Rattle.std.specs.Str.{bytes_eq}
use Rattle.tmc_base.specs.declared.limits.TheConstants.{SUBMIT_MAX}
use Rattle.usbip_wire.specs.declared.dirs.Outstanding.{Outstanding}
use Rattle.usbip_wire.specs.declared.dirs.Outstanding.TheVariants.{Submit, Unlink}
use Rattle.usbip_wire.specs.declared.dirs.TheConstants.{DIRS_MAX}
use Rattle.usbip_wire.specs.declared.urb.Dir.{Dir}
use Rattle.usbip_wire.specs.declared.urb.Dir.TheVariants.{Out, In}
use Rattle.usbip_wire.specs.Dirs.{find, number_of as seqnum_of}
use Rattle.event_text.specs.declared.way.Way.{Way}
use Rattle.event_text.specs.declared.way.Way.TheVariants as ways
use Rattle.event_text.specs.declared.limits.TheConstants.{LINES_MOST, LINE_MOST}
use Rattle.event_text.specs.declared.line_fault.LineWhat.{LineWhat}
use Rattle.event_text.specs.declared.line_fault.LineWhat.TheVariants.{Unknown, Words, Number, Hex, TooLong, TooMany, Twice}
use Rattle.event_text.specs.declared.script.Line.{Line}
use Rattle.event_text.specs.declared.script.Line.TheVariants.{Adds, Bytes}
use Rattle.event_text.specs.declared.script.Phase.{Phase}
use Rattle.event_text.specs.declared.script.Phase.TheVariants.{Op, Urb}
use Rattle.event_text.specs.Words.{words_of, number_of, bytes_of}

-- what is made of a value, where there is one, and else this fault
abbrev pub need : {A B : Type 0} → LineWhat → Option A → (A → Result B LineWhat) → Result B LineWhat
need what None make = Err what
need what (Some x) make = make x

-- ---- the words behind the first: none, one, two or three

abbrev pub if_none : List (List ℕ) → Option Unit
if_none [] = Some tt
if_none words = None

abbrev pub if_one : List (List ℕ) → Option (List ℕ)
if_one (word ∷ []) = Some word
if_one words = None

abbrev pub and_one : List ℕ → Option (List ℕ) → Option (List ℕ × List ℕ)
and_one word None = None
and_one word (Some last) = Some (word, last)

abbrev pub if_two : List (List ℕ) → Option (List ℕ × List ℕ)
if_two [] = None
if_two (word ∷ words) = and_one word (if_one words)

abbrev pub and_two : List ℕ → Option (List ℕ × List ℕ) → Option (List ℕ × (List ℕ × List ℕ))
and_two word None = None
and_two word (Some others) = Some (word, others)

abbrev pub if_three : List (List ℕ) → Option (List ℕ × (List ℕ × List ℕ))
if_three [] = None
if_three (word ∷ words) = and_two word (if_two words)

-- the most lines of a script, and the most bytes of a line without its NL
abbrev pub lines_most : ℕ
lines_most = LINES_MOST

abbrev pub line_most : ℕ
line_most = LINE_MOST

-- the number of a line, counted from 1, and its length are judged before its words
abbrev pub judged : {A : Type 0} → ℕ → List ℕ → (List (List ℕ) → Result A LineWhat) → Result A LineWhat
judged number line say =
    if nat_lt lines_most number then Err TooMany
    else if nat_lt line_most (length line) then Err TooLong
    else say (words_of line)

-- ---- the first line

abbrev pub phase_of : List ℕ → Option Phase
phase_of word = if bytes_eq word (codes "op") then Some Op else if bytes_eq word (codes "urb") then Some Urb else None

-- the words behind `phase`
abbrev pub phase_said : List (List ℕ) → Result Phase LineWhat
phase_said words = need Words (if_one words) (λ word. need Words (phase_of word) (λ phase. Ok phase))

abbrev pub first_words : List (List ℕ) → Result Phase LineWhat
first_words [] = Err Unknown
first_words (head ∷ words) = if bytes_eq head (codes "phase") then phase_said words else Err Unknown

abbrev pub first_said : List ℕ → Result Phase LineWhat
first_said line = judged 1 line first_words

-- ---- a later line

abbrev pub dir_of : List ℕ → Option Dir
dir_of word = if bytes_eq word (codes "in") then Some In else if bytes_eq word (codes "out") then Some Out else None

-- a submit's length
abbrev pub if_short : Option ℕ → Option ℕ
if_short None = None
if_short (Some size) = if nat_le size SUBMIT_MAX then Some size else None

abbrev pub length_of : List ℕ → Option ℕ
length_of word = if_short (number_of word)

-- the words behind `submit`, `unlink` and `bytes`
abbrev pub submit_said : List (List ℕ) → Result Outstanding LineWhat
submit_said words =
    need Words (if_three words) (λ three.
    need Words (dir_of three.1.0) (λ dir.
    need Number (number_of three.0) (λ seqnum.
    need Number (length_of three.1.1) (λ size. Ok (Submit seqnum dir size)))))

abbrev pub unlink_said : List (List ℕ) → Result Outstanding LineWhat
unlink_said words = need Words (if_one words) (λ number. need Number (number_of number) (λ seqnum. Ok (Unlink seqnum)))

abbrev pub bytes_said : List (List ℕ) → Result Line LineWhat
bytes_said words = need Words (if_one words) (λ word. need Hex (bytes_of word) (λ piece. Ok (Bytes piece)))

abbrev pub adds : Result Outstanding LineWhat → Result Line LineWhat
adds (Ok entry) = Ok (Adds entry)
adds (Err what) = Err what

-- only answers have something outstanding
abbrev pub later_words : Way → List (List ℕ) → Result Line LineWhat
later_words way [] = Err Unknown
later_words ways.Up (head ∷ words) = if bytes_eq head (codes "bytes") then bytes_said words else Err Unknown
later_words ways.Down (head ∷ words) =
    if bytes_eq head (codes "bytes") then bytes_said words
    else if bytes_eq head (codes "submit") then adds (submit_said words)
    else if bytes_eq head (codes "unlink") then adds (unlink_said words)
    else Err Unknown

abbrev pub later_said : Way → ℕ → List ℕ → Result Line LineWhat
later_said way number line = judged number line (later_words way)

-- these lines, numbered from here on, say this
abbrev pub Say : Way → ℕ → List (List ℕ) → List Line → Type 0
Say way number [] [] = Unit {0}
Say way number (line ∷ lines) (said ∷ more) = (later_said way number line ≡ Ok said) × Say way (number + 1) lines more
Say way number lines said = ⊥

-- ---- faults

-- an entry whose number is in the list, or that finds no free place there
abbrev pub entry_fault : List Outstanding → Outstanding → Option LineWhat
entry_fault entries entry =
    if is_some (find (seqnum_of entry) entries) then Some Twice
    else if nat_lt (length entries) DIRS_MAX then None
    else Some TooMany

-- the fault of a line that says this, where these are outstanding
abbrev pub said_fault : List Outstanding → Result Line LineWhat → Option LineWhat
said_fault entries (Err what) = Some what
said_fault entries (Ok (Adds entry)) = entry_fault entries entry
said_fault entries (Ok (Bytes piece)) = None
