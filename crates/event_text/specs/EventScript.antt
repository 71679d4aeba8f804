-- the script of events that a text is, and which line of a text is refused
use Rattle.std.specs.Prelude.{◌≡◌, ⊤, ℕ, ◌+◌, ◌≤◌, Ok, Err, List, [], ◌∷◌, ◌++◌, length}
use Rattle.host_hub.specs.declared.limits.TheConstants.{MAX_DEPTH}
use Rattle.event_text.specs.declared.event.Event.{Event}
use Rattle.event_text.specs.declared.event.Script.{Script}
use Rattle.event_text.specs.declared.event_line.Place.{Place}
use Rattle.event_text.specs.declared.event_line.Place.TheVariants.{Start}
use Rattle.event_text.specs.declared.event_line.Said.{Said}
use Rattle.event_text.specs.declared.event_line.Said.TheVariants.{First, Depth, Does}
use Rattle.event_text.specs.declared.line_fault.LineFault.{LineFault}
use Rattle.event_text.specs.declared.line_fault.LineFault.TheVariants.{At, Memory}
use Rattle.event_text.specs.declared.line_fault.LineWhat.{LineWhat}
use Rattle.event_text.specs.EventLine.{line_said, place_behind}
use Rattle.event_text.specs.Words.{lines_of}

-- these lines, numbered from here on, say this, one after another
abbrev pub SayInTurn : Place → ℕ → List (List ℕ) → List Said → Type 0
SayInTurn place number [] [] = Unit {0}
SayInTurn place number (line ∷ lines) (said ∷ more) =
    (line_said place number line ≡ Ok said) × SayInTurn (place_behind said) (number + 1) lines more
SayInTurn place number lines said = ⊥

-- what has been said behind these lines
abbrev pub place_after : Place → List Said → Place
place_after place [] = place
place_after place (said ∷ more) = place_after (place_behind said) more

-- the sequence number and the depth that lines name, where one does
abbrev pub named_first : ℕ → List Said → ℕ
named_first first [] = first
named_first first (First number ∷ more) = named_first number more
named_first first (Depth depth ∷ more) = named_first first more
named_first first (Does event ∷ more) = named_first first more

abbrev pub named_depth : ℕ → List Said → ℕ
named_depth depth [] = depth
named_depth depth (First number ∷ more) = named_depth depth more
named_depth depth (Depth other ∷ more) = named_depth other more
named_depth depth (Does event ∷ more) = named_depth depth more

-- what happens, in the order of the lines
abbrev pub events_in : List Said → List Event
events_in [] = []
events_in (First number ∷ more) = events_in more
events_in (Depth depth ∷ more) = events_in more
events_in (Does event ∷ more) = event ∷ events_in more

-- the script that lines say; a first sequence number and a depth that no line names are 1
abbrev pub script_of : List Said → Script
script_of said = record { first = named_first 1 said; depth = named_depth 1 said; events = events_in said }

-- the lines of the text say this script
pub record IsEventScript (source : List ℕ) (script : Script) : Type 0 where
  pub said : List Said
  pub says : SayInTurn Start 1 (lines_of source) said
  pub made : script ≡ script_of said

-- a hub may begin with this first number and this depth
pub record MayBegin (first depth : ℕ) : Type 0 where
  pub number : 1 ≤ first
  pub some : 1 ≤ depth
  pub most : depth ≤ MAX_DEPTH

-- this line, counted from 1, is the first that is refused, with its first fault
pub record IsRefusedEvent (source : List ℕ) (number : ℕ) (what : LineWhat) : Type 0 where
  pub before : List (List ℕ)
  pub line : List ℕ
  pub others : List (List ℕ)
  pub said : List Said
  pub cut : lines_of source ≡ before ++ line ∷ others
  pub says : SayInTurn Start 1 before said
  pub place : number ≡ 1 + length before
  pub refused : line_said (place_after Start said) number line ≡ Err what

-- the fault of a call: a line is refused, or memory is wanting
abbrev pub IsEventFault : List ℕ → LineFault → Type 0
IsEventFault source (At number what) = IsRefusedEvent source number what
IsEventFault source Memory = ⊤
