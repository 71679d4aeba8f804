-- a hub may begin as a script says
use Rattle.std.proofs.Common.{◌≡◌, ℕ, ◌+◌, ◌≤◌, Bool, true, false, ltb, cond, Result, Ok, Err, List, [], ◌∷◌, length, sym, subst, arith}
use Rattle.host_hub.specs.declared.limits.TheConstants.{MAX_DEPTH}
use Rattle.event_text.specs.declared.event.Script.{Script}
use Rattle.event_text.specs.declared.event_line.Place.{Place}
use Rattle.event_text.specs.declared.event_line.Place.TheVariants.{Start, BehindFirst, BehindOthers}
use Rattle.event_text.specs.declared.event_line.Said.{Said}
use Rattle.event_text.specs.declared.event_line.Said.TheVariants.{First, Depth, Does}
use Rattle.event_text.specs.declared.line_fault.LineWhat.{LineWhat}
use Rattle.event_text.specs.declared.line_fault.LineWhat.TheVariants.{TooLong, TooMany}
use Rattle.event_text.specs.EventLine.{line_words, place_behind}
use Rattle.event_text.specs.EventScript.{IsEventScript, MayBegin, SayInTurn, named_first, named_depth}
use Rattle.event_text.specs.EventSpelled.{SaidMayStand}
use Rattle.event_text.specs.Script.{lines_most, line_most, judged}
use Rattle.event_text.specs.Words.{lines_of, words_of}
use Rattle.event_text.proofs.Spelled.{said_was}

says_by : {A : Type 0} → (many long : Bool) (said : Result A LineWhat) (x : A) → cond many (Err TooMany) (cond long (Err TooLong) said) ≡ Ok x → said ≡ Ok x
says_by true long said x e = absurd (cc e)
says_by false true said x e = absurd (cc e)
says_by false false said x e = e

stands : (place : Place) (number : ℕ) (line : List ℕ) (said : Said) → judged number line (line_words place) ≡ Ok said → SaidMayStand place said
stands place number line said e =
    (said_was place line said (says_by (ltb lines_most number) (ltb line_most (length line)) (line_words place (words_of line)) said e)).1

first_named : (place : Place) (number : ℕ) → SaidMayStand place (First number) → 1 ≤ number
first_named Start number may = may.0
first_named BehindFirst number may = absurd may
first_named BehindOthers number may = absurd may

depth_named : (place : Place) (depth : ℕ) → SaidMayStand place (Depth depth) → (1 ≤ depth) × (depth ≤ MAX_DEPTH)
depth_named Start depth may = may
depth_named BehindFirst depth may = may
depth_named BehindOthers depth may = absurd may

-- what lines name, behind such a number and such a depth
named : (place : Place) (number first depth : ℕ) (lines : List (List ℕ)) (said : List Said) → SayInTurn place number lines said
    → MayBegin first depth → MayBegin (named_first first said) (named_depth depth said)
named place number first depth [] [] say may = may
named place number first depth [] (one ∷ said) say may = absurd say
named place number first depth (line ∷ lines) [] say may = absurd say
named place number first depth (line ∷ lines) (First n ∷ said) say may =
    named (place_behind (First n)) (number + 1) n depth lines said say.1
    (record { number = first_named place n (stands place number line (First n) say.0); some = may.some; most = may.most })
named place number first depth (line ∷ lines) (Depth n ∷ said) say may =
    let is = depth_named place n (stands place number line (Depth n) say.0) in
    named (place_behind (Depth n)) (number + 1) first n lines said say.1 (record { number = may.number; some = is.0; most = is.1 })
named place number first depth (line ∷ lines) (Does event ∷ said) say may =
    named (place_behind (Does event)) (number + 1) first depth lines said say.1 may

pub may_begin : (source : List ℕ) (script : Script) → IsEventScript source script → MayBegin script.first script.depth
may_begin source script is =
    subst (λ (s : Script). MayBegin s.first s.depth) (sym is.made)
    (named Start 1 1 1 (lines_of source) is.said is.says (record { number = omega arith; some = omega arith; most = omega arith }))
