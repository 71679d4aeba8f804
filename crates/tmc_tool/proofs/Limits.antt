-- the limits of a script
use Rattle.std.proofs.Common.{◌≡◌, ℕ, ◌+◌, ◌<◌, ◌≤◌, Bool, true, false, ltb, ◌==◌, cond, Result, Ok, Err, List, [], ◌∷◌, ◌++◌, length, refl, sym, ap, ◌∙◌, subst, arith, length-append, append_assoc, append-nil}
use Rattle.std.proofs.lemmas.Bool.{ltb-false}
use Rattle.std.specs.List.{AllByRecursion, onto_first}
use Rattle.usbip_wire.specs.declared.urb.Dir.{Dir}
use Rattle.event_text.specs.declared.line_fault.LineWhat.{LineWhat}
use Rattle.event_text.specs.declared.line_fault.LineWhat.TheVariants.{TooLong, TooMany}
use Rattle.event_text.specs.Script.{lines_most, line_most, judged, later_words, first_words, Say}
use Rattle.event_text.specs.declared.event.Script.{Script}
use Rattle.event_text.specs.EventLine.{line_words, place_behind}
use Rattle.event_text.specs.EventScript.{IsEventScript, SayInTurn}
use Rattle.event_text.specs.Shown.{ShownOf}
use Rattle.event_text.specs.Way.{way_of}
use Rattle.event_text.specs.Words.{IsInside, lines_of, words_of}
use Rattle.tmc_tool.specs.Script.{IsShortLine, KeepsLimits, PassesLimit, IsBounded, IsAt, Stands}
use Rattle.tmc_tool.specs.declared.script.Place.{Place}

-- ---- more bytes

-- at least as many lines, and each at least as long
abbrev Below : List (List ℕ) → List (List ℕ) → Type 0
Below [] ys = Unit {0}
Below (x ∷ xs) [] = ⊥
Below (x ∷ xs) (y ∷ ys) = (length x ≤ length y) × Below xs ys

below_onto : (byte : ℕ) (xs ys : List (List ℕ)) → Below xs ys → Below (onto_first byte xs) (onto_first byte ys)
below_onto byte [] [] below = (omega arith, tt)
below_onto byte [] (y ∷ ys) below = (omega arith, tt)
below_onto byte (x ∷ xs) [] below = absurd below
below_onto byte (x ∷ xs) (y ∷ ys) below = (omega (arith, below.0), below.1)

below_more : (bytes more : List ℕ) → Below (lines_of bytes) (lines_of (bytes ++ more))
below_more [] more = tt
below_more (byte ∷ bytes) more = by_byte (byte == 10) refl (below_more bytes more)
  where
    by_byte : (is : Bool) → (byte == 10) ≡ is → Below (lines_of bytes) (lines_of (bytes ++ more)) → Below (lines_of (byte ∷ bytes)) (lines_of (byte ∷ (bytes ++ more)))
    by_byte true e below = rw e (omega arith, below)
    by_byte false e below = rw e (below_onto byte (lines_of bytes) (lines_of (bytes ++ more)) below)

below_length : (xs ys : List (List ℕ)) → Below xs ys → length xs ≤ length ys
below_length [] ys below = omega arith
below_length (x ∷ xs) [] below = absurd below
below_length (x ∷ xs) (y ∷ ys) below = omega (arith, below_length xs ys below.1)

below_short : (xs ys : List (List ℕ)) → Below xs ys → AllByRecursion IsShortLine ys → AllByRecursion IsShortLine xs
below_short [] ys below short = tt
below_short (x ∷ xs) [] below short = absurd below
below_short (x ∷ xs) (y ∷ ys) below short = (omega (arith, below.0, short.0), below_short xs ys below.1 short.1)

-- what passes a limit passes it whatever follows
pub front_keeps : (front more : List ℕ) → KeepsLimits (front ++ more) → KeepsLimits front
front_keeps front more keeps =
    let below = below_more front more in
    (omega (arith, below_length (lines_of front) (lines_of (front ++ more)) below, keeps.0), below_short (lines_of front) (lines_of (front ++ more)) below keeps.1)

pub past_stays : (bytes more : List ℕ) → PassesLimit bytes → PassesLimit (bytes ++ more)
past_stays bytes more passed = λ keeps. passed (front_keeps bytes more keeps)

-- ---- where the reading stands

-- before the first byte
pub at_start : IsAt [] 0 0
at_start = record {
  lines = [];
  line = [];
  many = refl;
  size = refl;
  inside = tt;
  each = tt;
  short = omega arith;
  few = omega arith;
  room = λ some. omega arith;
  cut = λ more. refl;
}

each-push : {X : Type 0} → (P : X → Type 0) (xs : List X) (x : X) → AllByRecursion P xs → P x → AllByRecursion P (xs ++ x ∷ [])
each-push P [] x each here = (here, tt)
each-push P (y ∷ xs) x each here = (each.0, each-push P xs x each.1 here)

-- an NL ends a line
nl_ends : (line more : List ℕ) → AllByRecursion IsInside line → lines_of (line ++ 10 ∷ more) ≡ line ∷ lines_of more
nl_ends [] more inside = refl
nl_ends (byte ∷ line) more inside =
    let first : lines_of (byte ∷ (line ++ 10 ∷ more)) ≡ onto_first byte (lines_of (line ++ 10 ∷ more)) = rw inside.0 refl in
    first ∙ ap (onto_first byte) (nl_ends line more inside.1)

-- and with none there is one line
one_line : (line : List ℕ) → AllByRecursion IsInside line → 0 < length line → lines_of line ≡ line ∷ []
one_line [] inside some = absurd (omega (arith, some))
one_line (byte ∷ []) inside some = rw inside.0 refl
one_line (byte ∷ second ∷ line) inside some =
    let first : lines_of (byte ∷ second ∷ line) ≡ onto_first byte (lines_of (second ∷ line)) = rw inside.0 refl in
    first ∙ ap (onto_first byte) (one_line (second ∷ line) inside.1 (omega arith))

-- bytes are some line
some_onto : (byte : ℕ) (xs : List (List ℕ)) → 0 < length (onto_first byte xs)
some_onto byte [] = omega arith
some_onto byte (x ∷ xs) = omega arith

some_line : (byte : ℕ) (bytes : List ℕ) → 0 < length (lines_of (byte ∷ bytes))
some_line byte bytes = by_byte (byte == 10) refl
  where
    by_byte : (is : Bool) → (byte == 10) ≡ is → 0 < length (lines_of (byte ∷ bytes))
    by_byte true e = rw e (omega arith)
    by_byte false e = rw e (some_onto byte (lines_of bytes))

some_behind : (line : List ℕ) (byte : ℕ) → 0 < length (lines_of (line ++ byte ∷ []))
some_behind [] byte = some_line byte []
some_behind (first ∷ line) byte = some_line first (line ++ byte ∷ [])

-- behind an NL
pub behind_nl : (bytes : List ℕ) (ended begun : ℕ) → ended < lines_most → IsAt bytes ended begun → IsAt (bytes ++ 10 ∷ []) (ended + 1) 0
behind_nl bytes ended begun below at = record {
  lines = at.lines ++ at.line ∷ [];
  line = [];
  many = omega (arith, at.many, length-append at.lines (at.line ∷ []));
  size = refl;
  inside = tt;
  each = each-push IsShortLine at.lines at.line at.each (omega (arith, at.size, at.short));
  short = omega arith;
  few = omega (arith, below);
  room = λ some. absurd (omega (arith, some));
  cut = λ rest.
      ap lines_of (append_assoc bytes (10 ∷ []) rest) ∙ (at.cut (10 ∷ rest)
      ∙ (ap (λ xs. at.lines ++ xs) (nl_ends at.line rest at.inside) ∙ sym (append_assoc at.lines (at.line ∷ []) (lines_of rest))));
}

each-append : {X : Type 0} → (P : X → Type 0) (xs ys : List X) → AllByRecursion P xs → AllByRecursion P ys → AllByRecursion P (xs ++ ys)
each-append P [] ys each more = more
each-append P (x ∷ xs) ys each more = (each.0, each-append P xs ys each.1 more)

-- behind more bytes of a line
pub behind_inside : (bytes line : List ℕ) (ended begun count : ℕ) → ended < lines_most → begun + count ≤ line_most → AllByRecursion IsInside line → length line ≡ count
    → IsAt bytes ended begun → IsAt (bytes ++ line) ended (begun + count)
behind_inside bytes line ended begun count below fits inside size at = record {
  lines = at.lines;
  line = at.line ++ line;
  many = at.many;
  size = omega (arith, at.size, size, length-append at.line line);
  inside = each-append IsInside at.line line at.inside inside;
  each = at.each;
  short = omega (arith, fits);
  few = at.few;
  room = λ some. below;
  cut = λ rest.
      ap lines_of (append_assoc bytes line rest) ∙ (at.cut (line ++ rest)
      ∙ ap (λ xs. at.lines ++ lines_of xs) (sym (append_assoc at.line line rest)));
}

last_of : (P : List ℕ → Type 0) (xs : List (List ℕ)) (x : List ℕ) → AllByRecursion P (xs ++ x ∷ []) → P x
last_of P [] x each = each.0
last_of P (y ∷ xs) x each = last_of P xs x each.1

-- a byte behind the last line that a script may have
pub past_lines : (bytes : List ℕ) (byte ended begun : ℕ) → lines_most ≤ ended → IsAt bytes ended begun → PassesLimit (bytes ++ byte ∷ [])
past_lines bytes byte ended begun above at = λ keeps.
    absurd (omega (arith, keeps.0, ap length (at.cut (byte ∷ [])), length-append at.lines (lines_of (at.line ++ byte ∷ [])), some_behind at.line byte, at.many, above))

-- bytes behind the last line that a script may have
pub past_some : (bytes line : List ℕ) (ended begun : ℕ) → lines_most ≤ ended → 0 < length line → IsAt bytes ended begun → PassesLimit (bytes ++ line)
past_some bytes [] ended begun above some at = absurd (omega (arith, some))
past_some bytes (byte ∷ line) ended begun above some at =
    subst PassesLimit (append_assoc bytes (byte ∷ []) line) (past_stays (bytes ++ byte ∷ []) line (past_lines bytes byte ended begun above at))

-- bytes behind the longest line
pub past_line : (bytes more : List ℕ) (ended begun count : ℕ) → line_most < begun + count → AllByRecursion IsInside more → length more ≡ count → IsAt bytes ended begun
    → PassesLimit (bytes ++ more)
past_line bytes more ended begun count above inside many at = λ keeps.
    let line : List ℕ = at.line ++ more in
    let size : length line ≡ length at.line + length more = omega (arith, length-append at.line more) in
    let alone : lines_of line ≡ line ∷ [] = one_line line (each-append IsInside at.line more at.inside inside) (omega (arith, size, at.size, many, above)) in
    let all : lines_of (bytes ++ more) ≡ at.lines ++ line ∷ [] = at.cut more ∙ ap (λ xs. at.lines ++ xs) alone in
    let short : IsShortLine line = last_of IsShortLine at.lines line (subst (λ xs. AllByRecursion IsShortLine xs) all keeps.1) in
    absurd (omega (arith, short, size, at.size, many, above))

-- what the lines that are ended and the next one keep
keeps_line : (lines : List (List ℕ)) (line : List ℕ) → AllByRecursion IsInside line → AllByRecursion IsShortLine lines → length line ≤ line_most
    → length lines ≤ lines_most → (0 < length line → length lines < lines_most)
    → (length (lines ++ lines_of line) ≤ lines_most) × AllByRecursion IsShortLine (lines ++ lines_of line)
keeps_line lines [] inside each short few room = subst (λ xs. (length xs ≤ lines_most) × AllByRecursion IsShortLine xs) (sym (append-nil lines)) (few, each)
keeps_line lines (byte ∷ line) inside each short few room =
    let alone : lines_of (byte ∷ line) ≡ (byte ∷ line) ∷ [] = one_line (byte ∷ line) inside (omega arith) in
    subst (λ xs. (length (lines ++ xs) ≤ lines_most) × AllByRecursion IsShortLine (lines ++ xs)) (sym alone)
    (omega (arith, room (omega arith), length-append lines ((byte ∷ line) ∷ [])), each-push IsShortLine lines (byte ∷ line) each short)

-- within the limits
pub within_keeps : (bytes : List ℕ) (ended begun : ℕ) → IsAt bytes ended begun → KeepsLimits bytes
within_keeps bytes ended begun at =
    let all : lines_of bytes ≡ at.lines ++ lines_of at.line =
    sym (ap lines_of (append-nil bytes)) ∙ (at.cut [] ∙ ap (λ xs. at.lines ++ lines_of xs) (append-nil at.line)) in
    subst (λ xs. (length xs ≤ lines_most) × AllByRecursion IsShortLine xs) (sym all)
    (keeps_line at.lines at.line at.inside at.each (omega (arith, at.size, at.short)) (omega (arith, at.many, at.few))
    (λ some. omega (arith, at.room (omega (arith, some, at.size)), at.many)))

-- ---- what is shown

judged_by : {A : Type 0} → (many long : Bool) (said : Result A LineWhat) (x : A) → cond many (Err TooMany) (cond long (Err TooLong) said) ≡ Ok x → (many ≡ false) × (long ≡ false)
judged_by true long said x e = absurd (cc e)
judged_by false true said x e = absurd (cc e)
judged_by false false said x e = (refl, refl)

-- a line that says something is within the limits
judged_keeps : {A : Type 0} → (number : ℕ) (line : List ℕ) (say : List (List ℕ) → Result A LineWhat) (x : A) → judged number line say ≡ Ok x → (number ≤ lines_most) × (length line ≤ line_most)
judged_keeps number line say x e =
    let tests = judged_by (ltb lines_most number) (ltb line_most (length line)) (say (words_of line)) x e in
    (ltb-false lines_most number tests.0, ltb-false line_most (length line) tests.1)

-- lines that say something each, whatever they say, where the numbers begin here
said_keeps : {A : Type 0} → (S : ℕ → List (List ℕ) → List A → Type 0)
    → ((number : ℕ) (line : List ℕ) (lines : List (List ℕ)) → S number (line ∷ lines) [] → ⊥)
    → ((number : ℕ) (line : List ℕ) (lines : List (List ℕ)) (one : A) (said : List A) → S number (line ∷ lines) (one ∷ said)
    → (number ≤ lines_most) × (length line ≤ line_most) × S (number + 1) lines said)
    → (number : ℕ) (lines : List (List ℕ)) (said : List A) → number ≤ lines_most + 1 → S number lines said
    → (number + length lines ≤ lines_most + 1) × AllByRecursion IsShortLine lines
said_keeps S none first number [] said few say = (omega (arith, few), tt)
said_keeps S none first number (line ∷ lines) [] few say = absurd (none number line lines say)
said_keeps S none first number (line ∷ lines) (one ∷ said) few say =
    let here = first number line lines one said say in
    let rest = said_keeps S none first (number + 1) lines said (omega (arith, here.0)) here.2 in
    (omega (arith, rest.0), (here.1, rest.1))

-- a script that is shown passes no limit
pub shown_keeps : (way : Dir) (source text : List ℕ) → ShownOf way source text → KeepsLimits source
shown_keeps way source text shown =
    let script = shown.script in
    let head = judged_keeps 1 script.first first_words shown.phase script.named in
    let rest =
    said_keeps (Say (way_of way)) (λ number line lines none. none)
    (λ number line lines one said say. let here = judged_keeps number line (later_words (way_of way)) one say.0 in (here.0, here.1, say.1))
    2 script.others shown.lines (omega arith) script.said in
    let all : KeepsLimits source = subst (λ xs. (length xs ≤ lines_most) × AllByRecursion IsShortLine xs) (sym script.cut) (omega (arith, rest.0), (head.1, rest.1)) in
    all

-- lines that say something each, behind what was said before
turns_keep : {P A : Type 0} → (S : P → ℕ → List (List ℕ) → List A → Type 0)
    → ((place : P) (number : ℕ) (line : List ℕ) (lines : List (List ℕ)) → S place number (line ∷ lines) [] → ⊥)
    → ((place : P) (number : ℕ) (line : List ℕ) (lines : List (List ℕ)) (one : A) (said : List A) → S place number (line ∷ lines) (one ∷ said)
    → (number ≤ lines_most) × (length line ≤ line_most) × ((next : P) × S next (number + 1) lines said))
    → (place : P) (number : ℕ) (lines : List (List ℕ)) (said : List A) → number ≤ lines_most + 1 → S place number lines said
    → (number + length lines ≤ lines_most + 1) × AllByRecursion IsShortLine lines
turns_keep S none first place number [] said few say = (omega (arith, few), tt)
turns_keep S none first place number (line ∷ lines) [] few say = absurd (none place number line lines say)
turns_keep S none first place number (line ∷ lines) (one ∷ said) few say =
    let here = first place number line lines one said say in
    let rest = turns_keep S none first here.2.0 (number + 1) lines said (omega (arith, here.0)) here.2.1 in
    (omega (arith, rest.0), (here.1, rest.1))

-- so of a script of events
pub script_keeps : (source : List ℕ) (script : Script) → IsEventScript source script → KeepsLimits source
script_keeps source script is =
    let all = turns_keep SayInTurn (λ place number line lines none. none)
    (λ place number line lines one said say.
    let here = judged_keeps number line (line_words place) one say.0 in (here.0, here.1, (place_behind one, say.1)))
    _ 1 (lines_of source) is.said (omega arith) is.says in
    (omega (arith, all.0), all.1)

-- ---- what is read

-- nothing was read
pub none_bounded : IsBounded []
none_bounded = record { front = []; last = []; cut = refl; keeps = (omega arith, tt); few = omega arith }

-- of a piece this much is left, and the reading stands here behind what came before
pub record Followed (piece rest : List ℕ) (place now : Place) : Type 0 where
  pub front : List ℕ
  pub cut : piece ≡ front ++ rest
  pub stands : (bytes : List ℕ) → Stands bytes place → Stands (bytes ++ front) now

pub none_followed : (piece : List ℕ) (place : Place) → Followed piece piece place place
none_followed piece place = record {
  front = [];
  cut = refl;
  stands = λ bytes at. subst (λ xs. Stands xs place) (sym (append-nil bytes)) at;
}

-- one more line
pub line_followed : (piece rest line more : List ℕ) (place now inside next : Place) → Followed piece rest place now → AllByRecursion IsInside line → rest ≡ line ++ 10 ∷ more
    → ((bytes : List ℕ) → Stands bytes now → Stands (bytes ++ line) inside) → ((bytes : List ℕ) → Stands bytes inside → Stands (bytes ++ 10 ∷ []) next)
    → Followed piece more place next
line_followed piece rest line more place now inside next followed none cut through behind = record {
  front = followed.front ++ (line ++ 10 ∷ []);
  cut =
      followed.cut ∙ (ap (λ xs. followed.front ++ xs) (cut ∙ sym (append_assoc line (10 ∷ []) more)) ∙ sym (append_assoc followed.front (line ++ 10 ∷ []) more));
  stands = λ bytes at.
      subst (λ xs. Stands xs next)
      (append_assoc (bytes ++ followed.front) line (10 ∷ []) ∙ append_assoc bytes followed.front (line ++ 10 ∷ []))
      (behind ((bytes ++ followed.front) ++ line) (through (bytes ++ followed.front) (followed.stands bytes at)));
}

-- and what stands behind the last
pub all_followed : (piece rest : List ℕ) (place now last : Place) → Followed piece rest place now
    → ((bytes : List ℕ) → Stands bytes now → Stands (bytes ++ rest) last) → (bytes : List ℕ) → Stands bytes place → Stands (bytes ++ piece) last
all_followed piece rest place now last followed through bytes at =
    subst (λ xs. Stands xs last) (append_assoc bytes followed.front rest ∙ ap (λ xs. bytes ++ xs) (sym followed.cut))
    (through (bytes ++ followed.front) (followed.stands bytes at))
