-- a script is shown or refused, and refused for one fault of one line
use Rattle.std.proofs.Common.{⊎_elim, ◌≡◌, ℕ, ◌+◌, Some, None, Result, Ok, Err, List, [], ◌∷◌, ◌++◌, length, refl, sym, ap, subst, ◌∙◌, arith}
use Rattle.event_text.specs.declared.way.Way.{Way}
use Rattle.event_text.specs.declared.line_fault.LineWhat.{LineWhat}
use Rattle.event_text.specs.declared.script.Line.{Line}
use Rattle.event_text.specs.declared.script.Line.TheVariants.{Adds, Bytes}
use Rattle.event_text.specs.declared.script.Phase.{Phase}
use Rattle.event_text.specs.Script.{first_said, later_said, Say, said_fault}
use Rattle.event_text.specs.Shown.{Standing, begun, Prints, PrintAll, SourceShown, IsScript, IsFirstFault, IsLaterFault, SourceRefused, ending}
use Rattle.event_text.specs.Words.{lines_of}
use Rattle.event_text.proofs.Lawful.{Lawful}
use Rattle.event_text.proofs.Determined.{prints_one, print_all_one, said_one, say_one}

some_one : {A : Type 0} (x y : A) → Some x ≡ Some y → x ≡ y
some_one {A} x y e = cc

some_none : {A : Type 0} (x : A) → Some x ≡ None → ⊥
some_none {A} x e = cc

head_one : {A : Type 0} (x y : A) (xs ys : List A) → x ∷ xs ≡ y ∷ ys → x ≡ y
head_one {A} x y xs ys e = cc

tail_one : {A : Type 0} (x y : A) (xs ys : List A) → x ∷ xs ≡ y ∷ ys → xs ≡ ys
tail_one {A} x y xs ys e = cc

-- a line that prints has no fault
no_fault : (old : Standing) (line : Line) (text : List ℕ) (new : Standing) → Prints old line text new → said_fault old.entries (Ok line) ≡ None
no_fault old (Adds entry) text new p = p.0
no_fault old (Bytes piece) text new p = refl

clash : (way : Way) (number place : ℕ) (text other : List ℕ) (old last : Standing) (line : Line) (printed : List ℕ) (new : Standing) (what : LineWhat)
    → later_said way number text ≡ Ok line → Prints old line printed new → other ≡ text → last ≡ old → place ≡ number
    → said_fault last.entries (later_said way place other) ≡ Some what → ⊥
clash way number place text other old last line printed new what said prints same stands placed fault =
    let moved : said_fault old.entries (later_said way number text) ≡ Some what =
    subst (λ k. said_fault old.entries (later_said way k text) ≡ Some what) placed
    (subst (λ t. said_fault old.entries (later_said way place t) ≡ Some what) same
    (subst (λ (s : Standing). said_fault s.entries (later_said way place other) ≡ Some what) stands fault)) in
    let none : said_fault old.entries (later_said way number text) ≡ None = ap (λ r. said_fault old.entries r) said ∙ no_fault old line printed new prints in
    some_none what (sym moved ∙ none)

-- lines that are all shown have no refused one among them
pub none_refused : Lawful → (way : Way) (old : Standing) (number : ℕ) (texts : List (List ℕ)) (lines : List Line) (body : List ℕ) (end : Standing)
    (before : List (List ℕ)) (said : List Line) (printed : List ℕ) (last : Standing) (line : List ℕ) (others : List (List ℕ)) (what : LineWhat)
    → texts ≡ before ++ line ∷ others → Say way number texts lines → PrintAll old lines body end
    → Say way number before said → PrintAll old said printed last → said_fault last.entries (later_said way (number + length before) line) ≡ Some what → ⊥
none_refused laws way old number [] lines body end [] said printed last line others what e p q r s fault = absurd (empty e)
  where
    empty : [] ≡ line ∷ others → ⊥
    empty e = cc
none_refused laws way old number [] lines body end (t ∷ before) said printed last line others what e p q r s fault = absurd (empty e)
  where
    empty : [] ≡ t ∷ (before ++ line ∷ others) → ⊥
    empty e = cc
none_refused laws way old number (t ∷ texts) [] body end before said printed last line others what e p q r s fault = absurd p
none_refused laws way old number (t ∷ texts) (l ∷ lines) body end [] [] printed last line others what e p (front, back, middle, cut, first, more) r s fault =
    clash way number (number + 0) t line old last l front middle what p.0 first (sym (head_one t line texts others e)) s.1 (omega arith) fault
none_refused laws way old number (t ∷ texts) (l ∷ lines) body end [] (o ∷ said) printed last line others what e p q r s fault = absurd r
none_refused laws way old number (t ∷ texts) (l ∷ lines) body end (u ∷ before) [] printed last line others what e p q r s fault = absurd r
none_refused laws way old number (t ∷ texts) (l ∷ lines) body end (u ∷ before) (o ∷ said) printed last line others what e p (front, back, middle, cut, first, more) r (front2, back2, middle2, cut2, first2, more2) fault =
    let same : t ≡ u = head_one t u texts (before ++ line ∷ others) e in
    let lines_same : l ≡ o = said_one way number u l o (subst (λ z. later_said way number z ≡ Ok l) same p.0) r.0 in
    let one = prints_one laws old o front front2 middle middle2 (subst (λ z. Prints old z front middle) lines_same first) first2 in
    let behind : number + length (u ∷ before) ≡ (number + 1) + length before = omega arith in
    none_refused laws way middle (number + 1) texts lines back end before said back2 last line others what (tail_one t u texts (before ++ line ∷ others) e) p.1 more r.1
    (subst (λ z. PrintAll z said back2 last) (sym one.news) more2) (subst (λ k. said_fault last.entries (later_said way k line) ≡ Some what) behind fault)

pub record OneFault (before other : List (List ℕ)) (what worse : LineWhat) : Type 0 where
  pub places : length before ≡ length other
  pub whats : what ≡ worse

-- one line is the first that is refused
pub one_refused : Lawful → (way : Way) (old : Standing) (number : ℕ) (before : List (List ℕ)) (said : List Line) (printed : List ℕ) (last : Standing) (line : List ℕ) (others : List (List ℕ)) (what : LineWhat)
    (before2 : List (List ℕ)) (said2 : List Line) (printed2 : List ℕ) (last2 : Standing) (line2 : List ℕ) (others2 : List (List ℕ)) (what2 : LineWhat)
    → before ++ line ∷ others ≡ before2 ++ line2 ∷ others2
    → Say way number before said → PrintAll old said printed last → said_fault last.entries (later_said way (number + length before) line) ≡ Some what
    → Say way number before2 said2 → PrintAll old said2 printed2 last2 → said_fault last2.entries (later_said way (number + length before2) line2) ≡ Some what2
    → OneFault before before2 what what2
one_refused laws way old number [] (l ∷ said) printed last line others what before2 said2 printed2 last2 line2 others2 what2 e p q f r s g = absurd p
one_refused laws way old number [] [] printed last line others what [] (o ∷ said2) printed2 last2 line2 others2 what2 e p q f r s g = absurd r
one_refused laws way old number [] [] printed last line others what [] [] printed2 last2 line2 others2 what2 e p q f r s g =
    let stands : last ≡ last2 = q.1 ∙ sym s.1 in
    let same : line ≡ line2 = head_one line line2 others others2 e in
    let moved : said_fault last2.entries (later_said way (number + 0) line2) ≡ Some what =
    subst (λ t. said_fault last2.entries (later_said way (number + 0) t) ≡ Some what) same
    (subst (λ (z : Standing). said_fault z.entries (later_said way (number + 0) line) ≡ Some what) stands f) in
    record { places = refl; whats = some_one what what2 (sym moved ∙ g) }
one_refused laws way old number [] [] printed last line others what (u ∷ before2) [] printed2 last2 line2 others2 what2 e p q f r s g = absurd r
one_refused laws way old number [] [] printed last line others what (u ∷ before2) (o ∷ said2) printed2 last2 line2 others2 what2 e p q f r (front, back, middle, cut, first, more) g =
    absurd (clash way number (number + 0) u line old last o front middle what r.0 first (head_one line u others (before2 ++ line2 ∷ others2) e) q.1 (omega arith) f)
one_refused laws way old number (t ∷ before) [] printed last line others what before2 said2 printed2 last2 line2 others2 what2 e p q f r s g = absurd p
one_refused laws way old number (t ∷ before) (l ∷ said) printed last line others what [] (o ∷ said2) printed2 last2 line2 others2 what2 e p q f r s g = absurd r
one_refused laws way old number (t ∷ before) (l ∷ said) printed last line others what [] [] printed2 last2 line2 others2 what2 e p (front, back, middle, cut, first, more) f r s g =
    absurd (clash way number (number + 0) t line2 old last2 l front middle what2 p.0 first (sym (head_one t line2 (before ++ line ∷ others) others2 e)) s.1 (omega arith) g)
one_refused laws way old number (t ∷ before) (l ∷ said) printed last line others what (u ∷ before2) [] printed2 last2 line2 others2 what2 e p q f r s g = absurd r
one_refused laws way old number (t ∷ before) (l ∷ said) printed last line others what (u ∷ before2) (o ∷ said2) printed2 last2 line2 others2 what2 e p (front, back, middle, cut, first, more) f r (front2, back2, middle2, cut2, first2, more2) g =
    let same : t ≡ u = head_one t u (before ++ line ∷ others) (before2 ++ line2 ∷ others2) e in
    let lines_same : l ≡ o = said_one way number u l o (subst (λ z. later_said way number z ≡ Ok l) same p.0) r.0 in
    let one = prints_one laws old o front front2 middle middle2 (subst (λ z. Prints old z front middle) lines_same first) first2 in
    let behind : number + length (t ∷ before) ≡ (number + 1) + length before = omega arith in
    let behind2 : number + length (u ∷ before2) ≡ (number + 1) + length before2 = omega arith in
    let rest = one_refused laws way middle (number + 1) before said back last line others what before2 said2 back2 last2 line2 others2 what2
    (tail_one t u (before ++ line ∷ others) (before2 ++ line2 ∷ others2) e) p.1 more (subst (λ k. said_fault last.entries (later_said way k line) ≡ Some what) behind f)
    r.1 (subst (λ z. PrintAll z said2 back2 last2) (sym one.news) more2) (subst (λ k. said_fault last2.entries (later_said way k line2) ≡ Some what2) behind2 g) in
    record { places = omega (arith, rest.places); whats = rest.whats }

-- ---- whole scripts

ok_phase : (first : List ℕ) (phase other : Phase) → first_said first ≡ Ok phase → first_said first ≡ Ok other → phase ≡ other
ok_phase first phase other p q = let both : Ok phase ≡ Ok other = sym p ∙ q in cc

pub record SameScript (phase other : Phase) (lines more : List Line) : Type 0 where
  pub phases : phase ≡ other
  pub said : lines ≡ more

same_script : (way : Way) (source : List ℕ) (phase other : Phase) (lines more : List Line) → IsScript way source phase lines → IsScript way source other more
    → SameScript phase other lines more
same_script way source phase other lines more a b =
    let e : a.first ∷ a.others ≡ b.first ∷ b.others = sym a.cut ∙ b.cut in
    let firsts : a.first ≡ b.first = head_one a.first b.first a.others b.others e in
    let rests : a.others ≡ b.others = tail_one a.first b.first a.others b.others e in
    record {
      phases = ok_phase b.first phase other (subst (λ z. first_said z ≡ Ok phase) firsts a.named) b.named;
      said = say_one way 2 b.others lines more (subst (λ (z : List (List ℕ)). Say way 2 z lines) rests a.said) b.said;
    }

pub texts_one : Lawful → (way : Way) (source text other : List ℕ) → SourceShown way source text → SourceShown way source other → text ≡ other
texts_one laws way source text other a b =
    let same = same_script way source a.phase b.phase a.lines b.lines a.script b.script in
    let moved : PrintAll (begun way b.phase) b.lines a.shown.body a.shown.last =
    subst (λ (z : List Line). PrintAll (begun way b.phase) z a.shown.body a.shown.last) same.said
    (subst (λ z. PrintAll (begun way z) a.lines a.shown.body a.shown.last) same.phases a.shown.prints) in
    let one = print_all_one laws (begun way b.phase) b.lines a.shown.body b.shown.body a.shown.last b.shown.last moved b.shown.prints in
    a.shown.ended
    ∙ (ap (λ (z : List ℕ). z ++ ending a.shown.last.bad a.shown.last.rest) one.texts
    ∙ (ap (λ (z : Standing). b.shown.body ++ ending z.bad z.rest) one.news ∙ sym b.shown.ended))

-- a first line that is refused names no phase
err_ok : (what : LineWhat) (phase : Phase) → Err what ≡ Ok phase → ⊥
err_ok what phase e = cc

err_one : (what other : LineWhat) → ◌≡◌ {A = Result Phase LineWhat} (Err what) (Err other) → what ≡ other
err_one what other e = cc

none_some : (first : List ℕ) (others : List (List ℕ)) → [] ≡ first ∷ others → ⊥
none_some first others e = cc

not_named : (source first : List ℕ) (others : List (List ℕ)) (phase : Phase) (what : LineWhat) → IsFirstFault source what → lines_of source ≡ first ∷ others
    → first_said first ≡ Ok phase → ⊥
not_named source first others phase what fault cut named =
    ⊎_elim
    (λ none. none_some first others (sym none.0 ∙ cut))
    (λ bad.
    let same : bad.0 ≡ first = head_one bad.0 first bad.1 others (sym bad.2 ∙ cut) in
    err_ok what phase (sym bad.3 ∙ (ap first_said same ∙ named)))
    fault

first_one : (source : List ℕ) (what other : LineWhat) → IsFirstFault source what → IsFirstFault source other → what ≡ other
first_one source what other a b =
    ⊎_elim
    (λ none. ⊎_elim (λ none2. none.1 ∙ sym none2.1) (λ bad2. absurd (none_some bad2.0 bad2.1 (sym none.0 ∙ bad2.2))) b)
    (λ bad. ⊎_elim
    (λ none2. absurd (none_some bad.0 bad.1 (sym none2.0 ∙ bad.2)))
    (λ bad2.
    let same : bad.0 ≡ bad2.0 = head_one bad.0 bad2.0 bad.1 bad2.1 (sym bad.2 ∙ bad2.2) in
    err_one what other (sym bad.3 ∙ (ap first_said same ∙ bad2.3)))
    b)
    a

placed : (way : Way) (number place : ℕ) (line : List ℕ) (last : Standing) (what : LineWhat) → number ≡ place
    → said_fault last.entries (later_said way number line) ≡ Some what → said_fault last.entries (later_said way place line) ≡ Some what
placed way number place line last what e f = subst (λ k. said_fault last.entries (later_said way k line) ≡ Some what) e f

later_one : Lawful → (way : Way) (source : List ℕ) (number second : ℕ) (what other : LineWhat) → IsLaterFault way source number what → IsLaterFault way source second other
    → (number ≡ second) × (what ≡ other)
later_one laws way source number second what other a b =
    let e : a.first ∷ (a.before ++ a.line ∷ a.others) ≡ b.first ∷ (b.before ++ b.line ∷ b.others) = sym a.cut ∙ b.cut in
    let firsts : a.first ≡ b.first = head_one a.first b.first (a.before ++ a.line ∷ a.others) (b.before ++ b.line ∷ b.others) e in
    let phases : a.phase ≡ b.phase = ok_phase b.first a.phase b.phase (subst (λ z. first_said z ≡ Ok a.phase) firsts a.named) b.named in
    let moved : PrintAll (begun way b.phase) a.lines a.body a.last = subst (λ z. PrintAll (begun way z) a.lines a.body a.last) phases a.prints in
    let one =
    one_refused laws way (begun way b.phase) 2 a.before a.lines a.body a.last a.line a.others what b.before b.lines b.body b.last b.line b.others other
    (tail_one a.first b.first (a.before ++ a.line ∷ a.others) (b.before ++ b.line ∷ b.others) e)
    a.said moved (placed way number (2 + length a.before) a.line a.last what a.place a.refused)
    b.said b.prints (placed way second (2 + length b.before) b.line b.last other b.place b.refused) in
    (omega (arith, a.place, b.place, one.places), one.whats)

pub refusals_one : Lawful → (way : Way) (source : List ℕ) (number second : ℕ) (what other : LineWhat) → SourceRefused way source number what → SourceRefused way source second other
    → (number ≡ second) × (what ≡ other)
refusals_one laws way source number second what other r s =
    ⊎_elim
    (λ a. ⊎_elim
    (λ b. (a.0 ∙ sym b.0, first_one source what other a.1 b.1))
    (λ b. absurd (not_named source b.first (b.before ++ b.line ∷ b.others) b.phase what a.1 b.cut b.named))
    s)
    (λ a. ⊎_elim
    (λ b. absurd (not_named source a.first (a.before ++ a.line ∷ a.others) a.phase other b.1 a.cut a.named))
    (λ b. later_one laws way source number second what other a b)
    s)
    r

pub not_both : Lawful → (way : Way) (source text : List ℕ) (number : ℕ) (what : LineWhat) → SourceShown way source text → SourceRefused way source number what → ⊥
not_both laws way source text number what shown refused =
    ⊎_elim
    (λ a. not_named source shown.script.first shown.script.others shown.phase what a.1 shown.script.cut shown.script.named)
    (λ b.
    let e : shown.script.first ∷ shown.script.others ≡ b.first ∷ (b.before ++ b.line ∷ b.others) = sym shown.script.cut ∙ b.cut in
    let firsts : shown.script.first ≡ b.first = head_one shown.script.first b.first shown.script.others (b.before ++ b.line ∷ b.others) e in
    let phases : shown.phase ≡ b.phase = ok_phase b.first shown.phase b.phase (subst (λ z. first_said z ≡ Ok shown.phase) firsts shown.script.named) b.named in
    let moved : PrintAll (begun way b.phase) shown.lines shown.shown.body shown.shown.last = subst (λ z. PrintAll (begun way z) shown.lines shown.shown.body shown.shown.last) phases shown.shown.prints in
    none_refused laws way (begun way b.phase) 2 shown.script.others shown.lines shown.shown.body shown.shown.last b.before b.lines b.body b.last b.line b.others what
    (tail_one shown.script.first b.first shown.script.others (b.before ++ b.line ∷ b.others) e) shown.script.said moved b.said b.prints
    (placed way number (2 + length b.before) b.line b.last what b.place b.refused))
    refused
