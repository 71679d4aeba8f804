-- a script of events as far as it was read
use Rattle.std.proofs.Common.{◌≡◌, ℕ, ◌+◌, Ok, Err, List, [], ◌∷◌, ◌++◌, length, refl, sym, ap, subst, ◌∙◌, append-nil, append_assoc, length-append, arith}
use Rattle.event_text.specs.declared.event.Event.{Event}
use Rattle.event_text.specs.declared.event.Script.{Script}
use Rattle.event_text.specs.declared.event_line.Place.{Place}
use Rattle.event_text.specs.declared.event_line.Place.TheVariants.{Start}
use Rattle.event_text.specs.declared.event_line.Said.{Said}
use Rattle.event_text.specs.declared.event_line.Said.TheVariants.{First, Depth, Does}
use Rattle.event_text.specs.declared.line_stop.LineStop.{LineStop}
use Rattle.event_text.specs.declared.line_stop.LineStop.TheVariants.{Wrong, Memory}
use Rattle.event_text.specs.EventLine.{line_said, place_behind}
use Rattle.event_text.specs.EventScript.{SayInTurn, place_after, named_first, named_depth, events_in, script_of, IsEventScript, IsEventFault}
use Rattle.event_text.specs.Read.{LineTaken, with_said, fault_at}
use Rattle.event_text.specs.Words.{lines_of}

-- the lines before the rest say this script
pub record Progress (source rest : List ℕ) (number : ℕ) (place : Place) (script : Script) : Type 0 where
  pub before : List (List ℕ)
  pub said : List Said
  pub cut : lines_of source ≡ before ++ lines_of rest
  pub says : SayInTurn Start 1 before said
  pub at : number ≡ 1 + length before
  pub stands : place ≡ place_after Start said
  pub made : script ≡ script_of said

pub none_read : (source : List ℕ) (events : List Event) → events ≡ [] → Progress source source 1 Start (record { first = 1; depth = 1; events = events })
none_read source events none = record {
  before = [];
  said = [];
  cut = refl;
  says = tt;
  at = refl;
  stands = refl;
  made = ap (λ (z : List Event). record { first = 1; depth = 1; events = z }) none;
}

say_more : (place : Place) (number : ℕ) (lines : List (List ℕ)) (said : List Said) (line : List ℕ) (one : Said) → SayInTurn place number lines said
    → line_said (place_after place said) (number + length lines) line ≡ Ok one → SayInTurn place number (lines ++ line ∷ []) (said ++ one ∷ [])
say_more place number [] [] line one p e =
    let same : number + 0 ≡ number = omega arith in
    (subst (λ (k : ℕ). line_said place k line ≡ Ok one) same e, tt)
say_more place number [] (s ∷ said) line one p e = absurd p
say_more place number (l ∷ lines) [] line one p e = absurd p
say_more place number (l ∷ lines) (s ∷ said) line one p e =
    let behind : number + length (l ∷ lines) ≡ number + 1 + length lines = omega arith in
    (p.0, say_more (place_behind s) (number + 1) lines said line one p.1 (subst (λ (k : ℕ). line_said (place_after (place_behind s) said) k line ≡ Ok one) behind e))

after_more : (place : Place) (said : List Said) (one : Said) → place_after place (said ++ one ∷ []) ≡ place_behind one
after_more place [] one = refl
after_more place (s ∷ said) one = after_more (place_behind s) said one

first_more : (first : ℕ) (said : List Said) (one : Said) → named_first first (said ++ one ∷ []) ≡ named_first (named_first first said) (one ∷ [])
first_more first [] one = refl
first_more first (First number ∷ said) one = first_more number said one
first_more first (Depth depth ∷ said) one = first_more first said one
first_more first (Does event ∷ said) one = first_more first said one

depth_more : (depth : ℕ) (said : List Said) (one : Said) → named_depth depth (said ++ one ∷ []) ≡ named_depth (named_depth depth said) (one ∷ [])
depth_more depth [] one = refl
depth_more depth (First number ∷ said) one = depth_more depth said one
depth_more depth (Depth other ∷ said) one = depth_more other said one
depth_more depth (Does event ∷ said) one = depth_more depth said one

events_more : (said : List Said) (one : Said) → events_in (said ++ one ∷ []) ≡ events_in said ++ events_in (one ∷ [])
events_more [] one = refl
events_more (First number ∷ said) one = events_more said one
events_more (Depth depth ∷ said) one = events_more said one
events_more (Does event ∷ said) one = ap (λ (z : List Event). event ∷ z) (events_more said one)

script_more : (said : List Said) (one : Said) → script_of (said ++ one ∷ []) ≡ with_said (script_of said) one
script_more said (First number) = cc (first_more 1 said (First number), depth_more 1 said (First number), events_more said (First number), append-nil (events_in said))
script_more said (Depth depth) = cc (first_more 1 said (Depth depth), depth_more 1 said (Depth depth), events_more said (Depth depth), append-nil (events_in said))
script_more said (Does event) = cc (first_more 1 said (Does event), depth_more 1 said (Does event), events_more said (Does event))

pub line_read : (source rest line more : List ℕ) (number next : ℕ) (place then : Place) (old new : Script) → Progress source rest number place old
    → lines_of rest ≡ line ∷ lines_of more → LineTaken place number line old (Ok then) new → next ≡ number + 1 → Progress source more next then new
line_read source rest line more number next place then old new p cut (few, (one, is, behind, made)) step = record {
  before = p.before ++ line ∷ [];
  said = p.said ++ one ∷ [];
  cut = p.cut ∙ (ap (λ (xs : List (List ℕ)). p.before ++ xs) cut ∙ sym (append_assoc p.before (line ∷ []) (lines_of more)));
  says =
      say_more Start 1 p.before p.said line one p.says
      (subst (λ (k : ℕ). line_said (place_after Start p.said) k line ≡ Ok one) p.at (subst (λ (z : Place). line_said z number line ≡ Ok one) p.stands is));
  at = omega (arith, step, p.at, length-append p.before (line ∷ []));
  stands = behind ∙ sym (after_more Start p.said one);
  made = made ∙ (ap (λ (z : Script). with_said z one) p.made ∙ sym (script_more p.said one));
}

pub line_refused : (source rest line more : List ℕ) (number : ℕ) (place : Place) (stop : LineStop) (old new : Script) → Progress source rest number place old
    → lines_of rest ≡ line ∷ lines_of more → LineTaken place number line old (Err stop) new → IsEventFault source (fault_at number stop)
line_refused source rest line more number place (Wrong what) old new p cut refused = record {
  before = p.before;
  line = line;
  others = lines_of more;
  said = p.said;
  cut = p.cut ∙ ap (λ (xs : List (List ℕ)). p.before ++ xs) cut;
  says = p.says;
  place = p.at;
  refused = subst (λ (z : Place). line_said z number line ≡ Err what) p.stands refused;
}
line_refused source rest line more number place Memory old new p cut refused = tt

pub all_read : (source rest : List ℕ) (number : ℕ) (place : Place) (script : Script) → Progress source rest number place script → rest ≡ [] → IsEventScript source script
all_read source rest number place script p none = record {
  said = p.said;
  says =
      subst (λ (z : List (List ℕ)). SayInTurn Start 1 z p.said)
      (sym (p.cut ∙ (ap (λ (xs : List ℕ). p.before ++ lines_of xs) none ∙ append-nil p.before))) p.says;
  made = p.made;
}
