-- the messages that a piece completes, one after another
use Rattle.std.proofs.Common.{◌≡◌, ℕ, ◌-◌, Some, None, List, [], ◌∷◌, ◌++◌, length, take, drop, refl, sym, ap, subst, ◌∙◌, append-nil, append_assoc}
use Rattle.std.proofs.lemmas.List.{take-append-drop, take_rest}
use Rattle.std.specs.List.{flat_map}
use Rattle.event_text.specs.declared.reading.Step.{Step}
use Rattle.event_text.specs.declared.reading.Step.TheVariants as step
use Rattle.event_text.specs.Message.{Message}
use Rattle.event_text.specs.Printed.{message_line}
use Rattle.event_text.specs.Read.{Stepped, fed_with}
use Rattle.event_text.specs.Shown.{Standing, InTurn, Takes, Gives, taken, bad_text}

-- of a piece this much is left, and what the bytes before it completed is printed
pub record Given (start : Standing) (piece left : List ℕ) (now : Standing) (before text : List ℕ) : Type 0 where
  pub messages : List Message
  pub printed : text ≡ before ++ flat_map message_line messages
  pub began : start.bad ≡ None
  pub good : now.bad ≡ None
  pub turn : (more : List Message) (last : Standing) → InTurn (fed_with now left) more last → InTurn (fed_with start piece) (messages ++ more) last

pub nothing_given : (start : Standing) (piece text : List ℕ) → start.bad ≡ None → Given start piece piece start text text
nothing_given start piece text good = record {
  messages = [];
  printed = sym (append-nil text);
  began = good;
  good = good;
  turn = λ more last row. row;
}

flat_more : (ms : List Message) (m : Message) → flat_map message_line (ms ++ m ∷ []) ≡ flat_map message_line ms ++ message_line m
flat_more [] m = append-nil (message_line m)
flat_more (n ∷ ms) m = ap (λ xs. message_line n ++ xs) (flat_more ms m) ∙ sym (append_assoc (message_line n) (flat_map message_line ms) (message_line m))

pub one_given : (start : Standing) (piece left : List ℕ) (now : Standing) (before text : List ℕ) (used : ℕ) (printed : List ℕ) (new : Standing) (more : List ℕ)
    → Given start piece left now before text → Stepped now left (step.Message used) printed new → more ≡ text ++ printed
    → Given start piece (take (length left - used) (drop used left)) new before more
one_given start piece left now before text used printed new more given (some, within, (what, spelled, line, is)) appended = record {
  messages = given.messages ++ what ∷ [];
  printed =
      appended ∙ (ap (λ xs. text ++ xs) line ∙ (ap (λ xs. xs ++ message_line what) given.printed
      ∙ (append_assoc before (flat_map message_line given.messages) (message_line what) ∙ ap (λ xs. before ++ xs) (sym (flat_more given.messages what)))));
  began = given.began;
  good = ap (λ (s : Standing). s.bad) is ∙ given.good;
  turn = λ ms last row. go ms last row;
}
  where
    rest : List ℕ
    rest = take (length left - used) (drop used left)

    cut : now.rest ++ left ≡ (now.rest ++ take used left) ++ rest
    cut =
        ap (λ xs. now.rest ++ xs) (sym (take-append-drop used left))
        ∙ (sym (append_assoc now.rest (take used left) (drop used left)) ∙ ap (λ xs. (now.rest ++ take used left) ++ xs) (sym (take_rest left used)))

    go : (ms : List Message) (last : Standing) → InTurn (fed_with new rest) ms last → InTurn (fed_with start piece) ((given.messages ++ what ∷ []) ++ ms) last
    go ms last row =
        let behind : InTurn (fed_with (taken now what []) rest) ms last = subst (λ s. InTurn (fed_with s rest) ms last) is row in
        let first : InTurn (fed_with now left) (what ∷ ms) last = (now.rest ++ take used left, rest, cut, spelled, behind) in
        subst (λ xs. InTurn (fed_with start piece) xs last) (sym (append_assoc given.messages (what ∷ []) ms)) (given.turn (what ∷ ms) last first)

-- where no message follows, the piece is taken
more_given : (start : Standing) (piece left : List ℕ) (now : Standing) (before text printed : List ℕ) (new : Standing) (more : List ℕ)
    → Given start piece left now before text → Stepped now left step.More printed new → more ≡ text ++ printed
    → (all : List ℕ) × (more ≡ before ++ all) × Takes start piece all new
more_given start piece left now before text printed new more given (stops, none, is) appended = (
  flat_map message_line given.messages ++ bad_text None,
  appended ∙ (ap (λ xs. text ++ xs) none ∙ (append-nil text ∙ (given.printed ∙ ap (λ xs. before ++ xs) (sym (append-nil (flat_map message_line given.messages)))))),
  record {
    messages = given.messages;
    last = fed_with now left;
    bad = None;
    row = subst (λ xs. InTurn (fed_with start piece) xs (fed_with now left)) (append-nil given.messages) (given.turn [] (fed_with now left) refl);
    stops = stops;
    marked = is;
    printed = refl;
  },
)

bad_given : (start : Standing) (piece left : List ℕ) (now : Standing) (before text printed : List ℕ) (new : Standing) (more : List ℕ)
    → Given start piece left now before text → Stepped now left step.Bad printed new → more ≡ text ++ printed
    → (all : List ℕ) × (more ≡ before ++ all) × Takes start piece all new
bad_given start piece left now before text printed new more given (f, stops, line, is) appended = (
  flat_map message_line given.messages ++ bad_text (Some f),
  appended ∙ (ap (λ xs. text ++ xs) line ∙ (ap (λ xs. xs ++ bad_text (Some f)) given.printed ∙ append_assoc before (flat_map message_line given.messages) (bad_text (Some f)))),
  record {
    messages = given.messages;
    last = fed_with now left;
    bad = Some f;
    row = subst (λ xs. InTurn (fed_with start piece) xs (fed_with now left)) (append-nil given.messages) (given.turn [] (fed_with now left) refl);
    stops = stops;
    marked = is;
    printed = refl;
  },
)

-- a good stream gives what it takes, and one with a bad field nothing
good_gives : (old : Standing) (piece text : List ℕ) (new : Standing) → old.bad ≡ None → Takes old piece text new → Gives old.bad old piece text new
good_gives old piece text new good takes = subst (λ b. Gives b old piece text new) (sym good) takes

pub last_given : (start : Standing) (piece left : List ℕ) (now : Standing) (before text : List ℕ) (s : Step) (printed : List ℕ) (new : Standing) (more : List ℕ)
    → ((used : ℕ) → s ≡ step.Message used → ⊥) → Given start piece left now before text → Stepped now left s printed new → more ≡ text ++ printed
    → (all : List ℕ) × (more ≡ before ++ all) × Gives start.bad start piece all new
last_given start piece left now before text (step.Message used) printed new more other given stepped appended = absurd (other used refl)
last_given start piece left now before text step.More printed new more other given stepped appended =
    let r = more_given start piece left now before text printed new more given stepped appended in
    (r.0, r.1, good_gives start piece r.0 new given.began r.2)
last_given start piece left now before text step.Bad printed new more other given stepped appended =
    let r = bad_given start piece left now before text printed new more given stepped appended in
    (r.0, r.1, good_gives start piece r.0 new given.began r.2)
