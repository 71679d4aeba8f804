-- pieces behind one another print what they print as one
use Rattle.std.proofs.Common.{◌≡◌, ℕ, Option, Some, None, List, [], ◌∷◌, ◌++◌, refl, sym, ap, subst, ◌∙◌, append-nil, append_assoc}
use Rattle.std.specs.List.{flat_map}
use Rattle.tmc_base.specs.declared.field.Field.{Field}
use Rattle.event_text.specs.declared.way.Way.{Way}
use Rattle.event_text.specs.declared.script.Line.{Line}
use Rattle.event_text.specs.declared.script.Line.TheVariants.{Adds, Bytes}
use Rattle.event_text.specs.declared.script.Phase.{Phase}
use Rattle.event_text.specs.Message.{Message}
use Rattle.event_text.specs.Pieces.{onto, merged}
use Rattle.event_text.specs.Printed.{message_line}
use Rattle.event_text.specs.Read.{fed_with}
use Rattle.event_text.specs.Shown.{Standing, InTurn, Stops, Takes, Gives, Prints, PrintAll, Shown, begun, ending, taken, stopped, bad_text}
use Rattle.event_text.proofs.Determined.{print_all_one}
use Rattle.event_text.proofs.Lawful.{Lawful, more_bad}

-- ---- messages in turn

-- more bytes lengthen the rest
turn_more : (s : Standing) (ms : List Message) (last : Standing) (more : List ℕ) → InTurn s ms last → InTurn (fed_with s more) ms (fed_with last more)
turn_more s [] last more e = ap (λ (z : Standing). fed_with z more) e
turn_more s (m ∷ ms) last more (front, rest, e, spelled, row) =
    (front, rest ++ more, ap (λ (l : List ℕ). l ++ more) e ∙ append_assoc front rest more, spelled, turn_more (taken s m rest) ms last more row)

turn_on : (s : Standing) (ms ns : List Message) (middle last : Standing) → InTurn s ms middle → InTurn middle ns last → InTurn s (ms ++ ns) last
turn_on s [] ns middle last e row = subst (λ (z : Standing). InTurn z ns last) e row
turn_on s (m ∷ ms) ns middle last (front, rest, e, spelled, row) behind = (front, rest, e, spelled, turn_on (taken s m rest) ms ns middle last row behind)

pub turn_good : (s : Standing) (ms : List Message) (last : Standing) → InTurn s ms last → last.bad ≡ s.bad
turn_good s [] last e = ap (λ (z : Standing). z.bad) e
turn_good s (m ∷ ms) last (front, rest, e, spelled, row) = turn_good (taken s m rest) ms last row

pub flat_on : (ms ns : List Message) → flat_map message_line (ms ++ ns) ≡ flat_map message_line ms ++ flat_map message_line ns
flat_on [] ns = refl
flat_on (m ∷ ms) ns =
    ap (λ (l : List ℕ). message_line m ++ l) (flat_on ms ns) ∙ sym (append_assoc (message_line m) (flat_map message_line ms) (flat_map message_line ns))

-- the first row, where more follows it
row_more : (s : Standing) (p q : List ℕ) (ms : List Message) (last : Standing) → InTurn (fed_with s p) ms last → InTurn (fed_with s (p ++ q)) ms (fed_with last q)
row_more s p q ms last row =
    subst (λ (l : List ℕ). InTurn (record s { rest = l }) ms (fed_with last q)) (append_assoc s.rest p q) (turn_more (fed_with s p) ms last q row)

-- ---- two pieces

both_good : (s m n : Standing) (p q t u : List ℕ) (ms : List Message) (last : Standing) → InTurn (fed_with s p) ms last → m ≡ last → t ≡ flat_map message_line ms ++ []
    → Takes m q u n → Takes s (p ++ q) (t ++ u) n
both_good s m n p q t u ms last row is printed second = record {
  messages = ms ++ second.messages;
  last = second.last;
  bad = second.bad;
  row =
      turn_on (fed_with s (p ++ q)) ms second.messages (fed_with last q) second.last (row_more s p q ms last row)
      (subst (λ (z : Standing). InTurn (fed_with z q) second.messages second.last) is second.row);
  stops = second.stops;
  marked = second.marked;
  printed =
      ap (λ (l : List ℕ). l ++ u) (printed ∙ append-nil (flat_map message_line ms))
      ∙ (ap (λ (l : List ℕ). flat_map message_line ms ++ l) second.printed
      ∙ (sym (append_assoc (flat_map message_line ms) (flat_map message_line second.messages) (bad_text second.bad))
      ∙ ap (λ (l : List ℕ). l ++ bad_text second.bad) (sym (flat_on ms second.messages))));
}

then_bad : Lawful → (s m n : Standing) (p q t u : List ℕ) (ms : List Message) (last : Standing) (f : Field) → InTurn (fed_with s p) ms last → Stops last (Some f)
    → m ≡ stopped last (Some f) → t ≡ flat_map message_line ms ++ bad_text (Some f) → u ≡ [] → n ≡ m → Takes s (p ++ q) (t ++ u) n
then_bad laws s m n p q t u ms last f row stops is printed none same = record {
  messages = ms;
  last = fed_with last q;
  bad = Some f;
  row = row_more s p q ms last row;
  stops = more_bad laws last.reading last.entries last.rest q f stops;
  marked = same ∙ is;
  printed = ap (λ (l : List ℕ). t ++ l) none ∙ (append-nil t ∙ printed);
}

takes_by : Lawful → (s m n : Standing) (p q t u : List ℕ) (ms : List Message) (last : Standing) (bad : Option Field) → s.bad ≡ None → InTurn (fed_with s p) ms last → Stops last bad
    → m ≡ stopped last bad → t ≡ flat_map message_line ms ++ bad_text bad → Gives m.bad m q u n → Takes s (p ++ q) (t ++ u) n
takes_by laws s m n p q t u ms last None good row stops is printed second =
    let fine : m.bad ≡ None = ap (λ (z : Standing). z.bad) is ∙ (turn_good (fed_with s p) ms last row ∙ good) in
    both_good s m n p q t u ms last row is printed (subst (λ (b : Option Field). Gives b m q u n) fine second)
takes_by laws s m n p q t u ms last (Some f) good row stops is printed second =
    let none : Gives (Some f) m q u n = subst (λ (b : Option Field). Gives b m q u n) (ap (λ (z : Standing). z.bad) is) second in
    then_bad laws s m n p q t u ms last f row stops is printed none.0 none.1

gives_joined : Lawful → (b : Option Field) (s m n : Standing) (p q t u : List ℕ) → s.bad ≡ b → Gives b s p t m → Gives m.bad m q u n → Gives b s (p ++ q) (t ++ u) n
gives_joined laws None s m n p q t u is first second = takes_by laws s m n p q t u first.messages first.last first.bad is first.row first.stops first.marked first.printed second
gives_joined laws (Some f) s m n p q t u is first second =
    let again : Gives s.bad s q u n = subst (λ (z : Standing). Gives z.bad z q u n) first.1 second in
    let none : Gives (Some f) s q u n = subst (λ (b : Option Field). Gives b s q u n) is again in
    (ap (λ (l : List ℕ). l ++ u) first.0 ∙ none.0, none.1)

pub joined : Lawful → (s m n : Standing) (p q t u : List ℕ) → Prints s (Bytes p) t m → Prints m (Bytes q) u n → Prints s (Bytes (p ++ q)) (t ++ u) n
joined laws s m n p q t u first second = gives_joined laws s.bad s m n p q t u refl first second

-- ---- a list of lines

onto_prints : Lawful → (s : Standing) (p : List ℕ) (lines : List Line) (front back : List ℕ) (middle last : Standing) → Prints s (Bytes p) front middle
    → PrintAll middle lines back last → PrintAll s (onto (Bytes p) lines) (front ++ back) last
onto_prints laws s p [] front back middle last first more = (front, back, middle, refl, first, more)
onto_prints laws s p (Adds entry ∷ lines) front back middle last first more = (front, back, middle, refl, first, more)
onto_prints laws s p (Bytes q ∷ lines) front back middle last first (next, others, second, e, prints, more) = (
  front ++ next,
  others,
  second,
  ap (λ (l : List ℕ). front ++ l) e ∙ sym (append_assoc front next others),
  joined laws s middle second p q front next first prints,
  more,
)

pub merged_prints : Lawful → (s : Standing) (lines : List Line) (text : List ℕ) (last : Standing) → PrintAll s lines text last → PrintAll s (merged lines) text last
merged_prints laws s [] text last prints = prints
merged_prints laws s (Adds entry ∷ lines) text last (front, back, middle, e, first, more) = (front, back, middle, e, first, merged_prints laws middle lines back last more)
merged_prints laws s (Bytes p ∷ lines) text last (front, back, middle, e, first, more) =
    subst (λ (l : List ℕ). PrintAll s (onto (Bytes p) (merged lines)) l last) (sym e)
    (onto_prints laws s p (merged lines) front back middle last first (merged_prints laws middle lines back last more))

-- lines that are the same when their pieces are joined have one text
pub cuts_one : Lawful → (way : Way) (phase : Phase) (lines others : List Line) (text other : List ℕ) → merged lines ≡ merged others
    → Shown way phase lines text → Shown way phase others other → text ≡ other
cuts_one laws way phase lines others text other same p q =
    let first = merged_prints laws (begun way phase) lines p.body p.last p.prints in
    let second : PrintAll (begun way phase) (merged lines) q.body q.last =
    subst (λ (l : List Line). PrintAll (begun way phase) l q.body q.last) (sym same) (merged_prints laws (begun way phase) others q.body q.last q.prints) in
    let r = print_all_one laws (begun way phase) (merged lines) p.body q.body p.last q.last first second in
    p.ended
    ∙ (ap (λ (l : List ℕ). l ++ ending p.last.bad p.last.rest) r.texts
    ∙ (ap (λ (z : Standing). q.body ++ ending z.bad z.rest) r.news ∙ sym q.ended))
