-- a client's lines are one stream: what is outstanding counts for none of its messages
use Rattle.std.proofs.Common.{◌≡◌, ℕ, Option, Some, None, List, [], ◌∷◌, ◌++◌, length, refl, sym, ap, subst, ◌∙◌, append-nil, append_assoc}
use Rattle.std.specs.List.{flat_map}
use Rattle.tmc_base.specs.declared.field.Field.{Field}
use Rattle.usbip_wire.specs.declared.dirs.Outstanding.{Outstanding}
use Rattle.usbip_wire.specs.Stream.{InRow}
use Rattle.event_text.specs.declared.way.Way.TheVariants as ways
use Rattle.event_text.specs.declared.script.Line.{Line}
use Rattle.event_text.specs.declared.script.Line.TheVariants.{Adds, Bytes}
use Rattle.event_text.specs.declared.script.Phase.{Phase}
use Rattle.event_text.specs.declared.script.Phase.TheVariants.{Op, Urb}
use Rattle.event_text.specs.Message.{Message, Request, FromClient, Part, Answer, Spells, NoneWhole, BadAt, behind, stream_of}
use Rattle.event_text.specs.Pieces.{bytes_in, IsBadOf, IsTextOf}
use Rattle.event_text.specs.Printed.{message_line, more_line}
use Rattle.event_text.specs.Read.{fed_with}
use Rattle.event_text.specs.Shown.{Standing, InTurn, Stops, Gives, PrintAll, Shown, begun, ending, taken, stopped, bad_text}
use Rattle.event_text.proofs.Joined.{flat_on, turn_good}
use Rattle.event_text.proofs.Lawful.{Lawful, alone, more_bad}
use Rattle.event_text.proofs.Long.{no_message, no_bad}

-- ---- what is outstanding does not count

spells_same : (phase : Phase) (entries others : List Outstanding) (m : Message) (bytes : List ℕ) → Spells (stream_of ways.Up phase) entries m bytes
    → Spells (stream_of ways.Up phase) others m bytes
spells_same Op entries others (Request request) bytes s = s
spells_same Op entries others (FromClient message) bytes s = absurd s
spells_same Op entries others (Part what) bytes s = absurd s
spells_same Op entries others (Answer message) bytes s = absurd s
spells_same Urb entries others (Request request) bytes s = absurd s
spells_same Urb entries others (FromClient message) bytes s = s
spells_same Urb entries others (Part what) bytes s = absurd s
spells_same Urb entries others (Answer message) bytes s = absurd s

none_same : (phase : Phase) (entries others : List Outstanding) (rest : List ℕ) → NoneWhole (stream_of ways.Up phase) entries rest → NoneWhole (stream_of ways.Up phase) others rest
none_same phase entries others rest none = λ m front tail s e. none m front tail (spells_same phase others entries m front s) e

bad_same : (phase : Phase) (entries others : List Outstanding) (rest : List ℕ) (f : Field) → BadAt (stream_of ways.Up phase) entries rest f → BadAt (stream_of ways.Up phase) others rest f
bad_same Op entries others rest f bad = bad
bad_same Urb entries others rest f bad = bad

behind_same : (phase : Phase) (m : Message) → behind (stream_of ways.Up phase) m ≡ stream_of ways.Up phase
behind_same Op m = refl
behind_same Urb m = refl

-- ---- rows

abbrev Row : Phase → List Message → List ℕ → List ℕ → Type 0
Row phase messages bytes rest = InRow (Spells (stream_of ways.Up phase) []) messages bytes rest

row_on : (phase : Phase) (ms ns : List Message) (bytes more middle rest : List ℕ) → Row phase ms bytes middle → Row phase ns (middle ++ more) rest
    → Row phase (ms ++ ns) (bytes ++ more) rest
row_on phase [] ns bytes more middle rest e row = subst (λ (l : List ℕ). Row phase ns (l ++ more) rest) (sym e) row
row_on phase (m ∷ ms) ns bytes more middle rest (front, after, e, spelled, row) next =
    (front, after ++ more, ap (λ (l : List ℕ). l ++ more) e ∙ append_assoc front after more, spelled, row_on phase ms ns after more middle rest row next)

row_more : (phase : Phase) (ms : List Message) (bytes more rest : List ℕ) → Row phase ms bytes rest → Row phase ms (bytes ++ more) (rest ++ more)
row_more phase [] bytes more rest e = ap (λ (l : List ℕ). l ++ more) e
row_more phase (m ∷ ms) bytes more rest (front, after, e, spelled, row) =
    (front, after ++ more, ap (λ (l : List ℕ). l ++ more) e ∙ append_assoc front after more, spelled, row_more phase ms after more rest row)

turn_row : (phase : Phase) (s : Standing) (ms : List Message) (last : Standing) → s.reading ≡ stream_of ways.Up phase → InTurn s ms last
    → Row phase ms s.rest last.rest × (last.reading ≡ stream_of ways.Up phase)
turn_row phase s [] last same e = (ap (λ (z : Standing). z.rest) (sym e), ap (λ (z : Standing). z.reading) e ∙ same)
turn_row phase s (m ∷ ms) last same (front, rest, e, spelled, row) =
    let r = turn_row phase (taken s m rest) ms last (ap (λ z. behind z m) same ∙ behind_same phase m) row in
    ((front, rest, e, spells_same phase s.entries [] m front (subst (λ z. Spells z s.entries m front) same spelled), r.0), r.1)

-- ---- the lines so far

-- what stands of the rest: it is kept, or its bad field was found
abbrev Kept : Phase → List ℕ → Standing → Option Field → Type 0
Kept phase rest now None = (now.rest ≡ rest) × NoneWhole (stream_of ways.Up phase) [] rest × IsBadOf (stream_of ways.Up phase) rest None
Kept phase rest now (Some f) = BadAt (stream_of ways.Up phase) [] rest f

-- these bytes have come, and this is printed of them
record SoFar (phase : Phase) (bytes body : List ℕ) (now : Standing) : Type 0 where
  messages : List Message
  rest : List ℕ
  row : Row phase messages bytes rest
  same : now.reading ≡ stream_of ways.Up phase
  kept : Kept phase rest now now.bad
  printed : body ≡ flat_map message_line messages ++ bad_text now.bad

none_yet : (phase : Phase) → SoFar phase [] [] (begun ways.Up phase)
none_yet phase = record {
  messages = [];
  rest = [];
  row = refl;
  same = refl;
  kept = (refl, no_message (stream_of ways.Up phase) [], no_bad (stream_of ways.Up phase) []);
  printed = refl;
}

text_on : (ms ns : List Message) (body text tail : List ℕ) → body ≡ flat_map message_line ms ++ [] → text ≡ flat_map message_line ns ++ tail
    → body ++ text ≡ flat_map message_line (ms ++ ns) ++ tail
text_on ms ns body text tail e d =
    ap (λ (l : List ℕ). l ++ text) (e ∙ append-nil (flat_map message_line ms))
    ∙ (ap (λ (l : List ℕ). flat_map message_line ms ++ l) d
    ∙ (sym (append_assoc (flat_map message_line ms) (flat_map message_line ns) tail) ∙ ap (λ (l : List ℕ). l ++ tail) (sym (flat_on ms ns))))

-- the standing behind a piece, where no field was bad before it
piece_stopped : (phase : Phase) (bytes body piece text : List ℕ) (ms ns : List Message) (last : Standing) (bad : Option Field) → Row phase (ms ++ ns) (bytes ++ piece) last.rest
    → last.reading ≡ stream_of ways.Up phase → last.bad ≡ None → Stops last bad → body ++ text ≡ flat_map message_line (ms ++ ns) ++ bad_text bad
    → SoFar phase (bytes ++ piece) (body ++ text) (stopped last bad)
piece_stopped phase bytes body piece text ms ns last None row same good stops printed =
    let none : NoneWhole (stream_of ways.Up phase) last.entries last.rest = subst (λ z. NoneWhole z last.entries last.rest) same stops.0 in
    let calm : (f : Field) → BadAt (stream_of ways.Up phase) [] last.rest f → ⊥ =
    λ f bad. stops.1 f (subst (λ z. BadAt z last.entries last.rest f) (sym same) (bad_same phase [] last.entries last.rest f bad)) in
    record {
      messages = ms ++ ns;
      rest = last.rest;
      row = row;
      same = same;
      kept = subst (λ (b : Option Field). Kept phase last.rest last b) (sym good) (refl, none_same phase last.entries [] last.rest none, calm);
      printed = printed ∙ ap (λ (b : Option Field). flat_map message_line (ms ++ ns) ++ bad_text b) (sym good);
    }
piece_stopped phase bytes body piece text ms ns last (Some f) row same good stops printed = record {
  messages = ms ++ ns;
  rest = last.rest;
  row = row;
  same = same;
  kept = bad_same phase last.entries [] last.rest f (subst (λ z. BadAt z last.entries last.rest f) same stops);
  printed = printed;
}

piece_by : Lawful → (phase : Phase) (bytes body piece text : List ℕ) (now new : Standing) (bad : Option Field) (ms : List Message) (rest : List ℕ) → now.bad ≡ bad
    → Row phase ms bytes rest → now.reading ≡ stream_of ways.Up phase → Kept phase rest now bad → body ≡ flat_map message_line ms ++ bad_text bad
    → Gives bad now piece text new → SoFar phase (bytes ++ piece) (body ++ text) new
piece_by laws phase bytes body piece text now new None ms rest good row same kept printed takes =
    let r = turn_row phase (fed_with now piece) takes.messages takes.last same takes.row in
    let on : Row phase takes.messages (rest ++ piece) takes.last.rest =
    subst (λ (l : List ℕ). Row phase takes.messages (l ++ piece) takes.last.rest) kept.0 r.0 in
    subst (λ z. SoFar phase (bytes ++ piece) (body ++ text) z) (sym takes.marked)
    (piece_stopped phase bytes body piece text ms takes.messages takes.last takes.bad (row_on phase ms takes.messages bytes piece rest takes.last.rest row on) r.1
    (turn_good (fed_with now piece) takes.messages takes.last takes.row ∙ good) takes.stops
    (text_on ms takes.messages body text (bad_text takes.bad) printed takes.printed))
piece_by laws phase bytes body piece text now new (Some f) ms rest bad row same kept printed none =
    subst (λ z. SoFar phase (bytes ++ piece) (body ++ text) z) (sym none.1) (record {
      messages = ms;
      rest = rest ++ piece;
      row = row_more phase ms bytes piece rest row;
      same = same;
      kept = subst (λ (b : Option Field). Kept phase (rest ++ piece) now b) (sym bad) (more_bad laws (stream_of ways.Up phase) [] rest piece f kept);
      printed =
          ap (λ (l : List ℕ). body ++ l) none.0
          ∙ (append-nil body ∙ (printed ∙ ap (λ (b : Option Field). flat_map message_line ms ++ bad_text b) (sym bad)));
    })

lines_on : Lawful → (phase : Phase) (bytes body : List ℕ) (now : Standing) (lines : List Line) (text : List ℕ) (last : Standing) → SoFar phase bytes body now
    → PrintAll now lines text last → SoFar phase (bytes ++ bytes_in lines) (body ++ text) last
lines_on laws phase bytes body now [] text last so (none, is) =
    subst (λ z. SoFar phase (bytes ++ []) (body ++ text) z) (sym is)
    (subst (λ (l : List ℕ). SoFar phase l (body ++ text) now) (sym (append-nil bytes))
    (subst (λ (l : List ℕ). SoFar phase bytes l now) (sym (ap (λ (l : List ℕ). body ++ l) none ∙ append-nil body)) so))
lines_on laws phase bytes body now (Adds entry ∷ lines) text last so (front, back, middle, e, (free, none, is), more) =
    let added : SoFar phase bytes body middle = subst (λ z. SoFar phase bytes body z) (sym is) (record {
      messages = so.messages;
      rest = so.rest;
      row = so.row;
      same = so.same;
      kept = kept_same now.bad so.kept;
      printed = so.printed;
    }) in
    subst (λ (l : List ℕ). SoFar phase (bytes ++ bytes_in lines) (body ++ l) last) (sym (e ∙ ap (λ (l : List ℕ). l ++ back) none))
    (lines_on laws phase bytes body middle lines back last added more)
  where
    kept_same : (bad : Option Field) → Kept phase so.rest now bad → Kept phase so.rest (record now { entries = now.entries ++ entry ∷ [] }) bad
    kept_same None kept = kept
    kept_same (Some f) kept = kept
lines_on laws phase bytes body now (Bytes piece ∷ lines) text last so (front, back, middle, e, first, more) =
    let one = piece_by laws phase bytes body piece front now middle now.bad so.messages so.rest refl so.row so.same so.kept so.printed first in
    subst (λ (l : List ℕ). SoFar phase l (body ++ text) last) (append_assoc bytes piece (bytes_in lines))
    (subst (λ (l : List ℕ). SoFar phase ((bytes ++ piece) ++ bytes_in lines) l last) (append_assoc body front back ∙ ap (λ (l : List ℕ). body ++ l) (sym e))
    (lines_on laws phase (bytes ++ piece) (body ++ front) middle lines back last one more))

-- ---- the text

ended : Lawful → (phase : Phase) (bytes body text : List ℕ) (last : Standing) (bad : Option Field) (ms : List Message) (rest : List ℕ) → Row phase ms bytes rest
    → Kept phase rest last bad → body ≡ flat_map message_line ms ++ bad_text bad → text ≡ body ++ ending bad last.rest → IsTextOf (stream_of ways.Up phase) bytes text
ended laws phase bytes body text last None ms rest row kept printed e = record {
  messages = ms;
  rest = rest;
  bad = None;
  reads = record { row = row; none_whole = kept.1 };
  found = kept.2;
  printed =
      e
      ∙ (ap (λ (l : List ℕ). l ++ more_line (length last.rest)) (printed ∙ append-nil (flat_map message_line ms))
      ∙ ap (λ (l : List ℕ). flat_map message_line ms ++ more_line (length l)) kept.0);
}
ended laws phase bytes body text last (Some f) ms rest row kept printed e = record {
  messages = ms;
  rest = rest;
  bad = Some f;
  reads = record { row = row; none_whole = (alone laws (stream_of ways.Up phase) [] rest f kept).0 };
  found = kept;
  printed = e ∙ (append-nil body ∙ printed);
}

pub client_text : Lawful → (phase : Phase) (lines : List Line) (text : List ℕ) → Shown ways.Up phase lines text → IsTextOf (stream_of ways.Up phase) (bytes_in lines) text
client_text laws phase lines text shown =
    let so = lines_on laws phase [] [] (begun ways.Up phase) lines shown.body shown.last (none_yet phase) shown.prints in
    ended laws phase (bytes_in lines) shown.body text shown.last shown.last.bad so.messages so.rest so.row so.kept so.printed shown.ended
