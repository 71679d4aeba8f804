-- what a piece prints its two parts print, wherever it is cut
use Rattle.std.proofs.Common.{◌≡◌, ◌⊎◌, inl, inr, ℕ, Option, Some, None, List, [], ◌∷◌, ◌++◌, length, refl, sym, ap, subst, ◌∙◌, append-nil, append_assoc, length-append, arith}
use Rattle.std.specs.List.{flat_map}
use Rattle.tmc_base.specs.declared.field.Field.{Field}
use Rattle.usbip_wire.specs.declared.dirs.Outstanding.{Outstanding}
use Rattle.event_text.specs.declared.way.Way.{Way}
use Rattle.event_text.specs.declared.script.Line.{Line}
use Rattle.event_text.specs.declared.script.Line.TheVariants.{Adds, Bytes}
use Rattle.event_text.specs.declared.script.Phase.{Phase}
use Rattle.event_text.specs.Message.{Stream, Message, Spells, NoneWhole, BadAt}
use Rattle.event_text.specs.Pieces.{onto, merged}
use Rattle.event_text.specs.Printed.{message_line}
use Rattle.event_text.specs.Read.{fed_with}
use Rattle.event_text.specs.Shown.{Standing, InTurn, Stops, Takes, Gives, Prints, PrintAll, Shown, begun, taken, stopped, bad_text}
use Rattle.event_text.proofs.Joined.{turn_good, flat_on, merged_prints}
use Rattle.event_text.proofs.Lawful.{Lawful, free, alone, more_bad, back_bad}

-- ---- where a front ends

-- within the first list, or beyond it
abbrev Meets : List ℕ → List ℕ → List ℕ → List ℕ → Type 0
Meets xs ys front rest =
    ((c : List ℕ) × (xs ≡ front ++ c) × (rest ≡ c ++ ys)) ⊎ ((x : ℕ) × (c : List ℕ) × (front ≡ xs ++ x ∷ c))

tail_is : (x y : ℕ) (xs ys : List ℕ) → x ∷ xs ≡ y ∷ ys → (x ≡ y) × (xs ≡ ys)
tail_is x y xs ys e = (cc, cc)

meets : (xs ys front rest : List ℕ) → xs ++ ys ≡ front ++ rest → Meets xs ys front rest
meets xs ys [] rest e = inl (xs, refl, sym e)
meets [] ys (x ∷ front) rest e = inr (x, front, refl)
meets (y ∷ xs) ys (x ∷ front) rest e =
    let same = tail_is y x (xs ++ ys) (front ++ rest) e in
    elim (meets xs ys front rest same.1) [
      | inl w ↦ inl (w.0, ap (λ z. z ∷ xs) same.0 ∙ ap (λ (l : List ℕ). x ∷ l) w.1, w.2)
      | inr b ↦ inr (b.0, b.1, ap (λ z. z ∷ front) (sym same.0) ∙ ap (λ (l : List ℕ). y ∷ l) b.2)
    ]

-- a front that is longer is not the same
too_long : (r front other c d : List ℕ) (x : ℕ) → length front ≡ length other → front ≡ r ++ x ∷ c → r ≡ other ++ d → ⊥
too_long r front other c d x same e f = omega (arith, same, ap length e, length-append r (x ∷ c), ap length f, length-append other d)

-- ---- a row of messages is cut

-- what follows the first part
abbrev Next : Standing → List ℕ → List Message → Standing → Option Field → Option Field → Type 0
Next middle q behind last bad None = InTurn (fed_with middle q) behind last
Next middle q behind last bad (Some f) = (behind ≡ []) × (bad ≡ Some f) × (last ≡ fed_with middle q)

record Cut (s : Standing) (q : List ℕ) (ms : List Message) (last : Standing) (bad : Option Field) : Type 0 where
  before : List Message
  behind : List Message
  middle : Standing
  ended : Option Field
  all : ms ≡ before ++ behind
  row : InTurn s before middle
  stops : Stops middle ended
  next : Next middle q behind last bad ended

none_before : (reading : Stream) (entries : List Outstanding) (r q : List ℕ) → NoneWhole reading entries (r ++ q) → NoneWhole reading entries r
none_before reading entries r q none = λ m front tail s e. none m front (tail ++ q) s (ap (λ (l : List ℕ). l ++ q) e ∙ append_assoc front tail q)

cut_bad : Lawful → (s : Standing) (q : List ℕ) (last : Standing) (f : Field) → last ≡ fed_with s q → BadAt s.reading s.entries (s.rest ++ q) f
    → BadAt s.reading s.entries s.rest f ⊎ (BadAt s.reading s.entries s.rest f → ⊥) → Cut s q [] last (Some f)
cut_bad laws s q last f e bad (inl now) = record {
  before = [];
  behind = [];
  middle = s;
  ended = Some f;
  all = refl;
  row = refl;
  stops = now;
  next = (refl, refl, e);
}
cut_bad laws s q last f e bad (inr good) = record {
  before = [];
  behind = [];
  middle = s;
  ended = None;
  all = refl;
  row = refl;
  stops = (
    none_before s.reading s.entries s.rest q (alone laws s.reading s.entries (s.rest ++ q) f bad).0,
    λ g b. good (subst (λ z. BadAt s.reading s.entries s.rest z) (sym ((alone laws s.reading s.entries (s.rest ++ q) f bad).1 g (more_bad laws s.reading s.entries s.rest q g b))) b),
  );
  next = e;
}

cut_end : Lawful → (s : Standing) (q : List ℕ) (last : Standing) (bad : Option Field) → last ≡ fed_with s q → Stops last bad → Cut s q [] last bad
cut_end laws s q last None e stops =
    let here : Stops (fed_with s q) None = subst (λ (z : Standing). Stops z None) e stops in
    record {
      before = [];
      behind = [];
      middle = s;
      ended = None;
      all = refl;
      row = refl;
      stops = (none_before s.reading s.entries s.rest q here.0, λ f b. here.1 f (more_bad laws s.reading s.entries s.rest q f b));
      next = e;
    }
cut_end laws s q last (Some f) e stops =
    let here : Stops (fed_with s q) (Some f) = subst (λ (z : Standing). Stops z (Some f)) e stops in
    cut_bad laws s q last f e here (back_bad laws s.reading s.entries s.rest q f here)

-- where a message ends beyond the rest, the rest holds none whole and no bad field
none_within : Lawful → (s : Standing) (m : Message) (front c : List ℕ) (x : ℕ) → Spells s.reading s.entries m front → front ≡ s.rest ++ x ∷ c → Stops s None
none_within laws s m front c x spelled e = (
  λ n other tail sp d.
      let joins : other ++ (tail ++ x ∷ c) ≡ front ++ [] =
      sym (append_assoc other tail (x ∷ c)) ∙ (ap (λ (l : List ℕ). l ++ x ∷ c) (sym d) ∙ (sym e ∙ sym (append-nil front))) in
      let same = free laws s.reading s.entries n m other front (tail ++ x ∷ c) [] sp spelled joins in
      too_long s.rest front other c tail x (ap length (sym same.1)) e d,
  λ f bad.
      let whole : BadAt s.reading s.entries front f =
      subst (λ (l : List ℕ). BadAt s.reading s.entries l f) (sym e) (more_bad laws s.reading s.entries s.rest (x ∷ c) f bad) in
      (alone laws s.reading s.entries front f whole).0 m front [] spelled (sym (append-nil front)),
)

cut_row : Lawful → (s : Standing) (q : List ℕ) (ms : List Message) (last : Standing) (bad : Option Field) → InTurn (fed_with s q) ms last → Stops last bad → Cut s q ms last bad
cut_row laws s q [] last bad e stops = cut_end laws s q last bad e stops
cut_row laws s q (m ∷ ms) last bad (front, rest, e, spelled, row) stops =
    elim (meets s.rest q front rest e) [
      | inl w ↦
          let r = cut_row laws (taken s m w.0) q ms last bad (subst (λ (l : List ℕ). InTurn (taken s m l) ms last) w.2 row) stops in
          record {
            before = m ∷ r.before;
            behind = r.behind;
            middle = r.middle;
            ended = r.ended;
            all = ap (λ (l : List Message). m ∷ l) r.all;
            row = (front, w.0, w.1, spelled, r.row);
            stops = r.stops;
            next = r.next;
          }
      | inr b ↦ record {
        before = [];
        behind = m ∷ ms;
        middle = s;
        ended = None;
        all = refl;
        row = refl;
        stops = none_within laws s m front b.1 b.0 spelled b.2;
        next = (front, rest, e, spelled, row);
      }
    ]

-- ---- a piece is cut

record Two (s : Standing) (p q text : List ℕ) (new : Standing) : Type 0 where
  middle : Standing
  front : List ℕ
  back : List ℕ
  all : text ≡ front ++ back
  first : Prints s (Bytes p) front middle
  second : Prints middle (Bytes q) back new

two_by : (s new : Standing) (p q text : List ℕ) (ms before behind : List Message) (middle last : Standing) (bad ended : Option Field) → s.bad ≡ None → ms ≡ before ++ behind
    → InTurn (fed_with s p) before middle → Stops middle ended → Next middle q behind last bad ended → Stops last bad → new ≡ stopped last bad
    → text ≡ flat_map message_line ms ++ bad_text bad → Two s p q text new
two_by s new p q text ms before behind middle last bad None good all row stops next stop marked printed =
    let fine : middle.bad ≡ None = turn_good (fed_with s p) before middle row ∙ good in
    let first : Takes s p (flat_map message_line before ++ []) middle =
    record { messages = before; last = middle; bad = None; row = row; stops = stops; marked = refl; printed = refl } in
    let second : Takes middle q (flat_map message_line behind ++ bad_text bad) new =
    record { messages = behind; last = last; bad = bad; row = next; stops = stop; marked = marked; printed = refl } in
    record {
      middle = middle;
      front = flat_map message_line before ++ [];
      back = flat_map message_line behind ++ bad_text bad;
      all =
          printed
          ∙ (ap (λ (l : List Message). flat_map message_line l ++ bad_text bad) all
          ∙ (ap (λ (l : List ℕ). l ++ bad_text bad) (flat_on before behind)
          ∙ (append_assoc (flat_map message_line before) (flat_map message_line behind) (bad_text bad)
          ∙ ap (λ (l : List ℕ). l ++ (flat_map message_line behind ++ bad_text bad)) (sym (append-nil (flat_map message_line before))))));
      first = subst (λ (b : Option Field). Gives b s p (flat_map message_line before ++ []) middle) (sym good) first;
      second = subst (λ (b : Option Field). Gives b middle q (flat_map message_line behind ++ bad_text bad) new) (sym fine) second;
    }
two_by s new p q text ms before behind middle last bad (Some f) good all row stops (none, is, same) stop marked printed =
    let only : ms ≡ before = all ∙ (ap (λ (l : List Message). before ++ l) none ∙ append-nil before) in
    let first : Takes s p text (stopped middle (Some f)) = record {
      messages = before;
      last = middle;
      bad = Some f;
      row = row;
      stops = stops;
      marked = refl;
      printed =
          printed
          ∙ (ap (λ (l : List Message). flat_map message_line l ++ bad_text bad) only
          ∙ ap (λ (b : Option Field). flat_map message_line before ++ bad_text b) is);
    } in
    record {
      middle = stopped middle (Some f);
      front = text;
      back = [];
      all = sym (append-nil text);
      first = subst (λ (b : Option Field). Gives b s p text (stopped middle (Some f))) (sym good) first;
      second = (refl, marked ∙ (ap (λ (z : Standing). stopped z bad) same ∙ ap (λ (b : Option Field). stopped (fed_with middle q) b) is));
    }

parted_by : Lawful → (bad : Option Field) (s new : Standing) (p q text : List ℕ) → s.bad ≡ bad → Gives bad s (p ++ q) text new → Two s p q text new
parted_by laws None s new p q text good takes =
    let row : InTurn (fed_with (fed_with s p) q) takes.messages takes.last =
    subst (λ (l : List ℕ). InTurn (record s { rest = l }) takes.messages takes.last) (sym (append_assoc s.rest p q)) takes.row in
    let r = cut_row laws (fed_with s p) q takes.messages takes.last takes.bad row takes.stops in
    two_by s new p q text takes.messages r.before r.behind r.middle takes.last takes.bad r.ended good r.all r.row r.stops r.next takes.stops takes.marked takes.printed
parted_by laws (Some f) s new p q text bad (none, same) = record {
  middle = s;
  front = [];
  back = [];
  all = none;
  first = subst (λ (b : Option Field). Gives b s p [] s) (sym bad) (refl, refl);
  second = subst (λ (b : Option Field). Gives b s q [] new) (sym bad) (refl, same);
}

parted : Lawful → (s new : Standing) (p q text : List ℕ) → Prints s (Bytes (p ++ q)) text new → Two s p q text new
parted laws s new p q text prints = parted_by laws s.bad s new p q text refl prints

-- ---- a list of lines

onto_parted : Lawful → (s : Standing) (p : List ℕ) (lines : List Line) (text : List ℕ) (last : Standing) → PrintAll s (onto (Bytes p) lines) text last
    → PrintAll s (Bytes p ∷ lines) text last
onto_parted laws s p [] text last prints = prints
onto_parted laws s p (Adds entry ∷ lines) text last prints = prints
onto_parted laws s p (Bytes q ∷ lines) text last (front, back, middle, e, prints, more) =
    let two = parted laws s middle p q front prints in (
      two.front,
      two.back ++ back,
      two.middle,
      e ∙ (ap (λ (l : List ℕ). l ++ back) two.all ∙ append_assoc two.front two.back back),
      two.first,
      (two.back, back, middle, refl, two.second, more),
    )

lines_parted : Lawful → (s : Standing) (lines : List Line) (text : List ℕ) (last : Standing) → PrintAll s (merged lines) text last → PrintAll s lines text last
lines_parted laws s [] text last prints = prints
lines_parted laws s (Adds entry ∷ lines) text last (front, back, middle, e, first, more) = (front, back, middle, e, first, lines_parted laws middle lines back last more)
lines_parted laws s (Bytes p ∷ lines) text last prints =
    let r = onto_parted laws s p (merged lines) text last prints in
    (r.0, r.1, r.2, r.3, r.4, lines_parted laws r.2 lines r.1 last r.5)

-- lines that are the same when their pieces are joined show the same
pub cuts_same : Lawful → (way : Way) (phase : Phase) (lines others : List Line) (text : List ℕ) → merged lines ≡ merged others
    → Shown way phase lines text → Shown way phase others text
cuts_same laws way phase lines others text same shown = record {
  body = shown.body;
  last = shown.last;
  prints =
      lines_parted laws (begun way phase) others shown.body shown.last
      (subst (λ (l : List Line). PrintAll (begun way phase) l shown.body shown.last) same (merged_prints laws (begun way phase) lines shown.body shown.last shown.prints));
  ended = shown.ended;
}
