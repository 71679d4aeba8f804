-- lines determine what they print
use Rattle.std.proofs.Common.{◌≡◌, ℕ, ◌+◌, Option, Some, None, Ok, List, [], ◌∷◌, ◌++◌, refl, sym, ap, subst, ◌∙◌}
use Rattle.std.specs.List.{flat_map}
use Rattle.tmc_base.specs.declared.field.Field.{Field}
use Rattle.event_text.specs.declared.way.Way.{Way}
use Rattle.event_text.specs.declared.script.Line.{Line}
use Rattle.event_text.specs.declared.script.Line.TheVariants.{Adds, Bytes}
use Rattle.event_text.specs.Message.{Message}
use Rattle.event_text.specs.Printed.{message_line}
use Rattle.event_text.specs.Script.{Say, later_said}
use Rattle.event_text.specs.Shown.{Standing, InTurn, Stops, Takes, Gives, Prints, PrintAll, taken, stopped, bad_text}
use Rattle.event_text.proofs.Lawful.{Lawful, free, alone}

stops_one : Lawful → (s : Standing) (bad other : Option Field) → Stops s bad → Stops s other → bad ≡ other
stops_one laws s None None p q = refl
stops_one laws s None (Some f) p q = absurd (p.1 f q)
stops_one laws s (Some f) None p q = absurd (q.1 f p)
stops_one laws s (Some f) (Some g) p q = ap (λ (x : Field). Some x) ((alone laws s.reading s.entries s.rest f p).1 g q)

-- where no message follows, none does
none_follows : Lawful → (s : Standing) (bad : Option Field) → Stops s bad → (m : Message) (ms : List Message) (last : Standing) → InTurn s (m ∷ ms) last → ⊥
none_follows laws s None stops m ms last (front, rest, e, spelled, more) = stops.0 m front rest spelled e
none_follows laws s (Some f) stops m ms last (front, rest, e, spelled, more) = (alone laws s.reading s.entries s.rest f stops).0 m front rest spelled e

pub record Same (ms ns : List Message) (last other : Standing) (bad worse : Option Field) : Type 0 where
  pub messages : ms ≡ ns
  pub lasts : last ≡ other
  pub bads : bad ≡ worse

turn_one : Lawful → (s : Standing) (ms ns : List Message) (last other : Standing) (bad worse : Option Field) → InTurn s ms last → Stops last bad
    → InTurn s ns other → Stops other worse → Same ms ns last other bad worse
turn_one laws s [] [] last other bad worse p u q v =
    let one : last ≡ other = p ∙ sym q in
    record { messages = refl; lasts = one; bads = stops_one laws last bad worse u (subst (λ z. Stops z worse) (sym one) v) }
turn_one laws s [] (n ∷ ns) last other bad worse p u q v = absurd (none_follows laws s bad (subst (λ z. Stops z bad) p u) n ns other q)
turn_one laws s (m ∷ ms) [] last other bad worse p u q v = absurd (none_follows laws s worse (subst (λ z. Stops z worse) q v) m ms last p)
turn_one laws s (m ∷ ms) (n ∷ ns) last other bad worse (front, rest, e, spelled, more) u (front2, rest2, e2, spelled2, more2) v =
    let same = free laws s.reading s.entries m n front front2 rest rest2 spelled spelled2 (sym e ∙ e2) in
    let back : InTurn (taken s m rest) ns other =
    subst (λ (z : List ℕ). InTurn (taken s m z) ns other) (sym same.2) (subst (λ z. InTurn (taken s z rest2) ns other) (sym same.0) more2) in
    let r = turn_one laws (taken s m rest) ms ns last other bad worse more u back v in
    record { messages = ap (λ z. z ∷ ms) same.0 ∙ ap (λ (z : List Message). n ∷ z) r.messages; lasts = r.lasts; bads = r.bads }

pub record OneText (text other : List ℕ) (new after : Standing) : Type 0 where
  pub texts : text ≡ other
  pub news : new ≡ after

takes_one : Lawful → (old : Standing) (piece text other : List ℕ) (new after : Standing) → Takes old piece text new → Takes old piece other after → OneText text other new after
takes_one laws old piece text other new after p q =
    let r = turn_one laws (record old { rest = old.rest ++ piece }) p.messages q.messages p.last q.last p.bad q.bad p.row p.stops q.row q.stops in
    record {
      texts =
          p.printed
          ∙ (ap (λ (z : List Message). flat_map message_line z ++ bad_text p.bad) r.messages
          ∙ (ap (λ (z : Option Field). flat_map message_line q.messages ++ bad_text z) r.bads ∙ sym q.printed));
      news =
          p.marked
          ∙ (ap (λ (z : Standing). stopped z p.bad) r.lasts ∙ (ap (λ (z : Option Field). stopped q.last z) r.bads ∙ sym q.marked));
    }

gives_one : Lawful → (bad : Option Field) (old : Standing) (piece text other : List ℕ) (new after : Standing) → Gives bad old piece text new → Gives bad old piece other after
    → OneText text other new after
gives_one laws None old piece text other new after p q = takes_one laws old piece text other new after p q
gives_one laws (Some f) old piece text other new after p q = record { texts = p.0 ∙ sym q.0; news = p.1 ∙ sym q.1 }

pub prints_one : Lawful → (old : Standing) (line : Line) (text other : List ℕ) (new after : Standing) → Prints old line text new → Prints old line other after
    → OneText text other new after
prints_one laws old (Adds entry) text other new after p q = record { texts = p.1 ∙ sym q.1; news = p.2 ∙ sym q.2 }
prints_one laws old (Bytes piece) text other new after p q = gives_one laws old.bad old piece text other new after p q

pub print_all_one : Lawful → (old : Standing) (lines : List Line) (text other : List ℕ) (new after : Standing) → PrintAll old lines text new → PrintAll old lines other after
    → OneText text other new after
print_all_one laws old [] text other new after p q = record { texts = p.0 ∙ sym q.0; news = p.1 ∙ sym q.1 }
print_all_one laws old (line ∷ lines) text other new after (front, back, middle, e, first, more) (front2, back2, middle2, e2, first2, more2) =
    let one = prints_one laws old line front front2 middle middle2 first first2 in
    let rest = print_all_one laws middle lines back back2 new after more (subst (λ z. PrintAll z lines back2 after) (sym one.news) more2) in
    record {
      texts = e ∙ (ap (λ (z : List ℕ). z ++ back) one.texts ∙ (ap (λ (z : List ℕ). front2 ++ z) rest.texts ∙ sym e2));
      news = rest.news;
    }

pub said_one : (way : Way) (number : ℕ) (text : List ℕ) (line other : Line) → later_said way number text ≡ Ok line → later_said way number text ≡ Ok other → line ≡ other
said_one way number text line other p q = let both : Ok line ≡ Ok other = sym p ∙ q in cc

pub say_one : (way : Way) (number : ℕ) (texts : List (List ℕ)) (lines others : List Line) → Say way number texts lines → Say way number texts others → lines ≡ others
say_one way number [] [] [] p q = refl
say_one way number [] [] (o ∷ others) p q = absurd q
say_one way number [] (l ∷ lines) others p q = absurd p
say_one way number (t ∷ texts) [] others p q = absurd p
say_one way number (t ∷ texts) (l ∷ lines) [] p q = absurd q
say_one way number (t ∷ texts) (l ∷ lines) (o ∷ others) p q =
    ap (λ z. z ∷ lines) (said_one way number t l o p.0 q.0) ∙ ap (λ (z : List Line). o ∷ z) (say_one way (number + 1) texts lines others p.1 q.1)
