-- a script as far as it was read
use Rattle.std.proofs.Common.{◌≡◌, ℕ, ◌+◌, Ok, Err, List, [], ◌∷◌, ◌++◌, length, refl, sym, ap, subst, ◌∙◌, append-nil, append_assoc, length-append, inl, inr, arith}
use Rattle.event_text.specs.declared.way.Way.{Way}
use Rattle.event_text.specs.declared.line_fault.LineWhat.TheVariants.{Unknown}
use Rattle.event_text.specs.declared.line_stop.LineStop.{LineStop}
use Rattle.event_text.specs.declared.line_stop.LineStop.TheVariants.{Wrong, Memory}
use Rattle.event_text.specs.declared.script.Line.{Line}
use Rattle.event_text.specs.declared.script.Phase.{Phase}
use Rattle.event_text.specs.Read.{IsRead, LinePut, fault_at}
use Rattle.event_text.specs.Script.{first_said, later_said, Say}
use Rattle.event_text.specs.Shown.{Standing, begun, Prints, PrintAll, ending, SourceShown, SourceRefused, SourceFault}
use Rattle.event_text.specs.Words.{lines_of}

-- the lines before the rest are read, and this text is printed of them
pub record Progress (way : Way) (source rest : List ℕ) (number : ℕ) (now : Standing) (text : List ℕ) : Type 0 where
  pub first : List ℕ
  pub before : List (List ℕ)
  pub phase : Phase
  pub lines : List Line
  pub cut : lines_of source ≡ first ∷ (before ++ lines_of rest)
  pub named : first_said first ≡ Ok phase
  pub place : number ≡ 2 + length before
  pub said : Say way 2 before lines
  pub prints : PrintAll (begun way phase) lines text now

pub first_read : (way : Way) (source first rest : List ℕ) (phase : Phase) (now : Standing) (number : ℕ) (text : List ℕ) → lines_of source ≡ first ∷ lines_of rest
    → first_said first ≡ Ok phase → now ≡ begun way phase → number ≡ 2 → text ≡ [] → Progress way source rest number now text
first_read way source first rest phase now number text cut named is two none = record {
  first = first;
  before = [];
  phase = phase;
  lines = [];
  cut = cut;
  named = named;
  place = two;
  said = tt;
  prints = (none, is);
}

say_more : (way : Way) (number : ℕ) (texts : List (List ℕ)) (lines : List Line) (text : List ℕ) (line : Line) → Say way number texts lines
    → later_said way (number + length texts) text ≡ Ok line → Say way number (texts ++ text ∷ []) (lines ++ line ∷ [])
say_more way number [] [] text line said one = (subst (λ n. later_said way n text ≡ Ok line) (omega arith) one, tt)
say_more way number [] (l ∷ lines) text line said one = absurd said
say_more way number (t ∷ texts) [] text line said one = absurd said
say_more way number (t ∷ texts) (l ∷ lines) text line said one =
    let behind : number + length (t ∷ texts) ≡ (number + 1) + length texts = omega arith in
    (said.0, say_more way (number + 1) texts lines text line said.1 (subst (λ n. later_said way n text ≡ Ok line) behind one))

prints_more : (old : Standing) (lines : List Line) (text : List ℕ) (middle : Standing) (line : Line) (printed : List ℕ) (new : Standing)
    → PrintAll old lines text middle → Prints middle line printed new → PrintAll old (lines ++ line ∷ []) (text ++ printed) new
prints_more old [] text middle line printed new (none, is) one =
    (printed, [], new, ap (λ xs. xs ++ printed) none ∙ sym (append-nil printed), subst (λ s. Prints s line printed new) is one, (refl, refl))
prints_more old (l ∷ lines) text middle line printed new (front, back, next, e, first, more) one =
    (front, back ++ printed, next, ap (λ xs. xs ++ printed) e ∙ append_assoc front back printed, first, prints_more next lines back middle line printed new more one)

pub line_read : (way : Way) (source rest line more : List ℕ) (number next : ℕ) (now : Standing) (text : List ℕ) (new : Standing) (after : List ℕ)
    → Progress way source rest number now text → lines_of rest ≡ line ∷ lines_of more → LinePut way number line now text (Ok tt) new after → next ≡ number + 1
    → Progress way source more next new after
line_read way source rest line more number next now text new after p cut (few, (said, is, (printed, prints, appended))) step = record {
  first = p.first;
  before = p.before ++ line ∷ [];
  phase = p.phase;
  lines = p.lines ++ said ∷ [];
  cut =
      p.cut ∙ (ap (λ (xs : List (List ℕ)). p.first ∷ (p.before ++ xs)) cut
      ∙ ap (λ (xs : List (List ℕ)). p.first ∷ xs) (sym (append_assoc p.before (line ∷ []) (lines_of more))));
  named = p.named;
  place = omega (arith, step, p.place, length-append p.before (line ∷ []));
  said = say_more way 2 p.before p.lines line said p.said (subst (λ n. later_said way n line ≡ Ok said) p.place is);
  prints = subst (λ xs. PrintAll (begun way p.phase) (p.lines ++ said ∷ []) xs new) (sym appended) (prints_more (begun way p.phase) p.lines text now said printed new p.prints prints);
}

pub line_refused : (way : Way) (source rest line more : List ℕ) (number : ℕ) (now : Standing) (text : List ℕ) (stop : LineStop) (new : Standing) (after : List ℕ)
    → Progress way source rest number now text → lines_of rest ≡ line ∷ lines_of more → LinePut way number line now text (Err stop) new after
    → SourceFault way source (fault_at number stop)
line_refused way source rest line more number now text (Wrong what) new after p cut refused = inr (record {
  first = p.first;
  before = p.before;
  line = line;
  others = lines_of more;
  phase = p.phase;
  lines = p.lines;
  body = text;
  last = now;
  cut = p.cut ∙ ap (λ (xs : List (List ℕ)). p.first ∷ (p.before ++ xs)) cut;
  named = p.named;
  place = p.place;
  said = p.said;
  prints = p.prints;
  refused = refused;
})
line_refused way source rest line more number now text Memory new after p cut refused = tt

pub first_refused : (way : Way) (source first rest : List ℕ) (stop : LineStop) → lines_of source ≡ first ∷ lines_of rest → IsRead {A = Phase} (Err stop) (first_said first)
    → SourceFault way source (fault_at 1 stop)
first_refused way source first rest (Wrong what) cut read = inl (refl, inr (first, lines_of rest, cut, read))
first_refused way source first rest Memory cut read = tt

pub all_read : (way : Way) (source rest : List ℕ) (number : ℕ) (now : Standing) (text after : List ℕ) → Progress way source rest number now text → rest ≡ []
    → after ≡ text ++ ending now.bad now.rest → SourceShown way source after
all_read way source rest number now text after p none ended = record {
  phase = p.phase;
  lines = p.lines;
  script = record {
    first = p.first;
    others = p.before;
    cut = p.cut ∙ ap (λ (xs : List (List ℕ)). p.first ∷ xs) (ap (λ (xs : List ℕ). p.before ++ lines_of xs) none ∙ append-nil p.before);
    named = p.named;
    said = p.said;
  };
  shown = record { body = text; last = now; prints = p.prints; ended = ended };
}

pub none_read : (way : Way) (source : List ℕ) → source ≡ [] → SourceRefused way source 1 Unknown
none_read way source none = inl (refl, inl (ap lines_of none, refl))
