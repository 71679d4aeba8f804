-- what feeding answers, from what the held bytes are
use Rattle.std.proofs.Common.{◌≡◌, ℕ, ◌+◌, ◌-◌, ◌<◌, ◌≤◌, Bool, true, false, Option, Some, None, List, [], ◌∷◌, ◌++◌, length, take, drop, Ok, Err, refl, sym, ap, subst, ◌∙◌, arith}
use Rattle.std.proofs.lemmas.List.{take_all, append-nil, length-append, length-drop, length-take}
use Rattle.tmc_base.specs.declared.field.Field.{Field}
use Rattle.usbip_wire.specs.declared.dirs.Outstanding.{Outstanding}
use Rattle.usbip_wire.specs.declared.fields.TheConstants.{COMMAND}
use Rattle.usbip_wire.specs.declared.down.Down.{Down}
use Rattle.usbip_wire.specs.declared.down.Down.TheVariants as down
use Rattle.usbip_wire.specs.declared.down.DownPhase.{DownPhase}
use Rattle.usbip_wire.specs.declared.down.DownPhase.TheVariants.{Ops, Urbs}
use Rattle.usbip_wire.specs.declared.stop.Stop.TheVariants.{Short, Refused}
use Rattle.usbip_wire.specs.Form.{read}
use Rattle.usbip_wire.specs.Given.{IsBytes}
use Rattle.usbip_wire.specs.DownFed.{Held, Answers, Keeps, Judged, Means, BadAt, Ends}
use Rattle.usbip_wire.specs.DownForm.{down_form, after}
use Rattle.usbip_wire.specs.JudgedFields.{part_fields, answer_fields, missing_for}
use Rattle.usbip_wire.proofs.Determined.{Placed}
use Rattle.usbip_wire.proofs.DownRead.{down_sound, whole_means, whole_good, stopped_none, short_good}
use Rattle.usbip_wire.proofs.Edges.{exact_refused, bad_within}
use Rattle.usbip_wire.proofs.Forms.{sound, more_bad, more_whole, bad_refused, refused_bad, exact, still_short}
use Rattle.usbip_wire.proofs.Fronts.{IsBytes-take}
use Rattle.usbip_wire.proofs.Pieces.{rest_of_piece}
use Rattle.usbip_wire.proofs.Places.{ops_placed, answers_placed}
use Rattle.usbip_wire.proofs.Whole.{front, front_read}

-- the reader behind so many bytes of a piece
abbrev pub at : DownPhase → List ℕ → List ℕ → ℕ → Held
at phase start piece used = record { phase = phase; rest = start ++ take used piece; whole = false; bad = None }

answers_message : (phase : DownPhase) (entries : List Outstanding) (start piece : List ℕ) (used : ℕ) (what : Down) (new : Held) → used ≤ length piece
    → Means phase entries what (start ++ take used piece) → ((f : Field) → BadAt phase entries (start ++ piece) f → ⊥)
    → new ≡ record { phase = after phase what; rest = start ++ take used piece; whole = true; bad = None } → Answers phase entries start piece used what new
answers_message phase entries start piece used (down.Count status devices) new le m g e = (le, m, g, e)
answers_message phase entries start piece used (down.Device device) new le m g e = (le, m, g, e)
answers_message phase entries start piece used (down.Interface class subclass protocol) new le m g e = (le, m, g, e)
answers_message phase entries start piece used (down.Import status device) new le m g e = (le, m, g, e)
answers_message phase entries start piece used (down.RetSubmit head) new le m g e = (le, m, g, e)
answers_message phase entries start piece used (down.RetUnlink head) new le m g e = (le, m, g, e)
answers_message (Ops devices interfaces) entries start piece used down.More new le m g e = absurd m
answers_message Urbs entries start piece used down.More new le m g e = absurd m
answers_message (Ops devices interfaces) entries start piece used (down.Bad f) new le m g e = absurd m
answers_message Urbs entries start piece used (down.Bad f) new le m g e = absurd m

pub answers_whole : (phase : DownPhase) (entries : List Outstanding) (start piece : List ℕ) (used : ℕ) (self : Held) (what : Down) (new : Held) → used ≤ length piece
    → self ≡ at phase start piece used → IsBytes self.rest → read (down_form self.phase entries) self.rest ≡ Ok (what, [])
    → new ≡ record self { phase = after self.phase what; whole = true }
    → Answers phase entries start piece used what new
answers_whole phase entries start piece used self what new le e fits judged next =
    let bytes : IsBytes (start ++ take used piece) = subst (λ (h : Held). IsBytes h.rest) e fits in
    let r : read (down_form phase entries) (start ++ take used piece) ≡ Ok (what, []) = subst (λ (h : Held). read (down_form h.phase entries) h.rest ≡ Ok (what, [])) e judged in
    answers_message phase entries start piece used what new le (whole_means phase entries what (start ++ take used piece) bytes r)
    (λ f b. whole_good phase entries (start ++ take used piece) (drop used piece) what r f (subst (λ (t : List ℕ). BadAt phase entries t f) (sym (rest_of_piece start piece used)) b))
    (next ∙ ap (λ (h : Held). record h { phase = after h.phase what; whole = true }) e)

pub answers_bad : (phase : DownPhase) (entries : List Outstanding) (start piece : List ℕ) (used : ℕ) (self : Held) (f : Field) (new : Held) → used ≤ length piece
    → used ≡ missing_for f start → self ≡ at phase start piece used → IsBytes self.rest → Judged self.phase entries self.rest (Err (Refused f)) → new ≡ record self { bad = Some f }
    → Answers phase entries start piece used (down.Bad f) new
answers_bad phase entries start piece used self f new le ends e fits judged next =
    let bytes : IsBytes (start ++ take used piece) = subst (λ (h : Held). IsBytes h.rest) e fits in
    let r : read (down_form phase entries) (start ++ take used piece) ≡ Err (Refused f) = subst (λ (h : Held). read (down_form h.phase entries) h.rest ≡ Err (Refused f)) e judged in
    let b : BadAt phase entries (start ++ take used piece) f = refused_bad (down_form phase entries) (start ++ take used piece) f bytes r in (
      le,
      ends,
      subst (λ (t : List ℕ). BadAt phase entries t f) (rest_of_piece start piece used) (more_bad (down_form phase entries) (start ++ take used piece) (drop used piece) f b),
      next ∙ ap (λ (h : Held). record h { bad = Some f }) e,
    )

-- the bytes that are left are fewer than are missing
pub answers_more : (phase : DownPhase) (entries : List Outstanding) (start piece : List ℕ) (used : ℕ) (self new : Held) (n : ℕ) → self ≡ at phase start piece used
    → Judged self.phase entries self.rest (Err (Short n)) → length (drop used piece) < n → new ≡ record self { rest = self.rest ++ take (length piece - used) (drop used piece) }
    → Answers phase entries start piece (length piece) down.More new
answers_more phase entries start piece used self new n e judged few next =
    let r : read (down_form phase entries) (start ++ take used piece) ≡ Err (Short n) = subst (λ (h : Held). read (down_form h.phase entries) h.rest ≡ Err (Short n)) e judged in
    let all : (start ++ take used piece) ++ drop used piece ≡ start ++ piece = rest_of_piece start piece used in
    let left : take (length piece - used) (drop used piece) ≡ drop used piece = take_all (length piece - used) (drop used piece) (omega (arith, length-drop used piece)) in
    let s : read (down_form phase entries) (start ++ piece) ≡ Err (Short (n - length (drop used piece))) =
    subst (λ (t : List ℕ). read (down_form phase entries) t ≡ Err (Short (n - length (drop used piece)))) all (still_short (down_form phase entries) (start ++ take used piece) (drop used piece) n r few) in (
      refl,
      stopped_none phase entries (start ++ piece) (Short (n - length (drop used piece))) s,
      short_good phase entries (start ++ piece) (n - length (drop used piece)) s,
      next ∙ (ap (λ (h : Held). record h { rest = h.rest ++ take (length piece - used) (drop used piece) }) e
          ∙ (ap (λ (t : List ℕ). record { phase = phase; rest = (start ++ take used piece) ++ t; whole = false; bad = None }) left ∙ ap (λ (t : List ℕ). record { phase = phase; rest = t; whole = false; bad = None }) all)),
    )

-- before the first byte of a piece
pub begun : (self : Held) → self.whole ≡ false → self.bad ≡ None → self ≡ record { phase = self.phase; rest = self.rest ++ []; whole = false; bad = None }
begun self w b = ap (λ (x : Bool). record self { whole = x }) w ∙ (ap (λ (x : Option Field). record self { whole = false; bad = x }) b
    ∙ ap (λ (t : List ℕ). record { phase = self.phase; rest = t; whole = false; bad = None }) (sym (append-nil self.rest)))

pub ended : (phase : DownPhase) (entries : List Outstanding) (rest : List ℕ) (what : Down) (left : List ℕ) → read (down_form phase entries) rest ≡ Ok (what, left)
    → Ends phase entries rest → read (down_form phase entries) rest ≡ Ok (what, [])
ended phase entries rest what left e ends = subst (λ (t : List ℕ). read (down_form phase entries) rest ≡ Ok (what, t)) (ends what left e) e

-- no more bytes than are missing do not pass the end of a message
pub still_ends : (entries : List Outstanding) (self new : Held) (next : List ℕ) (n : ℕ) → new ≡ record self { rest = self.rest ++ next }
    → read (down_form self.phase entries) self.rest ≡ Err (Short n) → length next ≤ n → Ends new.phase entries new.rest
still_ends entries self new next n e r le =
    subst (λ (h : Held). Ends h.phase entries h.rest) (sym e) (λ what left w. exact (down_form self.phase entries) self.rest next n what left r le w)

-- ---- whatever was kept

keeps_message : (phase : DownPhase) (entries : List Outstanding) (start piece : List ℕ) (used : ℕ) (what : Down) (new : Held) (front left : List ℕ) → used ≤ length piece
    → start ++ take used piece ≡ front ++ left → Means phase entries what front → ((f : Field) → BadAt phase entries (start ++ piece) f → ⊥)
    → new ≡ record { phase = after phase what; rest = start ++ take used piece; whole = true; bad = None } → Keeps phase entries start piece used what new
keeps_message phase entries start piece used (down.Count status devices) new front left le h m g e = (le, (front, left, h, m), g, e)
keeps_message phase entries start piece used (down.Device device) new front left le h m g e = (le, (front, left, h, m), g, e)
keeps_message phase entries start piece used (down.Interface class subclass protocol) new front left le h m g e = (le, (front, left, h, m), g, e)
keeps_message phase entries start piece used (down.Import status device) new front left le h m g e = (le, (front, left, h, m), g, e)
keeps_message phase entries start piece used (down.RetSubmit head) new front left le h m g e = (le, (front, left, h, m), g, e)
keeps_message phase entries start piece used (down.RetUnlink head) new front left le h m g e = (le, (front, left, h, m), g, e)
keeps_message (Ops devices interfaces) entries start piece used down.More new front left le h m g e = absurd m
keeps_message Urbs entries start piece used down.More new front left le h m g e = absurd m
keeps_message (Ops devices interfaces) entries start piece used (down.Bad f) new front left le h m g e = absurd m
keeps_message Urbs entries start piece used (down.Bad f) new front left le h m g e = absurd m

front_good : (phase : DownPhase) (entries : List Outstanding) (rest more : List ℕ) (what : Down) (left : List ℕ) → read (down_form phase entries) rest ≡ Ok (what, left)
    → (f : Field) → BadAt phase entries (rest ++ more) f → ⊥
front_good phase entries rest more what left r f b =
    let x = bad_refused (down_form phase entries) (rest ++ more) f b in let y = more_whole (down_form phase entries) rest more what left r in cc

pub keeps_whole : (phase : DownPhase) (entries : List Outstanding) (start piece : List ℕ) (used : ℕ) (self : Held) (what : Down) (left : List ℕ) (new : Held) → used ≤ length piece
    → self ≡ at phase start piece used → IsBytes self.rest → read (down_form self.phase entries) self.rest ≡ Ok (what, left)
    → new ≡ record self { phase = after self.phase what; whole = true }
    → Keeps phase entries start piece used what new
keeps_whole phase entries start piece used self what left new le e fits judged next =
    let bytes : IsBytes (start ++ take used piece) = subst (λ (h : Held). IsBytes h.rest) e fits in
    let r : read (down_form phase entries) (start ++ take used piece) ≡ Ok (what, left) = subst (λ (h : Held). read (down_form h.phase entries) h.rest ≡ Ok (what, left)) e judged in
    let s = sound (down_form phase entries) (start ++ take used piece) what left bytes r in
    keeps_message phase entries start piece used what new s.0 left le s.1 (down_sound phase entries what s.0 s.2)
    (λ f b. front_good phase entries (start ++ take used piece) (drop used piece) what left r f (subst (λ (t : List ℕ). BadAt phase entries t f) (sym (rest_of_piece start piece used)) b))
    (next ∙ ap (λ (h : Held). record h { phase = after h.phase what; whole = true }) e)

-- ---- a message that is whole at the front of a piece, where nothing was held

module _ (entries : List Outstanding) (old mid new : Held) (piece left : List ℕ) (what : Down) (unread : old.whole ≡ false) (good : old.bad ≡ None) (empty : old.rest ≡ [])
    (fits : IsBytes piece) (r : read (down_form old.phase entries) piece ≡ Ok (what, left)) (is : mid ≡ record old { rest = old.rest ++ front piece left })
    (next : new ≡ record mid { phase = after mid.phase what; whole = true }) where
  held : mid ≡ at old.phase old.rest piece (length piece - length left)
  held =
      is ∙ (ap (λ (b : Bool). record old { rest = old.rest ++ front piece left; whole = b }) unread
      ∙ ap (λ (f : Option Field). record old { rest = old.rest ++ front piece left; whole = false; bad = f }) good)

  alone : mid.rest ≡ front piece left
  alone = ap (λ (h : Held). h.rest) is ∙ ap (λ (l : List ℕ). l ++ front piece left) empty

  bytes : IsBytes mid.rest
  bytes = subst IsBytes (sym alone) (IsBytes-take (length piece - length left) piece fits)

  judged : read (down_form mid.phase entries) mid.rest ≡ Ok (what, [])
  judged =
      subst (λ (l : List ℕ). read (down_form mid.phase entries) l ≡ Ok (what, [])) (sym alone)
      (subst (λ (p : DownPhase). read (down_form p entries) (front piece left) ≡ Ok (what, [])) (sym (ap (λ (h : Held). h.phase) is)) (front_read (down_form old.phase entries) piece left what fits r))

  pub answers_front : Answers old.phase entries old.rest piece (length piece - length left) what new
  answers_front = answers_whole old.phase entries old.rest piece (length piece - length left) mid what new (omega arith) held bytes judged next

  pub keeps_front : Keeps old.phase entries old.rest piece (length piece - length left) what new
  keeps_front = keeps_whole old.phase entries old.rest piece (length piece - length left) mid what [] new (omega arith) held bytes judged next

-- ---- what is used ends with a refused field

fields_of : DownPhase → List Field
fields_of (Ops devices interfaces) = part_fields devices interfaces
fields_of Urbs = COMMAND ∷ answer_fields

placed : (phase : DownPhase) (entries : List Outstanding) → Placed (fields_of phase) (down_form phase entries) 0
unfolding fields_of
placed (Ops devices interfaces) entries = ops_placed devices interfaces
placed Urbs entries = answers_placed entries

-- of a field that is refused in what is held
abbrev pub EndsHere : List Outstanding → List ℕ → ℕ → Held → Type 0
EndsHere entries start used self = (f : Field) → read (down_form self.phase entries) self.rest ≡ Err (Refused f) → used ≡ missing_for f start

pub none_missing : (entries : List Outstanding) (self : Held) → IsBytes self.rest → EndsHere entries self.rest 0 self
none_missing entries self fits f r =
    let bad = refused_bad (down_form self.phase entries) self.rest f fits r in
    omega (arith, bad_within (fields_of self.phase) (down_form self.phase entries) self.rest f (placed self.phase entries) bad)

pub still_missing : (entries : List Outstanding) (start piece next : List ℕ) (used : ℕ) (self new : Held) (n : ℕ) → used ≤ length piece
    → self.rest ≡ start ++ take used piece → new ≡ record self { rest = self.rest ++ next }
    → read (down_form self.phase entries) self.rest ≡ Err (Short n) → length next ≤ n → EndsHere entries start (used + length next) new
still_missing entries start piece next used self new n le held e r few f w =
    let x : read (down_form self.phase entries) (self.rest ++ next) ≡ Err (Refused f) = subst (λ (h : Held). read (down_form h.phase entries) h.rest ≡ Err (Refused f)) e w in
    let y = exact_refused (fields_of self.phase) (down_form self.phase entries) 0 self.rest next n f (placed self.phase entries) r few x in
    omega (arith, y, le, ap (λ (l : List ℕ). length l) held, length-append self.rest next, length-append start (take used piece), length-take used piece)
