-- what feeding answers, from what the held bytes are
use Rattle.std.proofs.Common.{◌≡◌, ℕ, ◌+◌, ◌-◌, ◌<◌, ◌≤◌, Bool, true, false, Option, Some, None, List, [], ◌++◌, length, take, drop, Ok, Err, refl, sym, ap, subst, ◌∙◌, arith}
use Rattle.std.proofs.lemmas.List.{take_all, append-nil, length-append, length-drop, length-take}
use Rattle.tmc_base.specs.declared.field.Field.{Field}
use Rattle.usbip_wire.specs.declared.stop.Stop.TheVariants.{Short, Refused}
use Rattle.usbip_wire.specs.declared.up.Up.{Up}
use Rattle.usbip_wire.specs.declared.up.Up.TheVariants as up
use Rattle.usbip_wire.specs.declared.up.UpPhase.{UpPhase}
use Rattle.usbip_wire.specs.declared.up.UpPhase.TheVariants.{Ops, Urbs}
use Rattle.usbip_wire.specs.Form.{read}
use Rattle.usbip_wire.specs.Given.{IsBytes}
use Rattle.usbip_wire.specs.JudgedFields.{op_fields, urb_fields, missing_for}
use Rattle.usbip_wire.specs.UpForm.{up_form}
use Rattle.usbip_wire.specs.UpFed.{Held, Answers, Ends, Judged, Means, BadAt}
use Rattle.usbip_wire.proofs.Determined.{Placed}
use Rattle.usbip_wire.proofs.Edges.{exact_refused, bad_within}
use Rattle.usbip_wire.proofs.Forms.{more_bad, ok_is, refused_bad, still_short}
use Rattle.usbip_wire.proofs.Fronts.{IsBytes-take}
use Rattle.usbip_wire.proofs.Whole.{front, front_read}
use Rattle.usbip_wire.proofs.Pieces.{rest_of_piece}
use Rattle.usbip_wire.proofs.Places.{requests_placed, urbs_placed}
use Rattle.usbip_wire.proofs.UpRead.{whole_means, whole_good, stopped_none, short_good}

-- the reader behind so many bytes of a piece
abbrev pub at : UpPhase → List ℕ → List ℕ → ℕ → Held
at phase start piece used = record { phase = phase; rest = start ++ take used piece; whole = false; bad = None }

answers_message : (phase : UpPhase) (start piece : List ℕ) (used : ℕ) (what : Up) (new : Held) → used ≤ length piece
    → Means phase what (start ++ take used piece) → ((f : Field) → BadAt phase (start ++ piece) f → ⊥)
    → new ≡ record { phase = phase; rest = start ++ take used piece; whole = true; bad = None } → Answers phase start piece used what new
answers_message phase start piece used (up.Op request) new le m g e = (le, m, g, e)
answers_message phase start piece used (up.Submit head) new le m g e = (le, m, g, e)
answers_message phase start piece used (up.Unlink head) new le m g e = (le, m, g, e)
answers_message Ops start piece used up.More new le m g e = absurd m
answers_message (Urbs devid) start piece used up.More new le m g e = absurd m
answers_message Ops start piece used (up.Bad f) new le m g e = absurd m
answers_message (Urbs devid) start piece used (up.Bad f) new le m g e = absurd m

pub answers_whole : (phase : UpPhase) (start piece : List ℕ) (used : ℕ) (self : Held) (what : Up) (new : Held) → used ≤ length piece
    → self ≡ at phase start piece used → IsBytes self.rest → Judged self.phase self.rest (Ok what) → new ≡ record self { whole = true }
    → Answers phase start piece used what new
answers_whole phase start piece used self what new le e fits judged after =
    let bytes : IsBytes (start ++ take used piece) = subst (λ (h : Held). IsBytes h.rest) e fits in
    let r : read (up_form phase) (start ++ take used piece) ≡ Ok (what, []) = subst (λ (h : Held). read (up_form h.phase) h.rest ≡ Ok (what, [])) e judged in
    answers_message phase start piece used what new le (whole_means phase what (start ++ take used piece) bytes r)
    (λ f b. whole_good phase (start ++ take used piece) (drop used piece) what r f (subst (λ (t : List ℕ). BadAt phase t f) (sym (rest_of_piece start piece used)) b))
    (after ∙ ap (λ (h : Held). record h { whole = true }) e)

pub answers_bad : (phase : UpPhase) (start piece : List ℕ) (used : ℕ) (self : Held) (f : Field) (new : Held) → used ≤ length piece
    → used ≡ missing_for f start → self ≡ at phase start piece used → IsBytes self.rest → Judged self.phase self.rest (Err (Refused f)) → new ≡ record self { bad = Some f }
    → Answers phase start piece used (up.Bad f) new
answers_bad phase start piece used self f new le ends e fits judged after =
    let bytes : IsBytes (start ++ take used piece) = subst (λ (h : Held). IsBytes h.rest) e fits in
    let r : read (up_form phase) (start ++ take used piece) ≡ Err (Refused f) = subst (λ (h : Held). read (up_form h.phase) h.rest ≡ Err (Refused f)) e judged in
    let b : BadAt phase (start ++ take used piece) f = refused_bad (up_form phase) (start ++ take used piece) f bytes r in (
      le,
      ends,
      subst (λ (t : List ℕ). BadAt phase t f) (rest_of_piece start piece used) (more_bad (up_form phase) (start ++ take used piece) (drop used piece) f b),
      after ∙ ap (λ (h : Held). record h { bad = Some f }) e,
    )

-- the bytes that are left are fewer than are missing
pub answers_more : (phase : UpPhase) (start piece : List ℕ) (used : ℕ) (self new : Held) (n : ℕ) → self ≡ at phase start piece used
    → Judged self.phase self.rest (Err (Short n)) → length (drop used piece) < n → new ≡ record self { rest = self.rest ++ take (length piece - used) (drop used piece) }
    → Answers phase start piece (length piece) up.More new
answers_more phase start piece used self new n e judged few after =
    let r : read (up_form phase) (start ++ take used piece) ≡ Err (Short n) = subst (λ (h : Held). read (up_form h.phase) h.rest ≡ Err (Short n)) e judged in
    let all : (start ++ take used piece) ++ drop used piece ≡ start ++ piece = rest_of_piece start piece used in
    let left : take (length piece - used) (drop used piece) ≡ drop used piece = take_all (length piece - used) (drop used piece) (omega (arith, length-drop used piece)) in
    let s : read (up_form phase) (start ++ piece) ≡ Err (Short (n - length (drop used piece))) =
    subst (λ (t : List ℕ). read (up_form phase) t ≡ Err (Short (n - length (drop used piece)))) all (still_short (up_form phase) (start ++ take used piece) (drop used piece) n r few) in (
      refl,
      stopped_none phase (start ++ piece) (Short (n - length (drop used piece))) s,
      short_good phase (start ++ piece) (n - length (drop used piece)) s,
      after ∙ (ap (λ (h : Held). record h { rest = h.rest ++ take (length piece - used) (drop used piece) }) e
          ∙ (ap (λ (t : List ℕ). record { phase = phase; rest = (start ++ take used piece) ++ t; whole = false; bad = None }) left ∙ ap (λ (t : List ℕ). record { phase = phase; rest = t; whole = false; bad = None }) all)),
    )

-- before the first byte of a piece
pub begun : (self : Held) → self.whole ≡ false → self.bad ≡ None → self ≡ record { phase = self.phase; rest = self.rest ++ []; whole = false; bad = None }
begun self w b = ap (λ (x : Bool). record self { whole = x }) w ∙ (ap (λ (x : Option Field). record self { whole = false; bad = x }) b
    ∙ ap (λ (t : List ℕ). record { phase = self.phase; rest = t; whole = false; bad = None }) (sym (append-nil self.rest)))

-- a message that is whole at the front of a piece, where nothing was held
pub answers_front : (old mid new : Held) (piece left : List ℕ) (what : Up) → old.whole ≡ false → old.bad ≡ None → old.rest ≡ [] → IsBytes piece
    → read (up_form old.phase) piece ≡ Ok (what, left) → mid ≡ record old { rest = old.rest ++ front piece left } → new ≡ record mid { whole = true }
    → Answers old.phase old.rest piece (length piece - length left) what new
answers_front old mid new piece left what unread good empty fits r is after =
    let held : mid ≡ at old.phase old.rest piece (length piece - length left) =
    is ∙ (ap (λ (b : Bool). record old { rest = old.rest ++ front piece left; whole = b }) unread
    ∙ ap (λ (f : Option Field). record old { rest = old.rest ++ front piece left; whole = false; bad = f }) good) in
    let alone : mid.rest ≡ front piece left = ap (λ (h : Held). h.rest) is ∙ ap (λ (l : List ℕ). l ++ front piece left) empty in
    answers_whole old.phase old.rest piece (length piece - length left) mid what new (omega arith) held
    (subst IsBytes (sym alone) (IsBytes-take (length piece - length left) piece fits))
    (subst (λ (l : List ℕ). read (up_form mid.phase) l ≡ Ok (what, [])) (sym alone)
    (subst (λ (p : UpPhase). read (up_form p) (front piece left) ≡ Ok (what, [])) (sym (ap (λ (h : Held). h.phase) is)) (front_read (up_form old.phase) piece left what fits r)))
    after

-- no byte stands behind it
pub front_ends : (phase : UpPhase) (rest piece left : List ℕ) (what : Up) → rest ≡ [] → IsBytes piece → read (up_form phase) piece ≡ Ok (what, left)
    → Ends phase (rest ++ front piece left)
front_ends phase rest piece left what empty fits r other more w =
    let one : read (up_form phase) (front piece left) ≡ Ok (other, more) =
    subst (λ (l : List ℕ). read (up_form phase) (l ++ front piece left) ≡ Ok (other, more)) empty w in
    let two = front_read (up_form phase) piece left what fits r in
    ap (λ (p : Up × List ℕ). p.1) (ok_is (other, more) (what, []) (sym one ∙ two))

-- ---- what is used ends with a refused field

fields_of : UpPhase → List Field
fields_of Ops = op_fields
fields_of (Urbs devid) = urb_fields

placed : (phase : UpPhase) → Placed (fields_of phase) (up_form phase) 0
unfolding fields_of
placed Ops = requests_placed
placed (Urbs devid) = urbs_placed devid

-- of a field that is refused in what is held
abbrev pub EndsHere : List ℕ → ℕ → Held → Type 0
EndsHere start used self = (f : Field) → read (up_form self.phase) self.rest ≡ Err (Refused f) → used ≡ missing_for f start

pub none_missing : (self : Held) → IsBytes self.rest → EndsHere self.rest 0 self
none_missing self fits f r =
    let bad = refused_bad (up_form self.phase) self.rest f fits r in
    omega (arith, bad_within (fields_of self.phase) (up_form self.phase) self.rest f (placed self.phase) bad)

pub still_missing : (start piece next : List ℕ) (used : ℕ) (self new : Held) (n : ℕ) → used ≤ length piece
    → self.rest ≡ start ++ take used piece → new ≡ record self { rest = self.rest ++ next }
    → read (up_form self.phase) self.rest ≡ Err (Short n) → length next ≤ n → EndsHere start (used + length next) new
still_missing start piece next used self new n le held e r few f w =
    let x : read (up_form self.phase) (self.rest ++ next) ≡ Err (Refused f) = subst (λ (h : Held). read (up_form h.phase) h.rest ≡ Err (Refused f)) e w in
    let y = exact_refused (fields_of self.phase) (up_form self.phase) 0 self.rest next n f (placed self.phase) r few x in
    omega (arith, y, le, ap (λ (l : List ℕ). length l) held, length-append self.rest next, length-append start (take used piece), length-take used piece)
