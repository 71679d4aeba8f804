-- answers by what is outstanding
use Rattle.std.proofs.Common.{◌≡◌, ℕ, zero, suc, ◌<◌, Bool, true, false, eqb, Option, Some, None, List, [], ◌∷◌, ◌++◌, length, drop, Result, Ok, Err, refl, sym, ap, subst, ◌∙◌, append_assoc, arith, eq-eqb}
use Rattle.std.proofs.lemmas.Bool.{cond_both}
use Rattle.std.proofs.lemmas.List.{drop_at, length-append}
use Rattle.usbip_wire.specs.declared.dirs.Outstanding.{Outstanding}
use Rattle.usbip_wire.specs.declared.down.Down.{Down}
use Rattle.usbip_wire.specs.declared.down.DownPhase.TheVariants.{Urbs}
use Rattle.usbip_wire.specs.declared.ret_unlink.RetUnlinkHead.{RetUnlinkHead}
use Rattle.usbip_wire.specs.declared.stop.Stop.{Stop}
use Rattle.usbip_wire.specs.Awaited.{Awaited, Submit, Unlink, entry_of, entries_of, number_of, without, before, from, without_target, left_by, left, SpellsAnswers, ReadsAnswers, entries_left, NameNone}
use Rattle.usbip_wire.specs.Dirs as dirs
use Rattle.usbip_wire.specs.Dirs.{find, others}
use Rattle.usbip_wire.specs.Down.{Message, RetSubmit, RetUnlink, SpellsAnswer}
use Rattle.usbip_wire.specs.DownForm.{answer_form}
use Rattle.usbip_wire.specs.Form.{read}
use Rattle.usbip_wire.specs.Given.{IsBytes}
use Rattle.usbip_wire.specs.Stream.{NoneWhole}
use Rattle.usbip_wire.proofs.DownRead.{stopped_none}
use Rattle.usbip_wire.proofs.DownStream.{answer_long}
use Rattle.usbip_wire.proofs.Forms.{sound}
use Rattle.usbip_wire.proofs.Free.{answers_free}
use Rattle.usbip_wire.proofs.Fronts.{IsBytes-drop}
use Rattle.usbip_wire.proofs.Lasting.{answer_back}

-- the first answer of some bytes and what follows it
regroup : (a front behind x : List ℕ) → a ≡ front ++ behind → a ++ x ≡ front ++ (behind ++ x)
regroup a front behind x e = ap (λ (l : List ℕ). l ++ x) e ∙ append_assoc front behind x

alone : (a x : List ℕ) → a ≡ [] → a ++ x ≡ x
alone a x e = ap (λ (l : List ℕ). l ++ x) e

same_answers : (awaited : List Awaited) (ms ns : List Message) (a b x y : List ℕ) → SpellsAnswers awaited ms a → NoneWhole (SpellsAnswer (entries_of (left awaited ms))) x
    → SpellsAnswers awaited ns b → NoneWhole (SpellsAnswer (entries_of (left awaited ns))) y → a ++ x ≡ b ++ y → (ms ≡ ns) × (x ≡ y)
same_answers awaited [] [] a b x y p u q v e = (refl, sym (alone a x p) ∙ (e ∙ alone b y q))
same_answers awaited [] (n ∷ ns) a b x y p u (front, behind, f, t, q) v e =
    absurd (u n front (behind ++ y) t (sym (alone a x p) ∙ (e ∙ regroup b front behind y f)))
same_answers awaited (m ∷ ms) [] a b x y (front, behind, f, s, p) u q v e =
    absurd (v m front (behind ++ x) s (sym (alone b y q) ∙ (sym e ∙ regroup a front behind x f)))
same_answers awaited (m ∷ ms) (n ∷ ns) a b x y (front, behind, f, s, p) u (front2, behind2, g, t, q) v e =
    let same = answers_free (entries_of awaited) m n front front2 (behind ++ x) (behind2 ++ y) s t (sym (regroup a front behind x f) ∙ (e ∙ regroup b front2 behind2 y g)) in
    let q2 : SpellsAnswers (left_by awaited m) ns behind2 = subst (λ (z : Message). SpellsAnswers (left_by awaited z) ns behind2) (sym same.0) q in
    let v2 : NoneWhole (SpellsAnswer (entries_of (left (left_by awaited m) ns))) y = subst (λ (z : Message). NoneWhole (SpellsAnswer (entries_of (left (left_by awaited z) ns))) y) (sym same.0) v in
    let r = same_answers (left_by awaited m) ms ns behind behind2 x y p u q2 v2 same.2 in
    (ap (λ (z : Message). z ∷ ms) same.0 ∙ ap (λ (l : List Message). n ∷ l) r.0, r.1)

pub answers_one : (awaited : List Awaited) (bytes : List ℕ) (ms ns : List Message) (rest other : List ℕ)
    → ReadsAnswers awaited bytes ms rest → ReadsAnswers awaited bytes ns other → (ms ≡ ns) × (rest ≡ other)
answers_one awaited bytes ms ns rest other p q =
    same_answers awaited ms ns p.front q.front rest other p.spelled p.none_whole q.spelled q.none_whole (sym p.holds ∙ q.holds)

-- ---- answers that were written are read again

again : (awaited : List Awaited) (ms ns : List Message) (a b x y : List ℕ) → SpellsAnswers awaited ms a → SpellsAnswers awaited ns b
    → NoneWhole (SpellsAnswer (entries_of (left awaited ns))) y → a ++ x ≡ b ++ y
    → (others : List Message) × (ns ≡ ms ++ others) × ReadsAnswers (left awaited ms) x others y
again awaited [] ns a b x y p q v e = (ns, refl, record { front = b; holds = sym (alone a x p) ∙ e; spelled = q; none_whole = v })
again awaited (m ∷ ms) [] a b x y (front, behind, f, s, p) q v e =
    absurd (v m front (behind ++ x) s (sym (alone b y q) ∙ (sym e ∙ regroup a front behind x f)))
again awaited (m ∷ ms) (n ∷ ns) a b x y (front, behind, f, s, p) (front2, behind2, g, t, q) v e =
    let same = answers_free (entries_of awaited) m n front front2 (behind ++ x) (behind2 ++ y) s t (sym (regroup a front behind x f) ∙ (e ∙ regroup b front2 behind2 y g)) in
    let q2 : SpellsAnswers (left_by awaited m) ns behind2 = subst (λ (z : Message). SpellsAnswers (left_by awaited z) ns behind2) (sym same.0) q in
    let v2 : NoneWhole (SpellsAnswer (entries_of (left (left_by awaited m) ns))) y = subst (λ (z : Message). NoneWhole (SpellsAnswer (entries_of (left (left_by awaited z) ns))) y) (sym same.0) v in
    let r = again (left_by awaited m) ms ns behind behind2 x y p q2 v2 same.2 in
    (r.0, ap (λ (z : Message). z ∷ ns) (sym same.0) ∙ ap (λ (l : List Message). m ∷ l) r.1, r.2)

pub answers_again : (awaited : List Awaited) (ms : List Message) (front tail : List ℕ) (ns : List Message) (rest : List ℕ) → SpellsAnswers awaited ms front
    → ReadsAnswers awaited (front ++ tail) ns rest → (others : List Message) × (ns ≡ ms ++ others) × ReadsAnswers (left awaited ms) tail others rest
answers_again awaited ms front tail ns rest s p = again awaited ms ns front p.front tail rest s p.spelled p.none_whole p.holds

-- of two rows of which one's bytes begin with the other's, so do the answers
pub answers_begin : (awaited : List Awaited) (ms ns : List Message) (a b : List ℕ) → SpellsAnswers awaited ms a → SpellsAnswers awaited ns (a ++ b)
    → ((more : List Message) × (ns ≡ ms ++ more) × SpellsAnswers (left awaited ms) more b)
answers_begin awaited [] ns a b p q = (ns, refl, subst (λ (l : List ℕ). SpellsAnswers awaited ns l) (alone a b p) q)
answers_begin awaited (m ∷ ms) [] a b (front, behind, f, s, p) q =
    let none : length (front ++ (behind ++ b)) ≡ 0 = ap (λ (l : List ℕ). length l) (sym (regroup a front behind b f) ∙ q) in
    absurd (omega (arith, answer_long (entries_of awaited) m front s, none, length-append front (behind ++ b)))
answers_begin awaited (m ∷ ms) (n ∷ ns) a b (front, behind, f, s, p) (front2, behind2, g, t, q) =
    let same = answers_free (entries_of awaited) m n front front2 (behind ++ b) behind2 s t (sym (regroup a front behind b f) ∙ g) in
    let q2 : SpellsAnswers (left_by awaited m) ns (behind ++ b) =
    subst (λ (z : Message). SpellsAnswers (left_by awaited z) ns (behind ++ b)) (sym same.0) (subst (λ (l : List ℕ). SpellsAnswers (left_by awaited n) ns l) (sym same.2) q) in
    let r = answers_begin (left_by awaited m) ms ns behind b p q2 in
    (r.0, ap (λ (z : Message). z ∷ ns) (sym same.0) ∙ ap (λ (l : List Message). m ∷ l) r.1, r.2)

-- ---- answers before a reading

spelled_join : (awaited : List Awaited) (ms ns : List Message) (a b : List ℕ) → SpellsAnswers awaited ms a → SpellsAnswers (left awaited ms) ns b → SpellsAnswers awaited (ms ++ ns) (a ++ b)
spelled_join awaited [] ns a b p q = subst (λ (l : List ℕ). SpellsAnswers awaited ns l) (sym (alone a b p)) q
spelled_join awaited (m ∷ ms) ns a b (front, behind, f, s, p) q =
    (front, behind ++ b, regroup a front behind b f, s, spelled_join (left_by awaited m) ms ns behind b p q)

left_join : (awaited : List Awaited) (ms ns : List Message) → left awaited (ms ++ ns) ≡ left (left awaited ms) ns
left_join awaited [] ns = refl
left_join awaited (m ∷ ms) ns = left_join (left_by awaited m) ms ns

pub answers_join : (awaited : List Awaited) (ms : List Message) (front tail : List ℕ) (ns : List Message) (rest : List ℕ) → SpellsAnswers awaited ms front
    → ReadsAnswers (left awaited ms) tail ns rest → ReadsAnswers awaited (front ++ tail) (ms ++ ns) rest
answers_join awaited ms front tail ns rest s p = record {
  front = front ++ p.front;
  holds = ap (λ (l : List ℕ). front ++ l) p.holds ∙ sym (append_assoc front p.front rest);
  spelled = spelled_join awaited ms ns front p.front s p.spelled;
  none_whole = subst (λ (z : List Awaited). NoneWhole (SpellsAnswer (entries_of z)) rest) (sym (left_join awaited ms ns)) p.none_whole;
}

-- ---- each list of bytes has a reading

abbrev Reading : List Awaited → List ℕ → Type 0
Reading awaited bytes = (messages : List Message) × (rest : List ℕ) × ReadsAnswers awaited bytes messages rest

behind_bytes : (front rest bytes : List ℕ) → bytes ≡ front ++ rest → IsBytes bytes → IsBytes rest
behind_bytes front rest bytes e fits =
    subst IsBytes (ap (λ (l : List ℕ). drop (length front) l) e ∙ drop_at front rest (length front) refl) (IsBytes-drop (length front) bytes fits)

onto : (bytes front behind more rest : List ℕ) → bytes ≡ front ++ behind → behind ≡ more ++ rest → bytes ≡ (front ++ more) ++ rest
onto bytes front behind more rest e f = e ∙ (ap (λ (l : List ℕ). front ++ l) f ∙ sym (append_assoc front more rest))

one : (awaited : List Awaited) (bytes : List ℕ) → IsBytes bytes → ((next : List Awaited) (after : List ℕ) → length after < length bytes → IsBytes after → Reading next after)
    → (r : Result (Down × List ℕ) Stop) → read (answer_form (entries_of awaited)) bytes ≡ r → Reading awaited bytes
one awaited bytes fits go (Err stop) e =
    ([], bytes, record { front = []; holds = refl; spelled = refl; none_whole = stopped_none Urbs (entries_of awaited) bytes stop e })
one awaited bytes fits go (Ok (what, rest)) e =
    let s = sound (answer_form (entries_of awaited)) bytes what rest fits e in
    let b = answer_back (entries_of awaited) what s.0 s.2 in
    let next : Reading (left_by awaited b.0) rest =
    go (left_by awaited b.0) rest (omega (arith, ap length s.1, length-append s.0 rest, answer_long (entries_of awaited) b.0 s.0 b.1)) (behind_bytes s.0 rest bytes s.1 fits) in (
      b.0 ∷ next.0,
      next.1,
      record {
        front = s.0 ++ next.2.front;
        holds = onto bytes s.0 rest next.2.front next.1 s.1 next.2.holds;
        spelled = (s.0, next.2.front, refl, b.1, next.2.spelled);
        none_whole = next.2.none_whole;
      },
    )

readings : (n : ℕ) (awaited : List Awaited) (bytes : List ℕ) → length bytes < n → IsBytes bytes → Reading awaited bytes
readings zero awaited bytes lt fits = absurd (omega (arith, lt))
readings (suc n) awaited bytes lt fits =
    one awaited bytes fits (λ next after shorter bytes_after. readings n next after (omega (arith, lt, shorter)) bytes_after) (read (answer_form (entries_of awaited)) bytes) refl

pub answers_read : (awaited : List Awaited) (bytes : List ℕ) → IsBytes bytes → (messages : List Message) × (rest : List ℕ) × ReadsAnswers awaited bytes messages rest
answers_read awaited bytes fits = readings (suc (length bytes)) awaited bytes (omega arith) fits

-- ---- what an answer leaves

entry_number : (x : Awaited) → dirs.number_of (entry_of x) ≡ number_of x
entry_number (Submit seqnum dir size) = refl
entry_number (Unlink seqnum target) = refl

pub entries_added : (xs ys : List Awaited) → entries_of (xs ++ ys) ≡ entries_of xs ++ entries_of ys
entries_added [] ys = refl
entries_added (x ∷ xs) ys = ap (λ (l : List Outstanding). entry_of x ∷ l) (entries_added xs ys)

without_by : (n : ℕ) (x : Awaited) (xs : List Awaited) (b : Bool) → eqb (number_of x) n ≡ b → entries_of (without n xs) ≡ others n (entries_of xs)
    → entries_of (without n (x ∷ xs)) ≡ others n (entries_of (x ∷ xs))
without_by n x xs true e h = let f = entry_number x in let g : eqb (dirs.number_of (entry_of x)) n ≡ true = rw f e in rw (e, g) h
without_by n x xs false e h = let f = entry_number x in let g : eqb (dirs.number_of (entry_of x)) n ≡ false = rw f e in rw (e, g) (ap (λ (l : List Outstanding). entry_of x ∷ l) h)

pub entries_without : (n : ℕ) (xs : List Awaited) → entries_of (without n xs) ≡ others n (entries_of xs)
entries_without n [] = refl
entries_without n (x ∷ xs) = without_by n x xs (eqb (number_of x) n) refl (entries_without n xs)

-- of no target nothing more is taken out
none_named : (n : ℕ) (xs : List Awaited) → NameNone xs → (ys : List Awaited) → without_target (from n xs) ys ≡ ys
none_named n [] names ys = refl
none_named n (Submit seqnum dir size ∷ xs) names ys =
    cond_both (eqb seqnum n) (Submit seqnum dir size ∷ xs) (from n xs) (λ (l : List Awaited). without_target l ys ≡ ys) (λ _. refl) (λ _. none_named n xs names ys)
none_named n (Unlink seqnum target ∷ xs) names ys =
    cond_both (eqb seqnum n) (Unlink seqnum target ∷ xs) (from n xs) (λ (l : List Awaited). without_target l ys ≡ ys)
    (λ _. subst (λ (t : Option ℕ). without_target (Unlink seqnum t ∷ xs) ys ≡ ys) (sym names.0) refl) (λ _. none_named n xs names.1 ys)

parts_by : (n : ℕ) (x : Awaited) (xs : List Awaited) (b : Bool) → eqb (number_of x) n ≡ b → before n xs ++ without n (from n xs) ≡ without n xs
    → before n (x ∷ xs) ++ without n (from n (x ∷ xs)) ≡ without n (x ∷ xs)
parts_by n x xs true e h = rw (e, e) refl
parts_by n x xs false e h = rw e (ap (λ (l : List Awaited). x ∷ l) h)

-- what was sent before a number, and the others of what was sent from it on, are the others
parts : (n : ℕ) (xs : List Awaited) → before n xs ++ without n (from n xs) ≡ without n xs
parts n [] = refl
parts n (x ∷ xs) = parts_by n x xs (eqb (number_of x) n) refl (parts n xs)

pub left_unnamed : (awaited : List Awaited) (m : Message) → NameNone awaited → entries_of (left_by awaited m) ≡ entries_left (entries_of awaited) m
left_unnamed awaited (RetSubmit head transferred) names = entries_without head.seqnum awaited
left_unnamed awaited (RetUnlink head) names =
    ap (λ (l : List Awaited). entries_of (l ++ without head.seqnum (from head.seqnum awaited))) (none_named head.seqnum awaited names (before head.seqnum awaited))
    ∙ (ap entries_of (parts head.seqnum awaited) ∙ entries_without head.seqnum awaited)

-- where the unlink of a number stands
unlink_by : (n target : ℕ) (x : Awaited) (old later : List Awaited) (b : Bool) → eqb (number_of x) n ≡ b → find n (entries_of (x ∷ old)) ≡ None
    → (find n (entries_of old) ≡ None → (before n (old ++ Unlink n (Some target) ∷ later) ≡ old) × (from n (old ++ Unlink n (Some target) ∷ later) ≡ Unlink n (Some target) ∷ later))
    → (before n ((x ∷ old) ++ Unlink n (Some target) ∷ later) ≡ x ∷ old) × (from n ((x ∷ old) ++ Unlink n (Some target) ∷ later) ≡ Unlink n (Some target) ∷ later)
unlink_by n target x old later true e none h =
    let f = entry_number x in let g : eqb (dirs.number_of (entry_of x)) n ≡ true = rw f e in let y = rw g at none in absurd (cc y)
unlink_by n target x old later false e none h =
    let f = entry_number x in let g : eqb (dirs.number_of (entry_of x)) n ≡ false = rw f e in
    let r = h (rw g at none) in (rw e (ap (λ (l : List Awaited). x ∷ l) r.0), rw e r.1)

unlink_at : (n target : ℕ) (old later : List Awaited) → find n (entries_of old) ≡ None
    → (before n (old ++ Unlink n (Some target) ∷ later) ≡ old) × (from n (old ++ Unlink n (Some target) ∷ later) ≡ Unlink n (Some target) ∷ later)
unlink_at n target [] later none = (rw (eq-eqb n n refl) refl, rw (eq-eqb n n refl) refl)
unlink_at n target (x ∷ old) later none = unlink_by n target x old later (eqb (number_of x) n) refl none (λ h. unlink_at n target old later h)

-- the answer to an unlink takes out what it named, of what was sent before it
pub left_unlinked : (head : RetUnlinkHead) (target : ℕ) (old later : List Awaited) → find head.seqnum (entries_of old) ≡ None
    → left_by (old ++ Unlink head.seqnum (Some target) ∷ later) (RetUnlink head) ≡ without target old ++ without head.seqnum later
left_unlinked head target old later none =
    let r = unlink_at head.seqnum target old later none in
    rw (r.0, r.1, eq-eqb head.seqnum head.seqnum refl) refl
