-- more entries make no answer whole in some bytes, and no field bad
use Rattle.std.proofs.Common.{⊎_elim, ◌≡◌, ℕ, ◌<◌, ◌^◌, Bool, true, false, cond, eqb, Option, Some, None, List, [], ◌∷◌, ◌++◌, refl, sym, ap, subst, ◌∙◌, inl, inr, arith}
use Rattle.std.specs.Prelude.{◌⊎◌, is_some}
use Rattle.std.specs.Bool.{MatchBool}
use Rattle.std.specs.Int.{w32, to_be_bytes}
use Rattle.tmc_base.specs.declared.field.Field.{Field}
use Rattle.usbip_wire.specs.declared.dirs.Outstanding.{Outstanding}
use Rattle.usbip_wire.specs.declared.down.Down.{Down}
use Rattle.usbip_wire.specs.declared.urb.Dir.{Dir}
use Rattle.usbip_wire.specs.Dirs.{number_of, find, submit_of, is_unlink}
use Rattle.usbip_wire.specs.Down.{Message, RetSubmit, RetUnlink, SpellsAnswer}
use Rattle.usbip_wire.specs.DownForm.{answer_form, ret_submit_form, ret_unlink_form}
use Rattle.usbip_wire.specs.Form.{Form, Judged, Four, BadAt}
use Rattle.usbip_wire.specs.Laws.{AreNeither}
use Rattle.usbip_wire.specs.RetSubmit.{ret_submit_bytes}
use Rattle.usbip_wire.specs.RetUnlink.{ret_unlink_bytes}
use Rattle.usbip_wire.specs.Stream.{NoneWhole}
use Rattle.usbip_wire.specs.Urb.{fields}

-- each number is in no entry, or finds the same one among more
Keeps : List Outstanding → List Outstanding → Type 0
Keeps entries more = (n : ℕ) → (find n entries ≡ None) ⊎ (find n more ≡ find n entries)

find_by : (x : Outstanding) (xs more : List Outstanding) (n : ℕ) (t : Bool) → eqb (number_of x) n ≡ t
    → (find n xs ≡ None) ⊎ (find n (xs ++ more) ≡ find n xs) → (find n (x ∷ xs) ≡ None) ⊎ (find n ((x ∷ xs) ++ more) ≡ find n (x ∷ xs))
find_by x xs more n true e h = inr (rw e refl)
find_by x xs more n false e h = rw e h

find_more : (xs more : List Outstanding) (n : ℕ) → (find n xs ≡ None) ⊎ (find n (xs ++ more) ≡ find n xs)
find_more [] more n = inl refl
find_more (x ∷ xs) more n = find_by x xs more n (eqb (number_of x) n) refl (find_more xs more n)

keeps_added : (entries more : List Outstanding) → Keeps entries (entries ++ more)
unfolding Keeps
keeps_added entries more = λ n. find_more entries more n

-- ---- a bad field is bad with fewer entries, or an earlier one is

of_submit : Field → List Outstanding → Form Down
of_submit field entries = Judged Four field (λ n. is_some (submit_of (find n entries))) (λ n. ret_submit_form n (submit_of (find n entries)))

of_unlink : Field → List Outstanding → Form Down
of_unlink field entries = Judged Four field (λ n. is_unlink (find n entries)) (λ n. ret_unlink_form n)

bad_submit : (field : Field) (entries more : List Outstanding) → Keeps entries more → (bytes : List ℕ) (f : Field) → BadAt (of_submit field more) bytes f
    → (g : Field) × BadAt (of_submit field entries) bytes g
unfolding of_submit Keeps
bad_submit field entries more keeps bytes f (n, rest, small, e, m) =
    ⊎_elim
    (λ none. (
      field,
      (n, rest, small, e, subst (λ o. MatchBool (is_some (submit_of o)) (BadAt (ret_submit_form n (submit_of o)) rest field) (field ≡ field)) (sym none) refl),
    ))
    (λ same. (f, (n, rest, small, e, subst (λ o. MatchBool (is_some (submit_of o)) (BadAt (ret_submit_form n (submit_of o)) rest f) (f ≡ field)) same m)))
    (keeps n)

bad_unlink : (field : Field) (entries more : List Outstanding) → Keeps entries more → (bytes : List ℕ) (f : Field) → BadAt (of_unlink field more) bytes f
    → (g : Field) × BadAt (of_unlink field entries) bytes g
unfolding of_unlink Keeps
bad_unlink field entries more keeps bytes f (n, rest, small, e, m) =
    ⊎_elim
    (λ none. (field, (n, rest, small, e, subst (λ o. MatchBool (is_unlink o) (BadAt (ret_unlink_form n) rest field) (field ≡ field)) (sym none) refl)))
    (λ same. (f, (n, rest, small, e, subst (λ o. MatchBool (is_unlink o) (BadAt (ret_unlink_form n) rest f) (f ≡ field)) same m)))
    (keeps n)

bad_either : (b : Bool) (field : Field) (entries more : List Outstanding) → Keeps entries more → (bytes : List ℕ) (f : Field)
    → BadAt (cond b (of_submit field more) (of_unlink field more)) bytes f → (g : Field) × BadAt (cond b (of_submit field entries) (of_unlink field entries)) bytes g
bad_either true field entries more keeps bytes f bad = bad_submit field entries more keeps bytes f bad
bad_either false field entries more keeps bytes f bad = bad_unlink field entries more keeps bytes f bad

bad_accepted : (t b : Bool) (command field : Field) (entries more : List Outstanding) → Keeps entries more → (bytes : List ℕ) (f : Field)
    → MatchBool t (BadAt (cond b (of_submit field more) (of_unlink field more)) bytes f) (f ≡ command)
    → (g : Field) × MatchBool t (BadAt (cond b (of_submit field entries) (of_unlink field entries)) bytes g) (g ≡ command)
bad_accepted true b command field entries more keeps bytes f bad = bad_either b field entries more keeps bytes f bad
bad_accepted false b command field entries more keeps bytes f bad = (command, refl)

bad_fewer : (entries more : List Outstanding) → Keeps entries more → (bytes : List ℕ) (f : Field) → BadAt (answer_form more) bytes f
    → (g : Field) × BadAt (answer_form entries) bytes g
unfolding of_submit of_unlink
bad_fewer entries more keeps bytes f (command, rest, small, e, m) =
    let r = bad_accepted _ _ _ _ entries more keeps rest f m in
    (r.0, (command, rest, small, e, r.1))

-- ---- a message that is whole with more entries is whole, or its number is bad

NoBad : List Outstanding → List ℕ → Type 0
NoBad entries bytes = (g : Field) → BadAt (answer_form entries) bytes g → ⊥

no_submit : (field : Field) (entries : List Outstanding) (n : ℕ) (rest : List ℕ) → n < 2 ^ 32 → find n entries ≡ None
    → BadAt (of_submit field entries) (to_be_bytes w32 n ++ rest) field
unfolding of_submit
no_submit field entries n rest small none =
    (n, rest, small, refl, subst (λ o. MatchBool (is_some (submit_of o)) (BadAt (ret_submit_form n (submit_of o)) rest field) (field ≡ field)) (sym none) refl)

no_unlink : (field : Field) (entries : List Outstanding) (n : ℕ) (rest : List ℕ) → n < 2 ^ 32 → find n entries ≡ None
    → BadAt (of_unlink field entries) (to_be_bytes w32 n ++ rest) field
unfolding of_unlink
no_unlink field entries n rest small none =
    (n, rest, small, refl, subst (λ o. MatchBool (is_unlink o) (BadAt (ret_unlink_form n) rest field) (field ≡ field)) (sym none) refl)

spelled_fewer : (entries more : List Outstanding) → Keeps entries more → (m : Message) (front tail : List ℕ) → NoBad entries (front ++ tail)
    → SpellsAnswer more m front → SpellsAnswer entries m front
unfolding Keeps NoBad ret_submit_bytes ret_unlink_bytes fields of_submit of_unlink
spelled_fewer entries more keeps (RetSubmit head transferred) front tail calm (asked, found, s) =
    ⊎_elim
    (λ none. absurd (calm _ (3, _, omega arith, ap (λ l. l ++ tail) s.layout, no_submit _ entries head.seqnum _ (s.wide 1) none)))
    (λ same. (asked, ap submit_of (sym same) ∙ found, s))
    (keeps head.seqnum)
spelled_fewer entries more keeps (RetUnlink head) front tail calm (found, s) =
    ⊎_elim
    (λ none. absurd (calm _ (4, _, omega arith, ap (λ l. l ++ tail) s.layout, no_unlink _ entries head.seqnum _ (s.wide 1) none)))
    (λ same. (ap is_unlink (sym same) ∙ found, s))
    (keeps head.seqnum)

none_more : (entries more : List Outstanding) → Keeps entries more → (rest : List ℕ) → NoneWhole (SpellsAnswer entries) rest → NoBad entries rest → NoneWhole (SpellsAnswer more) rest
unfolding NoBad
none_more entries more keeps rest none calm m front tail s =
    λ e. none m front tail (spelled_fewer entries more keeps m front tail (subst (λ bytes. NoBad entries bytes) e calm) s) e

pub added_neither : (entries more : List Outstanding) (rest : List ℕ) → AreNeither (SpellsAnswer entries) (BadAt (answer_form entries)) rest
    → AreNeither (SpellsAnswer (entries ++ more)) (BadAt (answer_form (entries ++ more))) rest
unfolding NoBad
added_neither entries more rest (none, calm) = (
  none_more entries (entries ++ more) (keeps_added entries more) rest none calm,
  λ f bad. let r = bad_fewer entries (entries ++ more) (keeps_added entries more) rest f bad in calm r.0 r.1,
)

-- ---- an answer stays one

none_asked : Option (Dir × ℕ)
none_asked = None

none_is_asked : (asked : Dir × ℕ) → none_asked ≡ Some asked → ⊥
unfolding none_asked
none_is_asked asked e = cc

false_is : false ≡ true → ⊥
false_is e = cc

submit_kept : (entries more : List Outstanding) (n : ℕ) (asked : Dir × ℕ) → submit_of (find n entries) ≡ Some asked → submit_of (find n (entries ++ more)) ≡ Some asked
unfolding none_asked
submit_kept entries more n asked found =
    ⊎_elim (λ none. absurd (none_is_asked asked (sym (ap submit_of none) ∙ found))) (λ same. ap submit_of same ∙ found) (find_more entries more n)

unlink_kept : (entries more : List Outstanding) (n : ℕ) → is_unlink (find n entries) ≡ true → is_unlink (find n (entries ++ more)) ≡ true
unlink_kept entries more n found =
    ⊎_elim (λ none. absurd (false_is (sym (ap is_unlink none) ∙ found))) (λ same. ap is_unlink same ∙ found) (find_more entries more n)

pub added_spells : (entries more : List Outstanding) (m : Message) (bytes : List ℕ) → SpellsAnswer entries m bytes → SpellsAnswer (entries ++ more) m bytes
added_spells entries more (RetSubmit head transferred) bytes (asked, found, s) = (asked, submit_kept entries more head.seqnum (asked.dir, asked.size) found, s)
added_spells entries more (RetUnlink head) bytes (found, s) = (unlink_kept entries more head.seqnum found, s)
