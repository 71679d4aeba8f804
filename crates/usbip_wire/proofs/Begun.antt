-- the first bytes of an answer
use Rattle.std.proofs.Common.{◌≡◌, ℕ, ◌+◌, ◌^◌, ◌<◌, ◌≤◌, Bool, true, eqb, ◌||◌, List, [], ◌∷◌, ◌++◌, length, drop, refl, sym, ap, subst, ◌∙◌, append_assoc, arith, inl, inr, lit<, eq-eqb}
use Rattle.std.specs.Prelude.{Contains, is_some}
use Rattle.std.specs.Int.{w32, to_be_bytes}
use Rattle.std.proofs.lemmas.Bool.{eqb-true, or_cases}
use Rattle.std.proofs.lemmas.List.{append-nil, length-drop}
use Rattle.tmc_base.specs.declared.field.Field.{Field}
use Rattle.usbip_wire.specs.declared.dirs.Outstanding.{Outstanding}
use Rattle.usbip_wire.specs.declared.dirs.Outstanding.TheVariants.{Submit, Unlink}
use Rattle.usbip_wire.specs.declared.down.Down.{Down}
use Rattle.usbip_wire.specs.declared.fields.TheConstants.{COMMAND}
use Rattle.usbip_wire.specs.declared.urb.Dir.TheVariants.{In}
use Rattle.usbip_wire.specs.declared.urb.TheConstants.{RET_SUBMIT, RET_UNLINK}
use Rattle.usbip_wire.specs.Dirs.{find, submit_of, is_unlink}
use Rattle.usbip_wire.specs.Down.{SpellsAnswer}
use Rattle.usbip_wire.specs.DownForm.{answer_form, ret_submit_form, ret_unlink_form}
use Rattle.usbip_wire.specs.Form.{Four, Spelled, BadAt}
use Rattle.usbip_wire.specs.Given.{IsBytes}
use Rattle.usbip_wire.specs.Laws.{CanGoOn, GoesOn}
use Rattle.usbip_wire.proofs.DownSpelled.{put}
use Rattle.usbip_wire.proofs.Fronts.{IsBytes-drop, cut, value_of, number_parts, number_below}
use Rattle.usbip_wire.proofs.Going.{either_is, some_message, padding, padded_value, padded_below, padded_back}
use Rattle.usbip_wire.proofs.Good.{Among, in_list, goes_on, goes_behind}
use Rattle.usbip_wire.proofs.Lasting.{answers_last, ret_submit_last, ret_unlink_last, answer_back}
use Rattle.usbip_wire.proofs.Places.{answers_placed}
use Rattle.usbip_wire.specs.JudgedFields.{field_size, answer_fields}
use Rattle.usbip_wire.specs.Stream.{NoneWhole}
use Rattle.usbip_wire.specs.Urb.{fields}

abbrev pub is_answer : ℕ → Bool
is_answer command = eqb command RET_SUBMIT || eqb command RET_UNLINK

-- some answer begins with this command and this number
abbrev pub Answered : List Outstanding → ℕ → ℕ → Type 0
Answered entries command seqnum = (what : Down) × (more : List ℕ) × Spelled (answer_form entries) what (put command (put seqnum more))

pub submit_answered : (entries : List Outstanding) (seqnum : ℕ) → seqnum < 2 ^ 32 → is_some (submit_of (find seqnum entries)) ≡ true → Answered entries RET_SUBMIT seqnum
submit_answered entries seqnum below there =
    let r = some_message (ret_submit_form seqnum (submit_of (find seqnum entries))) 0 (ret_submit_last seqnum (submit_of (find seqnum entries))) refl in
    (r.0, r.1, (RET_SUBMIT, put seqnum r.1, lit< tt, refl, refl, (seqnum, r.1, below, there, refl, r.2)))

pub unlink_answered : (entries : List Outstanding) (seqnum : ℕ) → seqnum < 2 ^ 32 → is_unlink (find seqnum entries) ≡ true → Answered entries RET_UNLINK seqnum
unlink_answered entries seqnum below there =
    let r = some_message (ret_unlink_form seqnum) 0 (ret_unlink_last seqnum) refl in
    (r.0, r.1, (RET_UNLINK, put seqnum r.1, lit< tt, refl, refl, (seqnum, r.1, below, there, refl, r.2)))

-- the answer to an outstanding message goes on from its command and its number
pub submit_goes_on : (entries : List Outstanding) (seqnum : ℕ) → seqnum < 2 ^ 32 → is_some (submit_of (find seqnum entries)) ≡ true → CanGoOn (SpellsAnswer entries) (fields (RET_SUBMIT ∷ seqnum ∷ []))
unfolding fields
submit_goes_on entries seqnum below there =
    let r = submit_answered entries seqnum below there in
    let b = answer_back entries r.0 (put RET_SUBMIT (put seqnum r.1)) r.2 in (b.0, r.1, b.1)

pub unlink_goes_on : (entries : List Outstanding) (seqnum : ℕ) → seqnum < 2 ^ 32 → is_unlink (find seqnum entries) ≡ true → CanGoOn (SpellsAnswer entries) (fields (RET_UNLINK ∷ seqnum ∷ []))
unfolding fields
unlink_goes_on entries seqnum below there =
    let r = unlink_answered entries seqnum below there in
    let b = answer_back entries r.0 (put RET_UNLINK (put seqnum r.1)) r.2 in (b.0, r.1, b.1)

-- with an entry of this number in front
submit_added : (entries : List Outstanding) (seqnum : ℕ) → seqnum < 2 ^ 32 → Answered (Submit seqnum In 0 ∷ entries) RET_SUBMIT seqnum
submit_added entries seqnum below = submit_answered (Submit seqnum In 0 ∷ entries) seqnum below (rw (eq-eqb seqnum seqnum refl) refl)

unlink_added : (entries : List Outstanding) (seqnum : ℕ) → seqnum < 2 ^ 32 → Answered (Unlink seqnum ∷ entries) RET_UNLINK seqnum
unlink_added entries seqnum below = unlink_answered (Unlink seqnum ∷ entries) seqnum below (rw (eq-eqb seqnum seqnum refl) refl)

-- one entry more makes an answer of a command
pub one_more : (entries : List Outstanding) (command seqnum : ℕ) → seqnum < 2 ^ 32 → is_answer command ≡ true → (entry : Outstanding) × Answered (entry ∷ entries) command seqnum
one_more entries command seqnum below is =
    elim (or_cases (eqb command RET_SUBMIT) (eqb command RET_UNLINK) is) [
      | inl x ↦ (Submit seqnum In 0, subst (λ (c : ℕ). Answered (Submit seqnum In 0 ∷ entries) c seqnum) (sym (eqb-true command RET_SUBMIT x)) (submit_added entries seqnum below))
      | inr x ↦ (Unlink seqnum, subst (λ (c : ℕ). Answered (Unlink seqnum ∷ entries) c seqnum) (sym (eqb-true command RET_UNLINK x)) (unlink_added entries seqnum below))
    ]

-- a command that is whole, and not bad
pub command_is : (entries : List Outstanding) (rest : List ℕ) → 4 ≤ length rest → IsBytes rest → (BadAt (answer_form entries) rest COMMAND → ⊥) → is_answer (value_of Four rest) ≡ true
command_is entries rest le fits good =
    elim (either_is (is_answer (value_of Four rest))) [
      | inl it ↦ it
      | inr other ↦ absurd (good (value_of Four rest, drop 4 rest, number_below Four rest fits, number_parts Four rest fits le, rw other refl))
    ]

number_begun : (entries : List Outstanding) (rest : List ℕ) → 4 ≤ length rest → length rest < 8 → IsBytes rest → (BadAt (answer_form entries) rest COMMAND → ⊥)
    → (entry : Outstanding) × GoesOn (SpellsAnswer (entry ∷ entries)) (COMMAND ∷ []) rest
number_begun entries rest le lt fits good =
    let command : ℕ = value_of Four rest in
    let after : List ℕ = drop 4 rest in
    let fits_after = IsBytes-drop 4 rest fits in
    let seqnum : ℕ = padded_value Four after in
    let pad : List ℕ = padding 4 after in
    let one = one_more entries command seqnum (padded_below Four after fits_after) (command_is entries rest le fits good) in
    let more : List ℕ = one.1.1 in
    let parts : rest ≡ put command after = number_parts Four rest fits le in
    let back : to_be_bytes w32 seqnum ≡ after ++ pad = padded_back Four after fits_after (omega (arith, lt, length-drop 4 rest)) in
    let same : put command (put seqnum more) ≡ rest ++ (pad ++ more) =
    ap (λ (l : List ℕ). put command (l ++ more)) back
    ∙ (ap (λ (l : List ℕ). put command l) (append_assoc after pad more)
    ∙ (sym (append_assoc (to_be_bytes w32 command) after (pad ++ more)) ∙ ap (λ (l : List ℕ). l ++ (pad ++ more)) (sym parts))) in
    let r = answer_back (one.0 ∷ entries) one.1.0 (put command (put seqnum more)) one.1.2 in (
      one.0,
      record {
        front = rest;
        part = [];
        holds = sym (append-nil rest);
        can = (r.0, pad ++ more, subst (λ (l : List ℕ). SpellsAnswer (one.0 ∷ entries) r.0 l) same r.1);
        within = inl refl;
      },
    )

-- before the number is whole, one entry more makes the bytes the beginning of an answer
pub begun : (entries : List Outstanding) (rest : List ℕ) → length rest < 8 → IsBytes rest → ((f : Field) → BadAt (answer_form entries) rest f → ⊥)
    → (entry : Outstanding) × GoesOn (SpellsAnswer (entry ∷ entries)) (COMMAND ∷ []) rest
begun entries rest lt fits good =
    elim (cut 4 rest) [
      | inl h ↦
          let one = unlink_added entries 0 (lit< tt) in
          let r = answer_back (Unlink 0 ∷ entries) one.0 (put RET_UNLINK (put 0 one.1)) one.2 in (
            Unlink 0,
            record {
              front = [];
              part = rest;
              holds = refl;
              can = (r.0, put RET_UNLINK (put 0 one.1), r.1);
              within = inr (COMMAND, (0, lit< tt, refl), refl, h.1);
            },
          )
      | inr h ↦ number_begun entries rest h.1 lt fits (good COMMAND)
    ]

-- a field of an answer that ends behind the number begins there
number_edge : (f : Field) → Contains (COMMAND ∷ answer_fields) f → 8 < f.offset + field_size f → 8 ≤ f.offset
number_edge f known = by_name (in_list (COMMAND ∷ answer_fields) f known)
  where
    by_name : Among (COMMAND ∷ answer_fields) f → 8 < f.offset + field_size f → 8 ≤ f.offset
    by_name (inl e) = subst (λ (z : Field). 8 < z.offset + field_size z → 8 ≤ z.offset) e (λ lt. omega (arith, lt))
    by_name (inr (inl e)) = subst (λ (z : Field). 8 < z.offset + field_size z → 8 ≤ z.offset) e (λ lt. omega (arith, lt))
    by_name (inr (inr (inl e))) = subst (λ (z : Field). 8 < z.offset + field_size z → 8 ≤ z.offset) e (λ lt. omega (arith, lt))
    by_name (inr (inr (inr (inl e)))) = subst (λ (z : Field). 8 < z.offset + field_size z → 8 ≤ z.offset) e (λ lt. omega (arith, lt))
    by_name (inr (inr (inr (inr h)))) = absurd h

-- behind the number an answer goes on
pub answers_go_on : (entries : List Outstanding) (rest : List ℕ) → 8 ≤ length rest → IsBytes rest → NoneWhole (SpellsAnswer entries) rest
    → ((f : Field) → BadAt (answer_form entries) rest f → ⊥) → GoesOn (SpellsAnswer entries) answer_fields rest
answers_go_on entries rest enough fits none good =
    goes_behind (SpellsAnswer entries) COMMAND answer_fields rest (omega (arith, enough))
    (goes_on (COMMAND ∷ answer_fields) (answer_form entries) (SpellsAnswer entries) 8 (answer_back entries) (answers_last entries) (answers_placed entries) number_edge rest enough fits none good)
