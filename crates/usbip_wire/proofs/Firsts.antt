-- the kinds of messages, and their first refused fields
use Rattle.std.proofs.Common.{◌≡◌, ℕ, zero, suc, ◌+◌, ◌^◌, ◌<◌, ◌≤◌, Bool, true, false, cond, eqb, Option, None, List, [], ◌∷◌, length, drop, refl, sym, subst, arith, inl, inr, ◌↔◌, lit<}
use Rattle.std.specs.Prelude.{is_some}
use Rattle.std.specs.Int.{w32, to_be_bytes}
use Rattle.std.specs.Bool.{MatchBool}
use Rattle.tmc_base.specs.declared.field.Field.{Field}
use Rattle.usbip_wire.specs.declared.dirs.Outstanding.{Outstanding}
use Rattle.usbip_wire.specs.declared.down.Down.{Down}
use Rattle.usbip_wire.specs.declared.down.Down.TheVariants as down
use Rattle.usbip_wire.specs.declared.down.RecordOf.TheVariants as part
use Rattle.usbip_wire.specs.declared.fields.TheConstants.{COMMAND, SEQNUM}
use Rattle.usbip_wire.specs.declared.op.TheConstants.{REQ_IMPORT, REP_DEVLIST}
use Rattle.usbip_wire.specs.declared.op_request.OpRequest.TheVariants.{DevList, Import}
use Rattle.usbip_wire.specs.declared.up.Up.TheVariants as up
use Rattle.usbip_wire.specs.declared.urb.Dir.{Dir}
use Rattle.usbip_wire.specs.declared.urb.TheConstants.{CMD_UNLINK, RET_SUBMIT}
use Rattle.usbip_wire.specs.DevList.{SpellsPart}
use Rattle.usbip_wire.specs.Dirs.{find, submit_of, is_unlink}
use Rattle.usbip_wire.specs.Down.{SpellsAnswer, SpellsAnyAnswer}
use Rattle.usbip_wire.specs.DownForm.{answer_form, ops_form, reply_form, record_form, ret_submit_form, ret_unlink_form}
use Rattle.usbip_wire.specs.Form.{Form, Number, Judged, Block, Done, Four, Spelled, BadAt}
use Rattle.usbip_wire.specs.Given.{IsBytes}
use Rattle.usbip_wire.specs.JudgedFields.{field_size, op_fields, part_fields, urb_fields, answer_fields}
use Rattle.usbip_wire.specs.Laws.{RefusedAt, IsFirstRefused}
use Rattle.usbip_wire.specs.OpRequest.{SpellsRequest}
use Rattle.usbip_wire.specs.Up as upward
use Rattle.usbip_wire.specs.UpForm.{request_form, urb_form, submit_form, unlink_form}
use Rattle.usbip_wire.proofs.Begun.{is_answer, one_more}
use Rattle.usbip_wire.proofs.Determined.{bad_place, clash}
use Rattle.usbip_wire.proofs.DownSpelled as down_spelled
use Rattle.usbip_wire.proofs.DownSpelled.{put, ops_sound}
use Rattle.usbip_wire.proofs.FirstRefused.{AtLeast, at_least, Kind, bad_is_first, goes_not_refused, whole_length}
use Rattle.usbip_wire.proofs.Fronts.{put_len, value_of, number_parts, number_below}
use Rattle.usbip_wire.proofs.Going.{either_is}
use Rattle.usbip_wire.proofs.Good.{Among, in_list, listed, first_dropped, Chain}
use Rattle.usbip_wire.proofs.Lasting.{requests_last, urbs_last, ops_last, answers_last, request_back, urb_back, answer_back}
use Rattle.usbip_wire.proofs.Places.{requests_placed, urbs_placed, ops_placed, answers_placed}
use Rattle.usbip_wire.proofs.UpSpelled as up_spelled

-- ---- the least lengths

both_least : {M : Type 0} (b : Bool) (f g : Form M) (least : ℕ) → AtLeast f least → AtLeast g least → AtLeast (cond b f g) least
both_least true f g least x y = x
both_least false f g least x y = y

requests_least : AtLeast request_form 4
requests_least = λ version code status. both_least (eqb code REQ_IMPORT) (Block 32 (λ busid. Done (up.Op (Import busid)))) (Done (up.Op DevList)) 0 (λ busid. refl) refl

submit_least : (seqnum devid : ℕ) → AtLeast (submit_form seqnum devid) 24
unfolding submit_form
submit_least seqnum devid = λ direction ep flags size start packets interval setup transferred. omega arith

unlink_least : (seqnum devid : ℕ) → AtLeast (unlink_form seqnum devid) 24
unfolding unlink_form
unlink_least seqnum devid = λ direction ep target padding. refl

urbs_least : (devid : ℕ) → AtLeast (urb_form devid) 36
urbs_least devid = λ command seqnum number. both_least (eqb command CMD_UNLINK) (unlink_form seqnum number) (submit_form seqnum number) 24 (unlink_least seqnum number) (submit_least seqnum number)

record_least : AtLeast (record_form part.Import) 0
unfolding record_form
record_least = λ path busid busnum devnum speed vendor product bcd last. refl

reply_least : AtLeast reply_form 4
reply_least = λ version code status.
    both_least (eqb code REP_DEVLIST) (Number Four (λ devices. Done (down.Count status devices))) (cond (eqb status 0) (record_form part.Import) (Done (down.Import status None))) 0
    (λ devices. refl) (both_least (eqb status 0) (record_form part.Import) (Done (down.Import status None)) 0 record_least refl)

ret_submit_least : (seqnum : ℕ) (asked : Option (Dir × ℕ)) → AtLeast (ret_submit_form seqnum asked) 28
unfolding ret_submit_form
ret_submit_least seqnum asked = λ devid direction ep status actual start packets errors high low transferred. omega arith

ret_unlink_least : (seqnum : ℕ) → AtLeast (ret_unlink_form seqnum) 28
unfolding ret_unlink_form
ret_unlink_least seqnum = λ devid direction ep status padding. refl

answers_least : (entries : List Outstanding) → AtLeast (answer_form entries) 36
answers_least entries = λ command. both_least (eqb command RET_SUBMIT)
    (Judged Four SEQNUM (λ seqnum. is_some (submit_of (find seqnum entries))) (λ seqnum. ret_submit_form seqnum (submit_of (find seqnum entries))))
    (Judged Four SEQNUM (λ seqnum. is_unlink (find seqnum entries)) (λ seqnum. ret_unlink_form seqnum)) 32
    (λ seqnum. ret_submit_least seqnum (submit_of (find seqnum entries))) (λ seqnum. ret_unlink_least seqnum)

-- ---- requests, submits and unlinks

op_chain : Chain 0 op_fields 4
op_chain = (omega arith, (omega arith, omega arith))

request_kind : Kind op_fields op_fields request_form SpellsRequest 0 4
request_kind =
    record {
      head = λ m. up.Op m;
      spelled = up_spelled.request_complete;
      back = request_back;
      lasts = requests_last;
      placed = requests_placed;
      chain = op_chain;
      long = λ n bytes s. at_least request_form 4 n bytes requests_least s;
      within = λ f known. known;
      late = λ f known. omega arith;
    }

pub request_first : (rest : List ℕ) (f : Field) → IsBytes rest → BadAt request_form rest f ↔ IsFirstRefused SpellsRequest op_fields rest f
request_first rest f fits = bad_is_first op_fields op_fields request_form SpellsRequest 0 4 request_kind rest f fits (λ g bad known. known)

urb_kind : (devid : ℕ) → devid < 2 ^ 32 → Kind urb_fields urb_fields (urb_form devid) (upward.Spells devid) 0 36
urb_kind devid below =
    record {
      head = up_spelled.head_of;
      spelled = up_spelled.urb_complete devid;
      back = urb_back devid;
      lasts = urbs_last devid below;
      placed = urbs_placed devid;
      chain = (omega arith, (omega arith, (omega arith, (omega arith, (omega arith, (omega arith, omega arith))))));
      long = λ n bytes s. at_least (urb_form devid) 36 n bytes (urbs_least devid) s;
      within = λ f known. known;
      late = λ f known. omega arith;
    }

pub urb_first : (devid : ℕ) (rest : List ℕ) (f : Field) → devid < 2 ^ 32 → IsBytes rest → BadAt (urb_form devid) rest f ↔ IsFirstRefused (upward.Spells devid) urb_fields rest f
urb_first devid rest f below fits = bad_is_first urb_fields urb_fields (urb_form devid) (upward.Spells devid) 0 36 (urb_kind devid below) rest f fits (λ g bad known. known)

-- ---- parts of an operation's answer

part_end : ℕ → ℕ → ℕ
part_end zero zero = 4
part_end devices interfaces = 0

part_chain : (devices interfaces : ℕ) → Chain 0 (part_fields devices interfaces) (part_end devices interfaces)
unfolding part_end
part_chain zero zero = op_chain
part_chain (suc devices) zero = omega arith
part_chain zero (suc interfaces) = omega arith
part_chain (suc devices) (suc interfaces) = omega arith

part_long : (devices interfaces : ℕ) (n : Down) (bytes : List ℕ) → Spelled (ops_form devices interfaces) n bytes → part_end devices interfaces ≤ length bytes
unfolding part_end
part_long zero zero n bytes s = at_least reply_form 4 n bytes reply_least s
part_long (suc devices) zero n bytes s = omega arith
part_long zero (suc interfaces) n bytes s = omega arith
part_long (suc devices) (suc interfaces) n bytes s = omega arith

part_kind : (devices interfaces : ℕ) → Kind (part_fields devices interfaces) (part_fields devices interfaces) (ops_form devices interfaces) (SpellsPart devices interfaces) 0 (part_end devices interfaces)
part_kind devices interfaces =
    record {
      head = λ m. m;
      spelled = down_spelled.ops_complete devices interfaces;
      back = λ what bytes s. (what, ops_sound devices interfaces what bytes s);
      lasts = ops_last devices interfaces;
      placed = ops_placed devices interfaces;
      chain = part_chain devices interfaces;
      long = part_long devices interfaces;
      within = λ f known. known;
      late = λ f known. omega arith;
    }

pub part_first : (devices interfaces : ℕ) (rest : List ℕ) (f : Field) → IsBytes rest
    → BadAt (ops_form devices interfaces) rest f ↔ IsFirstRefused (SpellsPart devices interfaces) (part_fields devices interfaces) rest f
part_first devices interfaces rest f fits =
    bad_is_first (part_fields devices interfaces) (part_fields devices interfaces) (ops_form devices interfaces) (SpellsPart devices interfaces) 0 (part_end devices interfaces)
    (part_kind devices interfaces) rest f fits (λ g bad known. known)

-- ---- answers

late_field : (f : Field) → Among answer_fields f → 8 ≤ f.offset + field_size f
late_field f (inl e) = subst (λ (z : Field). 8 ≤ z.offset + field_size z) e (omega arith)
late_field f (inr (inl e)) = subst (λ (z : Field). 8 ≤ z.offset + field_size z) e (omega arith)
late_field f (inr (inr (inl e))) = subst (λ (z : Field). 8 ≤ z.offset + field_size z) e (omega arith)
late_field f (inr (inr (inr h))) = absurd h

answer_kind : (entries : List Outstanding) → Kind (COMMAND ∷ answer_fields) answer_fields (answer_form entries) (SpellsAnswer entries) 8 36
answer_kind entries =
    record {
      head = down_spelled.head_of;
      spelled = down_spelled.answer_complete entries;
      back = answer_back entries;
      lasts = answers_last entries;
      placed = answers_placed entries;
      chain = (omega arith, (omega arith, (omega arith, (omega arith, omega arith))));
      long = λ n bytes s. at_least (answer_form entries) 36 n bytes (answers_least entries) s;
      within = λ f known. listed (COMMAND ∷ answer_fields) f (inr (in_list answer_fields f known));
      late = λ f known. late_field f (in_list answer_fields f known);
    }

pub answer_first : (entries : List Outstanding) (rest : List ℕ) (f : Field) → IsBytes rest → (BadAt (answer_form entries) rest COMMAND → ⊥)
    → BadAt (answer_form entries) rest f ↔ IsFirstRefused (SpellsAnswer entries) answer_fields rest f
answer_first entries rest f fits good =
    bad_is_first (COMMAND ∷ answer_fields) answer_fields (answer_form entries) (SpellsAnswer entries) 8 36 (answer_kind entries) rest f fits
    (λ g bad known. first_dropped COMMAND answer_fields g (in_list (COMMAND ∷ answer_fields) g known) (λ e. good (subst (λ (z : Field). BadAt (answer_form entries) rest z) (sym e) bad)))

-- ---- the command of an answer

-- what follows a command
abbrev behind : List Outstanding → ℕ → Form Down
behind entries command =
    cond (eqb command RET_SUBMIT)
    (Judged Four SEQNUM (λ seqnum. is_some (submit_of (find seqnum entries))) (λ seqnum. ret_submit_form seqnum (submit_of (find seqnum entries))))
    (Judged Four SEQNUM (λ seqnum. is_unlink (find seqnum entries)) (λ seqnum. ret_unlink_form seqnum))

command_refused : (entries : List Outstanding) (rest after : List ℕ) (command : ℕ) (b : Bool) → is_answer command ≡ b → command < 2 ^ 32 → rest ≡ put command after
    → MatchBool b (BadAt (behind entries command) after COMMAND) (COMMAND ≡ COMMAND) → RefusedAt SpellsAnyAnswer rest COMMAND
command_refused entries rest after command true is below parts bad =
    let q = bad_place (COMMAND ∷ answer_fields) (behind entries command) 4 after COMMAND ((answers_placed entries).3 command) bad in
    absurd (omega (arith, q.placed))
command_refused entries rest after command false is below parts bad =
    record {
      front = [];
      value = to_be_bytes w32 command;
      tail = after;
      holds = parts;
      placed = refl;
      whole = put_len Four command;
      refused = λ m bytes more s e.
          let again : BadAt (answer_form s.0) (put command more) COMMAND = (command, more, below, refl, rw is refl) in
          clash (answer_form s.0) (down_spelled.head_of m) bytes COMMAND (down_spelled.answer_complete s.0 m bytes s.1) (subst (λ (l : List ℕ). BadAt (answer_form s.0) l COMMAND) (sym e) again);
    }

command_bad : (entries : List Outstanding) (rest : List ℕ) → IsBytes rest → RefusedAt SpellsAnyAnswer rest COMMAND → BadAt (answer_form entries) rest COMMAND
command_bad entries rest fits r =
    let command : ℕ = value_of Four rest in
    let after : List ℕ = drop 4 rest in
    let parts = number_parts Four rest fits (whole_length SpellsAnyAnswer rest COMMAND r) in
    elim (either_is (is_answer command)) [
      | inl it ↦
          let one = one_more [] command 0 (lit< tt) it in
          let b = answer_back (one.0 ∷ []) one.1.0 (put command (put 0 one.1.1)) one.1.2 in
          absurd (goes_not_refused SpellsAnyAnswer rest (to_be_bytes w32 command) after (put 0 one.1.1) b.0 COMMAND parts (omega (arith, put_len Four command)) (one.0 ∷ [], b.1) r)
      | inr other ↦ (command, after, number_below Four rest fits, parts, rw other refl)
    ]

pub command_first : (entries : List Outstanding) (rest : List ℕ) → IsBytes rest → BadAt (answer_form entries) rest COMMAND ↔ RefusedAt SpellsAnyAnswer rest COMMAND
command_first entries rest fits =
    (λ bad. command_refused entries rest bad.1 bad.0 (is_answer bad.0) refl bad.2 bad.3 bad.4, command_bad entries rest fits)
