-- the judged fields stand at their places
use Rattle.std.proofs.Common.{ℕ, zero, suc, Bool, true, false, cond, eqb, List, [], ◌∷◌, refl, lit<}
use Rattle.std.specs.Prelude.{Option, None, is_some}
use Rattle.tmc_base.specs.declared.field.Field.{Field}
use Rattle.usbip_wire.specs.declared.dirs.Outstanding.{Outstanding}
use Rattle.usbip_wire.specs.declared.down.Down.TheVariants as down
use Rattle.usbip_wire.specs.declared.down.RecordOf.{RecordOf}
use Rattle.usbip_wire.specs.declared.down.RecordOf.TheVariants as part
use Rattle.usbip_wire.specs.declared.fields.TheConstants.{COMMAND, SEQNUM}
use Rattle.usbip_wire.specs.declared.op.TheConstants.{REQ_IMPORT, REP_DEVLIST}
use Rattle.usbip_wire.specs.declared.op_request.OpRequest.TheVariants.{DevList, Import}
use Rattle.usbip_wire.specs.declared.up.Up.TheVariants as up
use Rattle.usbip_wire.specs.declared.urb.Dir.{Dir}
use Rattle.usbip_wire.specs.declared.urb.TheConstants.{CMD_UNLINK, RET_SUBMIT}
use Rattle.usbip_wire.specs.DevList.{SpellsPart}
use Rattle.usbip_wire.specs.Dirs.{find, submit_of, is_unlink}
use Rattle.usbip_wire.specs.Down.{SpellsAnswer}
use Rattle.usbip_wire.specs.DownForm.{answer_form, ops_form, reply_form, record_form, ret_submit_form, ret_unlink_form}
use Rattle.usbip_wire.specs.Form.{Form, Number, Judged, Block, Done, Four, BadAt}
use Rattle.usbip_wire.specs.JudgedFields.{op_fields, part_fields, urb_fields, answer_fields}
use Rattle.usbip_wire.specs.Laws.{RefusedAt}
use Rattle.usbip_wire.specs.OpRequest.{SpellsRequest}
use Rattle.usbip_wire.specs.Up as upward
use Rattle.usbip_wire.specs.UpForm.{request_form, urb_form, submit_form, unlink_form}
use Rattle.usbip_wire.proofs.Determined.{Placed, refused_at}
use Rattle.usbip_wire.proofs.DownSpelled.{nonzero}
use Rattle.usbip_wire.proofs.DownSpelled as down_spelled
use Rattle.usbip_wire.proofs.UpSpelled as up_spelled

both_placed : {M : Type 0} (fields : List Field) (b : Bool) (f g : Form M) (at : ℕ) → Placed fields f at → Placed fields g at → Placed fields (cond b f g) at
both_placed fields true f g at x y = x
both_placed fields false f g at x y = y

pub requests_placed : Placed op_fields request_form 0
requests_placed =
    ((0, lit< tt, refl), refl, refl, λ version. ((1, lit< tt, refl), refl, refl, λ code status. both_placed op_fields (eqb code REQ_IMPORT) (Block 32 (λ busid. Done (up.Op (Import busid)))) (Done (up.Op DevList)) 8 (λ busid. tt) tt))

submit_placed : (seqnum devid : ℕ) → Placed urb_fields (submit_form seqnum devid) 12
unfolding submit_form
submit_placed seqnum devid =
    ((2, lit< tt, refl), refl, refl, λ direction. ((3, lit< tt, refl), refl, refl, λ ep flags. ((4, lit< tt, refl), refl, refl, λ size start. ((5, lit< tt, refl), refl, refl, λ packets interval setup transferred. tt))))

unlink_placed : (seqnum devid : ℕ) → Placed urb_fields (unlink_form seqnum devid) 12
unfolding unlink_form
unlink_placed seqnum devid = λ direction ep target padding. tt

pub urbs_placed : (devid : ℕ) → Placed urb_fields (urb_form devid) 0
urbs_placed devid = (
  (0, lit< tt, refl),
  refl,
  refl,
  λ command seqnum. ((1, lit< tt, refl), refl, refl, λ number. both_placed urb_fields (eqb command CMD_UNLINK) (unlink_form seqnum number) (submit_form seqnum number) 12 (unlink_placed seqnum number) (submit_placed seqnum number)),
)

record_placed : (fields : List Field) (of : RecordOf) (at : ℕ) → Placed fields (record_form of) at
unfolding record_form
record_placed fields of at = λ path busid busnum devnum speed vendor product bcd last. tt

reply_placed : Placed op_fields reply_form 0
reply_placed = (
  (0, lit< tt, refl),
  refl,
  refl,
  λ version. (
    (1, lit< tt, refl),
    refl,
    refl,
    λ code status.
        both_placed op_fields (eqb code REP_DEVLIST) (Number Four (λ devices. Done (down.Count status devices))) (cond (eqb status 0) (record_form part.Import) (Done (down.Import status None))) 8
        (λ devices. tt) (both_placed op_fields (eqb status 0) (record_form part.Import) (Done (down.Import status None)) 8 (record_placed op_fields part.Import 8) tt),
  ),
)

pub ops_placed : (devices interfaces : ℕ) → Placed (part_fields devices interfaces) (ops_form devices interfaces) 0
ops_placed zero zero = reply_placed
ops_placed (suc devices) zero = rw (nonzero devices) (record_placed [] part.List 0)
ops_placed devices (suc interfaces) = rw (nonzero interfaces) (λ last. tt)

ret_submit_placed : (seqnum : ℕ) (asked : Option (Dir × ℕ)) → Placed (COMMAND ∷ answer_fields) (ret_submit_form seqnum asked) 8
unfolding ret_submit_form
ret_submit_placed seqnum asked = λ devid direction ep status. ((2, lit< tt, refl), refl, refl, λ actual start. ((3, lit< tt, refl), refl, refl, λ packets errors high low transferred. tt))

ret_unlink_placed : (seqnum : ℕ) → Placed (COMMAND ∷ answer_fields) (ret_unlink_form seqnum) 8
unfolding ret_unlink_form
ret_unlink_placed seqnum = λ devid direction ep status padding. tt

pub answers_placed : (entries : List Outstanding) → Placed (COMMAND ∷ answer_fields) (answer_form entries) 0
answers_placed entries = (
  (0, lit< tt, refl),
  refl,
  refl,
  λ command. both_placed (COMMAND ∷ answer_fields) (eqb command RET_SUBMIT)
      (Judged Four SEQNUM (λ seqnum. is_some (submit_of (find seqnum entries))) (λ seqnum. ret_submit_form seqnum (submit_of (find seqnum entries))))
      (Judged Four SEQNUM (λ seqnum. is_unlink (find seqnum entries)) (λ seqnum. ret_unlink_form seqnum)) 4
      ((1, lit< tt, refl), refl, refl, λ seqnum. ret_submit_placed seqnum (submit_of (find seqnum entries))) ((1, lit< tt, refl), refl, refl, λ seqnum. ret_unlink_placed seqnum),
)

pub bad_request : (rest : List ℕ) (f : Field) → BadAt request_form rest f → RefusedAt SpellsRequest rest f
bad_request = refused_at op_fields request_form SpellsRequest (λ m. up.Op m) up_spelled.request_complete requests_placed

pub bad_urb : (devid : ℕ) (rest : List ℕ) (f : Field) → BadAt (urb_form devid) rest f → RefusedAt (upward.Spells devid) rest f
bad_urb devid = refused_at urb_fields (urb_form devid) (upward.Spells devid) up_spelled.head_of (up_spelled.urb_complete devid) (urbs_placed devid)

pub bad_part : (devices interfaces : ℕ) (rest : List ℕ) (f : Field) → BadAt (ops_form devices interfaces) rest f → RefusedAt (SpellsPart devices interfaces) rest f
bad_part devices interfaces = refused_at (part_fields devices interfaces) (ops_form devices interfaces) (SpellsPart devices interfaces) (λ m. m) (down_spelled.ops_complete devices interfaces) (ops_placed devices interfaces)

pub bad_answer : (entries : List Outstanding) (rest : List ℕ) (f : Field) → BadAt (answer_form entries) rest f → RefusedAt (SpellsAnswer entries) rest f
bad_answer entries = refused_at (COMMAND ∷ answer_fields) (answer_form entries) (SpellsAnswer entries) down_spelled.head_of (down_spelled.answer_complete entries) (answers_placed entries)
