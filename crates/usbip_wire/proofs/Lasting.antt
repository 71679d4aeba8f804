-- each form can be completed
use Rattle.std.proofs.Common.{ℕ, zero, suc, ◌^◌, ◌<◌, Bool, true, false, cond, eqb, Option, None, List, drop, refl, arith, lit<, eq-eqb}
use Rattle.std.specs.Prelude.{is_some}
use Rattle.std.proofs.lemmas.Bool.{le-leb}
use Rattle.usbip_wire.specs.declared.dirs.Outstanding.{Outstanding}
use Rattle.usbip_wire.specs.declared.down.Down.{Down}
use Rattle.usbip_wire.specs.declared.down.Down.TheVariants as down
use Rattle.usbip_wire.specs.declared.down.DownPhase.TheVariants as down_phase
use Rattle.usbip_wire.specs.declared.down.RecordOf.{RecordOf}
use Rattle.usbip_wire.specs.declared.down.RecordOf.TheVariants as part
use Rattle.usbip_wire.specs.declared.fields.TheConstants.{SEQNUM}
use Rattle.usbip_wire.specs.declared.op.TheConstants.{USBIP_VERSION, REQ_DEVLIST, REQ_IMPORT, REP_DEVLIST}
use Rattle.usbip_wire.specs.declared.op_request.OpRequest.{OpRequest}
use Rattle.usbip_wire.specs.declared.op_request.OpRequest.TheVariants.{DevList, Import}
use Rattle.usbip_wire.specs.declared.up.Up.{Up}
use Rattle.usbip_wire.specs.declared.up.Up.TheVariants as up
use Rattle.usbip_wire.specs.declared.up.UpPhase.TheVariants as up_phase
use Rattle.usbip_wire.specs.declared.urb.Dir.{Dir}
use Rattle.usbip_wire.specs.declared.urb.TheConstants.{CMD_SUBMIT, CMD_UNLINK, RET_SUBMIT}
use Rattle.usbip_wire.specs.Dirs.{find, submit_of, is_unlink}
use Rattle.usbip_wire.specs.Down as downward
use Rattle.usbip_wire.specs.Down.{SpellsAnswer}
use Rattle.usbip_wire.specs.DownFed as down_fed
use Rattle.usbip_wire.specs.DownForm.{answer_form, ops_form, reply_form, record_form, ret_submit_form, ret_unlink_form, size_asked}
use Rattle.usbip_wire.specs.Form.{Form, Number, Judged, Block, Done, Four, Spelled}
use Rattle.usbip_wire.specs.OpRequest.{SpellsRequest}
use Rattle.usbip_wire.specs.Up as upward
use Rattle.usbip_wire.specs.UpFed as up_fed
use Rattle.usbip_wire.specs.UpForm.{request_form, urb_form, submit_form, unlink_form}
use Rattle.usbip_wire.proofs.DownSpelled.{nonzero, answer_sound}
use Rattle.usbip_wire.proofs.Going.{Completable}
use Rattle.usbip_wire.proofs.UpSpelled.{request_sound, urb_sound}

both_last : {M : Type 0} (b : Bool) (f g : Form M) (have : ℕ) → Completable f have → Completable g have → Completable (cond b f g) have
both_last true f g have x y = x
both_last false f g have x y = y

pub requests_last : Completable request_form 0
requests_last = (
  λ _. (USBIP_VERSION, lit< tt, refl),
  λ version _ _. (
    λ _. (REQ_DEVLIST, lit< tt, refl),
    λ code _ _ status _.
        both_last (eqb code REQ_IMPORT) (Block 32 (λ busid. Done (up.Op (Import busid)))) (Done (up.Op DevList)) 0 (λ busid _. tt) tt,
  ),
)

submit_last : (seqnum devid : ℕ) → Completable (submit_form seqnum devid) 0
unfolding submit_form
submit_last seqnum devid = (
  λ _. (0, lit< tt, refl),
  λ direction _ _. (
    λ _. (0, lit< tt, refl),
    λ ep _ _ flags _. (
      λ _. (0, lit< tt, refl),
      λ size _ _ start _. (λ _. (0, lit< tt, refl), λ packets _ _ interval _ setup _ transferred _. tt),
    ),
  ),
)

unlink_last : (seqnum devid : ℕ) → Completable (unlink_form seqnum devid) 0
unfolding unlink_form
unlink_last seqnum devid = λ direction _ ep _ target _ padding _. tt

pub urbs_last : (devid : ℕ) → devid < 2 ^ 32 → Completable (urb_form devid) 0
urbs_last devid lt = (
  λ _. (CMD_SUBMIT, lit< tt, refl),
  λ command _ _ seqnum _. (
    λ _. (devid, lt, eq-eqb devid devid refl),
    λ number _ _. both_last (eqb command CMD_UNLINK) (unlink_form seqnum number) (submit_form seqnum number) 0 (unlink_last seqnum number) (submit_last seqnum number),
  ),
)

record_last : (of : RecordOf) → Completable (record_form of) 0
unfolding record_form
record_last of = λ path _ busid _ busnum _ devnum _ speed _ vendor _ product _ bcd _ last _. tt

reply_last : Completable reply_form 0
reply_last = (
  λ _. (USBIP_VERSION, lit< tt, refl),
  λ version _ _. (
    λ _. (REP_DEVLIST, lit< tt, refl),
    λ code _ _ status _.
        both_last (eqb code REP_DEVLIST) (Number Four (λ devices. Done (down.Count status devices))) (cond (eqb status 0) (record_form part.Import) (Done (down.Import status None))) 0
        (λ devices _. tt) (both_last (eqb status 0) (record_form part.Import) (Done (down.Import status None)) 0 (record_last part.Import) tt),
  ),
)

pub ops_last : (devices interfaces : ℕ) → Completable (ops_form devices interfaces) 0
ops_last zero zero = reply_last
ops_last (suc devices) zero = rw (nonzero devices) (record_last part.List)
ops_last devices (suc interfaces) = rw (nonzero interfaces) (λ last _. tt)

pub ret_submit_last : (seqnum : ℕ) (asked : Option (Dir × ℕ)) → Completable (ret_submit_form seqnum asked) 0
unfolding ret_submit_form
ret_submit_last seqnum asked = λ devid _ direction _ ep _ status _. (
  λ _. (0, lit< tt, le-leb 0 (size_asked asked) (omega arith)),
  λ actual _ _ start _. (λ _. (0, lit< tt, refl), λ packets _ _ errors _ high _ low _ transferred _. tt),
)

pub ret_unlink_last : (seqnum : ℕ) → Completable (ret_unlink_form seqnum) 0
unfolding ret_unlink_form
ret_unlink_last seqnum = λ devid _ direction _ ep _ status _ padding _. tt

-- an answer from its number on, since a number without an entry has none
pub answers_last : (entries : List Outstanding) → Completable (answer_form entries) 8
answers_last entries = (
  λ none. absurd (omega (arith, none)),
  λ command _ _. both_last (eqb command RET_SUBMIT)
      (Judged Four SEQNUM (λ seqnum. is_some (submit_of (find seqnum entries))) (λ seqnum. ret_submit_form seqnum (submit_of (find seqnum entries))))
      (Judged Four SEQNUM (λ seqnum. is_unlink (find seqnum entries)) (λ seqnum. ret_unlink_form seqnum)) 4
      (λ none. absurd (omega (arith, none)), λ seqnum _ _. ret_submit_last seqnum (submit_of (find seqnum entries)))
      (λ none. absurd (omega (arith, none)), λ seqnum _ _. ret_unlink_last seqnum),
)

-- ---- back to the spellings

request_of : (what : Up) (bytes : List ℕ) → up_fed.Means up_phase.Ops what bytes → (m : OpRequest) × SpellsRequest m bytes
request_of (up.Op request) bytes s = (request, s)
request_of (up.Submit head) bytes s = absurd s
request_of (up.Unlink head) bytes s = absurd s
request_of up.More bytes s = absurd s
request_of (up.Bad f) bytes s = absurd s

pub request_back : (what : Up) (bytes : List ℕ) → Spelled request_form what bytes → (m : OpRequest) × SpellsRequest m bytes
request_back what bytes s = request_of what bytes (request_sound what bytes s)

urb_of : (devid : ℕ) (what : Up) (bytes : List ℕ) → up_fed.Means (up_phase.Urbs devid) what bytes → (m : upward.Message) × upward.Spells devid m bytes
urb_of devid (up.Op request) bytes s = absurd s
urb_of devid (up.Submit head) bytes s = (upward.Submit head (drop 48 bytes), s)
urb_of devid (up.Unlink head) bytes s = (upward.Unlink head, s)
urb_of devid up.More bytes s = absurd s
urb_of devid (up.Bad f) bytes s = absurd s

pub urb_back : (devid : ℕ) (what : Up) (bytes : List ℕ) → Spelled (urb_form devid) what bytes → (m : upward.Message) × upward.Spells devid m bytes
urb_back devid what bytes s = urb_of devid what bytes (urb_sound devid what bytes s)

answer_of : (entries : List Outstanding) (what : Down) (bytes : List ℕ) → down_fed.Means down_phase.Urbs entries what bytes → (m : downward.Message) × SpellsAnswer entries m bytes
answer_of entries (down.Count status number) bytes s = absurd s
answer_of entries (down.Device device) bytes s = absurd s
answer_of entries (down.Interface class subclass protocol) bytes s = absurd s
answer_of entries (down.Import status device) bytes s = absurd s
answer_of entries (down.RetSubmit head) bytes s = (downward.RetSubmit head (drop 48 bytes), s)
answer_of entries (down.RetUnlink head) bytes s = (downward.RetUnlink head, s)
answer_of entries down.More bytes s = absurd s
answer_of entries (down.Bad f) bytes s = absurd s

pub answer_back : (entries : List Outstanding) (what : Down) (bytes : List ℕ) → Spelled (answer_form entries) what bytes → (m : downward.Message) × SpellsAnswer entries m bytes
answer_back entries what bytes s = answer_of entries what bytes (answer_sound entries what bytes s)
