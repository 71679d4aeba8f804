-- a bad field is alone
use Rattle.std.proofs.Common.{◌≡◌, ℕ, List, ◌++◌, Ok, Err, sym, ap, ◌∙◌}
use Rattle.usbip_wire.specs.declared.dirs.Outstanding.{Outstanding}
use Rattle.usbip_wire.specs.declared.stop.Stop.TheVariants.{Refused}
use Rattle.usbip_wire.specs.declared.up.Up.TheVariants as up
use Rattle.usbip_wire.specs.DevList.{SpellsPart}
use Rattle.usbip_wire.specs.Down.{SpellsAnswer}
use Rattle.usbip_wire.specs.DownForm.{answer_form, ops_form}
use Rattle.usbip_wire.specs.Form.{Form, Spelled, BadAt, read}
use Rattle.usbip_wire.specs.Laws.{AreAlone}
use Rattle.usbip_wire.specs.OpRequest.{SpellsRequest}
use Rattle.usbip_wire.specs.Up as upward
use Rattle.usbip_wire.specs.UpForm.{request_form, urb_form}
use Rattle.usbip_wire.proofs.DownSpelled as down_spelled
use Rattle.usbip_wire.proofs.Forms.{complete, bad_refused}
use Rattle.usbip_wire.proofs.UpSpelled as up_spelled

alone : {M N : Type 0} (form : Form N) (S : M → List ℕ → Type 0) (view : M → N) → ((m : M) (bytes : List ℕ) → S m bytes → Spelled form (view m) bytes) → AreAlone S (BadAt form)
alone {M} {N} form S view spelled rest f bad = (
  λ m front tail s e.
      let whole : read form (front ++ tail) ≡ Ok (view m, tail) = complete form (view m) front tail (spelled m front s) in
      let refused : read form rest ≡ Err (Refused f) = bad_refused form rest f bad in
      let clash : Ok (view m, tail) ≡ Err (Refused f) = sym whole ∙ (ap (λ (l : List ℕ). read form l) (sym e) ∙ refused) in
      absurd (cc clash),
  λ g other.
      let same : Err (Refused f) ≡ Err (Refused g) = sym (bad_refused form rest f bad) ∙ bad_refused form rest g other in
      cc,
)

pub request_alone : AreAlone SpellsRequest (BadAt request_form)
request_alone = alone request_form SpellsRequest (λ m. up.Op m) up_spelled.request_complete

pub urb_alone : (devid : ℕ) → AreAlone (upward.Spells devid) (BadAt (urb_form devid))
urb_alone devid = alone (urb_form devid) (upward.Spells devid) up_spelled.head_of (up_spelled.urb_complete devid)

pub part_alone : (devices interfaces : ℕ) → AreAlone (SpellsPart devices interfaces) (BadAt (ops_form devices interfaces))
part_alone devices interfaces = alone (ops_form devices interfaces) (SpellsPart devices interfaces) (λ m. m) (down_spelled.ops_complete devices interfaces)

pub answer_alone : (entries : List Outstanding) → AreAlone (SpellsAnswer entries) (BadAt (answer_form entries))
answer_alone entries = alone (answer_form entries) (SpellsAnswer entries) down_spelled.head_of (down_spelled.answer_complete entries)
