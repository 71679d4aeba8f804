-- a field is bad from its last byte on
use Rattle.std.proofs.Common.{◌≡◌, ℕ, ◌+◌, ◌≤◌, List, ◌∷◌, ◌++◌, length, drop, sym, subst, ◌∙◌, append_assoc, arith}
use Rattle.std.proofs.lemmas.List.{length-append}
use Rattle.tmc_base.specs.declared.field.Field.{Field}
use Rattle.usbip_wire.specs.declared.dirs.Outstanding.{Outstanding}
use Rattle.usbip_wire.specs.declared.fields.TheConstants.{COMMAND}
use Rattle.usbip_wire.specs.DownForm.{answer_form, ops_form}
use Rattle.usbip_wire.specs.Form.{Form, BadAt}
use Rattle.usbip_wire.specs.JudgedFields.{op_fields, part_fields, urb_fields, answer_fields, field_size}
use Rattle.usbip_wire.specs.Laws.{AreBadFromTheirLast}
use Rattle.usbip_wire.specs.UpForm.{request_form, urb_form}
use Rattle.usbip_wire.proofs.Determined.{Placed, bad_place}
use Rattle.usbip_wire.proofs.Edges.{bad_within}
use Rattle.usbip_wire.proofs.FirstRefused.{longer}
use Rattle.usbip_wire.proofs.Forms.{more_bad}
use Rattle.usbip_wire.proofs.Places.{requests_placed, urbs_placed, ops_placed, answers_placed}

bad_already : {M : Type 0} (fields : List Field) (form : Form M) → Placed fields form 0 → (rest more : List ℕ) (f : Field) → BadAt form (rest ++ more) f
    → f.offset + field_size f ≤ length rest → BadAt form rest f
bad_already {M} fields form p rest more f bad whole =
    let q = bad_place fields form 0 (rest ++ more) f p bad in
    let held : List ℕ = q.front ++ q.value in
    let split : rest ≡ held ++ drop (length held) rest =
    longer rest held more q.tail (q.holds ∙ sym (append_assoc q.front q.value q.tail)) (omega (arith, q.placed, q.whole, whole, length-append q.front q.value)) in
    subst (λ (l : List ℕ). BadAt form l f) (sym (split ∙ append_assoc q.front q.value (drop (length held) rest))) (q.stays (drop (length held) rest))

from_last : {M : Type 0} (fields : List Field) (form : Form M) → Placed fields form 0 → AreBadFromTheirLast (BadAt form)
from_last {M} fields form p rest more f = (
  λ bad. (more_bad form rest more f bad, let within = bad_within fields form rest f p bad in omega (arith, within)),
  λ (bad, none). bad_already fields form p rest more f bad (omega (arith, none)),
)

pub requests_from_last : AreBadFromTheirLast (BadAt request_form)
requests_from_last = from_last op_fields request_form requests_placed

pub urbs_from_last : (devid : ℕ) → AreBadFromTheirLast (BadAt (urb_form devid))
urbs_from_last devid = from_last urb_fields (urb_form devid) (urbs_placed devid)

pub parts_from_last : (devices interfaces : ℕ) → AreBadFromTheirLast (BadAt (ops_form devices interfaces))
parts_from_last devices interfaces = from_last (part_fields devices interfaces) (ops_form devices interfaces) (ops_placed devices interfaces)

pub answers_from_last : (entries : List Outstanding) → AreBadFromTheirLast (BadAt (answer_form entries))
answers_from_last entries = from_last (COMMAND ∷ answer_fields) (answer_form entries) (answers_placed entries)
