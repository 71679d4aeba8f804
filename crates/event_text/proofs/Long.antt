-- no message is empty, and no field is bad in nothing
use Rattle.std.proofs.Common.{◌≡◌, ℕ, ◌<◌, Bool, true, false, cond, eqb, Some, None, List, [], ◌∷◌, ◌++◌, length, refl, ap, length-append, arith}
use Rattle.std.specs.Int.{to_be_bytes}
use Rattle.tmc_base.specs.declared.field.Field.{Field}
use Rattle.usbip_wire.specs.declared.dirs.Outstanding.{Outstanding}
use Rattle.usbip_wire.specs.declared.down.Down.{Down}
use Rattle.usbip_wire.specs.declared.down.Down.TheVariants as down
use Rattle.usbip_wire.specs.declared.op_request.OpRequest.{OpRequest}
use Rattle.usbip_wire.specs.declared.op_request.OpRequest.TheVariants.{DevList, Import}
use Rattle.usbip_wire.specs.Device.{record_bytes}
use Rattle.usbip_wire.specs.DevList.{SpellsPart}
use Rattle.usbip_wire.specs.Down as downward
use Rattle.usbip_wire.specs.DownForm.{answer_form, ops_form, record_form}
use Rattle.usbip_wire.specs.Form.{Form, Number, Judged, Block, Done, Size, Two, Four, width, BadAt}
use Rattle.usbip_wire.specs.Op.{op_header}
use Rattle.usbip_wire.specs.OpRequest.{request_bytes}
use Rattle.usbip_wire.specs.RetSubmit.{ret_submit_bytes}
use Rattle.usbip_wire.specs.RetUnlink.{ret_unlink_bytes}
use Rattle.usbip_wire.specs.Submit.{submit_bytes}
use Rattle.usbip_wire.specs.Unlink.{unlink_bytes}
use Rattle.usbip_wire.specs.Up as upward
use Rattle.usbip_wire.specs.UpForm.{request_form, urb_form}
use Rattle.usbip_wire.specs.Urb.{fields}
use Rattle.event_text.specs.Message as message
use Rattle.event_text.specs.Message.{Stream, Message, Requests, Urbs, Parts, Answers, Request, FromClient, Part, Answer, Spells, NoneWhole, devid}

front_long : (xs ys : List ℕ) → length xs ≡ 256 → 0 < length (xs ++ ys)
front_long xs ys long = omega (arith, length-append xs ys, long)

request_long : (request : OpRequest) (status : ℕ) → 0 < length (request_bytes request status)
unfolding op_header
request_long DevList status = lit
  where
    lit : 0 < length (request_bytes DevList status)
    lit = omega arith
request_long (Import busid) status = lit
  where
    lit : 0 < length (request_bytes (Import busid) status)
    lit = omega arith

urb_long : (m : upward.Message) (front : List ℕ) → upward.Spells devid m front → 0 < length front
unfolding submit_bytes unlink_bytes fields
urb_long (upward.Submit head transferred) front s = rw s.layout (omega arith)
urb_long (upward.Unlink head) front s = rw s.layout (omega arith)

part_long : (devices interfaces : ℕ) (what : Down) (front : List ℕ) → SpellsPart devices interfaces what front → 0 < length front
unfolding op_header record_bytes
part_long devices interfaces (down.Count status number) front s = rw s.4 (omega arith)
part_long devices interfaces (down.Device device) front s = rw s.3 (front_long device.path _ s.2.path)
part_long devices interfaces (down.Interface class subclass protocol) front s = rw s.2 (omega arith)
part_long devices interfaces (down.Import status None) front s = rw s.2.layout (omega arith)
part_long devices interfaces (down.Import status (Some device)) front s = rw s.2.layout (omega arith)
part_long devices interfaces (down.RetSubmit head) front s = absurd s
part_long devices interfaces (down.RetUnlink head) front s = absurd s
part_long devices interfaces down.More front s = absurd s
part_long devices interfaces (down.Bad f) front s = absurd s

answer_long : (entries : List Outstanding) (m : downward.Message) (front : List ℕ) → downward.SpellsAnswer entries m front → 0 < length front
unfolding ret_submit_bytes ret_unlink_bytes fields
answer_long entries (downward.RetSubmit head transferred) front s = rw s.2.layout (omega arith)
answer_long entries (downward.RetUnlink head) front s = rw s.1.layout (omega arith)

pub spelled_long : (reading : Stream) (entries : List Outstanding) (m : Message) (front : List ℕ) → Spells reading entries m front → 0 < length front
spelled_long Requests entries (Request request) front s = omega (arith, ap length s.layout, request_long request s.status)
spelled_long Requests entries (FromClient m) front s = absurd s
spelled_long Requests entries (Part what) front s = absurd s
spelled_long Requests entries (Answer m) front s = absurd s
spelled_long Urbs entries (Request request) front s = absurd s
spelled_long Urbs entries (FromClient m) front s = urb_long m front s
spelled_long Urbs entries (Part what) front s = absurd s
spelled_long Urbs entries (Answer m) front s = absurd s
spelled_long (Parts devices interfaces) entries (Request request) front s = absurd s
spelled_long (Parts devices interfaces) entries (FromClient m) front s = absurd s
spelled_long (Parts devices interfaces) entries (Part what) front s = part_long devices interfaces what front s
spelled_long (Parts devices interfaces) entries (Answer m) front s = absurd s
spelled_long Answers entries (Request request) front s = absurd s
spelled_long Answers entries (FromClient m) front s = absurd s
spelled_long Answers entries (Part what) front s = absurd s
spelled_long Answers entries (Answer m) front s = answer_long entries m front s

no_front : (front tail : List ℕ) → [] ≡ front ++ tail → length front ≡ 0
no_front [] tail e = refl
no_front (x ∷ front) tail e = absurd (clash e)
  where
    clash : [] ≡ x ∷ (front ++ tail) → ⊥
    clash e = cc

-- no front of nothing is a message
pub no_message : (reading : Stream) (entries : List Outstanding) → NoneWhole reading entries []
no_message reading entries = λ m front tail s e. omega (arith, no_front front tail e, spelled_long reading entries m front s)

-- ---- no field is bad in nothing

put_long : (size : Size) (value : ℕ) (rest : List ℕ) → [] ≡ to_be_bytes (width size) value ++ rest → ⊥
put_long Two value rest e = omega (arith, ap length e)
put_long Four value rest e = omega (arith, ap length e)

-- whether a form begins with a field or some bytes
abbrev pub Begins : {M : Type 0} → Form M → Type 0
Begins (Number size next) = Unit {0}
Begins (Judged size field accepts next) = Unit {0}
Begins (Block count next) = 0 < count
Begins (Done m) = ⊥

calm_form : {M : Type 0} (form : Form M) (f : Field) → Begins form → BadAt form [] f → ⊥
calm_form {M} (Number size next) f begins (value, rest, small, e, bad) = put_long size value rest e
calm_form {M} (Judged size field accepts next) f begins (value, rest, small, e, bad) = put_long size value rest e
calm_form {M} (Block count next) f begins (front, rest, long, e, bad) = omega (arith, begins, long, no_front front rest e)
calm_form {M} (Done m) f begins bad = absurd bad

begins_if : {M : Type 0} (b : Bool) (x y : Form M) → Begins x → Begins y → Begins (cond b x y)
begins_if {M} true x y p q = p
begins_if {M} false x y p q = q

ops_begins : (devices interfaces : ℕ) → Begins (ops_form devices interfaces)
unfolding record_form
ops_begins devices interfaces =
    begins_if (eqb interfaces 0) _ _ (begins_if (eqb devices 0) _ _ tt (omega arith)) (omega arith)

pub no_bad : (reading : Stream) (entries : List Outstanding) (f : Field) → message.BadAt reading entries [] f → ⊥
no_bad Requests entries f bad = calm_form request_form f tt bad
no_bad Urbs entries f bad = calm_form (urb_form devid) f tt bad
no_bad (Parts devices interfaces) entries f bad = calm_form (ops_form devices interfaces) f (ops_begins devices interfaces) bad
no_bad Answers entries f bad = calm_form (answer_form entries) f tt bad
