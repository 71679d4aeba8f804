-- what reading says of a client's messages
use Rattle.std.proofs.Common.{◌≡◌, ℕ, ◌-◌, ◌≤◌, lit≤, arith, cond, eqb, true, false, Bool, List, [], ◌++◌, Ok, Err, sym, subst, ◌∙◌}
use Rattle.std.proofs.lemmas.Bool.{leb-true}
use Rattle.std.proofs.lemmas.List.{append-nil}
use Rattle.tmc_base.specs.declared.field.Field.{Field}
use Rattle.usbip_wire.specs.declared.stop.Stop.{Stop}
use Rattle.usbip_wire.specs.declared.stop.Stop.TheVariants.{Short}
use Rattle.usbip_wire.specs.declared.up.Up.{Up}
use Rattle.usbip_wire.specs.declared.up.Up.TheVariants as up
use Rattle.usbip_wire.specs.declared.up.UpPhase.{UpPhase}
use Rattle.usbip_wire.specs.declared.up.UpPhase.TheVariants.{Ops, Urbs}
use Rattle.tmc_base.specs.declared.limits.TheConstants.{SUBMIT_MAX}
use Rattle.usbip_wire.specs.declared.op.TheConstants.{REQ_IMPORT}
use Rattle.usbip_wire.specs.declared.op_request.OpRequest.TheVariants.{DevList, Import}
use Rattle.usbip_wire.specs.declared.urb.Dir.{Dir}
use Rattle.usbip_wire.specs.declared.urb.Dir.TheVariants.{Out, In}
use Rattle.usbip_wire.specs.declared.urb.TheConstants.{CMD_UNLINK}
use Rattle.usbip_wire.specs.Form.{Form, Block, Done, Spelled, read}
use Rattle.usbip_wire.specs.UpForm.{up_form, request_form, urb_form, submit_form, unlink_form}
use Rattle.usbip_wire.specs.UpFed.{Means, NoneWhole, BadAt}
use Rattle.usbip_wire.specs.Given.{IsBytes}
use Rattle.usbip_wire.specs.Urb.{dir_of, carried, message_max}
use Rattle.usbip_wire.proofs.Forms.{sound, complete, bad_refused, more_whole, Within}
use Rattle.usbip_wire.proofs.UpSpelled.{urb_sound, urb_complete, request_sound, request_complete, head_of}

up_sound : (phase : UpPhase) (what : Up) (bytes : List ℕ) → Spelled (up_form phase) what bytes → Means phase what bytes
up_sound Ops what bytes s = request_sound what bytes s
up_sound (Urbs devid) what bytes s = urb_sound devid what bytes s

-- bytes that are read to their end are this message
pub whole_means : (phase : UpPhase) (what : Up) (bytes : List ℕ) → IsBytes bytes → read (up_form phase) bytes ≡ Ok (what, []) → Means phase what bytes
whole_means phase what bytes fits e =
    let s = sound (up_form phase) bytes what [] fits e in
    up_sound phase what bytes (subst (λ (t : List ℕ). Spelled (up_form phase) what t) (sym (s.1 ∙ append-nil s.0)) s.2)

pub none_by : {M : Type 0} (form : Form M) (m : M) (front rest tail : List ℕ) (stop : Stop) → Spelled form m front → rest ≡ front ++ tail
    → read form rest ≡ Err stop → ⊥
none_by {M} form m front rest tail stop s e r =
    let x : read form rest ≡ Ok (m, tail) = subst (λ (t : List ℕ). read form t ≡ Ok (m, tail)) (sym e) (complete form m front tail s) in
    cc

-- where bytes are missing or a field is refused, no message is whole
pub stopped_none : (phase : UpPhase) (rest : List ℕ) (stop : Stop) → read (up_form phase) rest ≡ Err stop → NoneWhole phase rest
stopped_none Ops rest stop r = λ m front tail s e. none_by request_form (up.Op m) front rest tail stop (request_complete m front s) e r
stopped_none (Urbs devid) rest stop r = λ m front tail s e. none_by (urb_form devid) (head_of m) front rest tail stop (urb_complete devid m front s) e r

pub short_good : (phase : UpPhase) (rest : List ℕ) (n : ℕ) → read (up_form phase) rest ≡ Err (Short n) → (f : Field) → BadAt phase rest f → ⊥
short_good phase rest n r f b = let x = bad_refused (up_form phase) rest f b in cc

pub whole_good : (phase : UpPhase) (rest more : List ℕ) (what : Up) → read (up_form phase) rest ≡ Ok (what, []) → (f : Field) → BadAt phase (rest ++ more) f → ⊥
whole_good phase rest more what r f b =
    let x = bad_refused (up_form phase) (rest ++ more) f b in let y = more_whole (up_form phase) rest more what [] r in cc

carried_most : (dir : Dir) (size : ℕ) → size ≤ SUBMIT_MAX → carried dir size ≤ SUBMIT_MAX
carried_most Out size le = le
carried_most In size le = omega arith

submit_within : (seqnum devid : ℕ) → Within (submit_form seqnum devid) (message_max - 12)
unfolding submit_form
submit_within seqnum devid =
    (lit≤ tt, λ direction _. (lit≤ tt, λ ep _. (lit≤ tt, λ flags. (lit≤ tt, λ size small. (lit≤ tt, λ start. (lit≤ tt, λ packets _. (lit≤ tt, λ interval. (lit≤ tt, λ setup. (carried_most (dir_of direction) size (leb-true size SUBMIT_MAX small), λ transferred. tt)))))))))

unlink_within : (seqnum devid : ℕ) → Within (unlink_form seqnum devid) (message_max - 12)
unfolding unlink_form
unlink_within seqnum devid = (lit≤ tt, λ direction. (lit≤ tt, λ ep. (lit≤ tt, λ target. (lit≤ tt, λ padding. tt))))

pub both_within : {M : Type 0} (b : Bool) (f g : Form M) (most : ℕ) → Within f most → Within g most → Within (cond b f g) most
both_within true f g most x y = x
both_within false f g most x y = y

pub up_within : (phase : UpPhase) → Within (up_form phase) message_max
up_within Ops = (lit≤ tt, λ version _. (lit≤ tt, λ code _. (lit≤ tt, λ status. both_within (eqb code REQ_IMPORT) (Block 32 (λ busid. Done (up.Op (Import busid)))) (Done (up.Op DevList)) (message_max - 8) (lit≤ tt, λ busid. tt) tt)))
up_within (Urbs devid) = (lit≤ tt, λ command _. (lit≤ tt, λ seqnum. (lit≤ tt, λ number _. both_within (eqb command CMD_UNLINK) (unlink_form seqnum number) (submit_form seqnum number) (message_max - 12) (unlink_within seqnum number) (submit_within seqnum number))))
