-- the message that waits is taken in
use Rattle.std.proofs.Common.{◌≡◌, ◌≢◌, ◌∙◌, ℕ, ◌<◌, Bool, true, false, List, [], ◌++◌, length, drop, Option, Some, None, if◌then◌else◌, refl, sym, ap, subst, length-append, arith}
use Rattle.tmc_base.specs.declared.field.Field.{Field}
use Rattle.usbip_wire.specs.declared.submit.SubmitHead.{SubmitHead}
use Rattle.usbip_wire.specs.declared.unlink.UnlinkHead.{UnlinkHead}
use Rattle.usbip_wire.specs.declared.urb.TheConstants.{URB_HEADER}
use Rattle.usbip_wire.specs.declared.op_request.OpRequest.{OpRequest}
use Rattle.usbip_wire.specs.declared.op_request.OpRequest.TheVariants.{DevList, Import}
use Rattle.usbip_wire.specs.declared.up.Up.{Up}
use Rattle.usbip_wire.specs.declared.up.Up.TheVariants as what
use Rattle.usbip_wire.specs.declared.up.UpPhase.{UpPhase}
use Rattle.usbip_wire.specs.declared.up.UpPhase.TheVariants.{Urbs}
use Rattle.usbip_wire.specs.OpRequest.{SpellsRequest, IsRequest, request_size}
use Rattle.usbip_wire.specs.Up as up
use Rattle.usbip_wire.specs.UpFed.{Held, Means, kept, data_of}
use Rattle.usbip_wire.specs.Range.{IsSent, sent_bytes, sent_size, written_request}
use Rattle.usbip_wire.specs.Laws.{HaveSpellings}
use Rattle.tmc_law.specs.Step.{Comes, IsOver, ByPending}
use Rattle.tmc_device.specs.Seen as device
use Rattle.tmc_device.specs.Seen.{Makes}
use Rattle.usbip_export.specs.declared.body.Body.{Body}
use Rattle.usbip_export.specs.Identity.{busid, devid}
use Rattle.usbip_export.specs.Operations.{device_list, import_done, import_failed}
use Rattle.usbip_export.specs.Seen.{Seen, phase_of}
use Rattle.usbip_export.specs.Steps.{AreArrivals, MovesBy}
use Rattle.usbip_export.specs.Body.{held_back, kept_of, seen_of, Waits, IsSound, IsOpen}
use Rattle.usbip_export.proofs.Single.{shorter, admitted, closed_at, asked_list, asked_other, imported_now, standing_open}

-- a call took some bytes in
abbrev pub Takes : Seen → Seen → Type 0
Takes old new = MovesBy AreArrivals old new × (length new.kept < length old.kept)

kept_before : (refused : Option Field) (waiting : Option Up) (said : Up) (reader : Held) (late : List ℕ) → refused ≡ None → waiting ≡ Some said
    → kept_of refused waiting reader late ≡ reader.rest ++ late
kept_before refused waiting said reader late unshut waits =
    ap (λ r. kept_of r waiting reader late) unshut ∙ ap (λ w. held_back w reader ++ late) waits

kept_after : (refused : Option Field) (reader : Held) (late : List ℕ) → refused ≡ None → reader.whole ≡ true → kept_of refused None reader late ≡ late
kept_after refused reader late unshut whole =
    ap (λ r. kept_of r None reader late) unshut ∙ ap (λ (w : Bool). (if w then [] else reader.rest) ++ late) whole

cut_off : (refused : Option Field) (waiting : Option Up) (said : Up) (reader : Held) (late : List ℕ) → refused ≡ None → waiting ≡ Some said
    → reader.whole ≡ true → kept_of refused waiting reader late ≡ reader.rest ++ kept_of refused None reader late
cut_off refused waiting said reader late unshut waits whole =
    kept_before refused waiting said reader late unshut waits ∙ ap (λ (l : List ℕ). reader.rest ++ l) (sym (kept_after refused reader late unshut whole))

urb_some : HaveSpellings (IsSent devid) sent_bytes sent_size (up.Spells devid) → (message : up.Message) (bytes : List ℕ)
    → up.Spells devid message bytes → 0 < length bytes
urb_some have (up.Submit head sent) bytes spells = omega (arith, have.sized (up.Submit head sent) bytes spells)
urb_some have (up.Unlink head) bytes spells = omega (arith, have.sized (up.Unlink head) bytes spells)

request_some : HaveSpellings IsRequest written_request request_size SpellsRequest → (request : OpRequest) (bytes : List ℕ)
    → SpellsRequest request bytes → 0 < length bytes
request_some have DevList bytes spells = omega (arith, have.sized DevList bytes spells)
request_some have (Import id) bytes spells = omega (arith, have.sized (Import id) bytes spells)

-- what the reader holds
pub record IsHeld (reader : Held) (said : Up) (imported : Bool) : Type 0 where
  pub whole : reader.whole ≡ true
  pub means : Means (phase_of imported) said reader.rest

held : (old : Body) (said : Up) → IsSound old → old.waiting ≡ Some said → IsHeld old.reader said old.imported
held old said sound waits =
    let told : Waits old.reader (Some said) = subst (λ w. Waits old.reader w) waits sound.waits in
    record { whole = told.0; means = subst (λ (p : UpPhase). Means p said old.reader.rest) sound.phase told.1 }

submit_means : (imported : Bool) (head : SubmitHead) (bytes : List ℕ) → Means (phase_of imported) (what.Submit head) bytes
    → (imported ≡ true) × up.Spells devid (up.Submit head (drop URB_HEADER bytes)) bytes
submit_means true head bytes means = (refl, means)
submit_means false head bytes means = absurd means

unlink_means : (imported : Bool) (head : UnlinkHead) (bytes : List ℕ) → Means (phase_of imported) (what.Unlink head) bytes
    → (imported ≡ true) × up.Spells devid (up.Unlink head) bytes
unlink_means true head bytes means = (refl, means)
unlink_means false head bytes means = absurd means

op_means : (imported : Bool) (request : OpRequest) (bytes : List ℕ) → Means (phase_of imported) (what.Op request) bytes
    → (imported ≡ false) × SpellsRequest request bytes
op_means true request bytes means = absurd means
op_means false request bytes means = (refl, means)

data_held : (reader : Held) → reader.whole ≡ true → data_of reader ≡ drop URB_HEADER reader.rest
data_held reader whole = ap (λ (w : Bool). if w then drop URB_HEADER reader.rest else []) whole

pub submit_ok : HaveSpellings (IsSent devid) sent_bytes sent_size (up.Spells devid) → (old : Body) (seen : device.Seen) (head : SubmitHead) (sent : List ℕ)
    → IsSound old → IsOpen old → old.waiting ≡ Some (what.Submit head) → sent ≡ data_of old.reader
    → Makes (Comes (up.Submit head sent)) old.device seen → Takes (seen_of old) (seen_of (record old { device = seen; waiting = None }))
submit_ok have old seen head sent sound opened waits says made =
    let it = held old (what.Submit head) sound waits in
    let told = submit_means old.imported head old.reader.rest it.means in
    let spells : up.Spells devid (up.Submit head sent) old.reader.rest =
    subst (λ (d : List ℕ). up.Spells devid (up.Submit head d) old.reader.rest) (sym (says ∙ data_held old.reader it.whole)) told.1 in
    let cut = cut_off old.refused old.waiting (what.Submit head) old.reader old.late.items opened.unrefused waits it.whole in (
      admitted (seen_of old) (seen_of (record old { device = seen; waiting = None })) (up.Submit head sent) old.reader.rest told.0 told.0 opened.unrefused
          opened.unrefused cut spells made refl,
      shorter old.reader.rest _ _ cut (urb_some have (up.Submit head sent) old.reader.rest spells),
    )

pub unlink_ok : HaveSpellings (IsSent devid) sent_bytes sent_size (up.Spells devid) → (old : Body) (seen : device.Seen) (head : UnlinkHead)
    → IsSound old → IsOpen old → old.waiting ≡ Some (what.Unlink head) → Makes (Comes (up.Unlink head)) old.device seen
    → Takes (seen_of old) (seen_of (record old { device = seen; waiting = None }))
unlink_ok have old seen head sound opened waits made =
    let it = held old (what.Unlink head) sound waits in
    let told = unlink_means old.imported head old.reader.rest it.means in
    let cut = cut_off old.refused old.waiting (what.Unlink head) old.reader old.late.items opened.unrefused waits it.whole in (
      admitted (seen_of old) (seen_of (record old { device = seen; waiting = None })) (up.Unlink head) old.reader.rest told.0 told.0 opened.unrefused
          opened.unrefused cut told.1 made refl,
      shorter old.reader.rest _ _ cut (urb_some have (up.Unlink head) old.reader.rest told.1),
    )

-- a body that closed at a field
pub record IsShut (old new : Body) (f : Field) : Type 0 where
  pub seen : device.Seen
  pub same : seen ≡ old.device
  pub is : new ≡ record old { device = seen; refused = Some f; waiting = None; late = new.late }

pub submit_refused : HaveSpellings (IsSent devid) sent_bytes sent_size (up.Spells devid) → (old new : Body) (f : Field) (head : SubmitHead)
    → IsSound old → IsOpen old → old.waiting ≡ Some (what.Submit head) → IsOver old.device.state head f → IsShut old new f
    → Takes (seen_of old) (seen_of new)
submit_refused have old new f head sound opened waits over shut =
    let it = held old (what.Submit head) sound waits in
    let told = submit_means old.imported head old.reader.rest it.means in
    let cut : (seen_of old).kept ≡ old.reader.rest ++ old.late.items =
    kept_before old.refused old.waiting (what.Submit head) old.reader old.late.items opened.unrefused waits in
    let none : (seen_of new).kept ≡ [] = ap (λ (b : Body). kept_of b.refused b.waiting b.reader b.late.items) shut.is in
    let seen : new.device ≡ old.device = ap (λ (b : Body). b.device) shut.is ∙ shut.same in (
      closed_at (seen_of old) (seen_of new) f told.0 (ap (λ (b : Body). b.imported) shut.is ∙ told.0) opened.unrefused (ap (λ (b : Body). b.refused) shut.is) none
          opened.plugged (ByPending head (drop URB_HEADER old.reader.rest) old.reader.rest old.late.items cut told.1 over)
          (record { state = ap (λ (d : device.Seen). d.state) seen; puts = ap (λ (d : device.Seen). d.puts) seen })
          (ap (λ (b : Body). b.out.items) shut.is),
      omega (
        arith,
        ap length none,
        ap length cut,
        length-append old.reader.rest old.late.items,
        urb_some have (up.Submit head (drop URB_HEADER old.reader.rest)) old.reader.rest told.1,
      ),
    )

-- the operation that waits was answered by this text
pub list_ok : HaveSpellings IsRequest written_request request_size SpellsRequest → (old new : Body) → IsSound old → IsOpen old
    → old.waiting ≡ Some (what.Op DevList) → new ≡ record old { out = new.out; waiting = None } → new.out.items ≡ old.out.items ++ device_list
    → Takes (seen_of old) (seen_of new)
list_ok have old new sound opened waits is text =
    let it = held old (what.Op DevList) sound waits in
    let told = op_means old.imported DevList old.reader.rest it.means in
    let cut = cut_off old.refused old.waiting (what.Op DevList) old.reader old.late.items opened.unrefused waits it.whole in
    subst (λ (b : Body). Takes (seen_of old) (seen_of b)) (sym is) (
      asked_list (seen_of old) (seen_of (record old { out = new.out; waiting = None })) old.reader.rest told.0 told.0 refl cut told.1
          (record { state = refl; puts = refl }) text,
      shorter old.reader.rest _ _ cut (request_some have DevList old.reader.rest told.1),
    )

pub decline_ok : HaveSpellings IsRequest written_request request_size SpellsRequest → (old new : Body) (id : List ℕ) → IsSound old → IsOpen old
    → old.waiting ≡ Some (what.Op (Import id)) → id ≢ busid → new ≡ record old { out = new.out; waiting = None }
    → new.out.items ≡ old.out.items ++ import_failed → Takes (seen_of old) (seen_of new)
decline_ok have old new id sound opened waits other is text =
    let it = held old (what.Op (Import id)) sound waits in
    let told = op_means old.imported (Import id) old.reader.rest it.means in
    let cut = cut_off old.refused old.waiting (what.Op (Import id)) old.reader old.late.items opened.unrefused waits it.whole in
    subst (λ (b : Body). Takes (seen_of old) (seen_of b)) (sym is) (
      asked_other (seen_of old) (seen_of (record old { out = new.out; waiting = None })) id old.reader.rest told.0 told.0 refl cut told.1 other
          (record { state = refl; puts = refl }) text,
      shorter old.reader.rest _ _ cut (request_some have (Import id) old.reader.rest told.1),
    )

-- behind the import a new reader reads on
pub import_ok : HaveSpellings IsRequest written_request request_size SpellsRequest → (old new : Body) → IsSound old → IsOpen old
    → old.waiting ≡ Some (what.Op (Import busid)) → new ≡ record old { out = new.out; waiting = None; imported = true; reader = new.reader }
    → new.reader ≡ record { phase = Urbs devid; rest = []; whole = false; bad = None } → new.out.items ≡ old.out.items ++ import_done
    → Takes (seen_of old) (seen_of new)
import_ok have old new sound opened waits is begins text =
    let it = held old (what.Op (Import busid)) sound waits in
    let told = op_means old.imported (Import busid) old.reader.rest it.means in
    let after : kept_of old.refused None new.reader old.late.items ≡ old.late.items =
    ap (λ r. kept_of r None new.reader old.late.items) opened.unrefused ∙ ap (λ (r : Held). kept r ++ old.late.items) begins in
    let cut : (seen_of old).kept ≡ old.reader.rest ++ kept_of old.refused None new.reader old.late.items =
    kept_before old.refused old.waiting (what.Op (Import busid)) old.reader old.late.items opened.unrefused waits
    ∙ ap (λ (l : List ℕ). old.reader.rest ++ l) (sym after) in
    subst (λ (b : Body). Takes (seen_of old) (seen_of b)) (sym is) (
      imported_now (seen_of old) (seen_of (record old { out = new.out; waiting = None; imported = true; reader = new.reader })) busid old.reader.rest told.0
          refl refl cut told.1 refl (standing_open (seen_of old) opened.unrefused ∙ (sound.fresh told.0).0) (record { state = refl; puts = refl }) text,
      shorter old.reader.rest _ _ cut (request_some have (Import busid) old.reader.rest told.1),
    )
