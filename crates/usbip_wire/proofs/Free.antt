-- the laws of each kind of messages
use Rattle.std.proofs.Common.{◌≡◌, ℕ, List, drop, refl, sym, ap, ◌∙◌}
use Rattle.std.proofs.lemmas.List.{drop_at}
use Rattle.usbip_wire.specs.declared.dirs.Outstanding.{Outstanding}
use Rattle.usbip_wire.specs.declared.ret_submit.RetSubmitHead.{RetSubmitHead}
use Rattle.usbip_wire.specs.declared.submit.SubmitHead.{SubmitHead}
use Rattle.usbip_wire.specs.declared.up.Up.TheVariants as up
use Rattle.usbip_wire.specs.declared.down.Down.TheVariants as down
use Rattle.usbip_wire.specs.DevList.{SpellsPart}
use Rattle.usbip_wire.specs.Down as downward
use Rattle.usbip_wire.specs.Down.{SpellsAnswer}
use Rattle.usbip_wire.specs.DownForm.{answer_form, ops_form}
use Rattle.usbip_wire.specs.Laws.{ArePrefixFree}
use Rattle.usbip_wire.specs.OpRequest.{SpellsRequest}
use Rattle.usbip_wire.specs.RetSubmit.{Asked, SpellsRetSubmit, ret_submit_bytes}
use Rattle.usbip_wire.specs.Submit.{SpellsSubmit, submit_bytes}
use Rattle.usbip_wire.specs.Up as upward
use Rattle.usbip_wire.specs.UpForm.{request_form, urb_form}
use Rattle.usbip_wire.specs.Urb.{fields}
use Rattle.usbip_wire.proofs.Determined.{form_free}
use Rattle.usbip_wire.proofs.DownSpelled as down_spelled
use Rattle.usbip_wire.proofs.UpSpelled as up_spelled

submit_data : (devid : ℕ) (head : SubmitHead) (transferred bytes : List ℕ) → SpellsSubmit devid head transferred bytes → drop 48 bytes ≡ transferred
unfolding submit_bytes fields
submit_data devid head transferred bytes s = rw s.layout (drop_at head.setup transferred 8 s.setup)

ret_submit_data : (asked : Asked) (head : RetSubmitHead) (transferred bytes : List ℕ) → SpellsRetSubmit asked head transferred bytes → drop 48 bytes ≡ transferred
unfolding ret_submit_bytes fields
ret_submit_data asked head transferred bytes s = rw s.layout refl

pub requests_free : ArePrefixFree SpellsRequest
requests_free m n a b x y s t e =
    let r = form_free request_form (up.Op m) (up.Op n) a b x y (up_spelled.request_complete m a s) (up_spelled.request_complete n b t) e in
    (cc, r.1, r.2)

pub urbs_free : (devid : ℕ) → ArePrefixFree (upward.Spells devid)
urbs_free devid (upward.Submit h d) (upward.Submit k f) a b x y s t e =
    let r = form_free (urb_form devid) (up.Submit h) (up.Submit k) a b x y (up_spelled.urb_complete devid (upward.Submit h d) a s) (up_spelled.urb_complete devid (upward.Submit k f) b t) e in
    let heads : up.Submit h ≡ up.Submit k = r.0 in let same : h ≡ k = cc in
    let datas : d ≡ f = sym (submit_data devid h d a s) ∙ (ap (λ (l : List ℕ). drop 48 l) r.1 ∙ submit_data devid k f b t) in
    (ap (λ (z : SubmitHead). upward.Submit z d) same ∙ ap (λ (l : List ℕ). upward.Submit k l) datas, r.1, r.2)
urbs_free devid (upward.Submit h d) (upward.Unlink k) a b x y s t e =
    let r = form_free (urb_form devid) (up.Submit h) (up.Unlink k) a b x y (up_spelled.urb_complete devid (upward.Submit h d) a s) (up_spelled.urb_complete devid (upward.Unlink k) b t) e in
    let heads : up.Submit h ≡ up.Unlink k = r.0 in absurd (cc heads)
urbs_free devid (upward.Unlink h) (upward.Submit k f) a b x y s t e =
    let r = form_free (urb_form devid) (up.Unlink h) (up.Submit k) a b x y (up_spelled.urb_complete devid (upward.Unlink h) a s) (up_spelled.urb_complete devid (upward.Submit k f) b t) e in
    let heads : up.Unlink h ≡ up.Submit k = r.0 in absurd (cc heads)
urbs_free devid (upward.Unlink h) (upward.Unlink k) a b x y s t e =
    let r = form_free (urb_form devid) (up.Unlink h) (up.Unlink k) a b x y (up_spelled.urb_complete devid (upward.Unlink h) a s) (up_spelled.urb_complete devid (upward.Unlink k) b t) e in
    let heads : up.Unlink h ≡ up.Unlink k = r.0 in let same : h ≡ k = cc in
    (ap (λ z. upward.Unlink z) same, r.1, r.2)

pub answers_free : (entries : List Outstanding) → ArePrefixFree (SpellsAnswer entries)
answers_free entries (downward.RetSubmit h d) (downward.RetSubmit k f) a b x y s t e =
    let r = form_free (answer_form entries) (down.RetSubmit h) (down.RetSubmit k) a b x y (down_spelled.answer_complete entries (downward.RetSubmit h d) a s) (down_spelled.answer_complete entries (downward.RetSubmit k f) b t) e in
    let heads : down.RetSubmit h ≡ down.RetSubmit k = r.0 in let same : h ≡ k = cc in
    let datas : d ≡ f = sym (ret_submit_data s.0 h d a s.2) ∙ (ap (λ (l : List ℕ). drop 48 l) r.1 ∙ ret_submit_data t.0 k f b t.2) in
    (ap (λ (z : RetSubmitHead). downward.RetSubmit z d) same ∙ ap (λ (l : List ℕ). downward.RetSubmit k l) datas, r.1, r.2)
answers_free entries (downward.RetSubmit h d) (downward.RetUnlink k) a b x y s t e =
    let r = form_free (answer_form entries) (down.RetSubmit h) (down.RetUnlink k) a b x y (down_spelled.answer_complete entries (downward.RetSubmit h d) a s) (down_spelled.answer_complete entries (downward.RetUnlink k) b t) e in
    let heads : down.RetSubmit h ≡ down.RetUnlink k = r.0 in absurd (cc heads)
answers_free entries (downward.RetUnlink h) (downward.RetSubmit k f) a b x y s t e =
    let r = form_free (answer_form entries) (down.RetUnlink h) (down.RetSubmit k) a b x y (down_spelled.answer_complete entries (downward.RetUnlink h) a s) (down_spelled.answer_complete entries (downward.RetSubmit k f) b t) e in
    let heads : down.RetUnlink h ≡ down.RetSubmit k = r.0 in absurd (cc heads)
answers_free entries (downward.RetUnlink h) (downward.RetUnlink k) a b x y s t e =
    let r = form_free (answer_form entries) (down.RetUnlink h) (down.RetUnlink k) a b x y (down_spelled.answer_complete entries (downward.RetUnlink h) a s) (down_spelled.answer_complete entries (downward.RetUnlink k) b t) e in
    let heads : down.RetUnlink h ≡ down.RetUnlink k = r.0 in let same : h ≡ k = cc in
    (ap (λ z. downward.RetUnlink z) same, r.1, r.2)

pub parts_free : (devices interfaces : ℕ) → ArePrefixFree (SpellsPart devices interfaces)
parts_free devices interfaces m n a b x y s t e =
    form_free (ops_form devices interfaces) m n a b x y (down_spelled.ops_complete devices interfaces m a s) (down_spelled.ops_complete devices interfaces n b t) e
