-- bytes have a reading
use Rattle.std.proofs.Common.{◌≡◌, ℕ, zero, suc, ◌<◌, List, [], ◌∷◌, ◌++◌, length, drop, Result, Ok, Err, refl, sym, ap, subst, ◌∙◌, arith}
use Rattle.std.proofs.lemmas.List.{drop_at, length-append}
use Rattle.usbip_wire.specs.declared.stop.Stop.{Stop}
use Rattle.usbip_wire.specs.declared.up.UpPhase.TheVariants.{Ops, Urbs}
use Rattle.usbip_wire.specs.Form.{Form, Spelled, read}
use Rattle.usbip_wire.specs.Given.{IsBytes}
use Rattle.usbip_wire.specs.Laws.{AreRead}
use Rattle.usbip_wire.specs.OpRequest.{SpellsRequest}
use Rattle.usbip_wire.specs.Stream.{NoneWhole, Reads}
use Rattle.usbip_wire.specs.Up.{Spells}
use Rattle.usbip_wire.specs.UpForm.{request_form, urb_form}
use Rattle.usbip_wire.proofs.Forms.{sound}
use Rattle.usbip_wire.proofs.Fronts.{IsBytes-drop}
use Rattle.usbip_wire.proofs.Lasting.{request_back, urb_back}
use Rattle.usbip_wire.proofs.UpRead.{stopped_none}
use Rattle.usbip_wire.proofs.UpStream.{request_long, submit_long}

abbrev Reading : {M : Type 0} → (M → List ℕ → Type 0) → List ℕ → Type 0
Reading {M} S bytes = (messages : List M) × (rest : List ℕ) × Reads S bytes messages rest

behind : (front rest bytes : List ℕ) → bytes ≡ front ++ rest → IsBytes bytes → IsBytes rest
behind front rest bytes e fits =
    subst IsBytes (ap (λ (l : List ℕ). drop (length front) l) e ∙ drop_at front rest (length front) refl) (IsBytes-drop (length front) bytes fits)

-- the message at the front, and a reading of what follows it
one : {M N : Type 0} (form : Form N) (S : M → List ℕ → Type 0) → ((what : N) (bytes : List ℕ) → Spelled form what bytes → (m : M) × S m bytes)
    → ((rest : List ℕ) (stop : Stop) → read form rest ≡ Err stop → NoneWhole S rest) → ((m : M) (front : List ℕ) → S m front → 0 < length front)
    → (bytes : List ℕ) → IsBytes bytes → ((after : List ℕ) → length after < length bytes → IsBytes after → Reading S after)
    → (r : Result (N × List ℕ) Stop) → read form bytes ≡ r → Reading S bytes
one {M} {N} form S back stopped long bytes fits go (Err stop) e = ([], bytes, record { row = refl; none_whole = stopped bytes stop e })
one {M} {N} form S back stopped long bytes fits go (Ok (what, rest)) e =
    let s = sound form bytes what rest fits e in
    let b = back what s.0 s.2 in
    let next : Reading S rest = go rest (omega (arith, ap length s.1, length-append s.0 rest, long b.0 s.0 b.1)) (behind s.0 rest bytes s.1 fits) in
    (b.0 ∷ next.0, next.1, record { row = (s.0, rest, s.1, b.1, next.2.row); none_whole = next.2.none_whole })

readings : {M N : Type 0} (form : Form N) (S : M → List ℕ → Type 0) → ((what : N) (bytes : List ℕ) → Spelled form what bytes → (m : M) × S m bytes)
    → ((rest : List ℕ) (stop : Stop) → read form rest ≡ Err stop → NoneWhole S rest) → ((m : M) (front : List ℕ) → S m front → 0 < length front)
    → (n : ℕ) (bytes : List ℕ) → length bytes < n → IsBytes bytes → Reading S bytes
readings {M} {N} form S back stopped long zero bytes lt fits = absurd (omega (arith, lt))
readings {M} {N} form S back stopped long (suc n) bytes lt fits =
    one form S back stopped long bytes fits
    (λ after shorter bytes_after. readings form S back stopped long n after (omega (arith, lt, shorter)) bytes_after) (read form bytes) refl

pub requests_read : AreRead SpellsRequest
requests_read bytes fits =
    readings request_form SpellsRequest request_back (stopped_none Ops) (λ m front s. subst (λ (l : List ℕ). 0 < length l) (sym s.layout) (request_long m s.status))
    (suc (length bytes)) bytes (omega arith) fits

pub urbs_read : (devid : ℕ) → AreRead (Spells devid)
urbs_read devid bytes fits =
    readings (urb_form devid) (Spells devid) (urb_back devid) (stopped_none (Urbs devid)) (submit_long devid) (suc (length bytes)) bytes (omega arith) fits
