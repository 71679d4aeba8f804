-- pieces are one stream
use Rattle.std.proofs.Common.{◌≡◌, ℕ, ◌<◌, true, false, Option, Some, None, List, [], ◌∷◌, ◌++◌, length, take, drop, refl, sym, ap, subst, ◌∙◌, append_assoc, append-nil, take_all, arith}
use Rattle.std.proofs.lemmas.List.{take-append-drop}
use Rattle.tmc_base.specs.declared.field.Field.{Field}
use Rattle.usbip_wire.specs.declared.op_request.OpRequest.{OpRequest}
use Rattle.usbip_wire.specs.declared.op_request.OpRequest.TheVariants.{DevList, Import}
use Rattle.usbip_wire.specs.declared.up.Up.{Up}
use Rattle.usbip_wire.specs.declared.up.Up.TheVariants as up
use Rattle.usbip_wire.specs.declared.up.UpPhase.{UpPhase}
use Rattle.usbip_wire.specs.declared.up.UpPhase.TheVariants.{Ops, Urbs}
use Rattle.usbip_wire.specs.OpRequest.{SpellsRequest, request_bytes}
use Rattle.usbip_wire.specs.Op.{op_header}
use Rattle.usbip_wire.specs.Submit.{submit_bytes}
use Rattle.usbip_wire.specs.Unlink.{unlink_bytes}
use Rattle.usbip_wire.specs.Urb.{fields}
use Rattle.usbip_wire.specs.Up.{Message, Submit, Unlink, Spells}
use Rattle.usbip_wire.specs.Laws.{AreAlone}
use Rattle.usbip_wire.specs.Stream.{InRow, NoneWhole, Reads}
use Rattle.usbip_wire.specs.UpFed.{Held, Answers, BadAt, kept, data_of}
use Rattle.usbip_wire.specs.UpPieces.{Call, Calls, begun, used_bytes, given, request_in, message_in}
use Rattle.usbip_wire.proofs.Alone.{request_alone, urb_alone}

-- rows behind one another are one row
pub join : {M : Type 0} (S : M → List ℕ → Type 0) (ms ns : List M) (a b mid rest : List ℕ) → InRow S ms a mid → InRow S ns (mid ++ b) rest
    → InRow S (ms ++ ns) (a ++ b) rest
join {M} S [] ns a b mid rest p q = subst (λ (l : List ℕ). InRow S ns (l ++ b) rest) (sym p) q
join {M} S (m ∷ ms) ns a b mid rest (front, after, e, s, p) q =
    (front, after ++ b, ap (λ (l : List ℕ). l ++ b) e ∙ append_assoc front after b, s, join S ms ns after b mid rest p q)

-- what one call gives, by its phase
pub record Kind {M : Type 0} (phase : UpPhase) (S : M → List ℕ → Type 0) (what_in : Up → List ℕ → List M) : Type 0 where
  pub step : (start piece : List ℕ) (used : ℕ) (what : Up) (new : Held) → Answers phase start piece used what new
      → InRow S (what_in what (data_of new)) (start ++ take used piece) (kept new) × (new.phase ≡ phase) × NoneWhole S (kept new)
  pub silent : (f : Field) (told : List ℕ) → what_in (up.Bad f) told ≡ []

-- after a refusal nothing is used or given
stuck : {M : Type 0} (what_in : Up → List ℕ → List M) → ((f : Field) (told : List ℕ) → what_in (up.Bad f) told ≡ [])
    → (old : Held) (f : Field) (calls : List Call) (end : Held) → old.bad ≡ Some f → Calls old calls end
    → (used_bytes calls ≡ []) × (given what_in calls ≡ []) × (end ≡ old)
stuck {M} what_in silent old f [] end bad calls = (refl, refl, calls)
stuck {M} what_in silent old f (call ∷ calls) end bad (fed, more) =
    let again = fed.again f bad in
    let same : call.held ≡ old = again.1 in
    let rest = stuck what_in silent call.held f calls end (ap (λ (h : Held). h.bad) same ∙ bad) more in
    let none : take call.step.used call.piece ≡ [] = rw again.0 refl in
    let mute : what_in call.step.what (data_of call.held) ≡ [] = rw again.0 (silent f (data_of call.held)) in
    (ap (λ (l : List ℕ). l ++ used_bytes calls) none ∙ rest.0, ap (λ (l : List M). l ++ given what_in calls) mute ∙ rest.1, rest.2 ∙ same)

-- the calls from here on
rows : {M : Type 0} (phase : UpPhase) (S : M → List ℕ → Type 0) (what_in : Up → List ℕ → List M) → Kind phase S what_in
    → (old : Held) (calls : List Call) (end : Held) → Calls old calls end → old.phase ≡ phase → old.bad ≡ None → NoneWhole S (kept old)
    → Reads S (kept old ++ used_bytes calls) (given what_in calls) (kept end)
rows {M} phase S what_in kind old [] end calls same good none = record {
  row = append-nil (kept old) ∙ ap kept (sym calls);
  none_whole = subst (λ (h : Held). NoneWhole S (kept h)) (sym calls) none;
}
rows {M} phase S what_in kind old (call ∷ calls) end (fed, more) same good none =
    let answers : Answers phase (kept old) call.piece call.step.used call.step.what call.held =
    subst (λ (p : UpPhase). Answers p (kept old) call.piece call.step.used call.step.what call.held) same (fed.fresh good) in
    let step = kind.step (kept old) call.piece call.step.used call.step.what call.held answers in
    behind step (by_bad step.2 (λ fine. rows phase S what_in kind call.held calls end more step.1 fine step.2) call.held.bad refl)
  where
    bit : List ℕ
    bit = take call.step.used call.piece

    first : List M
    first = what_in call.step.what (data_of call.held)

    -- the further calls, also where a field is refused now
    by_bad : NoneWhole S (kept call.held) → (call.held.bad ≡ None → Reads S (kept call.held ++ used_bytes calls) (given what_in calls) (kept end))
        → (b : Option Field) → call.held.bad ≡ b → Reads S (kept call.held ++ used_bytes calls) (given what_in calls) (kept end)
    by_bad none_now go None fine = go fine
    by_bad none_now go (Some f) refused =
        let over = stuck what_in kind.silent call.held f calls end refused more in
        record {
          row =
              subst (λ (ms : List M). InRow S ms (kept call.held ++ used_bytes calls) (kept end)) (sym over.1)
              (subst (λ (l : List ℕ). kept call.held ++ l ≡ kept end) (sym over.0) (append-nil (kept call.held) ∙ ap kept (sym over.2)));
          none_whole = subst (λ (h : Held). NoneWhole S (kept h)) (sym over.2) none_now;
        }

    behind : InRow S first (kept old ++ bit) (kept call.held) × (call.held.phase ≡ phase) × NoneWhole S (kept call.held)
        → Reads S (kept call.held ++ used_bytes calls) (given what_in calls) (kept end)
        → Reads S (kept old ++ (bit ++ used_bytes calls)) (first ++ given what_in calls) (kept end)
    behind step rest = record {
      row =
          subst (λ (l : List ℕ). InRow S (first ++ given what_in calls) l (kept end)) (append_assoc (kept old) bit (used_bytes calls))
          (join S first (given what_in calls) (kept old ++ bit) (used_bytes calls) (kept call.held) (kept end) step.0 rest.row);
      none_whole = rest.none_whole;
    }

-- nothing is the front of nothing
pub no_front : (front tail : List ℕ) → [] ≡ front ++ tail → length front ≡ 0
no_front [] tail e = refl
no_front (x ∷ front) tail e = absurd (clash e)
  where
    clash : [] ≡ x ∷ (front ++ tail) → ⊥
    clash e = cc

pub request_long : (request : OpRequest) (status : ℕ) → 0 < length (request_bytes request status)
unfolding op_header
request_long DevList status = lit
  where
    lit : 0 < length (request_bytes DevList status)
    lit = omega arith
request_long (Import busid) status = lit
  where
    lit : 0 < length (request_bytes (Import busid) status)
    lit = omega arith

no_request : NoneWhole SpellsRequest []
no_request m front tail s e = omega (arith, no_front front tail e, ap length s.layout, request_long m s.status)

pub submit_long : (devid : ℕ) (m : Message) (front : List ℕ) → Spells devid m front → 0 < length front
unfolding submit_bytes unlink_bytes fields
submit_long devid (Submit head transferred) front s = rw s.layout (omega arith)
submit_long devid (Unlink head) front s = rw s.layout (omega arith)

no_urb : (devid : ℕ) → NoneWhole (Spells devid) []
no_urb devid m front tail s e = omega (arith, no_front front tail e, submit_long devid m front s)

-- what each kind of answer gives
more_step : {M : Type 0} (S : M → List ℕ → Type 0) (phase : UpPhase) (start piece : List ℕ) (used : ℕ) (new : Held)
    → used ≡ length piece → NoneWhole S (start ++ piece) → new ≡ record { phase = phase; rest = start ++ piece; whole = false; bad = None }
    → InRow S [] (start ++ take used piece) (kept new) × (new.phase ≡ phase) × NoneWhole S (kept new)
more_step {M} S phase start piece used new all none is = (
  ap (λ (l : List ℕ). start ++ l) (take_all used piece (omega (arith, all))) ∙ sym (ap kept is),
  ap (λ (h : Held). h.phase) is,
  subst (λ (l : List ℕ). NoneWhole S l) (sym (ap kept is)) none,
)

-- where no message is whole, none is in what is kept of it
none_kept : {M : Type 0} (S : M → List ℕ → Type 0) (start piece : List ℕ) (used : ℕ) → NoneWhole S (start ++ piece) → NoneWhole S (start ++ take used piece)
none_kept {M} S start piece used none m front tail s e =
    none m front (tail ++ drop used piece) s
    (ap (λ (l : List ℕ). start ++ l) (sym (take-append-drop used piece)) ∙ (sym (append_assoc start (take used piece) (drop used piece))
    ∙ (ap (λ (l : List ℕ). l ++ drop used piece) e ∙ append_assoc front tail (drop used piece))))

bad_step : {M : Type 0} (S : M → List ℕ → Type 0) (phase : UpPhase) → AreAlone S (BadAt phase) → (start piece : List ℕ) (used : ℕ) (f : Field) (new : Held)
    → BadAt phase (start ++ piece) f → new ≡ record { phase = phase; rest = start ++ take used piece; whole = false; bad = Some f }
    → InRow S [] (start ++ take used piece) (kept new) × (new.phase ≡ phase) × NoneWhole S (kept new)
bad_step {M} S phase alone start piece used f new bad is = (
  sym (ap kept is),
  ap (λ (h : Held). h.phase) is,
  subst (λ (l : List ℕ). NoneWhole S l) (sym (ap kept is)) (none_kept S start piece used (alone (start ++ piece) f bad).0),
)

whole_step : {M : Type 0} (S : M → List ℕ → Type 0) (phase : UpPhase) (start piece : List ℕ) (used : ℕ) (m : M) (new : Held)
    → S m (start ++ take used piece) → NoneWhole S [] → new ≡ record { phase = phase; rest = start ++ take used piece; whole = true; bad = None }
    → InRow S (m ∷ []) (start ++ take used piece) (kept new) × (new.phase ≡ phase) × NoneWhole S (kept new)
whole_step {M} S phase start piece used m new means none is = (
  (start ++ take used piece, [], sym (append-nil (start ++ take used piece)), means, sym (ap kept is)),
  ap (λ (h : Held). h.phase) is,
  subst (λ (l : List ℕ). NoneWhole S l) (sym (ap kept is)) none,
)

ops_kind : Kind Ops SpellsRequest request_in
ops_kind = record { step = step; silent = λ f told. refl }
  where
    step : (start piece : List ℕ) (used : ℕ) (what : Up) (new : Held) → Answers Ops start piece used what new
        → InRow SpellsRequest (request_in what (data_of new)) (start ++ take used piece) (kept new) × (new.phase ≡ Ops) × NoneWhole SpellsRequest (kept new)
    step start piece used up.More new (all, none, calm, is) = more_step SpellsRequest Ops start piece used new all none is
    step start piece used (up.Bad f) new (within, ends, bad, is) = bad_step SpellsRequest Ops request_alone start piece used f new bad is
    step start piece used (up.Op request) new (within, means, calm, is) = whole_step SpellsRequest Ops start piece used request new means no_request is
    step start piece used (up.Submit head) new (within, means, calm, is) = absurd means
    step start piece used (up.Unlink head) new (within, means, calm, is) = absurd means

urbs_kind : (devid : ℕ) → Kind (Urbs devid) (Spells devid) message_in
urbs_kind devid = record { step = step; silent = λ f told. refl }
  where
    step : (start piece : List ℕ) (used : ℕ) (what : Up) (new : Held) → Answers (Urbs devid) start piece used what new
        → InRow (Spells devid) (message_in what (data_of new)) (start ++ take used piece) (kept new) × (new.phase ≡ Urbs devid) × NoneWhole (Spells devid) (kept new)
    step start piece used up.More new (all, none, calm, is) = more_step (Spells devid) (Urbs devid) start piece used new all none is
    step start piece used (up.Bad f) new (within, ends, bad, is) = bad_step (Spells devid) (Urbs devid) (urb_alone devid) start piece used f new bad is
    step start piece used (up.Op request) new (within, means, calm, is) = absurd means
    step start piece used (up.Submit head) new (within, means, calm, is) =
        whole_step (Spells devid) (Urbs devid) start piece used (Submit head (data_of new)) new
        (subst (λ (told : List ℕ). Spells devid (Submit head told) (start ++ take used piece)) (sym (ap data_of is)) means) (no_urb devid) is
    step start piece used (up.Unlink head) new (within, means, calm, is) =
        whole_step (Spells devid) (Urbs devid) start piece used (Unlink head) new means (no_urb devid) is

pub ops_stream : (calls : List Call) (end : Held) → Calls (begun Ops) calls end
    → Reads SpellsRequest (used_bytes calls) (given request_in calls) (kept end)
ops_stream calls end run = rows Ops SpellsRequest request_in ops_kind (begun Ops) calls end run refl refl no_request

pub urbs_stream : (devid : ℕ) (calls : List Call) (end : Held) → Calls (begun (Urbs devid)) calls end
    → Reads (Spells devid) (used_bytes calls) (given message_in calls) (kept end)
urbs_stream devid calls end run = rows (Urbs devid) (Spells devid) message_in (urbs_kind devid) (begun (Urbs devid)) calls end run refl refl (no_urb devid)
