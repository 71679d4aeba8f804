-- pieces of a device's bytes are one stream
use Rattle.std.proofs.Common.{◌≡◌, ℕ, ◌<◌, true, false, Option, Some, None, List, [], ◌∷◌, ◌++◌, length, take, refl, sym, ap, subst, ◌∙◌, append_assoc, append-nil, length-append, take_all, arith}
use Rattle.tmc_base.specs.declared.field.Field.{Field}
use Rattle.usbip_wire.specs.declared.dirs.Outstanding.{Outstanding}
use Rattle.usbip_wire.specs.declared.down.Down.{Down}
use Rattle.usbip_wire.specs.declared.down.Down.TheVariants as down
use Rattle.usbip_wire.specs.declared.down.DownPhase.{DownPhase}
use Rattle.usbip_wire.specs.declared.down.DownPhase.TheVariants.{Ops, Urbs}
use Rattle.usbip_wire.specs.Device.{record_bytes}
use Rattle.usbip_wire.specs.Op.{op_header}
use Rattle.usbip_wire.specs.RetSubmit.{ret_submit_bytes}
use Rattle.usbip_wire.specs.RetUnlink.{ret_unlink_bytes}
use Rattle.usbip_wire.specs.Urb.{fields}
use Rattle.usbip_wire.specs.DevList.{SpellsPart}
use Rattle.usbip_wire.specs.Down.{Message, RetSubmit, RetUnlink, SpellsAnswer}
use Rattle.usbip_wire.specs.DownForm.{after}
use Rattle.usbip_wire.specs.DownFed.{Held, Answers, Means, NoneWhole, kept, data_in, data_of}
use Rattle.usbip_wire.specs.DownPieces.{Call, Calls, Given, begun, used_bytes, last_entries, given_in, given, InTurn}
use Rattle.usbip_wire.proofs.UpStream.{no_front}

-- the phase behind some messages
abbrev pub phase_behind : DownPhase → List Given → DownPhase
phase_behind phase [] = phase
phase_behind phase (message ∷ messages) = phase_behind (after phase message.what) messages

-- messages behind one another are in turn
join : (phase : DownPhase) (ms ns : List Given) (a b mid rest : List ℕ) → InTurn phase ms a mid → InTurn (phase_behind phase ms) ns (mid ++ b) rest
    → InTurn phase (ms ++ ns) (a ++ b) rest
join phase [] ns a b mid rest p q = subst (λ (l : List ℕ). InTurn phase ns (l ++ b) rest) (sym p) q
join phase (m ∷ ms) ns a b mid rest (front, behind, e, s, d, p) q =
    (front, behind ++ b, ap (λ (l : List ℕ). l ++ b) e ∙ append_assoc front behind b, s, d, join (after phase m.what) ms ns behind b mid rest p q)

phase_join : (phase : DownPhase) (ms ns : List Given) → phase_behind phase (ms ++ ns) ≡ phase_behind (phase_behind phase ms) ns
phase_join phase [] ns = refl
phase_join phase (m ∷ ms) ns = phase_join (after phase m.what) ms ns

-- ---- no message is empty

front_long : (xs ys : List ℕ) → length xs ≡ 256 → 0 < length (xs ++ ys)
front_long xs ys long = omega (arith, length-append xs ys, long)

part_long : (devices interfaces : ℕ) (what : Down) (front : List ℕ) → SpellsPart devices interfaces what front → 0 < length front
unfolding op_header record_bytes
part_long devices interfaces (down.Count status number) front s = rw s.4 (omega arith)
part_long devices interfaces (down.Device device) front s = rw s.3 (front_long device.path _ s.2.path)
part_long devices interfaces (down.Interface class subclass protocol) front s = rw s.2 (omega arith)
part_long devices interfaces (down.Import status None) front s = rw s.2.layout (omega arith)
part_long devices interfaces (down.Import status (Some device)) front s = rw s.2.layout (omega arith)
part_long devices interfaces (down.RetSubmit head) front s = absurd s
part_long devices interfaces (down.RetUnlink head) front s = absurd s
part_long devices interfaces down.More front s = absurd s
part_long devices interfaces (down.Bad f) front s = absurd s

pub answer_long : (entries : List Outstanding) (m : Message) (front : List ℕ) → SpellsAnswer entries m front → 0 < length front
unfolding ret_submit_bytes ret_unlink_bytes fields
answer_long entries (RetSubmit head transferred) front s = rw s.2.layout (omega arith)
answer_long entries (RetUnlink head) front s = rw s.1.layout (omega arith)

no_message : (phase : DownPhase) (entries : List Outstanding) → NoneWhole phase entries []
no_message (Ops devices interfaces) entries = λ m front tail s e. omega (arith, no_front front tail e, part_long devices interfaces m front s)
no_message Urbs entries = λ m front tail s e. omega (arith, no_front front tail e, answer_long entries m front s)

-- ---- one call

data_same : (phase : DownPhase) (what : Down) (bytes : List ℕ) → data_in (after phase what) bytes ≡ data_in phase bytes
data_same Urbs what bytes = refl
data_same (Ops devices interfaces) (down.Count status number) bytes = refl
data_same (Ops devices interfaces) (down.Device device) bytes = refl
data_same (Ops devices interfaces) (down.Interface class subclass protocol) bytes = refl
data_same (Ops devices interfaces) (down.Import status device) bytes = refl
data_same (Ops devices interfaces) (down.RetSubmit head) bytes = refl
data_same (Ops devices interfaces) (down.RetUnlink head) bytes = refl
data_same (Ops devices interfaces) down.More bytes = refl
data_same (Ops devices interfaces) (down.Bad f) bytes = refl

-- what one call gives
record Stepped (phase : DownPhase) (entries : List Outstanding) (bytes : List ℕ) (messages : List Given) (new : Held) : Type 0 where
  pub turn : InTurn phase messages bytes (kept new)
  pub leads : new.phase ≡ phase_behind phase messages
  pub none : new.bad ≡ None → NoneWhole new.phase entries (kept new)

more_step : (phase : DownPhase) (entries : List Outstanding) (start piece : List ℕ) (used : ℕ) (new : Held)
    → used ≡ length piece → NoneWhole phase entries (start ++ piece) → new ≡ record { phase = phase; rest = start ++ piece; whole = false; bad = None }
    → Stepped phase entries (start ++ take used piece) [] new
more_step phase entries start piece used new all none is = record {
  turn = ap (λ (l : List ℕ). start ++ l) (take_all used piece (omega (arith, all))) ∙ sym (ap kept is);
  leads = ap (λ (h : Held). h.phase) is;
  none = λ fine. subst (λ (h : Held). NoneWhole h.phase entries (kept h)) (sym is) none;
}

bad_step : (phase : DownPhase) (entries : List Outstanding) (start piece : List ℕ) (used : ℕ) (f : Field) (new : Held)
    → new ≡ record { phase = phase; rest = start ++ take used piece; whole = false; bad = Some f }
    → Stepped phase entries (start ++ take used piece) [] new
bad_step phase entries start piece used f new is = record {
  turn = sym (ap kept is);
  leads = ap (λ (h : Held). h.phase) is;
  none = λ fine. absurd (clash (sym (ap (λ (h : Held). h.bad) is) ∙ fine));
}
  where
    clash : Some f ≡ None → ⊥
    clash e = cc

whole_step : (phase : DownPhase) (entries : List Outstanding) (start piece : List ℕ) (used : ℕ) (what : Down) (new : Held)
    → Means phase entries what (start ++ take used piece) → new ≡ record { phase = after phase what; rest = start ++ take used piece; whole = true; bad = None }
    → given_in entries what (data_of new) ≡ record { entries = entries; what = what; carried = data_of new } ∷ []
    → Stepped phase entries (start ++ take used piece) (given_in entries what (data_of new)) new
whole_step phase entries start piece used what new means is one =
    subst (λ (ms : List Given). Stepped phase entries (start ++ take used piece) ms new) (sym one) (record {
      turn = (
        start ++ take used piece,
        [],
        sym (append-nil (start ++ take used piece)),
        means,
        ap data_of is ∙ data_same phase what (start ++ take used piece),
        sym (ap kept is),
      );
      leads = ap (λ (h : Held). h.phase) is;
      none = λ fine. subst (λ (h : Held). NoneWhole h.phase entries (kept h)) (sym is) (no_message (after phase what) entries);
    })

step : (phase : DownPhase) (entries : List Outstanding) (start piece : List ℕ) (used : ℕ) (what : Down) (new : Held)
    → Answers phase entries start piece used what new → Stepped phase entries (start ++ take used piece) (given_in entries what (data_of new)) new
step phase entries start piece used down.More new (all, none, calm, is) = more_step phase entries start piece used new all none is
step phase entries start piece used (down.Bad f) new (within, ends, bad, is) = bad_step phase entries start piece used f new is
step phase entries start piece used (down.Count status number) new (within, means, calm, is) = whole_step phase entries start piece used (down.Count status number) new means is refl
step phase entries start piece used (down.Device device) new (within, means, calm, is) = whole_step phase entries start piece used (down.Device device) new means is refl
step phase entries start piece used (down.Interface class subclass protocol) new (within, means, calm, is) = whole_step phase entries start piece used (down.Interface class subclass protocol) new means is refl
step phase entries start piece used (down.Import status device) new (within, means, calm, is) = whole_step phase entries start piece used (down.Import status device) new means is refl
step phase entries start piece used (down.RetSubmit head) new (within, means, calm, is) = whole_step phase entries start piece used (down.RetSubmit head) new means is refl
step phase entries start piece used (down.RetUnlink head) new (within, means, calm, is) = whole_step phase entries start piece used (down.RetUnlink head) new means is refl

-- after a refusal nothing is used or given
stuck : (old : Held) (f : Field) (calls : List Call) (end : Held) → old.bad ≡ Some f → Calls old calls end
    → (used_bytes calls ≡ []) × (given calls ≡ []) × (end ≡ old)
stuck old f [] end bad calls = (refl, refl, calls)
stuck old f (call ∷ calls) end bad (premise, fed, more) =
    let again = fed.again f bad in
    let same : call.held ≡ old = again.1 in
    let rest = stuck call.held f calls end (ap (λ (h : Held). h.bad) same ∙ bad) more in
    let none : take call.step.used call.piece ≡ [] = rw again.0 refl in
    let mute : given_in call.entries call.step.what (data_of call.held) ≡ [] = rw again.0 refl in
    (ap (λ (l : List ℕ). l ++ used_bytes calls) none ∙ rest.0, ap (λ (l : List Given). l ++ given calls) mute ∙ rest.1, rest.2 ∙ same)

-- the calls from here on
abbrev Streams : Held → List Outstanding → List Call → Held → Type 0
Streams old entries calls end =
    InTurn old.phase (given calls) (kept old ++ used_bytes calls) (kept end) × (end.bad ≡ None → NoneWhole end.phase (last_entries entries calls) (kept end))
    × (end.phase ≡ phase_behind old.phase (given calls))

rows : (old : Held) (entries : List Outstanding) (calls : List Call) (end : Held) → Calls old calls end → old.bad ≡ None → NoneWhole old.phase entries (kept old)
    → Streams old entries calls end
rows old entries [] end calls good none =
    (append-nil (kept old) ∙ ap kept (sym calls), λ fine. subst (λ (h : Held). NoneWhole h.phase entries (kept h)) (sym calls) none, ap (λ (h : Held). h.phase) calls)
rows old entries (call ∷ calls) end (premise, fed, more) good none =
    by_bad (step old.phase call.entries (kept old) call.piece call.step.used call.step.what call.held (fed.fresh good (premise good)))
    (λ fine none_now. rows call.held call.entries calls end more fine none_now) call.held.bad refl
  where
    bit : List ℕ
    bit = take call.step.used call.piece

    first : List Given
    first = given_in call.entries call.step.what (data_of call.held)

    together : Stepped old.phase call.entries (kept old ++ bit) first call.held → InTurn call.held.phase (given calls) (kept call.held ++ used_bytes calls) (kept end)
        → InTurn old.phase (first ++ given calls) (kept old ++ (bit ++ used_bytes calls)) (kept end)
    together now rest =
        subst (λ (l : List ℕ). InTurn old.phase (first ++ given calls) l (kept end)) (append_assoc (kept old) bit (used_bytes calls))
        (join old.phase first (given calls) (kept old ++ bit) (used_bytes calls) (kept call.held) (kept end) now.turn
        (subst (λ (p : DownPhase). InTurn p (given calls) (kept call.held ++ used_bytes calls) (kept end)) now.leads rest))

    leads : Stepped old.phase call.entries (kept old ++ bit) first call.held → end.phase ≡ phase_behind call.held.phase (given calls)
        → end.phase ≡ phase_behind old.phase (first ++ given calls)
    leads now e = e ∙ (ap (λ (p : DownPhase). phase_behind p (given calls)) now.leads ∙ sym (phase_join old.phase first (given calls)))

    by_bad : Stepped old.phase call.entries (kept old ++ bit) first call.held
        → (call.held.bad ≡ None → NoneWhole call.held.phase call.entries (kept call.held) → Streams call.held call.entries calls end)
        → (b : Option Field) → call.held.bad ≡ b → Streams old entries (call ∷ calls) end
    by_bad now go None fine = (together now (go fine (now.none fine)).0, (go fine (now.none fine)).1, leads now (go fine (now.none fine)).2)
    by_bad now go (Some f) refused =
        let over = stuck call.held f calls end refused more in
        let none_more : InTurn call.held.phase (given calls) (kept call.held ++ used_bytes calls) (kept end) =
        subst (λ (ms : List Given). InTurn call.held.phase ms (kept call.held ++ used_bytes calls) (kept end)) (sym over.1)
        (subst (λ (l : List ℕ). kept call.held ++ l ≡ kept end) (sym over.0) (append-nil (kept call.held) ∙ ap kept (sym over.2))) in
        let phase_now : end.phase ≡ phase_behind call.held.phase (given calls) =
        ap (λ (h : Held). h.phase) over.2 ∙ ap (λ (ms : List Given). phase_behind call.held.phase ms) (sym over.1) in
        (together now none_more, λ fine. absurd (clash (sym refused ∙ (ap (λ (h : Held). h.bad) (sym over.2) ∙ fine))), leads now phase_now)
      where
        clash : Some f ≡ None → ⊥
        clash e = cc

pub stream : (phase : DownPhase) (entries : List Outstanding) (calls : List Call) (end : Held) → Calls (begun phase) calls end
    → InTurn phase (given calls) (used_bytes calls) (kept end) × (end.bad ≡ None → NoneWhole end.phase (last_entries entries calls) (kept end))
    × (end.phase ≡ phase_behind phase (given calls))
stream phase entries calls end run = rows (begun phase) entries calls end run refl (no_message phase entries)
