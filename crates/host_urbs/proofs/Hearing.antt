-- what one more byte makes of an answer
use Rattle.std.proofs.Common.{◌≡◌, ◌⊎◌, inl, inr, ℕ, zero, suc, ◌<◌, ◌≤◌, Bool, true, false, Option, Some, None, List, [], ◌∷◌, ◌++◌, length, take, refl, sym, subst, ◌∙◌, ap, arith, length-append}
use Rattle.std.specs.Prelude.{◌==◌, if◌then◌else◌}
use Rattle.std.proofs.lemmas.Bool.{cases_lt}
use Rattle.std.proofs.lemmas.List.{append-nil, length-take-le, take_all, take-append-le}
use Rattle.tmc_base.specs.declared.field.Field.{Field}
use Rattle.usbip_wire.specs.declared.device.DeviceRecord.{DeviceRecord}
use Rattle.usbip_wire.specs.declared.dirs.Outstanding.{Outstanding}
use Rattle.usbip_wire.specs.declared.dirs.Outstanding.TheVariants as entry
use Rattle.usbip_wire.specs.declared.down.Down.{Down}
use Rattle.usbip_wire.specs.declared.down.Down.TheVariants as down
use Rattle.usbip_wire.specs.declared.down.DownPhase.{DownPhase}
use Rattle.usbip_wire.specs.declared.down.DownPhase.TheVariants.{Ops, Urbs}
use Rattle.usbip_wire.specs.declared.down.DownStep.{DownStep}
use Rattle.usbip_wire.specs.declared.ret_submit.RetSubmitHead.{RetSubmitHead}
use Rattle.usbip_wire.specs.declared.ret_unlink.RetUnlinkHead.{RetUnlinkHead}
use Rattle.usbip_wire.specs.declared.urb.Dir.TheVariants.{Out, In}
use Rattle.usbip_wire.specs.DevList.{SpellsPart, count_bytes}
use Rattle.usbip_wire.specs.Down.{Message, RetSubmit, RetUnlink, SpellsAnswer}
use Rattle.usbip_wire.specs.RetSubmit.{ret_submit_bytes}
use Rattle.usbip_wire.specs.RetUnlink.{ret_unlink_bytes}
use Rattle.usbip_wire.specs.Urb.{fields}
use Rattle.usbip_wire.specs.Dirs.{find, is_unlink}
use Rattle.usbip_wire.specs.DownFed.{Held, Fed, Answers, Means, NoneWhole, BadAt}
use Rattle.usbip_wire.specs.ImportReply.{SpellsImport}
use Rattle.usbip_wire.specs.Op.{op_header}
use Rattle.host_urbs.specs.declared.replies.Import.{Import}
use Rattle.host_urbs.specs.Attach.{Stage, Importing, Describing, Configuring, phase_of, entries_at, Undecided, IsBad, IsList, IsAnswer}
use Rattle.host_urbs.specs.Attaching.{holding, HearsImport, is_imported}
use Rattle.host_urbs.proofs.Attachment.{not_whole}
use Rattle.host_urbs.proofs.Basics.{clash}

pub fed_answers : (phase : DownPhase) (entries : List Outstanding) (bytes : List ℕ) (byte : ℕ) (old : Held) (step : DownStep) (new : Held) (what : Down) → old ≡ holding phase bytes
    → NoneWhole phase entries bytes → Fed old entries (byte ∷ []) step new → step.what ≡ what → Answers phase entries bytes (byte ∷ []) step.used what new
fed_answers phase entries bytes byte old step new what e none fed is =
    let at : Fed (holding phase bytes) entries (byte ∷ []) step new = subst (λ (h : Held). Fed h entries (byte ∷ []) step new) e fed in
    subst (λ (w : Down). Answers phase entries bytes (byte ∷ []) step.used w new) is (at.fresh refl none)

-- a message that is whole ends with the byte
pub used_byte : (phase : DownPhase) (entries : List Outstanding) (bytes : List ℕ) (byte used : ℕ) (what : Down) → NoneWhole phase entries bytes → used ≤ 1
    → Means phase entries what (bytes ++ take used (byte ∷ [])) → take used (byte ∷ []) ≡ byte ∷ []
used_byte phase entries bytes byte zero what none few m = absurd (not_whole phase entries what bytes none (subst (λ (l : List ℕ). Means phase entries what l) (append-nil bytes) m))
used_byte phase entries bytes byte (suc zero) what none few m = refl
used_byte phase entries bytes byte (suc (suc n)) what none few m = absurd (omega (arith, few))

pub whole_with : (phase : DownPhase) (entries : List Outstanding) (bytes : List ℕ) (byte used : ℕ) (what : Down) → NoneWhole phase entries bytes → used ≤ 1
    → Means phase entries what (bytes ++ take used (byte ∷ [])) → Means phase entries what (bytes ++ byte ∷ [])
whole_with phase entries bytes byte used what none few m =
    subst (λ (l : List ℕ). Means phase entries what (bytes ++ l)) (used_byte phase entries bytes byte used what none few m) m

-- ---- an import

pub front_more : (bytes : List ℕ) (byte : ℕ) (front : List ℕ) → front ≡ take 4 bytes → take 4 (front ++ byte ∷ []) ≡ take 4 (bytes ++ byte ∷ [])
front_more bytes byte front e = subst (λ (f : List ℕ). take 4 (f ++ byte ∷ []) ≡ take 4 (bytes ++ byte ∷ [])) (sym e) (step (cases_lt (length bytes) 4))
  where
    step : (length bytes < 4) ⊎ (4 ≤ length bytes) → take 4 (take 4 bytes ++ byte ∷ []) ≡ take 4 (bytes ++ byte ∷ [])
    step (inl h) = ap (λ (l : List ℕ). take 4 (l ++ byte ∷ [])) (take_all 4 bytes (omega (arith, h)))
    step (inr h) =
        take-append-le 4 (take 4 bytes) (byte ∷ []) (omega (arith, length-take-le 4 bytes h))
        ∙ (take_all 4 (take 4 bytes) (omega (arith, length-take-le 4 bytes h)) ∙ sym (take-append-le 4 bytes (byte ∷ []) h))

pub undecided_import : (bytes : List ℕ) → NoneWhole (Ops 0 0) [] bytes → ((f : Field) → BadAt (Ops 0 0) [] bytes f → ⊥) → (IsList bytes → ⊥) → Undecided Importing bytes
undecided_import bytes none good other = record { none_whole = none; none_bad = none_bad }
  where
    none_bad : (f : Field) → IsBad Importing bytes f → ⊥
    none_bad f (inl b) = good f b
    none_bad f (inr l) = other l.0

pub hears_imported : (bytes : List ℕ) (status : ℕ) (device : Option DeviceRecord) (given : Import) (reader : Held) (front : List ℕ) → is_imported status device given
    → SpellsImport status device bytes → HearsImport bytes given reader front
hears_imported bytes status (Some device) given reader front e s =
    let zero_status : SpellsImport 0 (Some device) bytes = subst (λ (n : ℕ). SpellsImport n (Some device) bytes) s.imported.0 s in
    subst (λ (i : Import). HearsImport bytes i reader front) (sym e) zero_status
hears_imported bytes status None given reader front e s = subst (λ (i : Import). HearsImport bytes i reader front) (sym e) s

below_none : {P : Type 0} → 0 < 0 → P
below_none h = absurd (omega (arith, h))

list_begins : (status number : ℕ) (bytes : List ℕ) → bytes ≡ count_bytes status number → IsList bytes
unfolding op_header
list_begins status number bytes e = ap (λ (l : List ℕ). take 4 l) e

-- what is no import is a device list
pub other_is_list : (bytes : List ℕ) (byte used : ℕ) (what : Down) (new : Held) → (what ≡ down.More → ⊥) → ((status : ℕ) (device : Option DeviceRecord) → what ≡ down.Import status device → ⊥)
    → ((f : Field) → what ≡ down.Bad f → ⊥) → NoneWhole (Ops 0 0) [] bytes → Answers (Ops 0 0) [] bytes (byte ∷ []) used what new → IsList (bytes ++ byte ∷ [])
other_is_list bytes byte used down.More new more import bad none a = absurd (more refl)
other_is_list bytes byte used (down.Import status device) new more import bad none a = absurd (import status device refl)
other_is_list bytes byte used (down.Bad f) new more import bad none a = absurd (bad f refl)
other_is_list bytes byte used (down.Count status number) new more import bad none a =
    let m = whole_with (Ops 0 0) [] bytes byte used (down.Count status number) none a.0 a.1 in
    list_begins status number (bytes ++ byte ∷ []) m.4
other_is_list bytes byte used (down.Device device) new more import bad none a = below_none a.1.0
other_is_list bytes byte used (down.Interface class subclass protocol) new more import bad none a = below_none a.1.0
other_is_list bytes byte used (down.RetSubmit head) new more import bad none a = absurd a.1
other_is_list bytes byte used (down.RetUnlink head) new more import bad none a = absurd a.1

-- ---- an answer

-- the entries are one submit
only_submit : (stage : Stage) (head : RetUnlinkHead) → phase_of stage ≡ Urbs → is_unlink (find head.seqnum (entries_at stage)) ≡ true → ⊥
only_submit Importing head e h = clash h
only_submit (Describing devid) head e h = step (1 == head.seqnum) h
  where
    step : (b : Bool) → is_unlink (if b then Some (entry.Submit 1 In 4096) else None) ≡ true → ⊥
    step true i = clash i
    step false i = clash i
only_submit (Configuring devid ends) head e h = step (2 == head.seqnum) h
  where
    step : (b : Bool) → is_unlink (if b then Some (entry.Submit 2 Out 0) else None) ≡ true → ⊥
    step true i = clash i
    step false i = clash i

bad_answer : (stage : Stage) (bytes : List ℕ) (f : Field) → phase_of stage ≡ Urbs → BadAt Urbs (entries_at stage) bytes f → IsBad stage bytes f
bad_answer Importing bytes f e b = absurd (apart e)
  where
    apart : Ops 0 0 ≡ Urbs → ⊥
    apart h = cc
bad_answer (Describing devid) bytes f e b = b
bad_answer (Configuring devid ends) bytes f e b = b

good_answer : (stage : Stage) (bytes : List ℕ) (f : Field) → phase_of stage ≡ Urbs → IsBad stage bytes f → BadAt Urbs (entries_at stage) bytes f
good_answer Importing bytes f e b = absurd (apart e)
  where
    apart : Ops 0 0 ≡ Urbs → ⊥
    apart h = cc
good_answer (Describing devid) bytes f e b = b
good_answer (Configuring devid ends) bytes f e b = b

module _ (stage : Stage) (bytes : List ℕ) (byte used : ℕ) (new : Held) (e : phase_of stage ≡ Urbs) (none : NoneWhole Urbs (entries_at stage) bytes) where
  pub hears_whole : (head : RetSubmitHead) → Answers Urbs (entries_at stage) bytes (byte ∷ []) used (down.RetSubmit head) new
      → IsAnswer stage head (bytes ++ byte ∷ []) × (new ≡ record { phase = Urbs; rest = bytes ++ byte ∷ []; whole = true; bad = None })
  hears_whole head a = (
    subst (λ (p : DownPhase). Means p (entries_at stage) (down.RetSubmit head) (bytes ++ byte ∷ [])) (sym e) (whole_with Urbs (entries_at stage) bytes byte used (down.RetSubmit head) none a.0 a.1),
    a.3 ∙ ap (λ (l : List ℕ). record { phase = Urbs; rest = bytes ++ l; whole = true; bad = None }) (used_byte Urbs (entries_at stage) bytes byte used (down.RetSubmit head) none a.0 a.1),
  )

  pub hears_bad : (f : Field) → Answers Urbs (entries_at stage) bytes (byte ∷ []) used (down.Bad f) new → IsBad stage (bytes ++ byte ∷ []) f
  hears_bad f a = bad_answer stage (bytes ++ byte ∷ []) f e a.2

  hears_open : Answers Urbs (entries_at stage) bytes (byte ∷ []) used down.More new → Undecided stage (bytes ++ byte ∷ []) × (new ≡ holding Urbs (bytes ++ byte ∷ []))
  hears_open a = (
    record {
      none_whole = subst (λ (p : DownPhase). NoneWhole p (entries_at stage) (bytes ++ byte ∷ [])) (sym e) a.1;
      none_bad = λ f b. a.2 f (good_answer stage (bytes ++ byte ∷ []) f e b);
    },
    a.3,
  )

  pub hears_more : (what : Down) → ((head : RetSubmitHead) → what ≡ down.RetSubmit head → ⊥) → ((f : Field) → what ≡ down.Bad f → ⊥)
      → Answers Urbs (entries_at stage) bytes (byte ∷ []) used what new → Undecided stage (bytes ++ byte ∷ []) × (new ≡ holding Urbs (bytes ++ byte ∷ []))
  hears_more down.More whole bad a = hears_open a
  hears_more (down.RetSubmit head) whole bad a = absurd (whole head refl)
  hears_more (down.Bad f) whole bad a = absurd (bad f refl)
  hears_more (down.RetUnlink head) whole bad a = absurd (only_submit stage head e a.1.0)
  hears_more (down.Count status number) whole bad a = absurd a.1
  hears_more (down.Device device) whole bad a = absurd a.1
  hears_more (down.Interface class subclass protocol) whole bad a = absurd a.1
  hears_more (down.Import status device) whole bad a = absurd a.1

-- ---- before the first byte

part_some : (what : Down) (bytes : List ℕ) → SpellsPart 0 0 what bytes → 0 < length bytes
unfolding op_header
part_some (down.Count status number) bytes s = omega (arith, ap (λ (l : List ℕ). length l) s.4)
part_some (down.Device device) bytes s = below_none s.0
part_some (down.Interface class subclass protocol) bytes s = below_none s.0
part_some (down.Import status (Some device)) bytes s = omega (arith, ap (λ (l : List ℕ). length l) s.2.layout)
part_some (down.Import status None) bytes s = omega (arith, ap (λ (l : List ℕ). length l) s.2.layout)
part_some (down.RetSubmit head) bytes s = absurd s
part_some (down.RetUnlink head) bytes s = absurd s
part_some down.More bytes s = absurd s
part_some (down.Bad f) bytes s = absurd s

answer_some : (entries : List Outstanding) (m : Message) (bytes : List ℕ) → SpellsAnswer entries m bytes → 0 < length bytes
unfolding ret_submit_bytes ret_unlink_bytes fields
answer_some entries (RetSubmit head transferred) bytes s = omega (arith, ap (λ (l : List ℕ). length l) s.2.layout)
answer_some entries (RetUnlink head) bytes s = omega (arith, ap (λ (l : List ℕ). length l) s.1.layout)

none_in_none : (front tail : List ℕ) → 0 < length front → [] ≡ front ++ tail → ⊥
none_in_none front tail some e = omega (arith, some, ap (λ (l : List ℕ). length l) e, length-append front tail)

no_cons : (x : ℕ) (xs : List ℕ) → [] ≡ x ∷ xs → ⊥
no_cons x xs e = cc

pub undecided_start : (stage : Stage) → Undecided stage []
undecided_start Importing = undecided_import [] (λ m front tail s e. none_in_none front tail (part_some m front s) e) (λ f b. no_cons _ _ b.3) (λ l. no_cons _ _ l)
undecided_start (Describing devid) = record {
  none_whole = λ m front tail s e. none_in_none front tail (answer_some (entries_at (Describing devid)) m front s) e;
  none_bad = λ f b. no_cons _ _ b.3;
}
undecided_start (Configuring devid ends) = record {
  none_whole = λ m front tail s e. none_in_none front tail (answer_some (entries_at (Configuring devid ends)) m front s) e;
  none_bad = λ f b. no_cons _ _ b.3;
}
