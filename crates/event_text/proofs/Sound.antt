-- a reading is sound when it begins, and behind each call of its reader
use Rattle.std.proofs.Common.{◌≡◌, ℕ, false, Option, Some, None, List, [], length, sym, ap, subst, ◌∙◌}
use Rattle.tmc_base.specs.declared.field.Field.{Field}
use Rattle.usbip_wire.specs.declared.dirs.Outstanding.{Outstanding}
use Rattle.usbip_wire.specs.DownFed as down_fed
use Rattle.usbip_wire.specs.UpFed as up_fed
use Rattle.event_text.specs.declared.way.Way.{Way}
use Rattle.event_text.specs.declared.reading.Reader.{Reader}
use Rattle.event_text.specs.declared.reading.Reader.TheVariants.{Client, Device}
use Rattle.event_text.specs.declared.reading.Step.{Step}
use Rattle.event_text.specs.declared.reading.Step.TheVariants.{Message, More, Bad}
use Rattle.event_text.specs.declared.script.Phase.{Phase}
use Rattle.event_text.specs.Read.{standing_of, IsSound, IsSettled, IsMarked, IsOurReader, Stepped, kept_by, is_bad}
use Rattle.event_text.specs.Shown.{Standing, Stops, begun, taken}
use Rattle.event_text.proofs.Long.{no_message, no_bad}

some_none : {A : Type 0} (x : A) → Some x ≡ None → ⊥
some_none {A} x e = cc

pub begun_sound : (reader : Reader) (entries : List Outstanding) (way : Way) (phase : Phase) → entries ≡ [] → standing_of reader [] ≡ begun way phase → IsOurReader reader
    → IsSound reader entries false
begun_sound reader entries way phase none is ours =
    let st : standing_of reader entries ≡ begun way phase = ap (standing_of reader) none ∙ is in
    let empty : Stops (begun way phase) None = (no_message (begun way phase).reading [], no_bad (begun way phase).reading []) in (
      ap (λ (s : Standing). s.bad) st,
      ours,
      λ good. subst (λ s. Stops s None) (sym st) empty,
    )

pub settled_after : (old : Standing) (piece : List ℕ) (step : Step) (text : List ℕ) (new : Standing) → Stepped old piece step text new → IsSettled new
settled_after old piece (Message used) text new (some, within, (what, spelled, printed, is)) =
    let new_is = taken old what [] in
    let empty : Stops (taken old what []) None = (no_message new_is.reading new_is.entries, no_bad new_is.reading new_is.entries) in
    λ good. subst (λ s. Stops s None) (sym is) empty
settled_after old piece More text new (stops, printed, is) = λ good. subst (λ s. Stops s None) (sym is) stops
settled_after old piece Bad text new (f, stops, printed, is) = λ good. absurd (some_none f (sym (ap (λ (s : Standing). s.bad) is) ∙ good))

pub marked_after : (old : Standing) (piece : List ℕ) (step : Step) (text : List ℕ) (new : Standing) → old.bad ≡ None → Stepped old piece step text new → IsMarked (is_bad step) new
marked_after old piece (Message used) text new good (some, within, (what, spelled, printed, is)) = ap (λ (s : Standing). s.bad) is ∙ good
marked_after old piece More text new good (stops, printed, is) = ap (λ (s : Standing). s.bad) is ∙ good
marked_after old piece Bad text new good (f, stops, printed, is) = λ none. some_none f (sym (ap (λ (s : Standing). s.bad) is) ∙ none)

-- ---- what a reader keeps is the rest, where no field was refused

kept_good : (bad : Option Field) (rest : List ℕ) (count : ℕ) → count ≡ length rest → bad ≡ None → count ≡ length (kept_by bad rest)
kept_good None rest count e good = e
kept_good (Some f) rest count e good = absurd (some_none f good)

pub client_kept : (reader : Reader) (held : up_fed.Held) (count : ℕ) → reader ≡ Client held → count ≡ length (up_fed.kept held)
    → (entries : List Outstanding) → (standing_of reader entries).bad ≡ None → count ≡ length (standing_of reader entries).rest
client_kept reader held count is e entries =
    subst (λ r. (standing_of r entries).bad ≡ None → count ≡ length (standing_of r entries).rest) (sym is) (kept_good held.bad (up_fed.kept held) count e)

pub device_kept : (reader : Reader) (held : down_fed.Held) (count : ℕ) → reader ≡ Device held → count ≡ length (down_fed.kept held)
    → (entries : List Outstanding) → (standing_of reader entries).bad ≡ None → count ≡ length (standing_of reader entries).rest
device_kept reader held count is e entries =
    subst (λ r. (standing_of r entries).bad ≡ None → count ≡ length (standing_of r entries).rest) (sym is) (kept_good held.bad (down_fed.kept held) count e)
