-- a node that is fed
use Rattle.std.proofs.Common.{◌≡◌, ◌≢◌, ◌∙◌, ◌⊎◌, inl, inr, ℕ, Bool, true, false, if◌then◌else◌, List, [], ◌++◌, length, take, Option, Some, Result, Ok, Err, OnOk, is_err, is_ok, refl, sym, ap, subst, arith}
use Rattle.std.proofs.lemmas.List.{length-append, take-append-le, take_all}
use Rattle.tmc_base.specs.declared.field.Field.{Field}
use Rattle.tmc_base.specs.declared.memory.Memory.{Memory}
use Rattle.tmc_law.specs.declared.dev_event.DevEvent.{DevEvent}
use Rattle.tmc_device.specs.Seen.{is_closed}
use Rattle.usbip_export.specs.declared.fed.Fed.{Fed}
use Rattle.usbip_export.specs.declared.fed.Fed.TheVariants as fed
use Rattle.usbip_export.specs.Seen.{Seen, standing, closed_by, IsCaughtUp}
use Rattle.usbip_export.specs.Serving.{Works, WorksBy}
use Rattle.usbip_export.specs.Steps.{AreArrivals}
use Rattle.usbip_export.specs.Events.{Drives}
use Rattle.tmc_world.specs.Crossing.{Crossing, IsOpen, IsShut, IsSound, HasFed, Hears}
use Rattle.tmc_world.proofs.Joining.{works_imported, stays_shut, was_open}
use Rattle.tmc_world.proofs.Quiet.{arrivals_on}

pub open_shut : (node : Seen) → IsOpen node → IsShut node → ⊥
open_shut node opened shut = clash (sym shut ∙ opened) where
  clash : true ≡ false → ⊥
  clash e = cc

pub refused_shut : (node : Seen) (f : Field) → node.refused ≡ Some f → IsShut node
refused_shut node f is = ap (λ (r : Option Field). is_closed (closed_by r node.state).presence) is

-- a node takes a piece, or refuses a field of it
abbrev pub HasTaken : Fed → Type 0
HasTaken result = (result ≡ fed.Ok) ⊎ ((f : Field) × (result ≡ fed.Refused f))

pub not_memory : (result : Fed) → HasTaken result → result ≢ fed.Memory
not_memory result (inl is) e = no (sym is ∙ e) where
  no : fed.Ok ≡ fed.Memory → ⊥
  no e = cc
not_memory result (inr (f, is)) e = no (sym is ∙ e) where
  no : fed.Refused f ≡ fed.Memory → ⊥
  no e = cc

-- one that is open refused none
pub took_it : (result : Fed) (node : Seen) → HasTaken result → ((f : Field) → result ≡ fed.Refused f → node.refused ≡ Some f) → IsOpen node → result ≡ fed.Ok
took_it result node (inl is) refused opened = is
took_it result node (inr (f, is)) refused opened = absurd (open_shut node opened (refused_shut node f (refused f is)))

-- ---- a line that is sound stays so

pub on_ok : (result : Result (Unit {0}) Memory) (P : Type 0) → OnOk result P → is_err result ≡ false → P
on_ok (Ok u) P told is = told
on_ok (Err e) P told is = cc

pub where_ok : (result : Result (Unit {0}) Memory) (P : Type 0) → OnOk result P → is_ok result ≡ true → P
where_ok (Ok u) P told is = told
where_ok (Err e) P told is = cc

pub sound_on : (old new : Crossing) → IsSound old → Works [] [] old.node new.node → new.sent ≡ old.sent → new.fed ≡ old.fed
    → (new.late ≡ false → new.node.puts ≡ []) → IsSound new
sound_on old new sound works sent fed spelled = record {
  imported = works_imported [] [] old.node new.node sound.imported works;
  within = let within = sound.within in omega (arith, within, fed, ap (λ (l : List ℕ). length l) sent);
  opened = λ opened.
      fed ∙ (sound.opened (was_open [] [] old.node new.node sound.imported works opened) ∙ ap (λ (l : List ℕ). length l) (sym sent));
  spelled = spelled;
}

-- the node was fed these bytes, or none
pub hears_on : (bytes : List ℕ) (old mid new : Seen) (late spelled : Bool) → old.imported ≡ true → (IsOpen old → WorksBy AreArrivals bytes [] old mid)
    → (IsShut old → mid ≡ old) → WorksBy AreArrivals [] [] mid new → (spelled ≡ true → IsOpen new → IsCaughtUp new) → (late ≡ false → spelled ≡ true) → Hears bytes old new late
hears_on bytes old mid new late spelled was works same rest caught is = record {
  opened = λ opened. arrivals_on bytes old mid new was (works opened) rest;
  shut = λ shut. subst (λ (s : Seen). WorksBy AreArrivals [] [] s new) (same shut) rest;
  caught_up = λ unlate opened. caught (is unlate) opened;
}

pub sound_sent : (bytes : List ℕ) (old new : Crossing) (shut : Bool) → IsSound old → Hears bytes old.node new.node new.late → shut ≡ is_closed (standing old.node).presence
    → new.sent ≡ old.sent ++ bytes → new.fed ≡ (if shut then old.fed else length new.sent) → (new.late ≡ false → new.node.puts ≡ []) → IsSound new
sound_sent bytes old new true sound hears is sent fed spelled =
    let works = (hears.shut (sym is)).works in
    let still = stays_shut [] [] old.node new.node sound.imported works (sym is) in
    record {
      imported = works_imported [] [] old.node new.node sound.imported works;
      within = let within = sound.within in omega (arith, within, fed, ap (λ (l : List ℕ). length l) sent, length-append old.sent bytes);
      opened = λ opened. absurd (open_shut new.node opened still);
      spelled = spelled;
    }
sound_sent bytes old new false sound hears is sent fed spelled = record {
  imported = works_imported bytes [] old.node new.node sound.imported (hears.opened (sym is)).works;
  within = omega (arith, fed);
  opened = λ _. fed;
  spelled = spelled;
}

pub has_fed : (bytes : List ℕ) (old new : Crossing) (shut : Bool) → IsSound old → shut ≡ is_closed (standing old.node).presence
    → new.sent ≡ old.sent ++ bytes → new.fed ≡ (if shut then old.fed else length new.sent) → HasFed bytes old new
has_fed bytes old new true sound is sent fed = record {
  opened = λ opened. absurd (open_shut old.node opened (sym is));
  shut = λ _.
      let within = sound.within in
      ap (λ (n : ℕ). take n new.sent) fed ∙ (ap (λ (l : List ℕ). take old.fed l) sent ∙ take-append-le old.fed old.sent bytes within);
}
has_fed bytes old new false sound is sent fed = record {
  opened = λ opened.
      ap (λ (n : ℕ). take n new.sent) fed
      ∙ (take_all (length new.sent) new.sent (omega arith)
      ∙ (sent ∙ ap (λ (l : List ℕ). l ++ bytes) (sym (ap (λ (n : ℕ). take n old.sent) (sound.opened opened) ∙ take_all (length old.sent) old.sent (omega arith)))));
  shut = λ shut. absurd (open_shut old.node (sym is) shut);
}

-- the instrument made a step
pub sound_driven : (event : DevEvent) (old new : Crossing) → IsSound old → Drives event old.node new.node → new.sent ≡ old.sent → new.fed ≡ old.fed
    → (new.late ≡ false → new.node.puts ≡ []) → IsSound new
sound_driven event old new sound drives sent fed spelled = record {
  imported = drives.imported ∙ sound.imported;
  within = let within = sound.within in omega (arith, within, fed, ap (λ (l : List ℕ). length l) sent);
  opened = λ _. fed ∙ (sound.opened (ap is_closed drives.steps.plugged) ∙ ap (λ (l : List ℕ). length l) (sym sent));
  spelled = spelled;
}
