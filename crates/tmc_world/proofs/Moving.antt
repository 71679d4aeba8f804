-- a link whose node moved on, and which tells it
use Rattle.std.proofs.Common.{◌≡◌, ◌∙◌, ℕ, Bool, true, false, List, [], ◌∷◌, ◌++◌, take, Result, Ok, Err, OnErr, is_err, refl, sym, ap, subst, append-nil}
use Rattle.tmc_base.specs.declared.memory.Memory.{Memory}
use Rattle.tmc_base.specs.declared.run_step.RunStep.{RunStep}
use Rattle.tmc_base.specs.Link.{Counts}
use Rattle.tmc_law.specs.declared.dev_event.DevEvent.{DevEvent}
use Rattle.tmc_law.specs.Run.{IsFront}
use Rattle.tmc_device.specs.Seen.{is_closed}
use Rattle.usbip_export.specs.Seen.{standing}
use Rattle.usbip_export.specs.Events.{Drives}
use Rattle.usbip_export.specs.Serving.{Works}
use Rattle.usbip_export.specs.Steps.{steps_of}
use Rattle.tmc_world.specs.declared.pace.Pace.{Pace}
use Rattle.tmc_world.specs.Calm.{IsQuiet}
use Rattle.tmc_world.specs.Crossing.{Crossing, uncrossed, IsSound, HasFed, Hears}
use Rattle.tmc_world.specs.Telling.{told_on, told_of, IsTelling}
use Rattle.tmc_world.specs.LoopLink.{Looped}
use Rattle.tmc_world.proofs.Quiet.{acts_still, arrivals_still, calm_last, drives_by}
use Rattle.tmc_world.proofs.Following.{told_last, front_on, begins, follows_on, tells_acting, tells_on, tells_taken, taken_from}

pub on_ok_err : (result : Result (Unit {0}) Memory) (P : Type 0) → OnErr result P → is_err result ≡ true → P
on_ok_err (Ok u) P told is = cc
on_ok_err (Err e) P told is = told

pub telling_begun : (acts : List DevEvent) (moments : List Crossing) (now : Crossing) → moments ≡ [] → now ≡ uncrossed → IsTelling acts (told_of [] moments) now
telling_begun acts moments now none is =
    subst (λ (cs : List Crossing). IsTelling acts (told_of [] cs) now) (sym none) (subst (λ (c : Crossing). IsTelling acts [] c) (sym is) (begins acts))

pub telling_same : (acts : List DevEvent) (run : List RunStep) (old new : Crossing) → IsTelling acts run old → new ≡ old → IsTelling acts run new
telling_same acts run old new telling is = subst (λ (c : Crossing). IsTelling acts run c) (sym is) telling

tells_moment : (acts : List DevEvent) (moments after : List Crossing) (now : Crossing) → after ≡ moments ++ now ∷ []
    → IsTelling acts (told_on (told_of [] moments) now) now → IsTelling acts (told_of [] after) now
tells_moment acts moments after now is telling =
    subst (λ (cs : List Crossing). IsTelling acts (told_of [] cs) now) (sym is)
    (subst (λ (r : List RunStep). IsTelling acts r now) (sym (told_last [] moments now)) telling)

pub front_told : (moments after : List Crossing) (now : Crossing) → after ≡ moments ++ now ∷ [] → IsFront (told_of [] moments) (told_of [] after)
front_told moments after now is =
    subst (λ (cs : List Crossing). IsFront (told_of [] moments) (told_of [] cs)) (sym is)
    (subst (λ (r : List RunStep). IsFront (told_of [] moments) r) (sym (told_last [] moments now)) (front_on (told_of [] moments) now))

-- the node alone
abbrev pub IsNodes : Crossing → Crossing → Type 0
IsNodes old new = new ≡ record old { node = new.node; late = new.late }

pub telling_on : (acts : List DevEvent) (moments after : List Crossing) (old new : Crossing) → IsTelling acts (told_of [] moments) old
    → after ≡ moments ++ new ∷ [] → IsSound new → (works : Works [] [] old.node new.node) → IsQuiet acts (steps_of works.taken) → IsNodes old new
    → IsTelling acts (told_of [] after) new
telling_on acts moments after old new telling is sound works quiet nodes =
    tells_moment acts moments after new is (tells_on acts (told_of [] moments) new sound
    (follows_on acts (told_of [] moments) old new [] telling.follows telling.sound.imported works quiet
    (ap (λ (c : Crossing). take c.fed c.sent) nodes ∙ sym (append-nil (take old.fed old.sent))) (ap (λ (c : Crossing). c.taken) nodes)))

-- the node was sent bytes
pub telling_sent : (acts : List DevEvent) (moments after : List Crossing) (bytes : List ℕ) (old new : Crossing) → IsTelling acts (told_of [] moments) old
    → after ≡ moments ++ new ∷ [] → IsSound new → Hears bytes old.node new.node new.late → HasFed bytes old new → new.taken ≡ old.taken
    → IsTelling acts (told_of [] after) new
telling_sent acts moments after bytes old new telling is sound hears fed taken = by (is_closed (standing old.node).presence) refl where
  by : (shut : Bool) → is_closed (standing old.node).presence ≡ shut → IsTelling acts (told_of [] after) new
  by true shut =
      let works = hears.shut shut in
      tells_moment acts moments after new is (tells_on acts (told_of [] moments) new sound
      (follows_on acts (told_of [] moments) old new [] telling.follows telling.sound.imported works.works (λ _. arrivals_still _ works.only)
      (fed.shut shut ∙ sym (append-nil (take old.fed old.sent))) taken))
  by false shut =
      let works = hears.opened shut in
      tells_moment acts moments after new is (tells_on acts (told_of [] moments) new sound
      (follows_on acts (told_of [] moments) old new bytes telling.follows telling.sound.imported works.works (λ _. arrivals_still _ works.only) (fed.opened shut) taken))

pub telling_taken : (acts : List DevEvent) (run : List RunStep) (old new : Crossing) (count : ℕ) → old.late ≡ false → IsTelling acts run old
    → new ≡ taken_from old count → IsTelling acts run new
telling_taken acts run old new count unlate telling is = telling_same acts run (taken_from old count) new (tells_taken acts run old count unlate telling) is

-- the instrument made a step by an act
pub telling_acted : (acts later : List DevEvent) (does : DevEvent) (moments after : List Crossing) (old new : Crossing) → IsTelling acts (told_of [] moments) old
    → later ≡ acts ++ does ∷ [] → after ≡ moments ++ new ∷ [] → IsSound new → Drives does old.node new.node → IsNodes old new → IsTelling later (told_of [] after) new
telling_acted acts later does moments after old new telling more is sound drives nodes =
    let works = drives_by does old.node new.node telling.sound.imported drives in
    subst (λ (made : List DevEvent). IsTelling made (told_of [] after) new) (sym more)
    (telling_on (acts ++ does ∷ []) moments after old new (tells_acting acts (does ∷ []) (told_of [] moments) old telling) is sound works.works
    (λ calm. acts_still does (calm_last acts does calm) _ works.only) nodes)

-- ---- a link by its parts

abbrev pub shown : Pace → (send_fails poll_fails wants : Bool) → Counts → (acts : List DevEvent) → List RunStep → Crossing → Looped
shown pace send_fails poll_fails wants counts acts run now = record {
  pace = pace;
  send_fails = send_fails;
  poll_fails = poll_fails;
  wants = wants;
  node = now.node;
  sent = now.sent;
  taken = now.taken;
  acts = acts;
  run = run;
  late = now.late;
  counts = counts;
}

pub shown_moved : (pace : Pace) (send_fails poll_fails wants : Bool) (counts : Counts) (acts later : List DevEvent) (run more : List RunStep) (old new : Crossing)
    → IsNodes old new
    → shown pace send_fails poll_fails wants counts later more new
    ≡ record (shown pace send_fails poll_fails wants counts acts run old) { node = new.node; acts = later; run = more; late = new.late }
shown_moved pace send_fails poll_fails wants counts acts later run more old new nodes =
    ap (λ (l : List ℕ). shown pace send_fails poll_fails wants counts later more (record new { sent = l })) (ap (λ (c : Crossing). c.sent) nodes)
    ∙ ap (λ (l : List ℕ). shown pace send_fails poll_fails wants counts later more (record new { sent = old.sent; taken = l })) (ap (λ (c : Crossing). c.taken) nodes)

pub shown_sent : (pace shut : Pace) (send_fails poll_fails wants : Bool) (counts : Counts) (acts : List DevEvent) (run more : List RunStep) (bytes : List ℕ) (old new : Crossing)
    → new.sent ≡ old.sent ++ bytes → new.taken ≡ old.taken
    → shown shut send_fails poll_fails wants counts acts more new
    ≡ record (shown pace send_fails poll_fails wants counts acts run old) { pace = shut; sent = old.sent ++ bytes; node = new.node; run = more; late = new.late }
shown_sent pace shut send_fails poll_fails wants counts acts run more bytes old new sent taken =
    ap (λ (l : List ℕ). shown shut send_fails poll_fails wants counts acts more (record new { sent = l })) sent
    ∙ ap (λ (l : List ℕ). shown shut send_fails poll_fails wants counts acts more (record new { sent = old.sent ++ bytes; taken = l })) taken
