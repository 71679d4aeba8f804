-- which steps an instrument makes, and that calm ones disturb nothing
use Rattle.std.proofs.Common.{◌≡◌, ◌≢◌, ◌∙◌, ℕ, true, false, List, [], ◌∷◌, ◌++◌, refl, sym, ap, subst, append-nil}
use Rattle.tmc_law.specs.declared.dev_event.DevEvent.{DevEvent}
use Rattle.tmc_law.specs.declared.dev_event.DevEvent.TheVariants as event
use Rattle.tmc_law.specs.Endpoint.{Endpoint}
use Rattle.tmc_law.specs.State.{State}
use Rattle.tmc_law.specs.Put.{Put}
use Rattle.tmc_law.specs.Step as step
use Rattle.tmc_law.specs.Step.{Move}
use Rattle.tmc_law.specs.Run.{Entry, Runs, TakesIn}
use Rattle.tmc_device.specs.Events.{Allows}
use Rattle.tmc_device.specs.Seen.{is_closed}
use Rattle.host_joint.specs.Tie.{IsUndisturbed}
use Rattle.usbip_export.specs.Identity.{devid}
use Rattle.usbip_export.specs.Seen.{Seen, standing}
use Rattle.usbip_export.specs.TakenIn.{IsSpelled, TakenIn, Asked, Failed, Imported, Served, Moves}
use Rattle.usbip_export.specs.Steps.{AllSteps, AreArrivals, AreCalmSteps, AreCalming, IsArrival, IsCalmStep, MovesBy, steps_of}
use Rattle.usbip_export.specs.Serving.{Works, WorksBy}
use Rattle.usbip_export.specs.Events.{Drives, IsCalmMove}
use Rattle.tmc_world.specs.Calm.{AreCalmActs, IsCalmAct}
use Rattle.tmc_world.specs.Crossing.{IsShut}
use Rattle.tmc_world.proofs.Joining.{no_works, serves_more, serves_of, works_then}

-- ---- a call's steps are those of its run

pub steps_serves : (took answered : List ℕ) (old new : Seen) (was : old.imported ≡ true) (t : TakenIn took answered old new)
    → steps_of t ≡ (serves_of took answered old new was t).run
unfolding serves_of
steps_serves took answered old new was (Served is still serves) = refl
steps_serves took answered old new was (Asked rs is still same row none says untouched) = absurd (clash (sym was ∙ is)) where
  clash : true ≡ false → ⊥
  clash e = cc
steps_serves took answered old new was (Failed rs front rest f is still good bad cut row none field says untouched) = absurd (clash (sym was ∙ is)) where
  clash : true ≡ false → ⊥
  clash e = cc
steps_serves took answered old new was (Imported rs front request rest behind is still cut row none asks begins says serves) = absurd (clash (sym was ∙ is)) where
  clash : true ≡ false → ⊥
  clash e = cc

-- ---- arrivals

all_more : (Is : Move → Type 0) (a b : List Entry) → AllSteps Is a → AllSteps Is b → AllSteps Is (a ++ b)
all_more Is [] b none more = more
all_more Is (entry ∷ a) b all more = (all.0, all_more Is a b all.1 more)

arrivals_then : (a b x y : List ℕ) (old mid new : Seen) → old.imported ≡ true → WorksBy AreArrivals a x old mid → WorksBy AreArrivals b y mid new
    → WorksBy AreArrivals (a ++ b) (x ++ y) old new
unfolding works_then serves_more
arrivals_then a b x y old mid new was first second = record {
  works = works_then a b x y old mid new was first.works second.works;
  only = all_more IsArrival _ _ (subst AreArrivals (steps_serves _ _ old mid was first.works.taken) first.only)
      (subst AreArrivals (steps_serves _ _ mid new _ second.works.taken) second.only);
}

pub arrivals_on : (a : List ℕ) (old mid new : Seen) → old.imported ≡ true → WorksBy AreArrivals a [] old mid → WorksBy AreArrivals [] [] mid new
    → WorksBy AreArrivals a [] old new
arrivals_on a old mid new was first second =
    subst (λ (l : List ℕ). WorksBy AreArrivals l [] old new) (append-nil a) (arrivals_then a [] [] [] old mid new was first second)

pub no_arrivals : (old : Seen) → old.imported ≡ true → WorksBy AreArrivals [] [] old old
unfolding no_works
no_arrivals old was = record { works = no_works old was; only = tt }

pub same_arrivals : (old new : Seen) → old.imported ≡ true → new ≡ old → WorksBy AreArrivals [] [] old new
same_arrivals old new was is = subst (λ (s : Seen). WorksBy AreArrivals [] [] old s) (sym is) (no_arrivals old was)

-- ---- moves of a node

moved_works : (old new : Seen) → Moves old new → Works [] [] old new
moved_works old new moves = record {
  took = moves.took;
  answered = moves.answered;
  kept = append-nil old.kept ∙ moves.kept;
  taken = moves.taken;
  out = sym moves.out;
}

pub moved_by : (Only : List Entry → Type 0) (old new : Seen) → MovesBy Only old new → WorksBy Only [] [] old new
unfolding moved_works
moved_by Only old new moves = record { works = moved_works old new moves.moves; only = moves.only }

none_closed : (run : List Entry) (s t : State) → is_closed s.presence ≡ true → Runs s run t → run ≡ []
none_closed [] s t shut goes = refl
none_closed (entry ∷ run) s t shut goes = absurd (clash (sym shut ∙ ap is_closed goes.1.plugged)) where
  clash : true ≡ false → ⊥
  clash e = cc

-- a closed one makes no step
pub closed_arrivals : (old new : Seen) → old.imported ≡ true → IsShut old → Moves old new → WorksBy AreArrivals [] [] old new
unfolding moved_works
closed_arrivals old new was shut moves =
    let serves = serves_of moves.took moves.answered old new was moves.taken in
    let none = steps_serves moves.took moves.answered old new was moves.taken ∙ none_closed serves.run (standing old) (standing new) shut serves.goes in
    record { works = moved_works old new moves; only = subst AreArrivals (sym none) tt }

-- ---- an act

nothing_comes : (does : DevEvent) (move : Move) → Allows does move → TakesIn devid move []
nothing_comes event.Exec (step.Comes message) allowed = absurd allowed
nothing_comes event.Answer (step.Comes message) allowed = absurd allowed
nothing_comes event.Pending (step.Comes message) allowed = absurd allowed
nothing_comes event.Poll (step.Comes message) allowed = absurd allowed
nothing_comes event.Notify (step.Comes message) allowed = absurd allowed
nothing_comes event.Unplug (step.Comes message) allowed = absurd allowed
nothing_comes (event.Take most) (step.Comes message) allowed = absurd allowed
nothing_comes (event.Begin most) (step.Comes message) allowed = absurd allowed
nothing_comes (event.Fill most) (step.Comes message) allowed = absurd allowed
nothing_comes (event.Halt ep) (step.Comes message) allowed = absurd allowed
nothing_comes event.Exec (step.Refuses number bytes f) allowed = absurd allowed
nothing_comes event.Answer (step.Refuses number bytes f) allowed = absurd allowed
nothing_comes event.Pending (step.Refuses number bytes f) allowed = absurd allowed
nothing_comes event.Poll (step.Refuses number bytes f) allowed = absurd allowed
nothing_comes event.Notify (step.Refuses number bytes f) allowed = absurd allowed
nothing_comes event.Unplug (step.Refuses number bytes f) allowed = absurd allowed
nothing_comes (event.Take most) (step.Refuses number bytes f) allowed = absurd allowed
nothing_comes (event.Begin most) (step.Refuses number bytes f) allowed = absurd allowed
nothing_comes (event.Fill most) (step.Refuses number bytes f) allowed = absurd allowed
nothing_comes (event.Halt ep) (step.Refuses number bytes f) allowed = absurd allowed
nothing_comes does (step.Take count) allowed = refl
nothing_comes does step.Exec allowed = refl
nothing_comes does (step.Begin count) allowed = refl
nothing_comes does (step.Fill count) allowed = refl
nothing_comes does step.Answer allowed = refl
nothing_comes does step.Pend allowed = refl
nothing_comes does step.Poll allowed = refl
nothing_comes does step.Notify allowed = refl
nothing_comes does (step.Halt endpoint) allowed = refl
nothing_comes does step.Unplug allowed = refl

-- each step is one that the act allows
abbrev pub AreActs : DevEvent → List Entry → Type 0
AreActs does run = AllSteps (Allows does) run

pub drives_by : (does : DevEvent) (old new : Seen) → old.imported ≡ true → Drives does old new → WorksBy (AreActs does) [] [] old new
drives_by does old new was drives = record {
  works = record {
    took = [];
    answered = drives.answered;
    kept = append-nil old.kept ∙ sym drives.kept;
    taken = Served was (drives.imported ∙ was) (record {
      run = record { move = drives.move; puts = drives.puts } ∷ [];
      goes = (standing new, drives.steps, refl);
      takes = ([], [], refl, nothing_comes does drives.move drives.allowed, refl);
      spelled = subst (λ (ps : List Put). IsSpelled (old.puts ++ ps) drives.answered new.puts) (sym (append-nil drives.puts)) drives.spelled;
    });
    out = sym drives.out;
  };
  only = (drives.allowed, tt);
}

-- ---- what disturbs nothing

abbrev IsStill : Move → Type 0
IsStill move = (move ≢ step.Unplug) × ((endpoint : Endpoint) → move ≢ step.Halt endpoint)

still_all : (run : List Entry) → AllSteps IsStill run → IsUndisturbed run
still_all [] none = tt
still_all (entry ∷ run) all = (all.0.0, all.0.1, still_all run all.1)

pub still_more : (a b : List Entry) → IsUndisturbed a → IsUndisturbed b → IsUndisturbed (a ++ b)
still_more [] b none more = more
still_more (entry ∷ a) b all more = (all.0, all.1, still_more a b all.2 more)

each_as : (Is Other : Move → Type 0) → ((move : Move) → Is move → Other move) → (run : List Entry) → AllSteps Is run → AllSteps Other run
each_as Is Other so [] none = tt
each_as Is Other so (entry ∷ run) all = (so entry.move all.0, each_as Is Other so run all.1)

arrival_still : (move : Move) → IsArrival move → IsStill move
arrival_still (step.Comes message) is = (λ e. cc, λ endpoint e. cc)
arrival_still (step.Refuses number bytes f) is = (λ e. cc, λ endpoint e. cc)
arrival_still (step.Take count) is = absurd is
arrival_still step.Exec is = absurd is
arrival_still (step.Begin count) is = absurd is
arrival_still (step.Fill count) is = absurd is
arrival_still step.Answer is = absurd is
arrival_still step.Pend is = absurd is
arrival_still step.Poll is = absurd is
arrival_still step.Notify is = absurd is
arrival_still (step.Halt endpoint) is = absurd is
arrival_still step.Unplug is = absurd is

pub arrivals_still : (run : List Entry) → AreArrivals run → IsUndisturbed run
arrivals_still run all = still_all run (each_as IsArrival IsStill arrival_still run all)

no_halt : (does : DevEvent) (endpoint : Endpoint) → IsCalmAct does → Allows does (step.Halt endpoint) → ⊥
no_halt (event.Halt ep) endpoint calm allowed = calm
no_halt event.Exec endpoint calm allowed = allowed
no_halt event.Answer endpoint calm allowed = allowed
no_halt event.Pending endpoint calm allowed = allowed
no_halt event.Poll endpoint calm allowed = allowed
no_halt event.Notify endpoint calm allowed = allowed
no_halt event.Unplug endpoint calm allowed = allowed
no_halt (event.Take most) endpoint calm allowed = allowed
no_halt (event.Begin most) endpoint calm allowed = allowed
no_halt (event.Fill most) endpoint calm allowed = allowed

no_unplug : (does : DevEvent) → IsCalmAct does → Allows does step.Unplug → ⊥
no_unplug event.Unplug calm allowed = calm
no_unplug event.Exec calm allowed = allowed
no_unplug event.Answer calm allowed = allowed
no_unplug event.Pending calm allowed = allowed
no_unplug event.Poll calm allowed = allowed
no_unplug event.Notify calm allowed = allowed
no_unplug (event.Halt ep) calm allowed = allowed
no_unplug (event.Take most) calm allowed = allowed
no_unplug (event.Begin most) calm allowed = allowed
no_unplug (event.Fill most) calm allowed = allowed

act_still : (does : DevEvent) → IsCalmAct does → (move : Move) → Allows does move → IsStill move
act_still does calm move allowed = (
  λ e. no_unplug does calm (subst (Allows does) e allowed),
  λ endpoint e. no_halt does endpoint calm (subst (Allows does) e allowed),
)

pub acts_still : (does : DevEvent) → IsCalmAct does → (run : List Entry) → AreActs does run → IsUndisturbed run
acts_still does calm run all = still_all run (each_as (Allows does) IsStill (act_still does calm) run all)

pub calm_move_act : (does : DevEvent) → IsCalmMove does → IsCalmAct does
calm_move_act event.Exec calm = tt
calm_move_act event.Answer calm = tt
calm_move_act event.Notify calm = tt
calm_move_act (event.Take most) calm = tt
calm_move_act (event.Begin most) calm = tt
calm_move_act (event.Fill most) calm = tt
calm_move_act event.Pending calm = tt
calm_move_act event.Poll calm = tt
calm_move_act event.Unplug calm = calm
calm_move_act (event.Halt ep) calm = calm

pub calming_still : (run : List Entry) → AreCalming run → IsUndisturbed run
calming_still run (arrivals, moves, is, come, calm) =
    subst IsUndisturbed (sym is) (still_more arrivals moves (arrivals_still arrivals come)
    (still_all moves (each_as IsCalmStep IsStill (λ move by. act_still by.0 (calm_move_act by.0 by.1) move by.2) moves calm)))

-- ---- more acts

pub calm_front : (acts more : List DevEvent) → AreCalmActs (acts ++ more) → AreCalmActs acts
calm_front [] more all = tt
calm_front (does ∷ acts) more all = (all.0, calm_front acts more all.1)

pub calm_last : (acts : List DevEvent) (does : DevEvent) → AreCalmActs (acts ++ does ∷ []) → IsCalmAct does
calm_last [] does all = all.0
calm_last (first ∷ acts) does all = calm_last acts does all.1

pub calm_more : (acts : List DevEvent) (does : DevEvent) → AreCalmActs acts → IsCalmAct does → AreCalmActs (acts ++ does ∷ [])
calm_more [] does none is = (is, tt)
calm_more (first ∷ acts) does all is = (all.0, calm_more acts does all.1 is)
