-- what one step of the instrument does to a node
use Rattle.std.proofs.Common.{◌≡◌, ◌∙◌, ℕ, ◌<◌, ◌≤◌, Bool, true, false, List, [], ◌∷◌, ◌++◌, length, drop, slice_index_or, Option, Some, None, is_some, Result, Ok, Err, IfOk, refl, sym, subst, append-nil, arith}
use Rattle.tmc_base.specs.declared.field.Field.{Field}
use Rattle.tmc_base.specs.declared.memory.Memory.{Memory}
use Rattle.tmc_law.specs.declared.dev_event.DevEvent.{DevEvent}
use Rattle.tmc_law.specs.declared.dev_event.DevEvent.TheVariants as event
use Rattle.tmc_law.specs.State.{State, Plugged}
use Rattle.tmc_law.specs.Put.{Put}
use Rattle.tmc_law.specs.Step as step
use Rattle.tmc_law.specs.Step.{Move, Steps}
use Rattle.tmc_law.specs.Run.{TakesIn}
use Rattle.tmc_law.specs.BulkOut.{Takes}
use Rattle.tmc_law.specs.BulkIn.{Fills}
use Rattle.tmc_law.specs.Packets.{TransferTakes, PieceGives}
use Rattle.tmc_device.specs.Seen as device
use Rattle.tmc_device.specs.Events.{Allows, Applies}
use Rattle.usbip_export.specs.declared.body.Body.{Body}
use Rattle.usbip_export.specs.Identity.{devid}
use Rattle.usbip_export.specs.Seen.{Seen, standing, closed_by}
use Rattle.usbip_export.specs.TakenIn.{IsSpelled, Served, Moves}
use Rattle.usbip_export.specs.Steps.{AreCalmSteps, MovesBy}
use Rattle.usbip_export.specs.Events.{Drives, IsCalmMove, AreCalmMoves, AreDeclined, IsDeclined}
use Rattle.usbip_export.specs.Work.{weight}
use Rattle.usbip_export.specs.Body.{seen_of, IsBodySpelled}
use Rattle.usbip_export.proofs.Single.{standing_open}
use Rattle.usbip_export.proofs.Weights.{take_less, fill_less, exec_less, begin_less, notify_less, answer_less}

-- the body behind a step, before its answers are spelled
pub drives_body : (ev : DevEvent) (old new : Body) (seen : device.Seen) → old.refused ≡ None → Applies ev old.device seen
    → IsBodySpelled (record old { device = seen }) new → Drives ev (seen_of old) (seen_of new)
drives_body ev old new seen unshut applies spelled =
    subst (λ (b : Body). Drives ev (seen_of old) (seen_of b)) (sym spelled.is) (record {
      move = applies.move;
      puts = applies.made.puts;
      answered = spelled.off.answered;
      allowed = applies.allowed;
      steps =
          subst (λ (s : State). Steps s applies.move applies.made.puts (standing (seen_of after))) (sym before)
          (subst (λ (t : State). Steps old.device.state applies.move applies.made.puts t) (sym behind) applies.made.steps);
      greatest = λ other others t allowed steps. applies.greatest other others t allowed (subst (λ (s : State). Steps s other others t) before steps);
      spelled = subst (λ (ps : List Put). IsSpelled ps spelled.off.answered new.device.puts) applies.made.joins spelled.off.spelled;
      out = spelled.off.out;
      kept = refl;
      imported = refl;
      refused = refl;
    }) where
      after : Body
      after = record old { device = new.device; out = new.out; wanting = new.wanting }

      before : standing (seen_of old) ≡ old.device.state
      before = standing_open (seen_of old) unshut

      behind : standing (seen_of after) ≡ seen.state
      behind = standing_open (seen_of after) unshut ∙ spelled.state

-- a step by which nothing arrives takes no bytes in
takes_nothing : (ev : DevEvent) (move : Move) → Allows ev move → TakesIn devid move []
takes_nothing event.Exec (step.Comes message) allowed = absurd allowed
takes_nothing event.Answer (step.Comes message) allowed = absurd allowed
takes_nothing event.Pending (step.Comes message) allowed = absurd allowed
takes_nothing event.Poll (step.Comes message) allowed = absurd allowed
takes_nothing event.Notify (step.Comes message) allowed = absurd allowed
takes_nothing event.Unplug (step.Comes message) allowed = absurd allowed
takes_nothing (event.Take most) (step.Comes message) allowed = absurd allowed
takes_nothing (event.Begin most) (step.Comes message) allowed = absurd allowed
takes_nothing (event.Fill most) (step.Comes message) allowed = absurd allowed
takes_nothing (event.Halt ep) (step.Comes message) allowed = absurd allowed
takes_nothing event.Exec (step.Refuses number bytes f) allowed = absurd allowed
takes_nothing event.Answer (step.Refuses number bytes f) allowed = absurd allowed
takes_nothing event.Pending (step.Refuses number bytes f) allowed = absurd allowed
takes_nothing event.Poll (step.Refuses number bytes f) allowed = absurd allowed
takes_nothing event.Notify (step.Refuses number bytes f) allowed = absurd allowed
takes_nothing event.Unplug (step.Refuses number bytes f) allowed = absurd allowed
takes_nothing (event.Take most) (step.Refuses number bytes f) allowed = absurd allowed
takes_nothing (event.Begin most) (step.Refuses number bytes f) allowed = absurd allowed
takes_nothing (event.Fill most) (step.Refuses number bytes f) allowed = absurd allowed
takes_nothing (event.Halt ep) (step.Refuses number bytes f) allowed = absurd allowed
takes_nothing ev (step.Take count) allowed = refl
takes_nothing ev step.Exec allowed = refl
takes_nothing ev (step.Begin count) allowed = refl
takes_nothing ev (step.Fill count) allowed = refl
takes_nothing ev step.Answer allowed = refl
takes_nothing ev step.Pend allowed = refl
takes_nothing ev step.Poll allowed = refl
takes_nothing ev step.Notify allowed = refl
takes_nothing ev (step.Halt endpoint) allowed = refl
takes_nothing ev step.Unplug allowed = refl

pub drives_moves : (ev : DevEvent) (old new : Seen) → old.imported ≡ true → Drives ev old new → Moves old new
drives_moves ev old new was drives = record {
  took = [];
  answered = drives.answered;
  kept = sym drives.kept;
  taken = Served was (drives.imported ∙ was) (record {
    run = record { move = drives.move; puts = drives.puts } ∷ [];
    goes = (standing new, drives.steps, refl);
    takes = ([], [], refl, takes_nothing ev drives.move drives.allowed, refl);
    spelled = subst (λ (ps : List Put). IsSpelled (old.puts ++ ps) drives.answered new.puts) (sym (append-nil drives.puts)) drives.spelled;
  });
  out = drives.out;
}

pub drives_by : (ev : DevEvent) (old new : Seen) → old.imported ≡ true → IsCalmMove ev → Drives ev old new → MovesBy AreCalmSteps old new
unfolding drives_moves
drives_by ev old new was calm drives = record { moves = drives_moves ev old new was drives; only = ((ev, calm, drives.allowed), tt) }

-- a node whose instrument is plugged refused nothing
pub plugged_unrefused : (seen : Seen) → (standing seen).presence ≡ Plugged → seen.refused ≡ None
plugged_unrefused seen plugged = by seen.refused plugged where
  by : (refused : Option Field) → (closed_by refused seen.state).presence ≡ Plugged → refused ≡ None
  by None is = refl
  by (Some f) is = cc

less_by : ((s t : State) (count : ℕ) (puts : List Put) → Takes s count puts t → TransferTakes s puts t)
    → ((s t : State) (count : ℕ) (puts : List Put) → Fills s count puts t → PieceGives s puts t)
    → (ev : DevEvent) (move : Move) (s t : State) (puts : List Put) → IsCalmMove ev → Allows ev move → Steps s move puts t → weight t < weight s
less_by takes fills event.Answer step.Answer s t puts calm allowed steps = answer_less s t puts steps.leads
less_by takes fills event.Exec step.Exec s t puts calm allowed steps = exec_less s t steps.leads.0
less_by takes fills (event.Take most) (step.Take count) s t puts calm allowed steps = take_less s t puts (takes s t count puts steps.leads.1)
less_by takes fills (event.Begin most) (step.Begin count) s t puts calm allowed steps = begin_less s t count steps.leads.0
less_by takes fills (event.Fill most) (step.Fill count) s t puts calm allowed steps = fill_less s t puts (fills s t count puts steps.leads)
less_by takes fills event.Notify step.Notify s t puts calm allowed steps = notify_less s t puts steps.leads
less_by takes fills event.Pending move s t puts calm allowed steps = absurd calm
less_by takes fills event.Poll move s t puts calm allowed steps = absurd calm
less_by takes fills (event.Halt ep) move s t puts calm allowed steps = absurd calm
less_by takes fills event.Unplug move s t puts calm allowed steps = absurd calm
less_by takes fills ev move s t puts calm allowed steps = absurd allowed

pub drives_less : ((s t : State) (count : ℕ) (puts : List Put) → Takes s count puts t → TransferTakes s puts t)
    → ((s t : State) (count : ℕ) (puts : List Put) → Fills s count puts t → PieceGives s puts t)
    → (ev : DevEvent) (old new : Seen) → IsCalmMove ev → Drives ev old new → weight (standing new) < weight (standing old)
drives_less takes fills ev old new calm drives =
    less_by takes fills ev drives.move (standing old) (standing new) drives.puts calm drives.allowed drives.steps

pub unrefused : (refused : Option Field) → is_some refused ≡ false → refused ≡ None
unrefused None is = refl
unrefused (Some f) is = cc

-- the first of some events, and the others
pub first_calm : (events : List DevEvent) (otherwise : DevEvent) → 1 ≤ length events → AreCalmMoves events → IsCalmMove (slice_index_or events 0 otherwise)
first_calm [] otherwise some calm = absurd (omega (arith, some))
first_calm (ev ∷ events) otherwise some calm = calm.0

all_declined : (events : List DevEvent) (otherwise : DevEvent) (seen : Seen) → 1 ≤ length events → IsDeclined (slice_index_or events 0 otherwise) seen
    → AreDeclined (drop 1 events) seen → AreDeclined events seen
all_declined [] otherwise seen some first others = absurd (omega (arith, some))
all_declined (ev ∷ events) otherwise seen some first others = (first, others)

-- none of some events is enabled, where neither the first is nor any of the others
pub none_on : (result : Result Bool Memory) (events others : List DevEvent) (otherwise : DevEvent) (new mid now : Body) → 1 ≤ length events
    → others ≡ drop 1 events → mid ≡ now → IsDeclined (slice_index_or events 0 otherwise) (seen_of now)
    → IfOk result (λ moved. moved ≡ false → (new ≡ mid) × AreDeclined others (seen_of mid))
    → IfOk result (λ moved. moved ≡ false → (new ≡ now) × AreDeclined events (seen_of now))
none_on (Ok moved) events others otherwise new mid now some rest same first told = λ no.
    let said = told no in (
      said.0 ∙ same,
      all_declined events otherwise (seen_of now) some first
          (subst (λ (b : Body). AreDeclined (drop 1 events) (seen_of b)) same (subst (λ (es : List DevEvent). AreDeclined es (seen_of mid)) rest said.1)),
    )
none_on (Err e) events others otherwise new mid now some rest same first told = tt
