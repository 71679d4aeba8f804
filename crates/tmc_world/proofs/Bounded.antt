-- an instrument comes to rest
use Rattle.std.proofs.Common.{◌<◌, ◌≤◌, inl, inr, List, [], ◌∷◌, length, sym, subst, arith}
use Rattle.tmc_law.specs.declared.dev_event.DevEvent.{DevEvent}
use Rattle.usbip_export.specs.Seen.{Seen, standing}
use Rattle.usbip_export.specs.Events.{Drives, IsCalmMove, AreCalmMoves, calm_moves}
use Rattle.usbip_export.specs.Work.{weight}
use Rattle.tmc_world.specs.LoopLink.{Looped, Acts}
use Rattle.tmc_world.specs.Resting.{IsFirstDue, Calms, left}

calm_first : (event : DevEvent) (events : List DevEvent) (node : Seen) → AreCalmMoves events → IsFirstDue event events node → IsCalmMove event
calm_first event [] node calm due = absurd due
calm_first event (first ∷ others) node calm (inl due) = subst (λ (e : DevEvent). IsCalmMove e) (sym due.0) calm.0
calm_first event (first ∷ others) node calm (inr due) = calm_first event others node calm.1 due.1

are_calm : AreCalmMoves calm_moves
are_calm = (tt, (tt, (tt, (tt, (tt, (tt, tt))))))

abbrev pub Lessens : Type 0
Lessens = (event : DevEvent) (old new : Seen) → IsCalmMove event → Drives event old new → weight (standing new) < weight (standing old)

pub acts_less : Lessens → (event : DevEvent) (old new : Looped) → IsFirstDue event calm_moves old.node → Acts event old new → left new < left old
acts_less lessens event old new first acts = lessens event old.node new.node (calm_first event calm_moves old.node are_calm first) acts.drives

pub calms_bounded : Lessens → (events : List DevEvent) (old new : Looped) → Calms events old new → length events ≤ left old
calms_bounded lessens [] old new calms = omega arith
calms_bounded lessens (event ∷ events) old new calms =
    let less = acts_less lessens event old calms.0 calms.1 calms.2 in
    let rest = calms_bounded lessens events calms.0 new calms.3 in
    omega (arith, less, rest)
