-- a node whose instrument has nothing to do
use Rattle.std.proofs.Common.{◌≡◌, ◌∙◌, List, [], ◌∷◌, None, refl, sym, ap, subst, append-nil}
use Rattle.tmc_law.specs.declared.dev_event.DevEvent.{DevEvent}
use Rattle.tmc_law.specs.State.{State, Plugged}
use Rattle.tmc_device.specs.Events.{NoneLawful}
use Rattle.usbip_export.specs.declared.body.Body.{Body}
use Rattle.usbip_export.specs.Seen.{Seen, standing, closed_by}
use Rattle.usbip_export.specs.Events.{AreDeclined, IsCalm, calm_moves}
use Rattle.usbip_export.specs.Body.{seen_of, IsOpen, IsBodySpelled}
use Rattle.usbip_export.specs.Steps.{steps_of, AreArrivals, AreCalmSteps, AreCalming, MovesBy}
use Rattle.usbip_export.proofs.More.{standing_same, more_by}
use Rattle.usbip_export.proofs.Driven.{plugged_unrefused}

pub declined_same : (events : List DevEvent) (a b : Seen) → b.imported ≡ a.imported → standing b ≡ standing a → AreDeclined events a → AreDeclined events b
declined_same [] a b imported same none = tt
declined_same (ev ∷ events) a b imported same none = (
  λ was. subst (λ (s : State). NoneLawful ev s) (sym same) (none.0 (sym imported ∙ was)),
  declined_same events a b imported same none.1,
)

pub calm_spelled : (old new : Body) → IsCalm (seen_of old) → IsBodySpelled old new → IsCalm (seen_of new)
calm_spelled old new calm spelled =
    subst (λ (b : Body). IsCalm (seen_of b)) (sym spelled.is)
    (declined_same calm_moves (seen_of old) (seen_of (record old { device = new.device; out = new.out; wanting = new.wanting })) refl
    (standing_same (seen_of old) (seen_of (record old { device = new.device; out = new.out; wanting = new.wanting })) spelled.state refl) calm)

open_of : (body : Body) → (standing (seen_of body)).presence ≡ Plugged → IsOpen body
open_of body plugged =
    let unrefused = plugged_unrefused (seen_of body) plugged in
    record { unrefused = unrefused; plugged = sym (ap (λ r. (closed_by r body.device.state).presence) unrefused) ∙ plugged }

-- nothing is enabled at a node that takes nothing in
pub calm_closed : (body : Body) → (IsOpen body → ⊥) → (events : List DevEvent) → AreDeclined events (seen_of body)
calm_closed body shut [] = tt
calm_closed body shut (ev ∷ events) = (
  λ was move puts t allowed steps. shut (open_of body steps.plugged),
  calm_closed body shut events,
)

-- ---- the steps of a calm call: what waits arrives, and then calm moves are made

pub arrivals_calming : (old new : Seen) → MovesBy AreArrivals old new → MovesBy AreCalming old new
arrivals_calming old new made = record {
  moves = made.moves;
  only = (steps_of made.moves.taken, [], sym (append-nil (steps_of made.moves.taken)), made.only, tt);
}

pub calms_behind : (old mid new : Seen) → mid.refused ≡ None → MovesBy AreArrivals old mid → MovesBy AreCalmSteps mid new → MovesBy AreCalming old new
calms_behind = more_by AreArrivals AreCalmSteps AreCalming (λ arrivals moves first second. (arrivals, moves, refl, first, second))
