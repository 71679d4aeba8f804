-- some moves of a world behind some others
use Rattle.std.proofs.Common.{◌≡◌, ◌∙◌, inl, inr, true, false, List, [], ◌∷◌, ◌++◌, refl, sym, ap, subst}
use Rattle.std.specs.Prelude.{◌⊎◌}
use Rattle.host_hub.specs.Order.{Setting}
use Rattle.event_text.specs.declared.event.Event.{Event}
use Rattle.event_text.specs.declared.event.Event.TheVariants as event
use Rattle.tmc_law.specs.declared.dev_event.DevEvent.{DevEvent}
use Rattle.tmc_device.specs.Events.{NoneLawful}
use Rattle.usbip_export.specs.Seen.{standing}
use Rattle.usbip_export.specs.Events.{all, calm_moves}
use Rattle.tmc_world.specs.World.{Worldly}
use Rattle.tmc_world.specs.WorldSteps.{IsFirstOpen, IsLawfulNow, IsOpenTo, MayGoDown, MayGoUp, Moves, NoneOpen, RestsBy, moves}
use Rattle.tmc_world.specs.Rests.{MovesBy, StopsBy, Wanting, WantsFirst, WantsNext, down_moves, steps_of, up_moves}

-- ---- which move is the first

-- the two moves behind the steps of the instrument
abbrev pub crossings : List Event
crossings = up_moves ++ down_moves

pub first_in_front : (s : Setting) (move : Event) (front behind : List Event) (world : Worldly) → IsFirstOpen s move front world
    → IsFirstOpen s move (front ++ behind) world
first_in_front s move [] behind world first = absurd first
first_in_front s move (it ∷ front) behind world (inl first) = inl first
first_in_front s move (it ∷ front) behind world (inr (shut, first)) = inr (shut, first_in_front s move front behind world first)

pub first_behind : (s : Setting) (move : Event) (front behind : List Event) (world : Worldly) → NoneOpen s front world → IsFirstOpen s move behind world
    → IsFirstOpen s move (front ++ behind) world
first_behind s move [] behind world none first = first
first_behind s move (it ∷ front) behind world (shut, none) first = inr (shut, first_behind s move front behind world none first)

pub wants_in_front : (wants : Wanting) (s : Setting) (front behind : List Event) (old new : Worldly) → WantsFirst wants s front old new
    → WantsFirst wants s (front ++ behind) old new
wants_in_front wants s [] behind old new first = absurd first
wants_in_front wants s (it ∷ front) behind old new (inl first) = inl first
wants_in_front wants s (it ∷ front) behind old new (inr (shut, first)) = inr (shut, wants_in_front wants s front behind old new first)

pub wants_behind : (wants : Wanting) (s : Setting) (front behind : List Event) (old new : Worldly) → NoneOpen s front old → WantsFirst wants s behind old new
    → WantsFirst wants s (front ++ behind) old new
wants_behind wants s [] behind old new none first = first
wants_behind wants s (it ∷ front) behind old new (shut, none) first = inr (shut, wants_behind wants s front behind old new none first)

pub none_of_both : (s : Setting) (front behind : List Event) (world : Worldly) → NoneOpen s front world → NoneOpen s behind world
    → NoneOpen s (front ++ behind) world
none_of_both s [] behind world none others = others
none_of_both s (it ∷ front) behind world (shut, none) others = (shut, none_of_both s front behind world none others)

-- the first move is a step of the instrument that is among these, or comes behind all of them
pub data Which (s : Setting) (move : Event) (steps : List DevEvent) (behind : List Event) (world : Worldly) : Type 0 where
  Step : (does : DevEvent) → move ≡ event.Dev does → IsFirstOpen s move (steps_of steps) world → Which s move steps behind world
  Behind : NoneOpen s (steps_of steps) world → IsFirstOpen s move behind world → Which s move steps behind world

pub which : (s : Setting) (move : Event) (steps : List DevEvent) (behind : List Event) (world : Worldly) → IsFirstOpen s move (steps_of steps ++ behind) world
    → Which s move steps behind world
which s move [] behind world first = Behind tt first
which s move (does ∷ steps) behind world (inl (is, opened)) = Step does is (inl (is, opened))
which s move (does ∷ steps) behind world (inr (shut, first)) = further (which s move steps behind world first) where
  further : Which s move steps behind world → Which s move (does ∷ steps) behind world
  further (Step other is it) = Step other is (inr (shut, it))
  further (Behind none it) = Behind (shut, none) it

-- ---- moves behind moves

pub moves_on : (s : Setting) (made more : List Event) (old mid new : Worldly) → MovesBy s made old mid → MovesBy s more mid new → MovesBy s (made ++ more) old new
moves_on s [] more old mid new is next = subst (λ (w : Worldly). MovesBy s more w new) is next
moves_on s (move ∷ made) more old mid new (unlate, first, one, goes, before) next =
    (unlate, first, one, goes, moves_on s made more one mid new before next)

pub one_more : (s : Setting) (move : Event) (old new : Worldly) → old.link.late ≡ false → IsFirstOpen s move moves old → Moves s move old new
    → MovesBy s (move ∷ []) old new
one_more s move old new unlate first goes = (unlate, first, new, goes, refl)

-- where nothing waits for memory, and none is enabled, the world has come to rest
pub comes_to_rest : (s : Setting) (made : List Event) (old new : Worldly) → MovesBy s made old new → new.link.late ≡ false → NoneOpen s moves new
    → RestsBy s made old new
comes_to_rest s [] old new is unlate none =
    (subst (λ (w : Worldly). w.link.late ≡ false) is unlate, subst (λ (w : Worldly). NoneOpen s moves w) is none, is)
comes_to_rest s (move ∷ made) old new (still, first, mid, goes, before) unlate none =
    (still, first, mid, goes, comes_to_rest s made mid new before unlate none)

pub rests_on : (s : Setting) (made more : List Event) (old mid new : Worldly) → MovesBy s made old mid → RestsBy s more mid new → RestsBy s (made ++ more) old new
rests_on s [] more old mid new is next = subst (λ (w : Worldly). RestsBy s more w new) is next
rests_on s (move ∷ made) more old mid new (unlate, first, one, goes, before) next =
    (unlate, first, one, goes, rests_on s made more one mid new before next)
