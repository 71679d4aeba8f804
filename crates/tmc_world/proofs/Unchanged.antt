-- an event that wants memory leaves the world as it was, where nothing waited for memory
use Rattle.std.proofs.Common.{◌≡◌, ◌≢◌, ◌∙◌, inl, inr, ℕ, true, false, refl, sym, subst}
use Rattle.tmc_base.specs.declared.link.TendStep.TheVariants as tend
use Rattle.tmc_law.specs.declared.dev_event.DevEvent.{DevEvent}
use Rattle.host_hub.specs.Behind.{HubParts}
use Rattle.host_hub.specs.Order.{Setting}
use Rattle.event_text.specs.declared.event.Event.{Event}
use Rattle.event_text.specs.declared.event.Event.TheVariants as event
use Rattle.tmc_world.specs.declared.applied.Applied.{Applied}
use Rattle.tmc_world.specs.declared.applied.Applied.TheVariants as applied
use Rattle.tmc_world.specs.declared.loop_act.LoopAct.TheVariants as act
use Rattle.tmc_world.specs.LoopLink.{Looped, MayHaveMoved, Tends}
use Rattle.tmc_world.specs.World.{Worldly, IsBehind, setting_of, shut}
use Rattle.tmc_world.specs.WorldEvents.{LeadsTo, LeavesWorld, Wants}
use Rattle.tmc_world.proofs.RestTries.{caught_up, worlds_alike}

tend_same : (does : DevEvent) (old new : Looped) → Tends old (act.Dev does) tend.Memory new → old.late ≡ false → new ≡ old
tend_same does old new (inl goes) unlate = goes.ends.is ∙ caught_up old.late old goes.ready unlate goes.catches
tend_same does old new (inr stays) unlate = absurd (clash (sym stays.late ∙ unlate)) where
  clash : true ≡ false → ⊥
  clash e = cc

down_none : (idled new : Looped) → MayHaveMoved shut false idled new → ⊥
down_none idled new moved = moved

wants_same : (s : Setting) (does : Event) (old new : Worldly) → Wants s does old new → does ≢ event.Rest → old.link.late ≡ false → new ≡ old
wants_same s (event.Ask session limit message) old new wants other unlate = wants.1
wants_same s (event.Tell session message) old new wants other unlate = wants.1
wants_same s event.GiveUp old new wants other unlate = absurd wants
wants_same s (event.Up most) old new wants other unlate = wants.1
wants_same s (event.Down most) old new wants other unlate =
    absurd (down_none wants.idled new.link (subst (λ late. MayHaveMoved shut late wants.idled new.link) unlate wants.moved))
wants_same s (event.Dev does) old new wants other unlate = worlds_alike new old wants.0 (tend_same does old.link new.link wants.1 unlate)
wants_same s event.FailSend old new wants other unlate = absurd wants
wants_same s event.FailPoll old new wants other unlate = absurd wants
wants_same s event.Rest old new wants other unlate = absurd (other refl)

pub leaves_world : (first depth : ℕ) (does : Event) (old : Worldly) (became : Applied) (hub : HubParts Looped) → LeadsTo first depth does old became hub
    → LeavesWorld first depth does old became hub
leaves_world first depth does old (applied.Answer said) hub l other unlate is = absurd (clash is) where
  clash : applied.Answer said ≡ applied.Memory → ⊥
  clash e = cc
leaves_world first depth does old applied.NotEnabled hub l other unlate is = absurd (clash is) where
  clash : applied.NotEnabled ≡ applied.Memory → ⊥
  clash e = cc
leaves_world first depth does old applied.Memory hub l other unlate is =
    subst (λ (w : Worldly). IsBehind first depth w hub) (wants_same (setting_of first depth) does old l.new l.goes other unlate) l.behind
