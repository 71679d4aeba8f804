-- some world stands behind a hub whose link was opened and closed again
use Rattle.std.proofs.Common.{◌≡◌, ◌∙◌, true, List, ℕ, Option, Some, None, refl, sym, ap, ap₂, subst}
use Rattle.tmc_base.specs.declared.link.TendStep.{TendStep}
use Rattle.tmc_base.specs.declared.link.TendStep.TheVariants as tend
use Rattle.host_hub.specs.declared.outcome.End.{End}
use Rattle.tmc_base.specs.Told.{Told}
use Rattle.host_hub.specs.Behind.{Behind, HubParts}
use Rattle.host_hub.specs.Order.{Setting}
use Rattle.host_hub.specs.Record.{Past}
use Rattle.host_hub.specs.Hand.{ended}
use Rattle.event_text.specs.declared.event.Event.{Event}
use Rattle.tmc_world.specs.declared.applied.Applied.{Applied}
use Rattle.tmc_world.specs.declared.loop_act.LoopAct.TheVariants as act
use Rattle.tmc_world.specs.declared.pace.Pace.{Pace}
use Rattle.tmc_world.specs.Pacing.{with_poll_room, with_send_room}
use Rattle.tmc_world.specs.LoopLink.{Looped, Tends}
use Rattle.tmc_world.specs.World.{Worldly, HasWorld, IsBehind, begun, counted, setting_of, shut, tells}
use Rattle.tmc_world.specs.WorldEvents.{LeadsTo}

-- where an event led a world that stands behind a hub, some world stands behind it
pub stands_on : (old new : HubParts Looped) (h : HasWorld old) (does : Event) (became : Applied) → LeadsTo h.first h.depth does h.world became new → HasWorld new
stands_on old new h does became l = record { first = h.first; numbered = h.numbered; depth = h.depth; world = l.new; behind = l.behind }

pub same_stands : (old new : HubParts Looped) → new ≡ old → HasWorld old → HasWorld new
same_stands old new is h = subst (λ (x : HubParts Looped). HasWorld x) (sym is) h

-- ---- a hub that has ended turned

send_room_set : (room : ℕ) (old : Looped) (step : TendStep) (new : Looped) → Tends old (act.RoomSend room) step new
    → new ≡ record old { pace = with_send_room room old.pace }
send_room_set room old tend.Did new t = t
send_room_set room old tend.NotNow new t = absurd t
send_room_set room old tend.Memory new t = absurd t

poll_room_set : (room : ℕ) (old : Looped) (step : TendStep) (new : Looped) → Tends old (act.RoomPoll room) step new
    → new ≡ record old { pace = with_poll_room room old.pace }
poll_room_set room old tend.Did new t = t
poll_room_set room old tend.NotNow new t = absurd t
poll_room_set room old tend.Memory new t = absurd t

-- the rooms were set, and the link is as it was
opened_and_shut : (most least : ℕ) (hub a b c d e : Looped) → hub.pace ≡ shut
    → a ≡ record hub { pace = with_send_room most hub.pace } → b ≡ record a { pace = with_poll_room least a.pace } → c ≡ b
    → d ≡ record c { pace = with_send_room 0 c.pace } → e ≡ record d { pace = with_poll_room 0 d.pace } → e ≡ hub
opened_and_shut most least hub a b c d e idle ia ib ic id ie =
    let send : ℕ → Looped → Looped = λ room l. record l { pace = with_send_room room l.pace } in
    let poll : ℕ → Looped → Looped = λ room l. record l { pace = with_poll_room room l.pace } in
    ie ∙ ap (poll 0) (id ∙ ap (send 0) (ic ∙ (ib ∙ ap (poll least) ia)))
    ∙ ap (λ (p : Pace). record hub { pace = with_poll_room 0 (with_send_room 0 (with_poll_room least (with_send_room most p))) }) idle
    ∙ ap (λ (p : Pace). record hub { pace = p }) (sym idle)

pub turned_stands : (most least : ℕ) (hub a b c d e : HubParts Looped) (sa sb sd se : TendStep) (h : HasWorld hub)
    → Tends hub.link (act.RoomSend most) sa a.link → a.core ≡ hub.core → Tends a.link (act.RoomPoll least) sb b.link → b.core ≡ a.core
    → ((x : End) → b.core.end ≡ Some x → c ≡ b)
    → Tends c.link (act.RoomSend 0) sd d.link → d.core ≡ c.core → Tends d.link (act.RoomPoll 0) se e.link → e.core ≡ d.core
    → (ended h.world.past ≡ None → HasWorld e) → HasWorld e
turned_stands most least hub a b c d e sa sb sd se h ta ca tb cb over td cd te ce runs = by (ended h.world.past) refl where
  by : (o : Option End) → ended h.world.past ≡ o → HasWorld e
  by None is = runs is
  by (Some x) is =
      let core : b.core ≡ hub.core = cb ∙ ca in
      let same : c ≡ b = over x (ap (λ k. k.end) core ∙ h.behind.behind.rests.knows.over ∙ is) in
      let link : e.link ≡ hub.link =
      opened_and_shut most least hub.link a.link b.link c.link d.link e.link (ap (λ (l : Looped). l.pace) h.behind.link ∙ h.behind.idle)
      (send_room_set most hub.link sa a.link ta) (poll_room_set least a.link sb b.link tb) (ap (λ (k : HubParts Looped). k.link) same)
      (send_room_set 0 c.link sd d.link td) (poll_room_set 0 d.link se e.link te) in
      same_stands hub e (ap₂ (λ l k. record { link = l; core = k }) link (ce ∙ cd ∙ ap (λ (k : HubParts Looped). k.core) same ∙ core)) h

-- ---- a call was named to fail

set_stands : (hub new : HubParts Looped) (h : HasWorld hub) (to : Looped → Looped) → ((l : Looped) → (to l).pace ≡ l.pace) → ((l : Looped) → (to l).wants ≡ l.wants)
    → ((l : Looped) → (to l).sent ≡ l.sent) → ((l : Looped) → (to l).taken ≡ l.taken) → new.link ≡ to hub.link
    → ((start : Told) (s : Setting) (past : Past) (sent received : List ℕ) → Behind tells counted start s past sent received hub → Behind tells counted start s past sent received new)
    → HasWorld new
set_stands hub new h to pace wants sent taken is on = record {
  first = h.first;
  numbered = h.numbered;
  depth = h.depth;
  world = record { past = h.world.past; link = new.link };
  behind = record {
    link = refl;
    idle = ap (λ (l : Looped). l.pace) is ∙ pace hub.link ∙ ap (λ (l : Looped). l.pace) h.behind.link ∙ h.behind.idle;
    unwanted = ap (λ (l : Looped). l.wants) is ∙ wants hub.link ∙ ap (λ (l : Looped). l.wants) h.behind.link ∙ h.behind.unwanted;
    behind = subst (λ (bytes : List ℕ). Behind tells counted (tells begun.link) (setting_of h.first h.depth) h.world.past bytes new.link.taken new)
        (sym (ap (λ (l : Looped). l.sent) is ∙ sent hub.link ∙ ap (λ (l : Looped). l.sent) h.behind.link))
        (subst (λ (bytes : List ℕ). Behind tells counted (tells begun.link) (setting_of h.first h.depth) h.world.past h.world.link.sent bytes new)
        (sym (ap (λ (l : Looped). l.taken) is ∙ taken hub.link ∙ ap (λ (l : Looped). l.taken) h.behind.link))
        (on (tells begun.link) (setting_of h.first h.depth) h.world.past h.world.link.sent h.world.link.taken h.behind.behind));
  };
}

send_fails_set : (old : Looped) (step : TendStep) (new : Looped) → Tends old act.FailSend step new → new ≡ record old { send_fails = true }
send_fails_set old tend.Did new t = t
send_fails_set old tend.NotNow new t = absurd t
send_fails_set old tend.Memory new t = absurd t

poll_fails_set : (old : Looped) (step : TendStep) (new : Looped) → Tends old act.FailPoll step new → new ≡ record old { poll_fails = true }
poll_fails_set old tend.Did new t = t
poll_fails_set old tend.NotNow new t = absurd t
poll_fails_set old tend.Memory new t = absurd t

pub stands_fail_send : (hub new : HubParts Looped) (step : TendStep) (h : HasWorld hub) → Tends hub.link act.FailSend step new.link → new.core ≡ hub.core
    → ((start : Told) (s : Setting) (past : Past) (sent received : List ℕ) → Behind tells counted start s past sent received hub → Behind tells counted start s past sent received new)
    → HasWorld new
stands_fail_send hub new step h t core on =
    set_stands hub new h (λ l. record l { send_fails = true }) (λ l. refl) (λ l. refl) (λ l. refl) (λ l. refl) (send_fails_set hub.link step new.link t) on

pub stands_fail_poll : (hub new : HubParts Looped) (step : TendStep) (h : HasWorld hub) → Tends hub.link act.FailPoll step new.link → new.core ≡ hub.core
    → ((start : Told) (s : Setting) (past : Past) (sent received : List ℕ) → Behind tells counted start s past sent received hub → Behind tells counted start s past sent received new)
    → HasWorld new
stands_fail_poll hub new step h t core on =
    set_stands hub new h (λ l. record l { poll_fails = true }) (λ l. refl) (λ l. refl) (λ l. refl) (λ l. refl) (poll_fails_set hub.link step new.link t) on
