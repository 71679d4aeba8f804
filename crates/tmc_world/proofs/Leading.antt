-- where the calls of a hub lead the world that stands behind it
use Rattle.std.proofs.Common.{◌≡◌, ◌∙◌, inl, inr, ℕ, Bool, true, false, List, ◌++◌, Option, Some, None, Result, Ok, Err, refl, sym, ap, subst, if◌then◌else◌}
use Rattle.tmc_base.specs.declared.link.TendStep.{TendStep}
use Rattle.tmc_base.specs.declared.link.TendStep.TheVariants as tend
use Rattle.tmc_law.specs.declared.dev_event.DevEvent.{DevEvent}
use Rattle.host_hub.specs.declared.outcome.End.{End}
use Rattle.host_hub.specs.declared.refusals.AskFault.{AskFault}
use Rattle.host_hub.specs.declared.refusals.AskFault.TheVariants as fault
use Rattle.host_hub.specs.Asks.{IsWhy}
use Rattle.host_hub.specs.Behind.{Behind, HubParts}
use Rattle.host_hub.specs.Calls.{AddsGivingUp}
use Rattle.host_hub.specs.HubCalls.{AsksOf, LeadsOn}
use Rattle.host_hub.specs.Hand.{ended}
use Rattle.host_hub.specs.Order.{Setting}
use Rattle.host_hub.specs.Record.{Asking, Past}
use Rattle.host_hub.specs.Refusals.{ask_fault, ask_fault_while}
use Rattle.event_text.specs.declared.answer.EventAnswer.{EventAnswer}
use Rattle.event_text.specs.declared.answer.EventAnswer.TheVariants as answer
use Rattle.event_text.specs.declared.event.Event.{Event}
use Rattle.event_text.specs.declared.event.Event.TheVariants as event
use Rattle.tmc_world.specs.declared.applied.Applied.{Applied}
use Rattle.tmc_world.specs.declared.applied.Applied.TheVariants as applied
use Rattle.tmc_world.specs.declared.loop_act.LoopAct.TheVariants as act
use Rattle.usbip_export.specs.Steps.{AreArrivals}
use Rattle.tmc_world.specs.LoopLink.{Looped, HasMoved, CatchesUp, ActEnds, Tends}
use Rattle.tmc_world.specs.World.{Worldly, IsBehind, begun, counted, setting_of, tells}
use Rattle.tmc_world.specs.WorldSteps.{Asks, GivesUp, Steps}
use Rattle.tmc_world.specs.WorldEvents.{LeadsTo, Wants, applied_ask, applied_step}

-- ---- want of memory is no cause to refuse

or_else : (b : Bool) (why : AskFault) (rest : Option AskFault) → (Some why ≡ Some fault.Memory → ⊥) → (rest ≡ Some fault.Memory → ⊥)
    → (if b then Some why else rest) ≡ Some fault.Memory → ⊥
or_else true why rest f g is = f is
or_else false why rest f g is = g is

no_memory : (s : Setting) (over : Option End) (past : Past) (asking : Asking) → ask_fault_while s over past asking ≡ Some fault.Memory → ⊥
no_memory s (Some e) past asking is = cc
no_memory s None past asking is =
    or_else _ fault.NoSession _ (λ e. cc) (or_else _ fault.No488 _ (λ e. cc) (or_else _ fault.EmptyMessage _ (λ e. cc)
    (or_else _ fault.LongMessage _ (λ e. cc) (or_else _ fault.BadLimit _ (λ e. cc) (or_else _ fault.Full _ (λ e. cc)
    (or_else _ fault.Exhausted None (λ e. cc) (λ e. cc))))))) is

-- ---- a ticket is asked

refused : (why : AskFault) → (why ≡ fault.Memory → ⊥) → applied_ask (Err why) ≡ applied.Answer (answer.Refused why)
refused (fault.Down e) other = refl
refused fault.NoSession other = refl
refused fault.No488 other = refl
refused fault.EmptyMessage other = refl
refused fault.LongMessage other = refl
refused fault.BadLimit other = refl
refused fault.Full other = refl
refused fault.Exhausted other = refl
refused fault.Memory other = absurd (other refl)

why_refused : (first depth : ℕ) (asking : Asking) (does : Event) (old : Worldly) (new : HubParts Looped) (why : AskFault) (found : Option AskFault)
    → ((said : EventAnswer) (next : Worldly) → Asks (setting_of first depth) asking old said next → Steps (setting_of first depth) does old said next)
    → ((next : Worldly) → (ask_fault (setting_of first depth) old.past asking ≡ None) × (next ≡ old) → Wants (setting_of first depth) does old next)
    → IsBehind first depth old new → ask_fault (setting_of first depth) old.past asking ≡ found → (found ≡ Some fault.Memory → ⊥) → IsWhy found why
    → LeadsTo first depth does old (applied_ask (Err why)) new
why_refused first depth asking does old new why None steps wants b is other w =
    subst (λ (x : AskFault). LeadsTo first depth does old (applied_ask (Err x)) new) (sym w) (record { new = old; goes = wants old (is, refl); behind = b })
why_refused first depth asking does old new why (Some cause) steps wants b is other w =
    subst (λ (x : Applied). LeadsTo first depth does old x new) (sym (refused why (λ e. other (ap Some (sym w ∙ e)))))
    (record { new = old; goes = steps (answer.Refused why) old (is ∙ ap Some (sym w), refl); behind = b })

pub asks_lead : (first depth : ℕ) (asking : Asking) (does : Event) (old : Worldly) (hub new : HubParts Looped) (result : Result ℕ AskFault)
    → ((said : EventAnswer) (next : Worldly) → Asks (setting_of first depth) asking old said next → Steps (setting_of first depth) does old said next)
    → ((next : Worldly) → (ask_fault (setting_of first depth) old.past asking ≡ None) × (next ≡ old) → Wants (setting_of first depth) does old next)
    → IsBehind first depth old hub → new.link ≡ hub.link
    → AsksOf (tells begun.link) (tells new.link) (counted new.link) (setting_of first depth) old.past old.link.sent old.link.taken asking result new.core
    → LeadsTo first depth does old (applied_ask result) new
asks_lead first depth asking does old hub new (Ok ticket) steps wants b same (none, next, l) =
    record {
      new = record old { past = l.more ++ old.past };
      goes = steps (answer.Ticket ticket) (record old { past = l.more ++ old.past })
          (none, next, record { more = l.more; adds = l.adds; kept = l.account.rests.kept; is = refl });
      behind = record { link = same ∙ b.link; idle = b.idle; unwanted = b.unwanted; behind = l.account };
    }
asks_lead first depth asking does old hub new (Err why) steps wants b same (w, a) =
    why_refused first depth asking does old new why (ask_fault (setting_of first depth) old.past asking) steps wants
    (record { link = same ∙ b.link; idle = b.idle; unwanted = b.unwanted; behind = a }) refl (no_memory (setting_of first depth) (ended old.past) old.past asking) w

-- ---- the hub is given up

gives : (first depth : ℕ) (old : Worldly) (hub new : HubParts Looped) (over : Option End) → ended old.past ≡ over
    → (over ≡ None → LeadsOn (tells begun.link) (tells new.link) (counted new.link) (setting_of first depth) old.past old.link.sent old.link.taken AddsGivingUp new.core)
    → ((e : End) → over ≡ Some e → new ≡ hub)
    → IsBehind first depth old hub → new.link ≡ hub.link → LeadsTo first depth event.GiveUp old (applied.Answer answer.Done) new
gives first depth old hub new None is given again b same =
    let l = given refl in
    record {
      new = record old { past = l.more ++ old.past };
      goes = subst (λ (x : Option End). GivesUp (setting_of first depth) x old (record old { past = l.more ++ old.past })) (sym is)
          (record { more = l.more; adds = l.adds; kept = l.account.rests.kept; is = refl });
      behind = record { link = same ∙ b.link; idle = b.idle; unwanted = b.unwanted; behind = l.account };
    }
gives first depth old hub new (Some e) is given again b same =
    record {
      new = old;
      goes = subst (λ (x : Option End). GivesUp (setting_of first depth) x old old) (sym is) refl;
      behind = subst (λ (h : HubParts Looped). IsBehind first depth old h) (sym (again e refl)) b;
    }

pub giving_leads : (first depth : ℕ) (old : Worldly) (hub new : HubParts Looped)
    → (hub.core.end ≡ None → (start : _) (s : Setting) (past : Past) (sent received : List ℕ) → Behind tells counted start s past sent received hub
    → LeadsOn start (tells new.link) (counted new.link) s past sent received AddsGivingUp new.core)
    → ((e : End) → hub.core.end ≡ Some e → new ≡ hub)
    → IsBehind first depth old hub → new.link ≡ hub.link → LeadsTo first depth event.GiveUp old (applied.Answer answer.Done) new
giving_leads first depth old hub new given again b same =
    gives first depth old hub new hub.core.end (sym b.behind.rests.knows.over)
    (λ e. given e (tells begun.link) (setting_of first depth) old.past old.link.sent old.link.taken b.behind) again b same

-- ---- the instrument makes a step

-- an act of the instrument leaves the pace and the bytes as they are
record Stays (old new : Looped) : Type 0 where
  pace : new.pace ≡ old.pace
  wants : new.wants ≡ old.wants
  sent : new.sent ≡ old.sent
  taken : new.taken ≡ old.taken

moved_stays : (old new : Looped) → HasMoved AreArrivals old new → Stays old new
moved_stays old new moved = record {
  pace = ap (λ (l : Looped). l.pace) moved.is;
  wants = ap (λ (l : Looped). l.wants) moved.is;
  sent = ap (λ (l : Looped). l.sent) moved.is;
  taken = ap (λ (l : Looped). l.taken) moved.is;
}

same_stays : (old new : Looped) → new ≡ old → Stays old new
same_stays old new is = record { pace = ap (λ (l : Looped). l.pace) is; wants = ap (λ (l : Looped). l.wants) is; sent = ap (λ (l : Looped). l.sent) is; taken = ap (λ (l : Looped). l.taken) is }

then_stays : (old mid new : Looped) → Stays old mid → Stays mid new → Stays old new
then_stays old mid new a b = record { pace = b.pace ∙ a.pace; wants = b.wants ∙ a.wants; sent = b.sent ∙ a.sent; taken = b.taken ∙ a.taken }

catching_stays : (late : Bool) (old ready : Looped) → CatchesUp late old ready → Stays old ready
catching_stays true old ready (moved, l) = moved_stays old ready moved
catching_stays false old ready is = same_stays old ready is

act_stays : (does : DevEvent) (old : Looped) (step : TendStep) (new : Looped) → ActEnds does old step new → Stays old new
act_stays does old tend.Did new a = record {
  pace = ap (λ (l : Looped). l.pace) a.is;
  wants = ap (λ (l : Looped). l.wants) a.is;
  sent = ap (λ (l : Looped). l.sent) a.is;
  taken = ap (λ (l : Looped). l.taken) a.is;
}
act_stays does old tend.NotNow new a = same_stays old new a.is
act_stays does old tend.Memory new a = same_stays old new a.is

tend_stays : (does : DevEvent) (old : Looped) (step : TendStep) (new : Looped) → Tends old (act.Dev does) step new → Stays old new
tend_stays does old tend.Did new t = then_stays old t.ready new (catching_stays old.late old t.ready t.catches) (act_stays does t.ready tend.Did new t.ends)
tend_stays does old tend.NotNow new t = then_stays old t.ready new (catching_stays old.late old t.ready t.catches) (act_stays does t.ready tend.NotNow new t.ends)
tend_stays does old tend.Memory new (inl t) = then_stays old t.ready new (catching_stays old.late old t.ready t.catches) (act_stays does t.ready tend.Memory new t.ends)
tend_stays does old tend.Memory new (inr t) = moved_stays old new t.moved

behind_stays : (first depth : ℕ) (old : Worldly) (link : Looped) (new : HubParts Looped) → link ≡ old.link → Stays link new.link → IsBehind first depth old (record { link = link; core = new.core })
    → Behind tells counted (tells begun.link) (setting_of first depth) old.past old.link.sent old.link.taken new
    → IsBehind first depth (record { past = old.past; link = new.link }) new
behind_stays first depth old link new same st b went =
    record {
      link = refl;
      idle = st.pace ∙ ap (λ (l : Looped). l.pace) same ∙ b.idle;
      unwanted = st.wants ∙ ap (λ (l : Looped). l.wants) same ∙ b.unwanted;
      behind = subst (λ (bytes : List ℕ). Behind tells counted (tells begun.link) (setting_of first depth) old.past bytes new.link.taken new)
          (sym (st.sent ∙ ap (λ (l : Looped). l.sent) same))
          (subst (λ (bytes : List ℕ). Behind tells counted (tells begun.link) (setting_of first depth) old.past old.link.sent bytes new)
          (sym (st.taken ∙ ap (λ (l : Looped). l.taken) same)) went);
    }

acts_goes : (first depth : ℕ) (does : DevEvent) (old : Worldly) (step : TendStep) (new : HubParts Looped) → Tends old.link (act.Dev does) step new.link
    → IsBehind first depth (record { past = old.past; link = new.link }) new → LeadsTo first depth (event.Dev does) old (applied_step step) new
acts_goes first depth does old tend.Did new t b = record { new = record { past = old.past; link = new.link }; goes = (refl, t); behind = b }
acts_goes first depth does old tend.NotNow new t b = record { new = record { past = old.past; link = new.link }; goes = (refl, t); behind = b }
acts_goes first depth does old tend.Memory new t b = record { new = record { past = old.past; link = new.link }; goes = (refl, t); behind = b }

pub acts_lead : (first depth : ℕ) (does : DevEvent) (old : Worldly) (hub new : HubParts Looped) (step : TendStep) → Tends hub.link (act.Dev does) step new.link
    → new.core ≡ hub.core
    → ((start : _) (s : Setting) (past : Past) (sent received : List ℕ) → Behind tells counted start s past sent received hub → Behind tells counted start s past sent received new)
    → IsBehind first depth old hub → LeadsTo first depth (event.Dev does) old (applied_step step) new
acts_lead first depth does old hub new step t core on b =
    acts_goes first depth does old step new (subst (λ (l : Looped). Tends l (act.Dev does) step new.link) b.link t)
    (behind_stays first depth old hub.link new b.link (tend_stays does hub.link step new.link t)
    (subst (λ (x : _). IsBehind first depth old (record { link = hub.link; core = x })) (sym core) b)
    (on (tells begun.link) (setting_of first depth) old.past old.link.sent old.link.taken b.behind))
