-- an ask of a fresh world
use Rattle.std.proofs.Common.{◌≡◌, ℕ, zero, suc, ◌+◌, ◌<◌, ◌||◌, ◌≤◌, Bool, true, false, ltb, eqb, cond, List, [], ◌∷◌, length, Option, Some, None, refl, sym, ap, ◌∙◌, subst, arith}
use Rattle.std.proofs.Math.Dec.{eqb-suc-zero}
use Rattle.std.proofs.lemmas.Bool.{le-ltb}
use Rattle.host_hub.specs.declared.refusals.AskFault.{AskFault}
use Rattle.host_hub.specs.declared.refusals.AskFault.TheVariants as fault
use Rattle.host_hub.specs.Behind.{HubParts}
use Rattle.host_hub.specs.Refusals.{ask_fault}
use Rattle.event_text.specs.declared.answer.EventAnswer.{EventAnswer}
use Rattle.event_text.specs.declared.answer.EventAnswer.TheVariants as answer
use Rattle.event_text.specs.declared.event.Event.TheVariants.{Ask as ask, Rest as rest}
use Rattle.tmc_world.specs.declared.applied.Applied.{Applied}
use Rattle.tmc_world.specs.LoopLink.{Looped}
use Rattle.tmc_world.specs.World.{Worldly, IsBehind, begun, setting_of}
use Rattle.tmc_world.specs.WorldEvents.{LeadsTo}
use Rattle.tmc_world.specs.WorldSteps.{Asks, Goes, asking_of_ask}
use Rattle.tmc_tool.specs.Command.{IsLimit}
use Rattle.tmc_tool.specs.Line.{IsAsked}
use Rattle.tmc_tool.specs.Told.{AskedOnce, Tells, asked_once}
use Rattle.tmc_tool.specs.Going.{HasAsked, LedBy, applied_as}
use Rattle.tmc_tool.proofs.Going.{goes_as}
use Rattle.tmc_tool.proofs.Holding.{LeaveCalm, owns_so}

not_zero : (n : ℕ) → 0 < n → eqb n 0 ≡ false
not_zero zero some = absurd (omega (arith, some))
not_zero (suc n) some = eqb-suc-zero n

none_of : (a b c d e : Bool) → a ≡ false → b ≡ false → c ≡ false → d ≡ false → e ≡ false
    → cond a (Some fault.EmptyMessage) (cond b (Some fault.LongMessage) (cond (c || d) (Some fault.BadLimit) (cond e (Some fault.Full) None))) ≡ None
none_of a b c d e p q r s t = rw (p, q, r, s, t) refl

-- nothing is wrong with it
no_fault : (limit : ℕ) (message : List ℕ) → IsLimit limit → IsAsked message → ask_fault (setting_of 1 1) [] (asking_of_ask 0 limit message) ≡ None
no_fault limit message within asked =
    none_of _ _ _ _ _ (not_zero (length message) asked.some) (le-ltb 4096 (length message) asked.short) (not_zero limit (omega (arith, within.0)))
    (le-ltb 65535 limit within.1) (le-ltb 268435456 (0 + limit) (omega (arith, within.1)))

-- so it is the first ticket
first_ticket : (limit : ℕ) (message : List ℕ) (said : Option EventAnswer) (new : Worldly) → IsLimit limit → IsAsked message
    → Goes (setting_of 1 1) (ask 0 limit message) begun said new → Goes (setting_of 1 1) (ask 0 limit message) begun (Some (answer.Ticket 1)) new
first_ticket limit message None new within asked goes = absurd goes
first_ticket limit message (Some (answer.Ticket ticket)) new within asked goes =
    subst (λ t. Asks (setting_of 1 1) (asking_of_ask 0 limit message) begun (answer.Ticket t) new) goes.1 goes
first_ticket limit message (Some (answer.Refused why)) new within asked goes =
    let none = no_fault limit message within asked in
    let some = goes.0 in absurd (cc)
first_ticket limit message (Some (answer.CancelSaid said)) new within asked goes = absurd goes
first_ticket limit message (Some (answer.DropSaid said)) new within asked goes = absurd goes
first_ticket limit message (Some (answer.NotCleared why)) new within asked goes = absurd goes
first_ticket limit message (Some answer.Done) new within asked goes = absurd goes

-- a rest happens
rested : (old new : Worldly) (said : Option EventAnswer) → Goes (setting_of 1 1) rest old said new → Goes (setting_of 1 1) rest old (Some answer.Done) new
rested old new None goes = absurd goes
rested old new (Some (answer.Ticket ticket)) goes = absurd goes
rested old new (Some (answer.Refused why)) goes = absurd goes
rested old new (Some (answer.CancelSaid said)) goes = absurd goes
rested old new (Some (answer.DropSaid said)) goes = absurd goes
rested old new (Some (answer.NotCleared why)) goes = absurd goes
rested old new (Some answer.Done) goes = goes

pub asked_so : (limit : ℕ) (message : List ℕ) (old hub next : HubParts Looped) (became : Applied) (said : Option EventAnswer) → IsLimit limit → IsAsked message → HasAsked limit message old hub
    → ((first depth : ℕ) (world : Worldly) → IsBehind first depth world hub → LeadsTo first depth rest world became next) → became ≡ applied_as said
    → IsBehind 1 1 begun old → LedBy 1 1 begun (asked_once limit message) next
asked_so limit message old hub next became said within asked has rests same behind =
    let leads = has.leads 1 1 begun behind in
    let goes = first_ticket limit message has.said leads.new within asked (goes_as 1 1 (ask 0 limit message) begun leads.new (applied_as has.said) has.said refl leads.goes) in
    let last = rests 1 1 leads.new leads.behind in
    let done = rested leads.new last.new said (goes_as 1 1 rest leads.new last.new became said same last.goes) in
    record { new = last.new; goes = (leads.new, goes, (last.new, done, refl)); behind = last.behind }

pub reported_so : LeaveCalm → (limit : ℕ) (message : List ℕ) (hub : HubParts Looped) (text : List ℕ) → LedBy 1 1 begun (asked_once limit message) hub
    → hub.link.late ≡ false → ((now : Worldly) → IsBehind 1 1 now hub → Tells 1 1 now [] text) → AskedOnce limit message text
reported_so leave limit message hub text led late tells =
    let unlate = ap (λ (l : Looped). l.late) (sym led.behind.link) ∙ late in
    let told = tells led.new led.behind in
    record {
      begins = record { number = omega arith; some = omega arith; most = omega arith };
      world = led.new;
      goes = led.goes;
      tells = told;
      spelled = unlate;
      owns = owns_so leave 1 1 (asked_once limit message) led.new [] text (omega arith) led.goes unlate told;
    }
