-- the record of a world keeps its laws by each event
use Rattle.std.proofs.Common.{◌≡◌, ◌∙◌, ℕ, List, [], ◌∷◌, ◌++◌, Option, Some, None, refl, sym, ap, subst}
use Rattle.host_hub.specs.declared.outcome.End.{End}
use Rattle.host_hub.specs.Hand.{ended}
use Rattle.host_hub.specs.Law.{Kept}
use Rattle.host_hub.specs.Order.{Setting}
use Rattle.host_hub.specs.Record.{Asking, Past}
use Rattle.event_text.specs.declared.answer.EventAnswer.{EventAnswer}
use Rattle.event_text.specs.declared.answer.EventAnswer.TheVariants as answer
use Rattle.event_text.specs.declared.event.Event.{Event}
use Rattle.event_text.specs.declared.event.Event.TheVariants as event
use Rattle.tmc_world.specs.World.{Worldly}
use Rattle.tmc_world.specs.WorldSteps.{Answered, Asks, GivesUp, GoesOn, Goes, GoThrough, IsClosedTo, Moves, RestsBy, Steps}

kept_of : (s : Setting) (old new : Worldly) → new.past ≡ old.past → Kept s old.past → Kept s new.past
kept_of s old new same kept = subst (Kept s) (sym same) kept

goes_on : (s : Setting) (Adds : Past → Type 0) (old new : Worldly) → GoesOn s Adds old new → Kept s new.past
goes_on s Adds old new goes = subst (Kept s) (sym (ap (λ (w : Worldly). w.past) goes.is)) goes.kept

asks_kept : (s : Setting) (asking : Asking) (old : Worldly) (said : EventAnswer) (new : Worldly) → Asks s asking old said new → Kept s old.past → Kept s new.past
asks_kept s asking old (answer.Ticket t) new asks kept = goes_on s _ old new asks.2
asks_kept s asking old (answer.Refused why) new asks kept = kept_of s old new (ap (λ (w : Worldly). w.past) asks.1) kept
asks_kept s asking old (answer.CancelSaid c) new asks kept = absurd asks
asks_kept s asking old (answer.DropSaid d) new asks kept = absurd asks
asks_kept s asking old (answer.NotCleared f) new asks kept = absurd asks
asks_kept s asking old answer.Done new asks kept = absurd asks

gives_kept : (s : Setting) (over : Option End) (old new : Worldly) → GivesUp s over old new → Kept s old.past → Kept s new.past
gives_kept s None old new gives kept = goes_on s _ old new gives
gives_kept s (Some e) old new gives kept = kept_of s old new (ap (λ (w : Worldly). w.past) gives) kept

moves_kept : (s : Setting) (move : Event) (old new : Worldly) → Moves s move old new → Kept s old.past → Kept s new.past
moves_kept s (event.Up most) old new moves kept = moves.1.turns.kept
moves_kept s (event.Down most) old new moves kept = moves.1.turns.kept
moves_kept s (event.Dev does) old new moves kept = kept_of s old new moves.0 kept
moves_kept s (event.Ask session limit message) old new moves kept = absurd moves
moves_kept s (event.Tell session message) old new moves kept = absurd moves
moves_kept s event.GiveUp old new moves kept = absurd moves
moves_kept s event.FailSend old new moves kept = absurd moves
moves_kept s event.FailPoll old new moves kept = absurd moves
moves_kept s event.Rest old new moves kept = absurd moves

rests_kept : (s : Setting) (made : List Event) (old new : Worldly) → RestsBy s made old new → Kept s old.past → Kept s new.past
rests_kept s [] old new rests kept = kept_of s old new (ap (λ (w : Worldly). w.past) rests.2) kept
rests_kept s (move ∷ more) old new rests kept = rests_kept s more rests.2 new rests.4 (moves_kept s move old rests.2 rests.3 kept)

pub steps_kept : (s : Setting) (does : Event) (old : Worldly) (said : EventAnswer) (new : Worldly) → Steps s does old said new → Kept s old.past → Kept s new.past
steps_kept s (event.Ask session limit message) old said new steps kept = asks_kept s _ old said new steps kept
steps_kept s (event.Tell session message) old said new steps kept = asks_kept s _ old said new steps kept
steps_kept s event.GiveUp old answer.Done new steps kept = gives_kept s (ended old.past) old new steps kept
steps_kept s (event.Up most) old answer.Done new steps kept = steps.1.turns.kept
steps_kept s (event.Down most) old answer.Done new steps kept = steps.1.turns.kept
steps_kept s (event.Dev does) old answer.Done new steps kept = kept_of s old new steps.0 kept
steps_kept s event.FailSend old answer.Done new steps kept = kept_of s old new (ap (λ (w : Worldly). w.past) steps) kept
steps_kept s event.FailPoll old answer.Done new steps kept = kept_of s old new (ap (λ (w : Worldly). w.past) steps) kept
steps_kept s event.Rest old answer.Done new steps kept = rests_kept s steps.0 old new steps.1 kept
steps_kept s event.GiveUp old (answer.Ticket t) new steps kept = absurd steps
steps_kept s event.GiveUp old (answer.Refused why) new steps kept = absurd steps
steps_kept s event.GiveUp old (answer.CancelSaid c) new steps kept = absurd steps
steps_kept s event.GiveUp old (answer.DropSaid d) new steps kept = absurd steps
steps_kept s event.GiveUp old (answer.NotCleared f) new steps kept = absurd steps
steps_kept s (event.Up most) old (answer.Ticket t) new steps kept = absurd steps
steps_kept s (event.Up most) old (answer.Refused why) new steps kept = absurd steps
steps_kept s (event.Up most) old (answer.CancelSaid c) new steps kept = absurd steps
steps_kept s (event.Up most) old (answer.DropSaid d) new steps kept = absurd steps
steps_kept s (event.Up most) old (answer.NotCleared f) new steps kept = absurd steps
steps_kept s (event.Down most) old (answer.Ticket t) new steps kept = absurd steps
steps_kept s (event.Down most) old (answer.Refused why) new steps kept = absurd steps
steps_kept s (event.Down most) old (answer.CancelSaid c) new steps kept = absurd steps
steps_kept s (event.Down most) old (answer.DropSaid d) new steps kept = absurd steps
steps_kept s (event.Down most) old (answer.NotCleared f) new steps kept = absurd steps
steps_kept s (event.Dev does) old (answer.Ticket t) new steps kept = absurd steps
steps_kept s (event.Dev does) old (answer.Refused why) new steps kept = absurd steps
steps_kept s (event.Dev does) old (answer.CancelSaid c) new steps kept = absurd steps
steps_kept s (event.Dev does) old (answer.DropSaid d) new steps kept = absurd steps
steps_kept s (event.Dev does) old (answer.NotCleared f) new steps kept = absurd steps
steps_kept s event.FailSend old (answer.Ticket t) new steps kept = absurd steps
steps_kept s event.FailSend old (answer.Refused why) new steps kept = absurd steps
steps_kept s event.FailSend old (answer.CancelSaid c) new steps kept = absurd steps
steps_kept s event.FailSend old (answer.DropSaid d) new steps kept = absurd steps
steps_kept s event.FailSend old (answer.NotCleared f) new steps kept = absurd steps
steps_kept s event.FailPoll old (answer.Ticket t) new steps kept = absurd steps
steps_kept s event.FailPoll old (answer.Refused why) new steps kept = absurd steps
steps_kept s event.FailPoll old (answer.CancelSaid c) new steps kept = absurd steps
steps_kept s event.FailPoll old (answer.DropSaid d) new steps kept = absurd steps
steps_kept s event.FailPoll old (answer.NotCleared f) new steps kept = absurd steps
steps_kept s event.Rest old (answer.Ticket t) new steps kept = absurd steps
steps_kept s event.Rest old (answer.Refused why) new steps kept = absurd steps
steps_kept s event.Rest old (answer.CancelSaid c) new steps kept = absurd steps
steps_kept s event.Rest old (answer.DropSaid d) new steps kept = absurd steps
steps_kept s event.Rest old (answer.NotCleared f) new steps kept = absurd steps

closed_kept : (s : Setting) (does : Event) (old new : Worldly) → IsClosedTo s does old new → Kept s old.past → Kept s new.past
closed_kept s (event.Up most) old new closed kept = kept_of s old new (ap (λ (w : Worldly). w.past) closed.1) kept
closed_kept s (event.Down most) old new closed kept = kept_of s old new (ap (λ (w : Worldly). w.past) closed.1) kept
closed_kept s (event.Dev does) old new closed kept = kept_of s old new closed.0 kept
closed_kept s (event.Ask session limit message) old new closed kept = absurd closed
closed_kept s (event.Tell session message) old new closed kept = absurd closed
closed_kept s event.GiveUp old new closed kept = absurd closed
closed_kept s event.FailSend old new closed kept = absurd closed
closed_kept s event.FailPoll old new closed kept = absurd closed
closed_kept s event.Rest old new closed kept = absurd closed

pub goes_kept : (s : Setting) (does : Event) (old : Worldly) (said : Option EventAnswer) (new : Worldly) → Goes s does old said new → Kept s old.past → Kept s new.past
goes_kept s does old None new goes kept = closed_kept s does old new goes kept
goes_kept s does old (Some said) new goes kept = steps_kept s does old said new goes kept

pub through_kept : (s : Setting) (events : List Answered) (old new : Worldly) → GoThrough s old events new → Kept s old.past → Kept s new.past
through_kept s [] old new goes kept = kept_of s old new (ap (λ (w : Worldly). w.past) goes) kept
through_kept s (one ∷ more) old new goes kept = through_kept s more goes.0 new goes.2 (goes_kept s one.event old one.said goes.0 goes.1 kept)

-- ---- one event more

pub through_more : (s : Setting) (events : List Answered) (one : Answered) (old mid new : Worldly) → GoThrough s old events mid → Goes s one.event mid one.said new
    → GoThrough s old (events ++ one ∷ []) new
through_more s [] one old mid new through goes = (new, subst (λ (w : Worldly). Goes s one.event w one.said new) through goes, refl)
through_more s (first ∷ events) one old mid new through goes = (through.0, through.1, through_more s events one through.0 mid new through.2 goes)
