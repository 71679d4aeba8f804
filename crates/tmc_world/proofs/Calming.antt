-- calm events leave the acts of the instrument calm
use Rattle.std.proofs.Common.{◌≡◌, ◌∙◌, ◌⊎◌, inl, inr, ℕ, Bool, true, false, List, [], ◌∷◌, ◌++◌, Option, Some, None, refl, sym, ap, subst}
use Rattle.tmc_base.specs.declared.link.PollStep.{PollStep}
use Rattle.tmc_base.specs.declared.link.PollStep.TheVariants as poll
use Rattle.tmc_base.specs.declared.link.SendStep.{SendStep}
use Rattle.tmc_base.specs.declared.link.SendStep.TheVariants as send
use Rattle.tmc_base.specs.declared.link.TendStep.{TendStep}
use Rattle.tmc_base.specs.declared.link.TendStep.TheVariants as tend
use Rattle.tmc_law.specs.declared.dev_event.DevEvent.{DevEvent}
use Rattle.tmc_law.specs.State.{State, start}
use Rattle.host_joint.specs.Joint.{TellsCalmly}
use Rattle.host_hub.specs.declared.outcome.End.{End}
use Rattle.host_hub.specs.Hand.{ended}
use Rattle.host_hub.specs.HubCalls.{PollsOnce, SendsOnce}
use Rattle.host_hub.specs.Order.{Setting}
use Rattle.host_hub.specs.Record.{Asking}
use Rattle.event_text.specs.declared.answer.EventAnswer.{EventAnswer}
use Rattle.event_text.specs.declared.answer.EventAnswer.TheVariants as answer
use Rattle.event_text.specs.declared.event.Event.{Event}
use Rattle.event_text.specs.declared.event.Event.TheVariants as event
use Rattle.usbip_export.specs.Identity.{devid}
use Rattle.tmc_world.specs.declared.pace.Pace.{Pace}
use Rattle.tmc_world.specs.declared.pace.Pace.TheVariants.{Calm, Paced}
use Rattle.tmc_world.specs.Calm.{AreCalmActs, IsCalmEvent}
use Rattle.tmc_world.specs.LoopLink.{ActEnds, ActGoes, CatchesUp, IsTold, Looped, MayHaveMoved, Polls, Readies, Sends}
use Rattle.tmc_world.specs.World.{Worldly, begun}
use Rattle.tmc_world.specs.WorldSteps.{Answered, AreCalmEvents, Asks, GivesUp, Goes, GoThrough, IsClosedTo, IsFirstOpen, Moves, RestsBy, Steps, TurnsBy, moves}
use Rattle.tmc_world.specs.WorldFacts.{IsCalm}
use Rattle.tmc_world.proofs.Quiet.{calm_more}

-- ---- bytes that cross the link are no act

sends_acts : (old new : Looped) (piece : List ℕ) (step : SendStep) → Sends old piece step new → new.acts ≡ old.acts
sends_acts old new piece (send.Took n) sends = ap (λ (l : Looped). l.acts) sends.is
sends_acts old new piece send.Idle sends = ap (λ (l : Looped). l.acts) sends.is
sends_acts old new piece send.Failed sends = ap (λ (l : Looped). l.acts) sends.is
sends_acts old new piece send.Memory sends = ap (λ (l : Looped). l.acts) sends.is

ready_acts : (pace : Pace) (late : Bool) (old ready : Looped) → Readies pace late old ready → ready.acts ≡ old.acts
ready_acts Calm late old ready readies = ap (λ (l : Looped). l.acts) readies.0.is
ready_acts (Paced rooms) true old ready readies = ap (λ (l : Looped). l.acts) readies.is
ready_acts (Paced rooms) false old ready is = ap (λ (l : Looped). l.acts) is

wanting_acts : (pace : Pace) (late : Bool) (old new : Looped) → MayHaveMoved pace late old new → new.acts ≡ old.acts
wanting_acts Calm late old new moved = ap (λ (l : Looped). l.acts) moved.is
wanting_acts (Paced rooms) true old new moved = ap (λ (l : Looped). l.acts) moved.is
wanting_acts (Paced rooms) false old new moved = absurd moved

polls_acts : (old new : Looped) (size : ℕ) (step : PollStep) (bytes : List ℕ) → Polls old size step bytes new → new.acts ≡ old.acts
polls_acts old new size (poll.Got n) bytes polls =
    ap (λ (l : Looped). l.acts) polls.ends.is ∙ ready_acts old.pace old.late old polls.ready polls.begins.readies
polls_acts old new size poll.Idle bytes (inl polls) = ap (λ (l : Looped). l.acts) polls.is
polls_acts old new size poll.Idle bytes (inr polls) =
    ap (λ (l : Looped). l.acts) polls.ends.is ∙ ready_acts old.pace old.late old polls.ready polls.begins.readies
polls_acts old new size poll.Closed bytes polls =
    ap (λ (l : Looped). l.acts) polls.ends.is ∙ ready_acts old.pace old.late old polls.ready polls.begins.readies
polls_acts old new size poll.Failed bytes polls = ap (λ (l : Looped). l.acts) polls.is
polls_acts old new size poll.Memory bytes (inl polls) = ap (λ (l : Looped). l.acts) polls.is
polls_acts old new size poll.Memory bytes (inr polls) = wanting_acts old.pace old.late old new polls.moved

sent_acts : (outbox : List ℕ) (sent : Option SendStep) (old new : Looped) → SendsOnce Sends outbox sent old new → new.acts ≡ old.acts
sent_acts [] None old new is = ap (λ (l : Looped). l.acts) is
sent_acts [] (Some step) old new sends = absurd sends
sent_acts (byte ∷ bytes) None old new sends = absurd sends
sent_acts (byte ∷ bytes) (Some step) old new sends = sends_acts old new (byte ∷ bytes) step sends

polled_acts : (sent : Option SendStep) (came : Option PollStep) (bytes : List ℕ) (old new : Looped) → PollsOnce Polls sent came bytes old new → new.acts ≡ old.acts
polled_acts None None bytes old new polls = absurd polls
polled_acts None (Some step) bytes old new polls = polls_acts old new 8192 step bytes polls
polled_acts (Some send.Failed) None bytes old new polls = ap (λ (l : Looped). l.acts) polls.0
polled_acts (Some send.Failed) (Some step) bytes old new polls = absurd polls
polled_acts (Some (send.Took n)) None bytes old new polls = absurd polls
polled_acts (Some (send.Took n)) (Some step) bytes old new polls = polls_acts old new 8192 step bytes polls
polled_acts (Some send.Idle) None bytes old new polls = absurd polls
polled_acts (Some send.Idle) (Some step) bytes old new polls = polls_acts old new 8192 step bytes polls
polled_acts (Some send.Memory) None bytes old new polls = absurd polls
polled_acts (Some send.Memory) (Some step) bytes old new polls = polls_acts old new 8192 step bytes polls

turn_acts : (s : Setting) (rooms : Pace) (sent : Option SendStep) (came : Option PollStep) (old new : Worldly) → TurnsBy s rooms sent came old new
    → new.link.acts ≡ old.link.acts
turn_acts s rooms sent came old new turns =
    ap (λ (l : Looped). l.acts) turns.link
    ∙ (polled_acts sent came turns.bytes turns.between turns.later turns.polls ∙ sent_acts _ sent _ turns.between turns.sends)

-- ---- calm acts

calm_of : (old new : Worldly) → new.link.acts ≡ old.link.acts → AreCalmActs old.link.acts → AreCalmActs new.link.acts
calm_of old new same calm = subst AreCalmActs (sym same) calm

catching_acts : (late : Bool) (old ready : Looped) → CatchesUp late old ready → ready.acts ≡ old.acts
catching_acts true old ready catches = ap (λ (l : Looped). l.acts) catches.0.is
catching_acts false old ready is = ap (λ (l : Looped). l.acts) is

acted_calm : (does : DevEvent) (old new : Looped) → ActGoes does old tend.Did new → IsCalmEvent (event.Dev does) → AreCalmActs old.acts → AreCalmActs new.acts
acted_calm does old new goes is calm =
    subst AreCalmActs (sym (ap (λ (l : Looped). l.acts) goes.ends.is))
    (calm_more goes.ready.acts does (subst AreCalmActs (sym (catching_acts old.late old goes.ready goes.catches)) calm) is)

declined_acts : (does : DevEvent) (old new : Looped) → ActGoes does old tend.NotNow new → new.acts ≡ old.acts
declined_acts does old new goes = ap (λ (l : Looped). l.acts) goes.ends.is ∙ catching_acts old.late old goes.ready goes.catches

asks_calm : (s : Setting) (asking : Asking) (old : Worldly) (said : EventAnswer) (new : Worldly) → Asks s asking old said new → new.link.acts ≡ old.link.acts
asks_calm s asking old (answer.Ticket t) new asks = ap (λ (w : Worldly). w.link.acts) asks.2.is
asks_calm s asking old (answer.Refused why) new asks = ap (λ (w : Worldly). w.link.acts) asks.1
asks_calm s asking old (answer.CancelSaid c) new asks = absurd asks
asks_calm s asking old (answer.DropSaid d) new asks = absurd asks
asks_calm s asking old (answer.NotCleared f) new asks = absurd asks
asks_calm s asking old answer.Done new asks = absurd asks

gives_calm : (s : Setting) (over : Option End) (old new : Worldly) → GivesUp s over old new → new.link.acts ≡ old.link.acts
gives_calm s None old new gives = ap (λ (w : Worldly). w.link.acts) gives.is
gives_calm s (Some e) old new is = ap (λ (w : Worldly). w.link.acts) is

moves_calm : (s : Setting) (move : Event) (old new : Worldly) → IsCalmEvent move → Moves s move old new → AreCalmActs old.link.acts → AreCalmActs new.link.acts
moves_calm s (event.Up most) old new is goes calm = calm_of old new (turn_acts s _ goes.1.sent goes.1.came old new goes.1.turns) calm
moves_calm s (event.Down most) old new is goes calm = calm_of old new (turn_acts s _ goes.1.sent goes.1.came old new goes.1.turns) calm
moves_calm s (event.Dev does) old new is goes calm =
    subst AreCalmActs (sym (ap (λ (l : Looped). l.acts) goes.1.is)) (calm_more old.link.acts does calm is)
moves_calm s (event.Ask session limit message) old new is goes calm = absurd goes
moves_calm s (event.Tell session message) old new is goes calm = absurd goes
moves_calm s event.GiveUp old new is goes calm = absurd goes
moves_calm s event.FailSend old new is goes calm = absurd goes
moves_calm s event.FailPoll old new is goes calm = absurd goes
moves_calm s event.Rest old new is goes calm = absurd goes

abbrev AllCalm : List Event → Type 0
AllCalm [] = Unit {0}
AllCalm (first ∷ others) = IsCalmEvent first × AllCalm others

first_calm : (s : Setting) (move : Event) (events : List Event) (world : Worldly) → AllCalm events → IsFirstOpen s move events world → IsCalmEvent move
first_calm s move [] world all first = absurd first
first_calm s move (first ∷ others) world all (inl is) = subst IsCalmEvent (sym is.0) all.0
first_calm s move (first ∷ others) world all (inr later) = first_calm s move others world all.1 later.1

moves_are_calm : AllCalm moves
moves_are_calm = (tt, (tt, (tt, (tt, (tt, (tt, (tt, (tt, tt))))))))

rests_calm : (s : Setting) (made : List Event) (old new : Worldly) → RestsBy s made old new → AreCalmActs old.link.acts → AreCalmActs new.link.acts
rests_calm s [] old new rests calm = calm_of old new (ap (λ (w : Worldly). w.link.acts) rests.2) calm
rests_calm s (move ∷ more) old new rests calm =
    rests_calm s more rests.2 new rests.4 (moves_calm s move old rests.2 (first_calm s move moves old moves_are_calm rests.1) rests.3 calm)

steps_calm : (s : Setting) (does : Event) (old : Worldly) (said : EventAnswer) (new : Worldly) → IsCalmEvent does → Steps s does old said new
    → AreCalmActs old.link.acts → AreCalmActs new.link.acts
steps_calm s (event.Ask session limit message) old said new is steps calm = calm_of old new (asks_calm s _ old said new steps) calm
steps_calm s (event.Tell session message) old said new is steps calm = calm_of old new (asks_calm s _ old said new steps) calm
steps_calm s event.GiveUp old answer.Done new is steps calm = calm_of old new (gives_calm s (ended old.past) old new steps) calm
steps_calm s (event.Up most) old answer.Done new is steps calm = moves_calm s (event.Up most) old new tt steps calm
steps_calm s (event.Down most) old answer.Done new is steps calm = moves_calm s (event.Down most) old new tt steps calm
steps_calm s (event.Dev does) old answer.Done new is steps calm = acted_calm does old.link new.link steps.1 is calm
steps_calm s event.FailSend old answer.Done new is steps calm = calm_of old new (ap (λ (w : Worldly). w.link.acts) steps) calm
steps_calm s event.FailPoll old answer.Done new is steps calm = calm_of old new (ap (λ (w : Worldly). w.link.acts) steps) calm
steps_calm s event.Rest old answer.Done new is steps calm = rests_calm s steps.0 old new steps.1 calm
steps_calm s event.GiveUp old (answer.Ticket t) new is steps calm = absurd steps
steps_calm s event.GiveUp old (answer.Refused why) new is steps calm = absurd steps
steps_calm s event.GiveUp old (answer.CancelSaid c) new is steps calm = absurd steps
steps_calm s event.GiveUp old (answer.DropSaid d) new is steps calm = absurd steps
steps_calm s event.GiveUp old (answer.NotCleared f) new is steps calm = absurd steps
steps_calm s (event.Up most) old (answer.Ticket t) new is steps calm = absurd steps
steps_calm s (event.Up most) old (answer.Refused why) new is steps calm = absurd steps
steps_calm s (event.Up most) old (answer.CancelSaid c) new is steps calm = absurd steps
steps_calm s (event.Up most) old (answer.DropSaid d) new is steps calm = absurd steps
steps_calm s (event.Up most) old (answer.NotCleared f) new is steps calm = absurd steps
steps_calm s (event.Down most) old (answer.Ticket t) new is steps calm = absurd steps
steps_calm s (event.Down most) old (answer.Refused why) new is steps calm = absurd steps
steps_calm s (event.Down most) old (answer.CancelSaid c) new is steps calm = absurd steps
steps_calm s (event.Down most) old (answer.DropSaid d) new is steps calm = absurd steps
steps_calm s (event.Down most) old (answer.NotCleared f) new is steps calm = absurd steps
steps_calm s (event.Dev does) old (answer.Ticket t) new is steps calm = absurd steps
steps_calm s (event.Dev does) old (answer.Refused why) new is steps calm = absurd steps
steps_calm s (event.Dev does) old (answer.CancelSaid c) new is steps calm = absurd steps
steps_calm s (event.Dev does) old (answer.DropSaid d) new is steps calm = absurd steps
steps_calm s (event.Dev does) old (answer.NotCleared f) new is steps calm = absurd steps
steps_calm s event.FailSend old (answer.Ticket t) new is steps calm = absurd steps
steps_calm s event.FailSend old (answer.Refused why) new is steps calm = absurd steps
steps_calm s event.FailSend old (answer.CancelSaid c) new is steps calm = absurd steps
steps_calm s event.FailSend old (answer.DropSaid d) new is steps calm = absurd steps
steps_calm s event.FailSend old (answer.NotCleared f) new is steps calm = absurd steps
steps_calm s event.FailPoll old (answer.Ticket t) new is steps calm = absurd steps
steps_calm s event.FailPoll old (answer.Refused why) new is steps calm = absurd steps
steps_calm s event.FailPoll old (answer.CancelSaid c) new is steps calm = absurd steps
steps_calm s event.FailPoll old (answer.DropSaid d) new is steps calm = absurd steps
steps_calm s event.FailPoll old (answer.NotCleared f) new is steps calm = absurd steps
steps_calm s event.Rest old (answer.Ticket t) new is steps calm = absurd steps
steps_calm s event.Rest old (answer.Refused why) new is steps calm = absurd steps
steps_calm s event.Rest old (answer.CancelSaid c) new is steps calm = absurd steps
steps_calm s event.Rest old (answer.DropSaid d) new is steps calm = absurd steps
steps_calm s event.Rest old (answer.NotCleared f) new is steps calm = absurd steps

closed_acts : (s : Setting) (does : Event) (old new : Worldly) → IsClosedTo s does old new → new.link.acts ≡ old.link.acts
closed_acts s (event.Up most) old new closed = ap (λ (w : Worldly). w.link.acts) closed.1
closed_acts s (event.Down most) old new closed = ap (λ (w : Worldly). w.link.acts) closed.1
closed_acts s (event.Dev does) old new closed = declined_acts does old.link new.link closed.1
closed_acts s (event.Ask session limit message) old new closed = absurd closed
closed_acts s (event.Tell session message) old new closed = absurd closed
closed_acts s event.GiveUp old new closed = absurd closed
closed_acts s event.FailSend old new closed = absurd closed
closed_acts s event.FailPoll old new closed = absurd closed
closed_acts s event.Rest old new closed = absurd closed

goes_calm : (s : Setting) (does : Event) (old : Worldly) (said : Option EventAnswer) (new : Worldly) → IsCalmEvent does → Goes s does old said new
    → AreCalmActs old.link.acts → AreCalmActs new.link.acts
goes_calm s does old None new is goes calm = calm_of old new (closed_acts s does old new goes) calm
goes_calm s does old (Some said) new is goes calm = steps_calm s does old said new is goes calm

through_calm : (s : Setting) (events : List Answered) (old new : Worldly) → GoThrough s old events new → AreCalmEvents events → AreCalmActs old.link.acts
    → AreCalmActs new.link.acts
through_calm s [] old new goes all calm = calm_of old new (ap (λ (w : Worldly). w.link.acts) goes) calm
through_calm s (one ∷ more) old new goes all calm = through_calm s more goes.0 new goes.2 all.1 (goes_calm s one.event old one.said goes.0 all.0 goes.1 calm)

-- the run that is told from power-on is calm
pub told_calmly : (s : Setting) (events : List Answered) (new : Worldly) → GoThrough s begun events new → AreCalmEvents events → IsTold new.link
    → new.link.late ≡ false → IsCalm new
told_calmly s events new goes all told unlate =
    subst (λ (state : State). TellsCalmly devid start new.link.run state) (told.stands unlate) (told.calm (through_calm s events begun new goes all tt))
