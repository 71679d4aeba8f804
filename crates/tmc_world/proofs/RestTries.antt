-- one move of a world that stands behind a hub
use Rattle.std.proofs.Common.{drop, slice_index_or, IfOk, ◌≡◌, ◌∙◌, ◌≢◌, ◌+◌, ◌*◌, ◌-◌, ◌^◌, ◌<◌, ◌≤◌, inl, inr, ℕ, Bool, true, false, List, [], ◌∷◌, ◌++◌, length, Option, Some, None, Result, Ok, Err, refl, sym, ap, ap₂, subst, arith, length-append}
use Rattle.std.specs.Prelude.{◌⊎◌}
use Rattle.tmc_base.specs.declared.memory.Memory.{Memory}
use Rattle.tmc_base.specs.declared.link.TendStep.TheVariants as tend
use Rattle.host_urbs.specs.Record as urbs
use Rattle.host_hub.specs.declared.outcome.End.{End}
use Rattle.host_hub.specs.Behind.{HubParts}
use Rattle.host_hub.specs.Crossings.{crossings}
use Rattle.host_hub.specs.Hand.{ended}
use Rattle.host_hub.specs.Order.{Setting, message_of}
use Rattle.host_hub.specs.Record.{Past, Wrote, Took, Fell, Stopped, Recovers, Asked, Cancelled, Cleared, GaveUp, Settled, next}
use Rattle.tmc_law.specs.declared.dev_event.DevEvent.{DevEvent}
use Rattle.tmc_device.specs.Events.{NoneLawful}
use Rattle.usbip_export.specs.Seen.{Seen, standing}
use Rattle.usbip_export.specs.Events.{AreCalmMoves, IsCalmMove, all}
use Rattle.usbip_export.specs.Work.{weight}
use Rattle.event_text.specs.declared.answer.EventAnswer.{EventAnswer}
use Rattle.event_text.specs.declared.answer.EventAnswer.TheVariants as answer
use Rattle.event_text.specs.declared.event.Event.{Event}
use Rattle.event_text.specs.declared.event.Event.TheVariants as event
use Rattle.tmc_world.specs.declared.applied.Applied.TheVariants as applied
use Rattle.tmc_world.specs.LoopLink.{Looped, Acts, ActGoes, CatchesUp, IsNotNow}
use Rattle.tmc_world.specs.World.{Worldly, HasWorld, IsBehind, outbox, setting_of}
use Rattle.tmc_world.specs.WorldSteps.{GoesDown, GoesUp, IsClosedTo, IsFirstOpen, IsLawfulNow, MayGoDown, MayGoUp, Moves, NoneOpen, Steps}
use Rattle.tmc_world.specs.WorldEvents.{LeadsTo, MoveWants}
use Rattle.tmc_world.specs.Rests.{IsLess, Left, WantsFirst, left_of, writes_left, down_moves, steps_of, up_moves}
use Rattle.tmc_world.specs.RestCalls.{AreShut, HasTaken, IsSpent, MakesNone, MakesOne, Tries, WantsOne, ends_left, to_send, to_take, to_write}
use Rattle.tmc_world.proofs.Bounded.{Lessens}
use Rattle.tmc_world.proofs.Turning.{outbox_is}
use Rattle.tmc_world.proofs.RestNumbers.{Fits}
use Rattle.tmc_world.proofs.RestTurns.{IsOver, WentDown}
use Rattle.tmc_world.proofs.RestLess.{Down, UpLess, down_less, up_less, writes_of}

-- ---- a world and its hub have the same to do

next_crosses : (s : Setting) (past : Past) → next s.first past ≡ urbs.next s.first (crossings s past)
next_crosses s [] = omega arith
next_crosses s (Wrote number owner order ∷ past) =
    let is = next_crosses s past in
    let e = length-append (urbs.written (crossings s past)) (message_of s number order ∷ []) in
    omega (arith, is, e)
next_crosses s (Took answer ∷ past) = next_crosses s past
next_crosses s (Fell answer e ∷ past) = next_crosses s past
next_crosses s (Stopped e ∷ past) = next_crosses s past
next_crosses s (Recovers ∷ past) = next_crosses s past
next_crosses s (Asked t asking ∷ past) = next_crosses s past
next_crosses s (Cancelled t ∷ past) = next_crosses s past
next_crosses s (Cleared session ∷ past) = next_crosses s past
next_crosses s (GaveUp ∷ past) = next_crosses s past
next_crosses s (Settled t outcome ∷ past) = next_crosses s past

pub writes_is : (first depth : ℕ) (world : Worldly) (hub : HubParts Looped) → IsBehind first depth world hub
    → to_write hub ≡ writes_of (setting_of first depth) world.past
writes_is first depth world hub b =
    ap₂ writes_left b.behind.rests.knows.over (b.behind.rests.knows.follows.number ∙ sym (next_crosses (setting_of first depth) world.past))

pub sends_is : (first depth : ℕ) (world : Worldly) (hub : HubParts Looped) → IsBehind first depth world hub
    → to_send hub ≡ writes_of (setting_of first depth) world.past * 4097 + length (outbox (setting_of first depth) world)
sends_is first depth world hub b =
    ap₂ (λ (a b : ℕ). a * 4097 + b) (writes_is first depth world hub b) (ap length (outbox_is first depth world hub b))

-- two hubs behind which the same world stands
pub same_sends : (first depth : ℕ) (world : Worldly) (a b : HubParts Looped) → IsBehind first depth world a → IsBehind first depth world b → to_send a ≡ to_send b
same_sends first depth world a b ba bb = sends_is first depth world a ba ∙ sym (sends_is first depth world b bb)

pub same_writes : (first depth : ℕ) (world : Worldly) (a b : HubParts Looped) → IsBehind first depth world a → IsBehind first depth world b → to_write a ≡ to_write b
same_writes first depth world a b ba bb = writes_is first depth world a ba ∙ sym (writes_is first depth world b bb)

few : (first depth : ℕ) (world : Worldly) (hub : HubParts Looped) → IsBehind first depth world hub → length hub.core.urbs.outbox ≤ 4096
few first depth world hub b = b.behind.short

pub worlds_alike : (a b : Worldly) → a.past ≡ b.past → a.link ≡ b.link → a ≡ b
worlds_alike a b p l = ap₂ (λ x y. record { past = x; link = y }) p l

-- ---- a step of the instrument

pub caught_up : (late : Bool) (old ready : Looped) → late ≡ false → CatchesUp late old ready → ready ≡ old
caught_up true old ready unlate c = cc
caught_up false old ready unlate c = c

pub acts_now : (s : Setting) (does : DevEvent) (old new : Worldly) (said : EventAnswer) → old.link.late ≡ false → Steps s (event.Dev does) old said new
    → Moves s (event.Dev does) old new
acts_now s does old new answer.Done unlate (past, goes) =
    (past, subst (λ (l : Looped). Acts does l new.link) (caught_up old.link.late old.link goes.ready unlate goes.catches) goes.ends)
acts_now s does old new (answer.Ticket t) unlate goes = absurd goes
acts_now s does old new (answer.Refused why) unlate goes = absurd goes
acts_now s does old new (answer.CancelSaid said) unlate goes = absurd goes
acts_now s does old new (answer.DropSaid said) unlate goes = absurd goes
acts_now s does old new (answer.NotCleared why) unlate goes = absurd goes

pub lawful_now : (does : DevEvent) (old new : Looped) → Acts does old new → IsLawfulNow does (standing old.node)
lawful_now does old new acts =
    record { move = acts.drives.move; puts = acts.drives.puts; next = standing new.node; allowed = acts.drives.allowed; steps = acts.drives.steps }

-- the law allows none, and the world is as before
pub record Declines (does : DevEvent) (old new : Worldly) : Type 0 where
  pub shut : IsLawfulNow does (standing old.link.node) → ⊥
  pub same : new ≡ old

pub declines : (s : Setting) (does : DevEvent) (old new : Worldly) → old.link.late ≡ false → IsClosedTo s (event.Dev does) old new → Declines does old new
declines s does old new unlate (past, goes) =
    let is = caught_up old.link.late old.link goes.ready unlate goes.catches in
    let none = subst (λ (x : Looped). NoneLawful does (standing x.node)) is goes.ends.none in
    record {
      shut = λ l. none l.move l.puts l.next l.allowed l.steps;
      same = worlds_alike new old past (goes.ends.is ∙ is);
    }

-- the first of some steps
pub record StepMade (old new : Worldly) : Type 0 where
  pub does : DevEvent
  pub calm : IsCalmMove does
  pub past : new.past ≡ old.past
  pub acts : Acts does old.link new.link

pub step_made : (s : Setting) (move : Event) (steps : List DevEvent) (old new : Worldly) → AreCalmMoves steps → IsFirstOpen s move (steps_of steps) old
    → Moves s move old new → StepMade old new
step_made s move [] old new calm opened goes = absurd opened
step_made s move (it ∷ steps) old new calm (inl (is, may)) goes =
    let g = subst (λ (m : Event). Moves s m old new) is goes in
    record { does = it; calm = calm.0; past = g.0; acts = g.1 }
step_made s move (it ∷ steps) old new calm (inr (shut, opened)) goes = step_made s move steps old new calm.1 opened goes

pub tries_first : (first depth : ℕ) (does : DevEvent) (others : List DevEvent) (old : Worldly) (said : EventAnswer) (hub : HubParts Looped) → old.link.late ≡ false
    → LeadsTo first depth (event.Dev does) old (applied.Answer said) hub → MakesOne first depth (steps_of (does ∷ others)) old hub
tries_first first depth does others old said hub unlate l =
    let goes = acts_now (setting_of first depth) does old l.new said unlate l.goes in
    record { new = l.new; move = event.Dev does; opened = inl (refl, lawful_now does old.link l.new.link goes.1); goes = goes; behind = l.behind }

pub tries_next : (first depth : ℕ) (does : DevEvent) (others : List DevEvent) (old : Worldly) (result : Result Bool Memory) (hub : HubParts Looped)
    → (IsLawfulNow does (standing old.link.node) → ⊥) → Tries first depth (steps_of others) old result hub
    → Tries first depth (steps_of (does ∷ others)) old result hub
tries_next first depth does others old (Ok true) hub shut t =
    record { new = t.new; move = t.move; opened = inr (shut, t.opened); goes = t.goes; behind = t.behind }
tries_next first depth does others old (Ok false) hub shut t = record { none = (shut, t.none); behind = t.behind }
tries_next first depth does others old (Err memory) hub shut t = record { new = t.new; wants = inr (shut, t.wants); behind = t.behind }

-- behind a step that was declined the same world stands
pub declined_behind : (first depth : ℕ) (does : DevEvent) (old : Worldly) (hub : HubParts Looped) → old.link.late ≡ false
    → LeadsTo first depth (event.Dev does) old applied.NotEnabled hub → (IsLawfulNow does (standing old.link.node) → ⊥) × IsBehind first depth old hub
declined_behind first depth does old hub unlate l =
    let d = declines (setting_of first depth) does old l.new unlate l.goes in
    (d.shut, subst (λ (w : Worldly). IsBehind first depth w hub) d.same l.behind)

pub tries_wants : (first depth : ℕ) (does : DevEvent) (others : List DevEvent) (old : Worldly) (hub : HubParts Looped)
    → LeadsTo first depth (event.Dev does) old applied.Memory hub → WantsOne first depth (steps_of (does ∷ others)) old hub
tries_wants first depth does others old hub l = record { new = l.new; wants = inl l.goes; behind = l.behind }

-- the weight of what is left to do
pub step_lighter : Lessens → (steps : List DevEvent) (old new : HubParts Looped) (h : HasWorld old) → AreCalmMoves steps
    → MakesOne h.first h.depth (steps_of steps) h.world new → weight (standing new.link.node) < weight (standing old.link.node)
step_lighter lessens steps old new h calm m =
    let g = step_made (setting_of h.first h.depth) m.move steps h.world m.new calm m.opened m.goes in
    let less = lessens g.does h.world.link.node m.new.link.node g.calm g.acts.drives in
    let a = ap (λ (l : Looped). weight (standing l.node)) h.behind.link in
    let b = ap (λ (l : Looped). weight (standing l.node)) m.behind.link in
    omega (arith, less, a, b)

-- ---- bytes up

pub up_made : (first depth : ℕ) (old : Worldly) (said : EventAnswer) (hub : HubParts Looped) → LeadsTo first depth (event.Up all) old (applied.Answer said) hub
    → MakesOne first depth up_moves old hub
up_made first depth old said hub l = by said l.goes where
  by : (a : EventAnswer) → Steps (setting_of first depth) (event.Up all) old a l.new → MakesOne first depth up_moves old hub
  by answer.Done goes = record { new = l.new; move = event.Up all; opened = inl (refl, goes.0); goes = goes; behind = l.behind }
  by (answer.Ticket t) goes = absurd goes
  by (answer.Refused why) goes = absurd goes
  by (answer.CancelSaid said) goes = absurd goes
  by (answer.DropSaid said) goes = absurd goes
  by (answer.NotCleared why) goes = absurd goes

pub up_closed : (first depth : ℕ) (old : Worldly) (hub : HubParts Looped) → LeadsTo first depth (event.Up all) old applied.NotEnabled hub
    → MakesNone first depth up_moves old hub
up_closed first depth old hub l = record { none = (l.goes.0, tt); behind = subst (λ (w : Worldly). IsBehind first depth w hub) l.goes.1 l.behind }

pub up_wants : (first depth : ℕ) (old : Worldly) (hub : HubParts Looped) → LeadsTo first depth (event.Up all) old applied.Memory hub
    → WantsOne first depth up_moves old hub
up_wants first depth old hub l = record { new = l.new; wants = inl l.goes; behind = l.behind }

went_up : (s : Setting) (move : Event) (old new : Worldly) → IsFirstOpen s move up_moves old → Moves s move old new → GoesUp s all old new
went_up s move old new (inl (is, may)) goes = subst (λ (m : Event). Moves s m old new) is goes
went_up s move old new (inr (shut, never)) goes = absurd never

pub up_lighter : Fits → (old new : HubParts Looped) (h : HasWorld old) → MakesOne h.first h.depth up_moves h.world new → to_send new < to_send old
up_lighter fits old new h m = by (up_less fits h.first h.depth all h.world m.new h.numbered (went_up (setting_of h.first h.depth) m.move h.world m.new m.opened m.goes)) where
  s : Setting
  s = setting_of h.first h.depth

  a : to_send old ≡ writes_of s h.world.past * 4097 + length (outbox s h.world)
  a = sends_is h.first h.depth h.world old h.behind

  b : to_send new ≡ writes_of s m.new.past * 4097 + length (outbox s m.new)
  b = sends_is h.first h.depth m.new new m.behind

  c : length (outbox s m.new) ≤ 4096
  c = subst (λ (bytes : List ℕ). length bytes ≤ 4096) (outbox_is h.first h.depth m.new new m.behind) (few h.first h.depth m.new new m.behind)

  by : UpLess s h.world m.new → to_send new < to_send old
  by (inl less) = omega (arith, a, b, c, less)
  by (inr (same, less)) = omega (arith, a, b, same, less)

-- ---- bytes down

pub down_made : (first depth : ℕ) (old : Worldly) (said : EventAnswer) (hub : HubParts Looped) → LeadsTo first depth (event.Down all) old (applied.Answer said) hub
    → MakesOne first depth down_moves old hub
down_made first depth old said hub l = by said l.goes where
  by : (a : EventAnswer) → Steps (setting_of first depth) (event.Down all) old a l.new → MakesOne first depth down_moves old hub
  by answer.Done goes = record { new = l.new; move = event.Down all; opened = inl (refl, goes.0); goes = goes; behind = l.behind }
  by (answer.Ticket t) goes = absurd goes
  by (answer.Refused why) goes = absurd goes
  by (answer.CancelSaid said) goes = absurd goes
  by (answer.DropSaid said) goes = absurd goes
  by (answer.NotCleared why) goes = absurd goes

pub down_closed : (first depth : ℕ) (old : Worldly) (hub : HubParts Looped) → LeadsTo first depth (event.Down all) old applied.NotEnabled hub
    → MakesNone first depth down_moves old hub
down_closed first depth old hub l = record { none = (l.goes.0, tt); behind = subst (λ (w : Worldly). IsBehind first depth w hub) l.goes.1 l.behind }

pub down_wants : (first depth : ℕ) (old : Worldly) (hub : HubParts Looped) → LeadsTo first depth (event.Down all) old applied.Memory hub
    → WantsOne first depth down_moves old hub
down_wants first depth old hub l = record { new = l.new; wants = inl l.goes; behind = l.behind }

went_down : (s : Setting) (move : Event) (old new : Worldly) → IsFirstOpen s move down_moves old → Moves s move old new → GoesDown s all old new
went_down s move old new (inl (is, may)) goes = subst (λ (m : Event). Moves s m old new) is goes
went_down s move old new (inr (shut, never)) goes = absurd never

no_more : (s : Setting) (old new : Worldly) → IsLess (left_of s new) (left_of s old) → writes_of s new.past ≤ writes_of s old.past
no_more s old new (inl less) = omega (arith, less)
no_more s old new (inr (same, rest)) = omega (arith, same)

fewer_left : (old new : ℕ) (before after : Option End) → before ≡ None → new ≤ old → ((e : End) × (after ≡ Some e)) ⊎ (new < old)
    → ends_left after + new < ends_left before + old
fewer_left old new (Some e) after runs most less = cc
fewer_left old new None after runs most (inl (e, over)) = let is = ap ends_left over in omega (arith, is, most)
fewer_left old new None None runs most (inr less) = omega (arith, less)
fewer_left old new None (Some e) runs most (inr less) = omega (arith, less)

pub down_taken : Fits → (old new : HubParts Looped) (h : HasWorld old) → IsSpent old → MakesOne h.first h.depth down_moves h.world new → HasTaken old new
down_taken fits old new h spent m = record {
  unlate = ap (λ (l : Looped). l.late) m.behind.link ∙ d.went.unlate;
  stands = ap (λ (l : Looped). standing l.node) m.behind.link ∙ d.went.stands ∙ sym (ap (λ (l : Looped). standing l.node) h.behind.link);
  less =
      subst (λ (n : ℕ). ends_left new.core.end + n < ends_left old.core.end + length old.link.node.out) (sym (ap (λ (l : Looped). length l.node.out) m.behind.link))
      (subst (λ (n : ℕ). ends_left new.core.end + length m.new.link.node.out < ends_left old.core.end + n) (sym (ap (λ (l : Looped). length l.node.out) h.behind.link))
      (fewer_left (length h.world.link.node.out) (length m.new.link.node.out) old.core.end new.core.end runs d.went.no_more (over d.went.less)));
  no_more = let l = no_more s h.world m.new d.less in omega (arith, l, was, is);
  wrote = λ more. let l = d.writes (λ none. more (outbox_is h.first h.depth m.new new m.behind ∙ none)) in omega (arith, l, was, is);
} where
  s : Setting
  s = setting_of h.first h.depth

  goes : GoesDown s all h.world m.new
  goes = went_down s m.move h.world m.new m.opened m.goes

  runs : old.core.end ≡ None
  runs = h.behind.behind.rests.knows.over ∙ goes.0.runs

  d : Down s h.world m.new
  d = down_less fits h.first h.depth all h.world m.new h.numbered (ap (λ (l : Looped). l.late) (sym h.behind.link) ∙ spent.unlate)
      (sym (outbox_is h.first h.depth h.world old h.behind) ∙ spent.sent runs) goes

  was : to_write old ≡ writes_of s h.world.past
  was = writes_is h.first h.depth h.world old h.behind

  is : to_write new ≡ writes_of s m.new.past
  is = writes_is h.first h.depth m.new new m.behind

  over : IsOver m.new.past ⊎ (length m.new.link.node.out < length h.world.link.node.out)
      → ((e : End) × (new.core.end ≡ Some e)) ⊎ (length m.new.link.node.out < length h.world.link.node.out)
  over (inl (e, it)) = inl (e, m.behind.behind.rests.knows.over ∙ it)
  over (inr less) = inr less

-- ---- the first of some steps, and the others

pub late_in : (first depth : ℕ) (world : Worldly) (hub : HubParts Looped) (late : Bool) → IsBehind first depth world hub → hub.link.late ≡ late → world.link.late ≡ late
late_in first depth world hub late b is = ap (λ (l : Looped). l.late) (sym b.link) ∙ is

pub first_tried : (first depth : ℕ) (events : List DevEvent) (otherwise : DevEvent) (old : Worldly) (said : EventAnswer) (hub : HubParts Looped) → 1 ≤ length events
    → old.link.late ≡ false → LeadsTo first depth (event.Dev (slice_index_or events 0 otherwise)) old (applied.Answer said) hub
    → MakesOne first depth (steps_of events) old hub
first_tried first depth [] otherwise old said hub some unlate l = absurd (omega (arith, some))
first_tried first depth (does ∷ others) otherwise old said hub some unlate l = tries_first first depth does others old said hub unlate l

pub next_tried : (first depth : ℕ) (events others : List DevEvent) (otherwise : DevEvent) (old : Worldly) (result : Result Bool Memory) (mid new : HubParts Looped)
    → 1 ≤ length events → others ≡ drop 1 events → old.link.late ≡ false → LeadsTo first depth (event.Dev (slice_index_or events 0 otherwise)) old applied.NotEnabled mid
    → (IsBehind first depth old mid → old.link.late ≡ false → Tries first depth (steps_of others) old result new) → Tries first depth (steps_of events) old result new
next_tried first depth [] others otherwise old result mid new some rest unlate l next = absurd (omega (arith, some))
next_tried first depth (does ∷ behind) others otherwise old result mid new some rest unlate l next =
    let d = declined_behind first depth does old mid unlate l in
    tries_next first depth does behind old result new d.0 (subst (λ (es : List DevEvent). Tries first depth (steps_of es) old result new) rest (next d.1 unlate))

pub first_wants : (first depth : ℕ) (events : List DevEvent) (otherwise : DevEvent) (old : Worldly) (hub : HubParts Looped) → 1 ≤ length events
    → LeadsTo first depth (event.Dev (slice_index_or events 0 otherwise)) old applied.Memory hub → WantsOne first depth (steps_of events) old hub
first_wants first depth [] otherwise old hub some l = absurd (omega (arith, some))
first_wants first depth (does ∷ others) otherwise old hub some l = tries_wants first depth does others old hub l

-- the same weight is left behind a step that was declined
pub next_lighter : (events : List DevEvent) (otherwise : DevEvent) (result : Result Bool Memory) (old mid new : HubParts Looped) (h : HasWorld old) → old.link.late ≡ false
    → LeadsTo h.first h.depth (event.Dev (slice_index_or events 0 otherwise)) h.world applied.NotEnabled mid
    → (mid.link.late ≡ false → IfOk result (λ moved. moved ≡ true → weight (standing new.link.node) < weight (standing mid.link.node)))
    → IfOk result (λ moved. moved ≡ true → weight (standing new.link.node) < weight (standing old.link.node))
next_lighter events otherwise result old mid new h unlate l less = by result (less (ap (λ (x : Looped). x.late) same ∙ unlate)) where
  d : IsBehind h.first h.depth h.world mid
  d = (declined_behind h.first h.depth (slice_index_or events 0 otherwise) h.world mid (late_in h.first h.depth h.world old false h.behind unlate) l).1

  same : mid.link ≡ old.link
  same = d.link ∙ sym h.behind.link

  by : (r : Result Bool Memory) → IfOk r (λ moved. moved ≡ true → weight (standing new.link.node) < weight (standing mid.link.node))
      → IfOk r (λ moved. moved ≡ true → weight (standing new.link.node) < weight (standing old.link.node))
  by (Ok moved) f = λ is. subst (λ (x : Looped). weight (standing new.link.node) < weight (standing x.node)) same (f is)
  by (Err memory) f = tt

-- ---- what a call answered

pub made_if : (first depth : ℕ) (events : List Event) (old : Worldly) (r : Bool) (hub : HubParts Looped) → r ≡ true → Tries first depth events old (Ok r) hub
    → MakesOne first depth events old hub
made_if first depth events old r hub is t = subst (λ (x : Bool). Tries first depth events old (Ok x) hub) is t

pub none_if : (first depth : ℕ) (events : List Event) (old : Worldly) (r : Bool) (hub : HubParts Looped) → r ≡ false → Tries first depth events old (Ok r) hub
    → MakesNone first depth events old hub
none_if first depth events old r hub is t = subst (λ (x : Bool). Tries first depth events old (Ok x) hub) is t
