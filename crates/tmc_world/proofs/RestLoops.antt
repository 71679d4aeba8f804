-- moves of a world that stands behind a hub, one behind another
use Rattle.std.proofs.Common.{◌≡◌, ◌∙◌, ◌≢◌, ◌+◌, ◌*◌, ◌<◌, ◌≤◌, inl, inr, ℕ, Bool, true, false, List, [], ◌∷◌, ◌++◌, length, Option, Some, None, Result, Ok, Err, IfOk, refl, sym, ap, subst, arith}
use Rattle.std.specs.Prelude.{◌⊎◌}
use Rattle.tmc_base.specs.declared.memory.Memory.{Memory}
use Rattle.host_hub.specs.Behind.{HubParts}
use Rattle.host_hub.specs.Hand.{ended}
use Rattle.host_hub.specs.Order.{Setting}
use Rattle.host_hub.specs.Record.{Past}
use Rattle.tmc_law.specs.declared.dev_event.DevEvent.{DevEvent}
use Rattle.tmc_law.specs.State.{State}
use Rattle.usbip_export.specs.Seen.{standing}
use Rattle.usbip_export.specs.Events.{AreCalmMoves, all, calm_moves}
use Rattle.event_text.specs.declared.event.Event.{Event}
use Rattle.tmc_world.specs.LoopLink.{Looped}
use Rattle.tmc_world.specs.World.{Worldly, HasWorld, IsBehind, outbox, setting_of}
use Rattle.tmc_world.specs.WorldSteps.{IsFirstOpen, MayGoUp, Moves, NoneOpen, moves}
use Rattle.tmc_world.specs.WorldEvents.{LeadsTo, MoveWants}
use Rattle.tmc_world.specs.Rests.{MovesBy, WantsFirst, WantsNext, down_moves, steps_of, up_moves}
use Rattle.tmc_world.specs.RestCalls.{AreShut, Drains, HasCalmed, HasMade, HasRested, HasStopped, HasTaken, IsSpent, MakesNone, MakesOne, WantsOne, to_send, to_write}
use Rattle.tmc_world.proofs.Turning.{outbox_is}
use Rattle.tmc_world.proofs.RestMoves.{comes_to_rest, first_behind, first_in_front, moves_on, none_of_both, one_more, rests_on, wants_behind, wants_in_front}
use Rattle.tmc_world.proofs.RestLess.{are_calm, no_box, writes_of}
use Rattle.tmc_world.proofs.RestTries.{StepMade, late_in, same_sends, same_writes, sends_is, step_made}

-- ---- some moves, and one more

abbrev pub made_none : (first depth : ℕ) (old : Worldly) (hub : HubParts Looped) → IsBehind first depth old hub → HasMade first depth old hub
made_none first depth old hub b = record { new = old; made = []; moved = refl; behind = b }

abbrev pub made_on : (first depth : ℕ) (old : Worldly) (a b : HubParts Looped) (m : HasMade first depth old a) → HasMade first depth m.new b → HasMade first depth old b
made_on first depth old a b m n = record {
  new = n.new;
  made = m.made ++ n.made;
  moved = moves_on (setting_of first depth) m.made n.made old m.new n.new m.moved n.moved;
  behind = n.behind;
}

abbrev one_made : (first depth : ℕ) (events : List Event) (old : Worldly) (hub : HubParts Looped) → old.link.late ≡ false
    → ((move : Event) → IsFirstOpen (setting_of first depth) move events old → IsFirstOpen (setting_of first depth) move moves old)
    → MakesOne first depth events old hub → HasMade first depth old hub
one_made first depth events old hub unlate opens m = record {
  new = m.new;
  made = m.move ∷ [];
  moved = one_more (setting_of first depth) m.move old m.new unlate (opens m.move m.opened) m.goes;
  behind = m.behind;
}

-- some moves, and then memory was wanting
pub stopped : (first depth : ℕ) (old : Worldly) (a b : HubParts Looped) (m : HasMade first depth old a) (new : Worldly)
    → WantsNext (MoveWants (setting_of first depth)) (setting_of first depth) m.new new → IsBehind first depth new b → HasStopped first depth old b
stopped first depth old a b m new wants behind =
    record { new = new; goes = (m.made, record { mid = m.new; moved = m.moved; stops = wants }); behind = behind }

pub stopped_on : (first depth : ℕ) (old : Worldly) (a b : HubParts Looped) (m : HasMade first depth old a) → HasStopped first depth m.new b
    → HasStopped first depth old b
stopped_on first depth old a b m l =
    let g = l.goes in
    record {
      new = l.new;
      goes = (m.made ++ g.0, record { mid = g.1.mid; moved = moves_on (setting_of first depth) m.made g.0 old m.new g.1.mid m.moved g.1.moved; stops = g.1.stops });
      behind = l.behind;
    }

-- ---- steps of the instrument

-- some steps so far
pub record Calming (first depth : ℕ) (old : Worldly) (hub : HubParts Looped) : Type 0 where
  pub made : HasMade first depth old hub
  pub past : made.new.past ≡ old.past
  pub sent : made.new.link.sent ≡ old.link.sent

pub calming_begins : (first depth : ℕ) (old : Worldly) (hub : HubParts Looped) → IsBehind first depth old hub → Calming first depth old hub
calming_begins first depth old hub b = record { made = made_none first depth old hub b; past = refl; sent = refl }

pub calming_on : (first depth : ℕ) (old : Worldly) (a b : HubParts Looped) (c : Calming first depth old a) → a.link.late ≡ false
    → MakesOne first depth (steps_of calm_moves) c.made.new b → Calming first depth old b
calming_on first depth old a b c unlate m =
    let g : StepMade c.made.new m.new = step_made (setting_of first depth) m.move calm_moves c.made.new m.new are_calm m.opened m.goes in
    record {
      made = made_on first depth old a b c.made
          (one_made first depth (steps_of calm_moves) c.made.new b (late_in first depth c.made.new a false c.made.behind unlate)
          (λ move opened. first_in_front (setting_of first depth) move (steps_of calm_moves) (up_moves ++ down_moves) c.made.new opened) m);
      past = g.past ∙ c.past;
      sent = ap (λ (l : Looped). l.sent) g.acts.is ∙ c.sent;
    }

pub calmed : (first depth : ℕ) (old : Worldly) (a b : HubParts Looped) (c : Calming first depth old a) → a.link.late ≡ false
    → MakesNone first depth (steps_of calm_moves) c.made.new b → HasCalmed first depth old b
calmed first depth old a b c unlate m = record {
  made = record { new = c.made.new; made = c.made.made; moved = c.made.moved; behind = m.behind };
  past = c.past;
  sent = c.sent;
  unlate = late_in first depth c.made.new a false c.made.behind unlate;
  none = m.none;
}

pub calming_late : (first depth : ℕ) (old : Worldly) (a : HubParts Looped) → Calming first depth old a → a.link.late ≡ true → HasStopped first depth old a
calming_late first depth old a c late =
    stopped first depth old a a c.made c.made.new (inl (late_in first depth c.made.new a true c.made.behind late, refl)) c.made.behind

pub calming_stops : (first depth : ℕ) (old : Worldly) (a b : HubParts Looped) (c : Calming first depth old a) → a.link.late ≡ false
    → WantsOne first depth (steps_of calm_moves) c.made.new b → HasStopped first depth old b
calming_stops first depth old a b c unlate w =
    stopped first depth old a b c.made w.new
    (inr (
      late_in first depth c.made.new a false c.made.behind unlate,
      wants_in_front (MoveWants (setting_of first depth)) (setting_of first depth) (steps_of calm_moves) (up_moves ++ down_moves) c.made.new w.new w.wants,
    )) w.behind

pub calmed_sends : (old new : HubParts Looped) (h : HasWorld old) → HasCalmed h.first h.depth h.world new → to_send new ≡ to_send old
calmed_sends old new h c =
    sends_is h.first h.depth c.made.new new c.made.behind ∙ same ∙ sym (sends_is h.first h.depth h.world old h.behind) where
      s : Setting
      s = setting_of h.first h.depth

      sends : (past : Past) (sent : List ℕ) → ℕ
      sends past sent = writes_of s past * 4097 + length (outbox s (record { past = past; link = record h.world.link { sent = sent } }))

      same : writes_of s c.made.new.past * 4097 + length (outbox s c.made.new) ≡ writes_of s h.world.past * 4097 + length (outbox s h.world)
      same = ap (λ p. sends p c.made.new.link.sent) c.past ∙ ap (λ l. sends h.world.past l) c.sent

-- ---- which moves are not enabled, by a world and by its hub

shut_of : (s : Setting) (steps : List DevEvent) (world : Worldly) → NoneOpen s (steps_of steps) world → AreShut steps (standing world.link.node)
shut_of s [] world none = tt
shut_of s (does ∷ steps) world (shut, none) = (shut, shut_of s steps world none)

of_shut : (s : Setting) (steps : List DevEvent) (world : Worldly) → AreShut steps (standing world.link.node) → NoneOpen s (steps_of steps) world
of_shut s [] world none = tt
of_shut s (does ∷ steps) world (shut, none) = (shut, of_shut s steps world none)

pub spent : (first depth : ℕ) (old : Worldly) (a b : HubParts Looped) (c : HasCalmed first depth old a) → MakesNone first depth up_moves c.made.new b → IsSpent b
spent first depth old a b c m = record {
  unlate = ap (λ (l : Looped). l.late) m.behind.link ∙ c.unlate;
  sent = λ runs. outbox_is first depth c.made.new b m.behind ∙ no_box (setting_of first depth) c.made.new (sym m.behind.behind.rests.knows.over ∙ runs) m.none.0;
  calm = subst (λ (l : Looped). AreShut calm_moves (standing l.node)) (sym m.behind.link) (shut_of (setting_of first depth) calm_moves c.made.new c.none);
}

-- of a spent hub neither a step of the instrument is enabled nor bytes may go up
pub none_but_down : (first depth : ℕ) (world : Worldly) (hub : HubParts Looped) → IsBehind first depth world hub → IsSpent hub
    → NoneOpen (setting_of first depth) (steps_of calm_moves ++ up_moves) world
none_but_down first depth world hub b spent =
    none_of_both (setting_of first depth) (steps_of calm_moves) up_moves world
    (of_shut (setting_of first depth) calm_moves world (subst (λ (l : Looped). AreShut calm_moves (standing l.node)) b.link spent.calm))
    ((λ may. may.some (sym (outbox_is first depth world hub b) ∙ spent.sent (b.behind.rests.knows.over ∙ may.runs))), tt)

-- ---- bytes down

pub draining_on : (first depth : ℕ) (old : Worldly) (a b : HubParts Looped) (m : HasMade first depth old a) → IsSpent a → MakesOne first depth down_moves m.new b
    → HasMade first depth old b
draining_on first depth old a b m spent d =
    made_on first depth old a b m
    (one_made first depth down_moves m.new b (late_in first depth m.new a false m.behind spent.unlate)
    (λ move opened. first_behind (setting_of first depth) move (steps_of calm_moves ++ up_moves) down_moves m.new (none_but_down first depth m.new a m.behind spent) opened) d)

pub drained : (first depth : ℕ) (old : Worldly) (a b : HubParts Looped) (m : HasMade first depth old a) → IsSpent a → MakesNone first depth down_moves m.new b
    → HasRested first depth old b
drained first depth old a b m spent d = record {
  new = m.new;
  goes = (
    m.made,
    comes_to_rest (setting_of first depth) m.made old m.new m.moved (late_in first depth m.new a false m.behind spent.unlate)
        (none_of_both (setting_of first depth) (steps_of calm_moves ++ up_moves) down_moves m.new (none_but_down first depth m.new a m.behind spent) d.none),
  );
  behind = d.behind;
}

pub draining_stops : (first depth : ℕ) (old : Worldly) (a b : HubParts Looped) (m : HasMade first depth old a) → IsSpent a → WantsOne first depth down_moves m.new b
    → HasStopped first depth old b
draining_stops first depth old a b m spent w =
    stopped first depth old a b m w.new
    (inr (
      late_in first depth m.new a false m.behind spent.unlate,
      wants_behind (MoveWants (setting_of first depth)) (setting_of first depth) (steps_of calm_moves ++ up_moves) down_moves m.new w.new
          (none_but_down first depth m.new a m.behind spent) w.wants,
    )) w.behind

-- behind bytes that were taken the hub is still spent, where nothing is to be sent
pub still_spent : (old new : HubParts Looped) → IsSpent old → HasTaken old new → new.core.urbs.outbox ≡ [] → IsSpent new
still_spent old new spent t none =
    record { unlate = t.unlate; sent = λ runs. none; calm = subst (λ (s : State). AreShut calm_moves s) (sym t.stands) spent.calm }

-- ---- rounds

-- the instrument made its steps, and then bytes went up
pub rounds_up : (first depth : ℕ) (old : Worldly) (a b : HubParts Looped) (k : HasCalmed first depth old a)
    → MakesOne first depth up_moves k.made.new b → HasMade first depth old b
rounds_up first depth old a b k u =
    made_on first depth old a b k.made
    (one_made first depth up_moves k.made.new b k.unlate
    (λ move opened. first_behind (setting_of first depth) move (steps_of calm_moves) (up_moves ++ down_moves) k.made.new k.none
    (first_in_front (setting_of first depth) move up_moves down_moves k.made.new opened)) u)

pub rounds_up_stops : (first depth : ℕ) (old : Worldly) (a b : HubParts Looped) (k : HasCalmed first depth old a)
    → WantsOne first depth up_moves k.made.new b → HasStopped first depth old b
rounds_up_stops first depth old a b k w =
    stopped first depth old a b k.made w.new
    (inr (
      k.unlate,
      wants_behind (MoveWants (setting_of first depth)) (setting_of first depth) (steps_of calm_moves) (up_moves ++ down_moves) k.made.new w.new k.none
          (wants_in_front (MoveWants (setting_of first depth)) (setting_of first depth) up_moves down_moves k.made.new w.new w.wants),
    )) w.behind

pub rounds_rest : (first depth : ℕ) (old : Worldly) (a b : HubParts Looped) (m : HasMade first depth old a) → HasRested first depth m.new b
    → HasRested first depth old b
rounds_rest first depth old a b m l = record {
  new = l.new;
  goes = (m.made ++ l.goes.0, rests_on (setting_of first depth) m.made l.goes.0 old m.new l.new m.moved l.goes.1);
  behind = l.behind;
}

-- the instrument made its steps, and bytes went down
pub rounds_down : (first depth : ℕ) (old : Worldly) (a b c : HubParts Looped) (k : HasCalmed first depth old a) (result : Result Bool Memory)
    → MakesNone first depth up_moves k.made.new b → (IsBehind first depth k.made.new b → Drains first depth k.made.new result c) → Drains first depth old result c
rounds_down first depth old a b c k result n drains = by result (drains n.behind) where
  m : HasMade first depth old b
  m = record { new = k.made.new; made = k.made.made; moved = k.made.moved; behind = n.behind }

  by : (r : Result Bool Memory) → Drains first depth k.made.new r c → Drains first depth old r c
  by (Ok true) d = made_on first depth old b c m d
  by (Ok false) d = rounds_rest first depth old b c m d
  by (Err memory) d = stopped_on first depth old b c m d

-- what is written comes before what is sent
pub rounds_less : (old a b c : HubParts Looped) (h : HasWorld old) (k : HasCalmed h.first h.depth h.world a) (result : Result Bool Memory)
    → MakesNone h.first h.depth up_moves k.made.new b
    → ((d : Drains h.first h.depth h.world result c) → IfOk result (λ more. more ≡ true → to_write c < to_write b))
    → Drains h.first h.depth h.world result c
    → IfOk result (λ more. more ≡ true → to_send c < to_send old)
rounds_less old a b c h k result n less drains = by result drains (less drains) where
  calm : to_send b ≡ to_send old
  calm = same_sends h.first h.depth k.made.new b a n.behind k.made.behind ∙ calmed_sends old a h k

  by : (r : Result Bool Memory) → Drains h.first h.depth h.world r c → IfOk r (λ more. more ≡ true → to_write c < to_write b)
      → IfOk r (λ more. more ≡ true → to_send c < to_send old)
  by (Ok true) d f = λ is. let l = f refl in let s : length c.core.urbs.outbox ≤ 4096 = d.behind.behind.short in omega (arith, l, s, calm)
  by (Ok false) d f = λ is. cc
  by (Err memory) d f = tt

pub rounds_up_less : (old a b : HubParts Looped) (h : HasWorld old) (k : HasCalmed h.first h.depth h.world a) → to_send b < to_send a → to_send b < to_send old
rounds_up_less old a b h k less = let e = calmed_sends old a h k in omega (arith, less, e)

pub drains_more : (first depth : ℕ) (old : Worldly) (r : Bool) (hub : HubParts Looped) → r ≡ true → Drains first depth old (Ok r) hub → HasMade first depth old hub
drains_more first depth old r hub is d = subst (λ (x : Bool). Drains first depth old (Ok x) hub) is d

pub drains_none : (first depth : ℕ) (old : Worldly) (r : Bool) (hub : HubParts Looped) → r ≡ false → Drains first depth old (Ok r) hub → HasRested first depth old hub
drains_none first depth old r hub is d = subst (λ (x : Bool). Drains first depth old (Ok x) hub) is d

pub no_bytes : (bytes : List ℕ) → length bytes ≤ 0 → bytes ≡ []
no_bytes [] none = refl
no_bytes (byte ∷ bytes) none = absurd (omega (arith, none))

pub some_bytes : (bytes : List ℕ) → 0 < length bytes → bytes ≢ []
some_bytes [] some = absurd (omega (arith, some))
some_bytes (byte ∷ bytes) some = λ e. cc
