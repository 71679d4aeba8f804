-- where the events lead that move bytes up and down: one turn with room in that direction alone
use Rattle.std.proofs.Common.{◌≡◌, ◌≢◌, ◌⊎◌, ◌↔◌, ◌∙◌, IsTrue, inl, inr, ℕ, ◌+◌, ◌<◌, ◌≤◌, min, Bool, true, false, List, [], ◌∷◌, length, Option, Some, None, refl, sym, ap, subst, arith}
use Rattle.tmc_base.specs.declared.link.PollStep.{PollStep}
use Rattle.tmc_base.specs.declared.link.PollStep.TheVariants as poll
use Rattle.tmc_base.specs.declared.link.SendStep.{SendStep}
use Rattle.tmc_base.specs.declared.link.SendStep.TheVariants as send
use Rattle.host_hub.specs.declared.answers.Turn.{Turn}
use Rattle.host_hub.specs.declared.answers.Turn.TheVariants as turn
use Rattle.host_hub.specs.declared.outcome.End.{End}
use Rattle.host_hub.specs.Behind.{HubParts}
use Rattle.host_hub.specs.Hand.{ended}
use Rattle.host_hub.specs.HubCalls.{EndsTurn, IsAnswer, PollsOnce, SendsOnce, came_count, sent_count}
use Rattle.host_hub.specs.Order.{Setting}
use Rattle.event_text.specs.declared.event.Event.TheVariants as event
use Rattle.tmc_world.specs.declared.applied.Applied.TheVariants as applied
use Rattle.tmc_world.specs.declared.pace.Pace.{Pace}
use Rattle.tmc_world.specs.declared.pace.Pace.TheVariants.{Calm, Paced}
use Rattle.tmc_world.specs.Counting.{one_idle}
use Rattle.tmc_world.specs.Pacing.{NoPollRoom, NoSendRoom, send_room, send_shut}
use Rattle.tmc_world.specs.LoopLink.{Looped, MayHaveMoved, Polls, Sends}
use Rattle.tmc_world.specs.World.{Worldly, IsBehind, outbox, setting_of, shut}
use Rattle.tmc_world.specs.WorldSteps.{MayGoDown, MayGoUp, Turns, TurnsBy}
use Rattle.tmc_world.specs.WorldEvents.{LeadsTo, TurnsTo, WantsDown, applied_turn}

-- ---- an event that is not enabled

clash : {P : Type 0} → false ≡ true → P
clash e = cc

pub up_closed : (first depth most : ℕ) (old : Worldly) (hub : HubParts Looped) (may : Bool) → IsBehind first depth old hub
    → (IsTrue may ↔ MayGoUp (setting_of first depth) most old) → may ≡ false → LeadsTo first depth (event.Up most) old applied.NotEnabled hub
up_closed first depth most old hub may b iff is = record { new = old; goes = (λ m. clash (sym is ∙ iff.1 m), refl); behind = b }

pub down_closed : (first depth most : ℕ) (old : Worldly) (hub : HubParts Looped) (may : Bool) → IsBehind first depth old hub → (IsTrue may ↔ MayGoDown most old)
    → may ≡ false → LeadsTo first depth (event.Down most) old applied.NotEnabled hub
down_closed first depth most old hub may b iff is = record { new = old; goes = (λ m. clash (sym is ∙ iff.1 m), refl); behind = b }

-- ---- a send that wants memory is followed by a poll that does

sent_wants : (piece : List ℕ) (old new : Looped) → SendsOnce Sends piece (Some send.Memory) old new → new ≡ record old { wants = true }
sent_wants [] old new s = absurd s
sent_wants (byte ∷ bytes) old new s = s.is

polls_refrain : (old : Looped) (size : ℕ) (step : PollStep) (bytes : List ℕ) (new : Looped) → Polls old size step bytes new → old.wants ≡ true
    → (step ≡ poll.Memory) × (new ≡ record old { wants = false })
polls_refrain old size (poll.Got n) bytes new p w = let none = p.begins.unwanted in cc
polls_refrain old size poll.Idle bytes new (inl p) w = let none = p.unwanted in cc
polls_refrain old size poll.Idle bytes new (inr p) w = let none = p.begins.unwanted in cc
polls_refrain old size poll.Closed bytes new p w = let none = p.begins.unwanted in cc
polls_refrain old size poll.Failed bytes new p w = let none = p.unwanted in cc
polls_refrain old size poll.Memory bytes new (inl p) w = (refl, p.is)
polls_refrain old size poll.Memory bytes new (inr p) w = let none = p.unwanted in cc

polled_refrains : (came : Option PollStep) (bytes : List ℕ) (old new : Looped) → PollsOnce Polls (Some send.Memory) came bytes old new → old.wants ≡ true
    → (came ≡ Some poll.Memory) × (new ≡ record old { wants = false })
polled_refrains None bytes old new p w = absurd p
polled_refrains (Some step) bytes old new p w = let r = polls_refrain old 8192 step bytes new p w in (ap Some r.0, r.1)

-- such a turn leaves the link as it was
turn_refrains : (piece : List ℕ) (sent : Option SendStep) (came : Option PollStep) (bytes : List ℕ) (old between new : Looped) → SendsOnce Sends piece sent old between
    → PollsOnce Polls sent came bytes between new → sent ≡ Some send.Memory → (came ≡ Some poll.Memory) × (new ≡ record old { wants = false })
turn_refrains piece sent came bytes old between new s p is =
    let wants = sent_wants piece old between (subst (λ (x : Option SendStep). SendsOnce Sends piece x old between) is s) in
    let r = polled_refrains came bytes between new (subst (λ (x : Option SendStep). PollsOnce Polls x came bytes between new) is p)
    (ap (λ (l : Looped). l.wants) wants) in
    (r.0, r.1 ∙ ap (λ (l : Looped). record l { wants = false }) wants)

-- ---- a turn that does not answer want of memory had none

abbrev IsWell : Turn → Type 0
IsWell turn.Memory = ⊥
IsWell said = Unit {0}

none_came : (sent : Option SendStep) (came : Option PollStep) → came ≡ Some poll.Memory → sent_count sent ≡ 0 → 0 < sent_count sent + came_count came → ⊥
none_came sent came is none some =
    omega (arith, none, subst (λ (x : Option PollStep). 0 < sent_count sent + came_count x) is some)

ends_none : (sent : Option SendStep) (came : Option PollStep) (over : Option End) → EndsTurn sent came over → came ≡ Some poll.Memory → over ≡ None
ends_none sent came over e is = (subst (λ (x : Option PollStep). EndsTurn sent x over) is e).1

had_memory : (said : Turn) (over : Option End) (sent : Option SendStep) (came : Option PollStep) → IsWell said → IsAnswer said over sent came → EndsTurn sent came over
    → sent_count sent ≡ 0 → came ≢ Some poll.Memory
had_memory turn.Moved over sent came well a e none is = none_came sent came is none a.1
had_memory turn.Idle over sent came well a e none is = let idle = a.2 in cc
had_memory (turn.Ended f) over sent came well a e none is = let runs = ends_none sent came over e is in cc
had_memory turn.Memory over sent came well a e none is = absurd well

memory_count : (sent : Option SendStep) → sent ≡ Some send.Memory → sent_count sent ≡ 0
memory_count sent is = ap sent_count is

-- ---- up: no poll has room

shut_still : (p : Pace) → NoPollRoom p → NoPollRoom (send_shut p)
shut_still Calm none = none
shut_still (Paced rooms) none = none

no_room : (old new : Looped) → new.pace ≡ old.pace → NoPollRoom old.pace → NoPollRoom new.pace
no_room old new same none = subst NoPollRoom (sym same) none

-- a poll that has no room wants memory only where the send did
poll_wants_not : (old : Looped) (bytes : List ℕ) (new : Looped) → Polls old 8192 poll.Memory bytes new → old.wants ≡ false → NoPollRoom old.pace → ⊥
poll_wants_not old bytes new (inl p) none closed = let wanted = p.wanted in cc
poll_wants_not old bytes new (inr p) none closed = p.room closed

sent_before : (piece : List ℕ) (sent : Option SendStep) (bytes : List ℕ) (old between new : Looped) → SendsOnce Sends piece sent old between
    → PollsOnce Polls sent (Some poll.Memory) bytes between new → old.wants ≡ false → NoPollRoom old.pace → sent ≡ Some send.Memory
sent_before [] None bytes old between new s p none closed =
    absurd (poll_wants_not between bytes new p (ap (λ (l : Looped). l.wants) s ∙ none) (no_room old between (ap (λ (l : Looped). l.pace) s) closed))
sent_before [] (Some step) bytes old between new s p none closed = absurd s
sent_before (b ∷ bs) None bytes old between new s p none closed = absurd s
sent_before (b ∷ bs) (Some (send.Took n)) bytes old between new s p none closed =
    absurd (poll_wants_not between bytes new p (ap (λ (l : Looped). l.wants) s.is ∙ none)
    (subst NoPollRoom (sym (ap (λ (l : Looped). l.pace) s.is)) (shut_still old.pace closed)))
sent_before (b ∷ bs) (Some send.Idle) bytes old between new s p none closed =
    absurd (poll_wants_not between bytes new p (ap (λ (l : Looped). l.wants) s.is ∙ none) (no_room old between (ap (λ (l : Looped). l.pace) s.is) closed))
sent_before (b ∷ bs) (Some send.Failed) bytes old between new s p none closed = absurd p
sent_before (b ∷ bs) (Some send.Memory) bytes old between new s p none closed = refl

same_world : (old new : Worldly) → new.past ≡ old.past → new.link ≡ old.link → new ≡ old
same_world old new past link =
    ap (λ (l : _). record new { past = l }) past ∙ ap (λ (l : Looped). record { past = old.past; link = l }) link

-- closed again, the link is as it was
closed_same : (old opened later new : Looped) (rooms : Pace) → old.pace ≡ shut → old.wants ≡ false → later ≡ record (record old { pace = rooms }) { wants = false }
    → new ≡ record later { pace = shut } → new ≡ old
closed_same old opened later new rooms idle none is done =
    done ∙ ap (λ (l : Looped). record l { pace = shut }) is ∙ ap (λ (p : Pace). record old { pace = p; wants = false }) (sym idle)
    ∙ ap (λ (w : Bool). record old { wants = w }) (sym none)

abbrev rooms_up : ℕ → Pace
rooms_up most = Paced (record { send = most; poll = 0 })

-- a turn up that wanted memory: its send did
up_sent : (s : Setting) (most : ℕ) (sent : Option SendStep) (came : Option PollStep) (old new : Worldly) → (t : TurnsBy s (rooms_up most) sent came old new)
    → old.link.wants ≡ false → came ≡ Some poll.Memory → sent ≡ Some send.Memory
up_sent s most sent came old new t none is =
    sent_before (outbox s old) sent t.bytes (record old.link { pace = rooms_up most }) t.between t.later t.sends
    (subst (λ (x : Option PollStep). PollsOnce Polls sent x t.bytes t.between t.later) is t.polls) none refl

up_refrains : (s : Setting) (most : ℕ) (sent : Option SendStep) (came : Option PollStep) (old new : Worldly) → (t : TurnsBy s (rooms_up most) sent came old new)
    → sent ≡ Some send.Memory → (came ≡ Some poll.Memory) × (t.later ≡ record (record old.link { pace = rooms_up most }) { wants = false })
up_refrains s most sent came old new t is =
    turn_refrains (outbox s old) sent came t.bytes (record old.link { pace = rooms_up most }) t.between t.later t.sends t.polls is

up_turned : (first depth most : ℕ) (old : Worldly) (hub new : HubParts Looped) (said : Turn) → IsWell said → IsBehind first depth old hub
    → MayGoUp (setting_of first depth) most old → (t : TurnsTo first depth (rooms_up most) old said new) → Turns (setting_of first depth) (rooms_up most) old t.new
up_turned first depth most old hub new said well b may t =
    let s = setting_of first depth in
    let not_sent : t.sent ≢ Some send.Memory =
    λ is. had_memory said (ended t.new.past) t.sent t.came well t.answers t.ends (memory_count t.sent is) (up_refrains s most t.sent t.came old t.new t.turns is).0 in
    record {
      sent = t.sent;
      came = t.came;
      turns = t.turns;
      sent_well = not_sent;
      came_well = λ is. not_sent (up_sent s most t.sent t.came old t.new t.turns b.unwanted is);
    }

either_sent : (s : Setting) (most : ℕ) (sent : Option SendStep) (came : Option PollStep) (old new : Worldly) → (t : TurnsBy s (rooms_up most) sent came old new)
    → old.link.wants ≡ false → (sent ≡ Some send.Memory) ⊎ (came ≡ Some poll.Memory) → sent ≡ Some send.Memory
either_sent s most sent came old new t none (inl is) = is
either_sent s most sent came old new t none (inr is) = up_sent s most sent came old new t none is

pub up_leads : (first depth most : ℕ) (old : Worldly) (hub new : HubParts Looped) (said : Turn) → IsBehind first depth old hub
    → MayGoUp (setting_of first depth) most old → TurnsTo first depth (rooms_up most) old said new → LeadsTo first depth (event.Up most) old (applied_turn said) new
up_leads first depth most old hub new turn.Moved b may t =
    record { new = t.new; goes = (may, up_turned first depth most old hub new turn.Moved tt b may t); behind = t.behind }
up_leads first depth most old hub new turn.Idle b may t =
    record { new = t.new; goes = (may, up_turned first depth most old hub new turn.Idle tt b may t); behind = t.behind }
up_leads first depth most old hub new (turn.Ended e) b may t =
    record { new = t.new; goes = (may, up_turned first depth most old hub new (turn.Ended e) tt b may t); behind = t.behind }
up_leads first depth most old hub new turn.Memory b may t =
    let s = setting_of first depth in
    let sent = either_sent s most t.sent t.came old t.new t.turns b.unwanted t.answers.2 in
    let refrains = up_refrains s most t.sent t.came old t.new t.turns sent in
    let link = closed_same old.link old.link t.turns.later t.new.link (rooms_up most) b.idle b.unwanted refrains.1 t.turns.link in
    record { new = t.new; goes = (may, same_world old t.new (t.stays refl) link); behind = t.behind }

-- ---- down: no send has room

abbrev rooms_down : ℕ → Pace
rooms_down most = Paced (record { send = 0; poll = most })

-- the link did not send: there was nothing to send, or no room, or it was to fail
pub data Unsent (old : Looped) (sent : Option SendStep) (between : Looped) (piece : List ℕ) : Type 0 where
  Nothing : sent ≡ None → piece ≡ [] → between ≡ old → Unsent old sent between piece
  NoRoom : sent ≡ Some send.Idle → piece ≢ [] → between ≡ record old { counts = one_idle old.counts } → Unsent old sent between piece
  Failed : sent ≡ Some send.Failed → Unsent old sent between piece

pub no_sends : (p : Pace) (offered count : ℕ) → NoSendRoom p → count ≡ send_room p offered → 0 < count → ⊥
no_sends Calm offered count none is some = absurd none
no_sends (Paced rooms) offered count none is some = omega (arith, none, is, some)

unsent : (piece : List ℕ) (sent : Option SendStep) (old between : Looped) → SendsOnce Sends piece sent old between → NoSendRoom old.pace → Unsent old sent between piece
unsent [] None old between s none = Nothing refl refl s
unsent [] (Some step) old between s none = absurd s
unsent (b ∷ bs) None old between s none = absurd s
unsent (b ∷ bs) (Some (send.Took n)) old between s none = absurd (no_sends old.pace (length (b ∷ bs)) n none s.fits s.some)
unsent (b ∷ bs) (Some send.Idle) old between s none = NoRoom refl (λ e. cc) s.is
unsent (b ∷ bs) (Some send.Failed) old between s none = Failed refl
unsent (b ∷ bs) (Some send.Memory) old between s none = absurd (s.room none)

unsent_count : (old : Looped) (sent : Option SendStep) (between : Looped) (piece : List ℕ) → Unsent old sent between piece → sent_count sent ≡ 0
unsent_count old sent between piece (Nothing is none same) = ap sent_count is
unsent_count old sent between piece (NoRoom is some idle) = ap sent_count is
unsent_count old sent between piece (Failed is) = ap sent_count is

unsent_well : (old : Looped) (sent : Option SendStep) (between : Looped) (piece : List ℕ) → Unsent old sent between piece → sent ≢ Some send.Memory
unsent_well old sent between piece (Nothing is none same) e = cc
unsent_well old sent between piece (NoRoom is some idle) e = cc
unsent_well old sent between piece (Failed is) e = cc

down_unsent : (s : Setting) (most : ℕ) (sent : Option SendStep) (came : Option PollStep) (old new : Worldly) → (t : TurnsBy s (rooms_down most) sent came old new)
    → Unsent (record old.link { pace = rooms_down most }) sent t.between (outbox s old)
down_unsent s most sent came old new t = unsent (outbox s old) sent (record old.link { pace = rooms_down most }) t.between t.sends refl

down_turned : (first depth most : ℕ) (old : Worldly) (hub new : HubParts Looped) (said : Turn) → IsWell said → IsBehind first depth old hub
    → (t : TurnsTo first depth (rooms_down most) old said new) → Turns (setting_of first depth) (rooms_down most) old t.new
down_turned first depth most old hub new said well b t =
    let s = setting_of first depth in
    let not = down_unsent s most t.sent t.came old t.new t.turns in
    record {
      sent = t.sent;
      came = t.came;
      turns = t.turns;
      sent_well = unsent_well _ t.sent t.turns.between (outbox s old) not;
      came_well = had_memory said (ended t.new.past) t.sent t.came well t.answers t.ends (unsent_count _ t.sent t.turns.between (outbox s old) not);
    }

-- what the poll that wanted memory did, seen between events
moved_shut : (late : Bool) (between later new : Looped) (rooms : _) → between.pace ≡ Paced rooms → MayHaveMoved (Paced rooms) late between later
    → new ≡ record later { pace = shut } → MayHaveMoved shut late (record between { pace = shut }) new
moved_shut true between later new rooms pace moved done =
    subst (λ (l : Looped). MayHaveMoved shut true (record between { pace = shut }) l) (sym done)
    (record { works = moved.works; tells = moved.tells; is = ap (λ (l : Looped). record l { pace = shut }) moved.is })
moved_shut false between later new rooms pace moved done = absurd moved

down_polls : (old : Looped) (bytes : List ℕ) (new : Looped) → Polls old 8192 poll.Memory bytes new → old.wants ≡ false → MayHaveMoved old.pace old.late old new
down_polls old bytes new (inl p) none = let wanted = p.wanted in cc
down_polls old bytes new (inr p) none = p.moved

down_moved : (s : Setting) (most : ℕ) (old : Worldly) (between later new idled : Looped) (bytes : List ℕ) → Polls between 8192 poll.Memory bytes later
    → between ≡ record idled { pace = rooms_down most } → idled.pace ≡ shut → idled.wants ≡ false → idled.late ≡ old.link.late → new ≡ record later { pace = shut }
    → MayHaveMoved shut old.link.late idled new
down_moved s most old between later new idled bytes p is idle none late done =
    let opened : Looped = record idled { pace = rooms_down most } in
    let moved : MayHaveMoved (rooms_down most) idled.late opened later =
    down_polls opened bytes later (subst (λ (l : Looped). Polls l 8192 poll.Memory bytes later) is p) none in
    let shown : MayHaveMoved shut idled.late (record opened { pace = shut }) new = moved_shut idled.late opened later new _ refl moved done in
    let back : record opened { pace = shut } ≡ idled = ap (λ (p : Pace). record idled { pace = p }) (sym idle) in
    subst (λ (w : Bool). MayHaveMoved shut w idled new) late (subst (λ (l : Looped). MayHaveMoved shut idled.late l new) back shown)

polled_memory : (sent : Option SendStep) (bytes : List ℕ) (old new : Looped) → PollsOnce Polls sent (Some poll.Memory) bytes old new → Polls old 8192 poll.Memory bytes new
polled_memory None bytes old new p = p
polled_memory (Some (send.Took n)) bytes old new p = p
polled_memory (Some send.Idle) bytes old new p = p
polled_memory (Some send.Failed) bytes old new p = absurd p
polled_memory (Some send.Memory) bytes old new p = p

failed_not : (sent : Option SendStep) (bytes : List ℕ) (old new : Looped) → PollsOnce Polls sent (Some poll.Memory) bytes old new → sent ≢ Some send.Failed
failed_not sent bytes old new p is = subst (λ (x : Option SendStep). PollsOnce Polls x (Some poll.Memory) bytes old new) is p

down_wants : (first depth most : ℕ) (old : Worldly) (hub : HubParts Looped) (new : Worldly) (sent : Option SendStep) (t : TurnsBy (setting_of first depth) (rooms_down most) sent (Some poll.Memory) old new)
    → IsBehind first depth old hub → MayGoDown most old → new.past ≡ old.past
    → Unsent (record old.link { pace = rooms_down most }) sent t.between (outbox (setting_of first depth) old) → WantsDown (setting_of first depth) most old new
down_wants first depth most old hub new sent t b may past (Nothing is none same) = record {
  due = may;
  past = past;
  idled = old.link;
  idles = inl (none, refl);
  moved = down_moved (setting_of first depth) most old t.between t.later new.link old.link t.bytes (polled_memory sent t.bytes t.between t.later t.polls) same b.idle b.unwanted refl t.link;
}
down_wants first depth most old hub new sent t b may past (NoRoom is some idle) = record {
  due = may;
  past = past;
  idled = record old.link { counts = one_idle old.link.counts };
  idles = inr (some, refl);
  moved = down_moved (setting_of first depth) most old t.between t.later new.link (record old.link { counts = one_idle old.link.counts }) t.bytes
      (polled_memory sent t.bytes t.between t.later t.polls) idle b.idle b.unwanted refl t.link;
}
down_wants first depth most old hub new sent t b may past (Failed is) = absurd (failed_not sent t.bytes t.between t.later t.polls is)

down_came : (sent : Option SendStep) (came : Option PollStep) → sent ≢ Some send.Memory → (sent ≡ Some send.Memory) ⊎ (came ≡ Some poll.Memory) → came ≡ Some poll.Memory
down_came sent came not (inl is) = absurd (not is)
down_came sent came not (inr is) = is

down_memory : (first depth most : ℕ) (old : Worldly) (hub : HubParts Looped) (new : Worldly) (sent : Option SendStep) (came : Option PollStep)
    → TurnsBy (setting_of first depth) (rooms_down most) sent came old new → came ≡ Some poll.Memory → IsBehind first depth old hub → MayGoDown most old
    → new.past ≡ old.past → WantsDown (setting_of first depth) most old new
down_memory first depth most old hub new sent came t is b may past =
    let u = subst (λ (x : Option PollStep). TurnsBy (setting_of first depth) (rooms_down most) sent x old new) is t in
    down_wants first depth most old hub new sent u b may past (down_unsent (setting_of first depth) most sent (Some poll.Memory) old new u)

pub down_leads : (first depth most : ℕ) (old : Worldly) (hub new : HubParts Looped) (said : Turn) → IsBehind first depth old hub → MayGoDown most old
    → TurnsTo first depth (rooms_down most) old said new → LeadsTo first depth (event.Down most) old (applied_turn said) new
down_leads first depth most old hub new turn.Moved b may t =
    record { new = t.new; goes = (may, down_turned first depth most old hub new turn.Moved tt b t); behind = t.behind }
down_leads first depth most old hub new turn.Idle b may t =
    record { new = t.new; goes = (may, down_turned first depth most old hub new turn.Idle tt b t); behind = t.behind }
down_leads first depth most old hub new (turn.Ended e) b may t =
    record { new = t.new; goes = (may, down_turned first depth most old hub new (turn.Ended e) tt b t); behind = t.behind }
down_leads first depth most old hub new turn.Memory b may t =
    let s = setting_of first depth in
    let not = unsent_well _ t.sent t.turns.between (outbox s old) (down_unsent s most t.sent t.came old t.new t.turns) in
    let came = down_came t.sent t.came not t.answers.2 in
    record { new = t.new; goes = down_memory first depth most old hub t.new t.sent t.came t.turns came b may (t.stays refl); behind = t.behind }
