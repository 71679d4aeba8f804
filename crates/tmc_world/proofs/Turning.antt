-- where a turn leads the world that stands behind a hub
use Rattle.std.proofs.Common.{◌≡◌, ◌∙◌, inl, inr, ℕ, Bool, true, false, List, [], ◌∷◌, ◌++◌, length, drop, Option, Some, None, refl, sym, ap, subst}
use Rattle.std.proofs.Math.Seq.{drop-append_seam}
use Rattle.tmc_base.specs.declared.link.PollStep.{PollStep}
use Rattle.tmc_base.specs.declared.link.PollStep.TheVariants as poll
use Rattle.tmc_base.specs.declared.link.SendStep.{SendStep}
use Rattle.tmc_base.specs.declared.link.SendStep.TheVariants as send
use Rattle.tmc_base.specs.declared.link.TendStep.{TendStep}
use Rattle.tmc_base.specs.declared.link.TendStep.TheVariants as tend
use Rattle.tmc_base.specs.Told.{Told, Peer}
use Rattle.host_hub.specs.declared.answers.Turn.{Turn}
use Rattle.host_hub.specs.declared.answers.Turn.TheVariants as turn
use Rattle.host_hub.specs.declared.outcome.End.{End}
use Rattle.host_hub.specs.declared.hub_core.HubCore.{HubCore}
use Rattle.host_hub.specs.Behind.{Behind, Holds, HubParts}
use Rattle.host_hub.specs.Hand.{ended}
use Rattle.host_hub.specs.HubCalls.{Turns, TurnsOn, SendsOnce, PollsOnce, IsAnswer, EndsTurn, KeepsTurn, said_by}
use Rattle.host_hub.specs.Order.{Setting}
use Rattle.host_hub.specs.Record.{Past, written}
use Rattle.host_hub.specs.Tied.{spelled}
use Rattle.tmc_world.specs.declared.loop_act.LoopAct.TheVariants as act
use Rattle.tmc_world.specs.declared.pace.Pace.{Pace}
use Rattle.tmc_world.specs.declared.pace.Pace.TheVariants.{Calm, Paced}
use Rattle.tmc_world.specs.Pacing.{poll_room, send_shut, poll_shut, with_send_room, with_poll_room}
use Rattle.tmc_world.specs.LoopLink.{Looped, Sends, Polls, PollEnds, Readies, MayHaveMoved, Tends}
use Rattle.tmc_world.specs.World.{Worldly, IsBehind, begun, counted, outbox, setting_of, shut, tells}
use Rattle.tmc_world.specs.WorldEvents.{TurnsTo}
use Rattle.tmc_world.proofs.Still.{nothing_came}

-- ---- rooms

room_send : (room : ℕ) (old : Looped) (step : TendStep) (new : Looped) → Tends old (act.RoomSend room) step new
    → new ≡ record old { pace = with_send_room room old.pace }
room_send room old tend.Did new t = t
room_send room old tend.NotNow new t = absurd t
room_send room old tend.Memory new t = absurd t

room_poll : (room : ℕ) (old : Looped) (step : TendStep) (new : Looped) → Tends old (act.RoomPoll room) step new
    → new ≡ record old { pace = with_poll_room room old.pace }
room_poll room old tend.Did new t = t
room_poll room old tend.NotNow new t = absurd t
room_poll room old tend.Memory new t = absurd t

rooms_set : (most least : ℕ) (old mid new : Looped) → mid ≡ record old { pace = with_send_room most old.pace }
    → new ≡ record mid { pace = with_poll_room least mid.pace } → new ≡ record old { pace = with_poll_room least (with_send_room most old.pace) }
rooms_set most least old mid new a b = b ∙ ap (λ (l : Looped). record l { pace = with_poll_room least l.pace }) a

rooms_opened : (most least : ℕ) (old hub mid new : Looped) → hub ≡ old → old.pace ≡ shut → mid ≡ record hub { pace = with_send_room most hub.pace }
    → new ≡ record mid { pace = with_poll_room least mid.pace } → new ≡ record old { pace = Paced (record { send = most; poll = least }) }
rooms_opened most least old hub mid new is idle a b =
    rooms_set most least hub mid new a b ∙ ap (λ (l : Looped). record l { pace = with_poll_room least (with_send_room most l.pace) }) is
    ∙ ap (λ (p : Pace). record old { pace = with_poll_room least (with_send_room most p) }) idle

-- ---- a link that goes by rooms does so behind each call

abbrev IsPaced : Pace → Type 0
IsPaced Calm = ⊥
IsPaced (Paced rooms) = Unit {0}

no_room : (p : Pace) → IsPaced p → with_poll_room 0 (with_send_room 0 p) ≡ shut
no_room Calm is = absurd is
no_room (Paced rooms) is = refl

closed_again : (old mid new : Looped) → IsPaced old.pace → mid ≡ record old { pace = with_send_room 0 old.pace }
    → new ≡ record mid { pace = with_poll_room 0 mid.pace } → new ≡ record old { pace = shut }
closed_again old mid new is a b = rooms_set 0 0 old mid new a b ∙ ap (λ (p : Pace). record old { pace = p }) (no_room old.pace is)

send_paced : (p : Pace) → IsPaced p → IsPaced (send_shut p)
send_paced Calm is = is
send_paced (Paced rooms) is = is

poll_paced : (p : Pace) → IsPaced p → IsPaced (poll_shut p)
poll_paced Calm is = is
poll_paced (Paced rooms) is = is

of_pace : (link : Looped) (p : Pace) → link.pace ≡ p → IsPaced p → IsPaced link.pace
of_pace link p is paced = subst IsPaced (sym is) paced

pace_of : Looped → Pace
pace_of link = link.pace

sends_paced : (old : Looped) (piece : List ℕ) (step : SendStep) (new : Looped) → Sends old piece step new → IsPaced old.pace → IsPaced new.pace
sends_paced old piece (send.Took n) new s is = of_pace new _ (ap (λ (l : Looped). l.pace) s.is) (send_paced old.pace is)
sends_paced old piece send.Idle new s is = of_pace new _ (ap (λ (l : Looped). l.pace) s.is) is
sends_paced old piece send.Failed new s is = of_pace new _ (ap (λ (l : Looped). l.pace) s.is) (send_paced old.pace is)
sends_paced old piece send.Memory new s is = of_pace new _ (ap (λ (l : Looped). l.pace) s.is) is

once_sent_paced : (piece : List ℕ) (sent : Option SendStep) (old new : Looped) → SendsOnce Sends piece sent old new → IsPaced old.pace → IsPaced new.pace
once_sent_paced [] None old new s is = of_pace new _ (ap (λ (l : Looped). l.pace) s) is
once_sent_paced [] (Some step) old new s is = absurd s
once_sent_paced (byte ∷ bytes) None old new s is = absurd s
once_sent_paced (byte ∷ bytes) (Some step) old new s is = sends_paced old (byte ∷ bytes) step new s is

readies_paced : (p : Pace) (late : Bool) (old ready : Looped) → Readies p late old ready → IsPaced old.pace → IsPaced ready.pace
readies_paced Calm late old ready (moved, calm) is = of_pace ready _ (ap (λ (l : Looped). l.pace) moved.is) is
readies_paced (Paced rooms) true old ready moved is = of_pace ready _ (ap (λ (l : Looped). l.pace) moved.is) is
readies_paced (Paced rooms) false old ready same is = of_pace ready _ (ap (λ (l : Looped). l.pace) same) is

moved_paced : (p : Pace) (late : Bool) (old new : Looped) → MayHaveMoved p late old new → IsPaced old.pace → IsPaced new.pace
moved_paced Calm late old new moved is = of_pace new _ (ap (λ (l : Looped). l.pace) moved.is) is
moved_paced (Paced rooms) true old new moved is = of_pace new _ (ap (λ (l : Looped). l.pace) moved.is) is
moved_paced (Paced rooms) false old new moved is = absurd moved

ends_paced : (room : ℕ) (ready : Looped) (step : PollStep) (bytes : List ℕ) (new : Looped) → PollEnds room ready step bytes new → IsPaced ready.pace → IsPaced new.pace
ends_paced room ready (poll.Got n) bytes new e is = of_pace new _ (ap (λ (l : Looped). l.pace) e.is) (poll_paced ready.pace is)
ends_paced room ready poll.Idle bytes new e is = of_pace new _ (ap (λ (l : Looped). l.pace) e.is) (poll_paced ready.pace is)
ends_paced room ready poll.Closed bytes new e is = of_pace new _ (ap (λ (l : Looped). l.pace) e.is) (poll_paced ready.pace is)
ends_paced room ready poll.Failed bytes new e is = absurd e
ends_paced room ready poll.Memory bytes new e is = absurd e

polls_paced : (old : Looped) (size : ℕ) (step : PollStep) (bytes : List ℕ) (new : Looped) → Polls old size step bytes new → IsPaced old.pace → IsPaced new.pace
polls_paced old size (poll.Got n) bytes new p is =
    ends_paced (poll_room old.pace size) p.ready (poll.Got n) bytes new p.ends (readies_paced old.pace old.late old p.ready p.begins.readies is)
polls_paced old size poll.Idle bytes new (inl p) is = of_pace new _ (ap (λ (l : Looped). l.pace) p.is) is
polls_paced old size poll.Idle bytes new (inr p) is =
    ends_paced (poll_room old.pace size) p.ready poll.Idle bytes new p.ends (readies_paced old.pace old.late old p.ready p.begins.readies is)
polls_paced old size poll.Closed bytes new p is =
    ends_paced (poll_room old.pace size) p.ready poll.Closed bytes new p.ends (readies_paced old.pace old.late old p.ready p.begins.readies is)
polls_paced old size poll.Failed bytes new p is = of_pace new _ (ap (λ (l : Looped). l.pace) p.is) (poll_paced old.pace is)
polls_paced old size poll.Memory bytes new (inl p) is = of_pace new _ (ap (λ (l : Looped). l.pace) p.is) is
polls_paced old size poll.Memory bytes new (inr p) is = moved_paced old.pace old.late old new p.moved is

once_polled_paced : (sent : Option SendStep) (came : Option PollStep) (bytes : List ℕ) (old new : Looped) → PollsOnce Polls sent came bytes old new
    → IsPaced old.pace → IsPaced new.pace
once_polled_paced (Some send.Failed) None bytes old new (same, none) is = of_pace new _ (ap (λ (l : Looped). l.pace) same) is
once_polled_paced (Some send.Failed) (Some step) bytes old new p is = absurd p
once_polled_paced None None bytes old new p is = absurd p
once_polled_paced None (Some step) bytes old new p is = polls_paced old 8192 step bytes new p is
once_polled_paced (Some (send.Took n)) None bytes old new p is = absurd p
once_polled_paced (Some (send.Took n)) (Some step) bytes old new p is = polls_paced old 8192 step bytes new p is
once_polled_paced (Some send.Idle) None bytes old new p is = absurd p
once_polled_paced (Some send.Idle) (Some step) bytes old new p is = polls_paced old 8192 step bytes new p is
once_polled_paced (Some send.Memory) None bytes old new p is = absurd p
once_polled_paced (Some send.Memory) (Some step) bytes old new p is = polls_paced old 8192 step bytes new p is

-- ---- no want of memory is owed behind a turn

wants_of : (old new : Looped) → new.wants ≡ old.wants → old.wants ≡ false → new.wants ≡ false
wants_of old new same none = same ∙ none

ready_wants : (p : Pace) (late : Bool) (old ready : Looped) → Readies p late old ready → ready.wants ≡ old.wants
ready_wants Calm late old ready (moved, calm) = ap (λ (l : Looped). l.wants) moved.is
ready_wants (Paced rooms) true old ready moved = ap (λ (l : Looped). l.wants) moved.is
ready_wants (Paced rooms) false old ready same = ap (λ (l : Looped). l.wants) same

moved_wants : (p : Pace) (late : Bool) (old new : Looped) → MayHaveMoved p late old new → new.wants ≡ old.wants
moved_wants Calm late old new moved = ap (λ (l : Looped). l.wants) moved.is
moved_wants (Paced rooms) true old new moved = ap (λ (l : Looped). l.wants) moved.is
moved_wants (Paced rooms) false old new moved = absurd moved

polls_unwanted : (old : Looped) (size : ℕ) (step : PollStep) (bytes : List ℕ) (new : Looped) → Polls old size step bytes new → new.wants ≡ false
polls_unwanted old size (poll.Got n) bytes new p =
    ap (λ (l : Looped). l.wants) p.ends.is ∙ ready_wants old.pace old.late old p.ready p.begins.readies ∙ p.begins.unwanted
polls_unwanted old size poll.Idle bytes new (inl p) = ap (λ (l : Looped). l.wants) p.is ∙ p.unwanted
polls_unwanted old size poll.Idle bytes new (inr p) =
    ap (λ (l : Looped). l.wants) p.ends.is ∙ ready_wants old.pace old.late old p.ready p.begins.readies ∙ p.begins.unwanted
polls_unwanted old size poll.Closed bytes new p =
    ap (λ (l : Looped). l.wants) p.ends.is ∙ ready_wants old.pace old.late old p.ready p.begins.readies ∙ p.begins.unwanted
polls_unwanted old size poll.Failed bytes new p = ap (λ (l : Looped). l.wants) p.is ∙ p.unwanted
polls_unwanted old size poll.Memory bytes new (inl p) = ap (λ (l : Looped). l.wants) p.is
polls_unwanted old size poll.Memory bytes new (inr p) = moved_wants old.pace old.late old new p.moved ∙ p.unwanted

failed_wants : (piece : List ℕ) (old new : Looped) → SendsOnce Sends piece (Some send.Failed) old new → new.wants ≡ old.wants
failed_wants [] old new s = absurd s
failed_wants (byte ∷ bytes) old new s = ap (λ (l : Looped). l.wants) s.is

turn_unwanted : (piece : List ℕ) (sent : Option SendStep) (came : Option PollStep) (bytes : List ℕ) (old between new : Looped) → SendsOnce Sends piece sent old between
    → PollsOnce Polls sent came bytes between new → old.wants ≡ false → new.wants ≡ false
turn_unwanted piece (Some send.Failed) None bytes old between new s (same, none) w = ap (λ (l : Looped). l.wants) same ∙ failed_wants piece old between s ∙ w
turn_unwanted piece (Some send.Failed) (Some step) bytes old between new s p w = absurd p
turn_unwanted piece None None bytes old between new s p w = absurd p
turn_unwanted piece None (Some step) bytes old between new s p w = polls_unwanted between 8192 step bytes new p
turn_unwanted piece (Some (send.Took n)) None bytes old between new s p w = absurd p
turn_unwanted piece (Some (send.Took n)) (Some step) bytes old between new s p w = polls_unwanted between 8192 step bytes new p
turn_unwanted piece (Some send.Idle) None bytes old between new s p w = absurd p
turn_unwanted piece (Some send.Idle) (Some step) bytes old between new s p w = polls_unwanted between 8192 step bytes new p
turn_unwanted piece (Some send.Memory) None bytes old between new s p w = absurd p
turn_unwanted piece (Some send.Memory) (Some step) bytes old between new s p w = polls_unwanted between 8192 step bytes new p

-- ---- the bytes of a world

behind_bytes : (front behind whole : List ℕ) → front ++ behind ≡ whole → drop (length front) whole ≡ behind
behind_bytes front behind whole is = ap (drop (length front)) (sym is) ∙ drop-append_seam front behind

-- the outbox of the hub is the world's
pub outbox_is : (first depth : ℕ) (world : Worldly) (hub : HubParts Looped) → IsBehind first depth world hub
    → hub.core.urbs.outbox ≡ outbox (setting_of first depth) world
outbox_is first depth world hub b = sym (behind_bytes world.link.sent hub.core.urbs.outbox _ b.behind.tied.written)

abbrev sent_by : Told → List ℕ
sent_by (Peer sent taken run) = sent
sent_by told = []

abbrev taken_by : Told → List ℕ
taken_by (Peer sent taken run) = taken
taken_by told = []

-- what was sent and taken since power-on is all that was
turned_on : (link : Looped) (s : Setting) (past : Past) (sent taken : List ℕ) (said : _) (core : _)
    → TurnsOn (tells begun.link) (tells link) (counted link) s past sent taken said core
    → TurnsOn (tells begun.link) (tells link) (counted link) s past link.sent link.taken said core
turned_on link s past sent taken said core u =
    subst (λ (bytes : List ℕ). TurnsOn (tells begun.link) (tells link) (counted link) s past link.sent bytes said core) (sym (ap taken_by u.account.told.1))
    (subst (λ (bytes : List ℕ). TurnsOn (tells begun.link) (tells link) (counted link) s past bytes taken said core) (sym (ap sent_by u.account.told.1)) u)

-- ---- a turn

abbrev Keeps : HubParts Looped → HubParts Looped → Type 0
Keeps old new = (start : Told) (s : Setting) (past : Past) (sent received : List ℕ) → Behind tells counted start s past sent received old
    → Behind tells counted start s past sent received new

-- ---- a turn that wanted memory left the record

abbrev KnowsHub : HubParts Looped → Type 0
KnowsHub hub = Holds tells counted hub

kept_core : (said : Turn) (old new : HubCore) → KeepsTurn said old new → said ≡ turn.Memory → new ≡ record old { turned = new.turned }
kept_core turn.Memory old new k is = k
kept_core turn.Idle old new k is = k
kept_core turn.Moved old new k is = cc
kept_core (turn.Ended e) old new k is = cc

still_ended : (said : Turn) (e : Option End) (sent : Option SendStep) (came : Option PollStep) → IsAnswer said e sent came → said ≡ turn.Memory → e ≡ None
still_ended turn.Memory e sent came a is = a.0
still_ended turn.Idle e sent came a is = a.0
still_ended turn.Moved e sent came a is = cc
still_ended (turn.Ended f) e sent came a is = cc

turn_stays : (s : Setting) (old : Worldly) (before mid : HubParts Looped) (said : Turn)
    → Behind tells counted (tells begun.link) s old.past old.link.sent old.link.taken before → (t : Turns tells counted Sends Polls said before mid)
    → (u : TurnsOn (tells begun.link) (tells mid.link) (counted mid.link) s old.past mid.link.sent mid.link.taken (said_by t.sent t.came) mid.core)
    → KnowsHub before → KnowsHub mid → said ≡ turn.Memory → u.more ++ old.past ≡ old.past
turn_stays s old before mid said b t u knows knows_mid is =
    let core = kept_core said before.core mid.core t.keeps is in
    let was = knows (tells begun.link) s old.past old.link.sent old.link.taken b in
    let now = knows_mid (tells begun.link) s (u.more ++ old.past) mid.link.sent mid.link.taken u.account in
    ap (λ (l : Past). l ++ old.past) (nothing_came s old.past u.more u.adds.own u.account.plain
    (sym now.over ∙ still_ended said mid.core.end t.sent t.came t.answers is)
    (sym now.number ∙ ap (λ (c : HubCore). c.urbs.next) core ∙ was.number)
    (sym u.account.rests.knows.answers ∙ ap (λ (c : HubCore). c.taken) core ∙ b.rests.knows.answers)
    (sym u.account.rests.knows.marks ∙ ap (λ (c : HubCore). c.notes.marks) core ∙ b.rests.knows.marks))

-- a hub whose link was opened for a turn, turned, and was closed again
turn_goes : (first depth : ℕ) (rooms : Pace) (old : Worldly) (before mid after : HubParts Looped) (said : Turn)
    → (outbox (setting_of first depth) old ≡ before.core.urbs.outbox)
    → before.link ≡ record old.link { pace = rooms } → IsPaced rooms → old.link.wants ≡ false
    → Behind tells counted (tells begun.link) (setting_of first depth) old.past old.link.sent old.link.taken before
    → Turns tells counted Sends Polls said before mid
    → (IsPaced mid.link.pace → after.link ≡ record mid.link { pace = shut }) → Keeps mid after → KnowsHub before → KnowsHub mid
    → TurnsTo first depth rooms old said after
turn_goes first depth rooms old before mid after said box link paced unwanted b t shuts keeps knows knows_mid =
    let s = setting_of first depth in
    let u = turned_on mid.link s old.past _ _ _ mid.core (t.turns (tells begun.link) s old.past old.link.sent old.link.taken b) in
    let done = shuts (once_polled_paced t.sent t.came t.bytes t.between mid.link t.polls_once
    (once_sent_paced before.core.urbs.outbox t.sent before.link t.between t.sends_once (of_pace before.link rooms (ap (λ (l : Looped). l.pace) link) paced))) in
    let over : IsBehind first depth (record { past = u.more ++ old.past; link = record mid.link { pace = shut } }) after =
    record {
      link = done;
      idle = refl;
      unwanted = turn_unwanted before.core.urbs.outbox t.sent t.came t.bytes before.link t.between mid.link t.sends_once t.polls_once
          (ap (λ (l : Looped). l.wants) link ∙ unwanted);
      behind = keeps (tells begun.link) s (u.more ++ old.past) mid.link.sent mid.link.taken u.account;
    } in
    let left : mid.core.urbs.outbox ≡ drop (length mid.link.sent) (spelled (written s (u.more ++ old.past))) =
    sym (behind_bytes mid.link.sent mid.core.urbs.outbox _ u.account.tied.written) in
    record {
      new = record { past = u.more ++ old.past; link = record mid.link { pace = shut } };
      sent = t.sent;
      came = t.came;
      turns = record {
        bytes = t.bytes;
        between = t.between;
        later = mid.link;
        sends = subst (λ (l : Looped). SendsOnce Sends (outbox s old) t.sent l t.between) link
            (subst (λ (bytes : List ℕ). SendsOnce Sends bytes t.sent before.link t.between) (sym box) t.sends_once);
        polls = t.polls_once;
        link = refl;
        more = u.more;
        past = refl;
        kept = u.account.rests.kept;
        count = u.account.count;
        rest = u.account.rest;
        adds = u.adds;
        tied = record {
          front = u.account.tied.front;
          written = ap (λ (bytes : List ℕ). mid.link.sent ++ bytes) (sym left) ∙ u.account.tied.written;
          taken = u.account.tied.taken;
          answers = u.account.tied.answers;
        };
        whole = u.account.whole;
        taken = u.account.taken;
      };
      answers = subst (λ (e : Option End). IsAnswer said e t.sent t.came) u.account.rests.knows.over t.answers;
      ends = subst (λ (e : Option End). EndsTurn t.sent t.came e) u.account.rests.knows.over t.ends;
      stays = turn_stays s old before mid said b t u knows knows_mid;
      behind = over;
    }

pub turning_leads : (first depth most least : ℕ) (old : Worldly) (hub a b c d e : HubParts Looped) (sa sb sd se : TendStep) (said : Turn)
    → Tends hub.link (act.RoomSend most) sa a.link → a.core ≡ hub.core → Keeps hub a
    → Tends a.link (act.RoomPoll least) sb b.link → b.core ≡ a.core → Keeps a b
    → (b.core.end ≡ None → Turns tells counted Sends Polls said b c)
    → Tends c.link (act.RoomSend 0) sd d.link → Keeps c d
    → Tends d.link (act.RoomPoll 0) se e.link → Keeps d e
    → KnowsHub b → KnowsHub c → IsBehind first depth old hub → ended old.past ≡ None → TurnsTo first depth (Paced (record { send = most; poll = least })) old said e
turning_leads first depth most least old hub a b c d e sa sb sd se said ta ca ka tb cb kb turns td kd te ke knows knows_mid is runs =
    let core = cb ∙ ca in
    turn_goes first depth (Paced (record { send = most; poll = least })) old b c e said
    (sym (outbox_is first depth old hub is) ∙ ap (λ x. x.urbs.outbox) (sym core))
    (rooms_opened most least old.link hub.link a.link b.link is.link is.idle (room_send most hub.link sa a.link ta) (room_poll least a.link sb b.link tb)) tt is.unwanted
    (kb _ _ _ _ _ (ka _ _ _ _ _ is.behind))
    (turns (ap (λ x. x.end) core ∙ is.behind.rests.knows.over ∙ runs))
    (λ paced. closed_again c.link d.link e.link paced (room_send 0 c.link sd d.link td) (room_poll 0 d.link se e.link te))
    (λ start s past sent received w. ke start s past sent received (kd start s past sent received w)) knows knows_mid
