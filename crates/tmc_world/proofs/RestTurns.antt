-- what a turn with room in one direction leaves to do
use Rattle.std.proofs.Common.{◌≡◌, ◌∙◌, ◌≢◌, ◌+◌, ◌-◌, ◌^◌, ◌<◌, ◌≤◌, min, inl, inr, ℕ, Bool, true, false, List, [], ◌∷◌, ◌++◌, length, take, drop, Option, Some, None, refl, sym, ap, subst, arith, length-append, length-drop, length-take}
use Rattle.std.specs.Prelude.{◌⊎◌}
use Rattle.tmc_base.specs.declared.link.PollStep.{PollStep}
use Rattle.tmc_base.specs.declared.link.PollStep.TheVariants as poll
use Rattle.tmc_base.specs.declared.link.SendStep.{SendStep}
use Rattle.tmc_base.specs.declared.link.SendStep.TheVariants as send
use Rattle.host_hub.specs.declared.outcome.End.{End}
use Rattle.host_hub.specs.declared.outcome.End.TheVariants as end
use Rattle.host_hub.specs.Hand.{ended}
use Rattle.host_hub.specs.HubCalls.{PollsOnce, SendsOnce, said_by, said_of}
use Rattle.host_hub.specs.Order.{Setting}
use Rattle.host_hub.specs.Record.{Happening, Past, Wrote, Took, Fell, Stopped, Recovers, Asked, Cancelled, Cleared, GaveUp, Settled, next, written}
use Rattle.host_hub.specs.Tied.{Said, Went, Failed, Closed, spelled, stopped}
use Rattle.usbip_export.specs.Seen.{Seen, standing}
use Rattle.tmc_world.specs.declared.pace.Pace.{Pace}
use Rattle.tmc_world.specs.declared.pace.Pace.TheVariants.{Calm, Paced}
use Rattle.tmc_world.specs.Pacing.{poll_room}
use Rattle.tmc_world.specs.Crossing.{IsOpen, IsShut}
use Rattle.tmc_world.specs.LoopLink.{Looped, Sends, Polls, PollEnds, Readies}
use Rattle.tmc_world.specs.World.{Worldly, outbox, shut}
use Rattle.tmc_world.specs.WorldSteps.{GoesDown, GoesUp, MayGoDown, MayGoUp, Turns}

-- ---- the record goes on

-- nothing was written, or some messages were
pub grows : (s : Setting) (more past : Past)
    → ((written s (more ++ past) ≡ written s past) × (next s.first (more ++ past) ≡ next s.first past)) ⊎ (next s.first past < next s.first (more ++ past))
grows s [] past = inl (refl, refl)
grows s (Wrote number owner order ∷ more) past = inr (wrote (grows s more past)) where
  wrote : ((written s (more ++ past) ≡ written s past) × (next s.first (more ++ past) ≡ next s.first past)) ⊎ (next s.first past < next s.first (more ++ past))
      → next s.first past < next s.first (more ++ past) + 1
  wrote (inl (same, is)) = omega (arith, is)
  wrote (inr less) = omega (arith, less)
grows s (Took answer ∷ more) past = grows s more past
grows s (Fell answer e ∷ more) past = grows s more past
grows s (Stopped e ∷ more) past = grows s more past
grows s (Recovers ∷ more) past = grows s more past
grows s (Asked t asking ∷ more) past = grows s more past
grows s (Cancelled t ∷ more) past = grows s more past
grows s (Cleared session ∷ more) past = grows s more past
grows s (GaveUp ∷ more) past = grows s more past
grows s (Settled t outcome ∷ more) past = grows s more past

-- it has an end
abbrev pub IsOver : Past → Type 0
IsOver past = (e : End) × (ended past ≡ Some e)

pub over_by : (more past : Past) (e : End) → stopped more ≡ Some e → IsOver (more ++ past)
over_by [] past e is = cc
over_by (Stopped other ∷ more) past e is = (other, refl)
over_by (Fell answer other ∷ more) past e is = (other, refl)
over_by (Wrote number owner order ∷ more) past e is = over_by more past e is
over_by (Took answer ∷ more) past e is = over_by more past e is
over_by (Recovers ∷ more) past e is = over_by more past e is
over_by (Asked t asking ∷ more) past e is = over_by more past e is
over_by (Cancelled t ∷ more) past e is = over_by more past e is
over_by (Cleared session ∷ more) past e is = over_by more past e is
over_by (GaveUp ∷ more) past e is = over_by more past e is
over_by (Settled t outcome ∷ more) past e is = over_by more past e is

-- ---- a poll leaves what was sent

abbrev sent_of : Looped → List ℕ
sent_of link = link.sent

readies_sent : (p : Pace) (late : Bool) (old ready : Looped) → Readies p late old ready → ready.sent ≡ old.sent
readies_sent Calm late old ready (moved, calm) = ap (λ (l : Looped). l.sent) moved.is
readies_sent (Paced rooms) true old ready moved = ap (λ (l : Looped). l.sent) moved.is
readies_sent (Paced rooms) false old ready same = ap (λ (l : Looped). l.sent) same

ends_sent : (room : ℕ) (ready : Looped) (step : PollStep) (bytes : List ℕ) (new : Looped) → PollEnds room ready step bytes new → new.sent ≡ ready.sent
ends_sent room ready (poll.Got n) bytes new e = ap (λ (l : Looped). l.sent) e.is
ends_sent room ready poll.Idle bytes new e = ap (λ (l : Looped). l.sent) e.is
ends_sent room ready poll.Closed bytes new e = ap (λ (l : Looped). l.sent) e.is
ends_sent room ready poll.Failed bytes new e = absurd e
ends_sent room ready poll.Memory bytes new e = absurd e

polls_sent : (old : Looped) (size : ℕ) (step : PollStep) (bytes : List ℕ) (new : Looped) → (step ≡ poll.Memory → ⊥) → Polls old size step bytes new → new.sent ≡ old.sent
polls_sent old size (poll.Got n) bytes new well p = ends_sent (poll_room old.pace size) p.ready (poll.Got n) bytes new p.ends ∙ readies_sent old.pace old.late old p.ready p.begins.readies
polls_sent old size poll.Idle bytes new well (inl p) = ap (λ (l : Looped). l.sent) p.is
polls_sent old size poll.Idle bytes new well (inr p) = ends_sent (poll_room old.pace size) p.ready poll.Idle bytes new p.ends ∙ readies_sent old.pace old.late old p.ready p.begins.readies
polls_sent old size poll.Closed bytes new well p = ends_sent (poll_room old.pace size) p.ready poll.Closed bytes new p.ends ∙ readies_sent old.pace old.late old p.ready p.begins.readies
polls_sent old size poll.Failed bytes new well p = ap (λ (l : Looped). l.sent) p.is
polls_sent old size poll.Memory bytes new well p = absurd (well refl)

-- ---- a turn up

-- all of the link's bytes that a send took
pub record WentUp (s : Setting) (old new : Worldly) : Type 0 where
  pub count : ℕ
  pub some : 0 < count
  pub sent : new.link.sent ≡ old.link.sent ++ take count (outbox s old)

pub data Up (s : Setting) (old new : Worldly) : Type 0 where
  Over : IsOver new.past → Up s old new
  Sent : WentUp s old new → Up s old new

polled_up : (n : ℕ) (came : Option PollStep) (bytes : List ℕ) (old new : Looped) → came ≢ Some poll.Memory → PollsOnce Polls (Some (send.Took n)) came bytes old new
    → new.sent ≡ old.sent
polled_up n None bytes old new well p = absurd p
polled_up n (Some step) bytes old new well p = polls_sent old 8192 step bytes new (λ e. well (ap Some e)) p

goes_up : (s : Setting) (most : ℕ) (old new : Worldly) (box : List ℕ) (sent : Option SendStep) (came : Option PollStep) (bytes : List ℕ) (between later : Looped)
    → 1 ≤ most → box ≢ [] → sent ≢ Some send.Memory → came ≢ Some poll.Memory
    → SendsOnce Sends box sent (record old.link { pace = Paced (record { send = most; poll = 0 }) }) between
    → PollsOnce Polls sent came bytes between later
    → new.link ≡ record later { pace = shut } → (said_by sent came ≡ Failed → IsOver new.past)
    → IsOver new.past ⊎ ((count : ℕ) × (0 < count) × (new.link.sent ≡ old.link.sent ++ take count box))
goes_up s most old new [] sent came bytes between later number some sw cw sends polls link fails = absurd (some refl)
goes_up s most old new (byte ∷ box) None came bytes between later number some sw cw sends polls link fails = absurd sends
goes_up s most old new (byte ∷ box) (Some (send.Took n)) came bytes between later number some sw cw sends polls link fails =
    inr (n, sends.some, ap sent_of link ∙ polled_up n came bytes between later cw polls ∙ ap sent_of sends.is)
goes_up s most old new (byte ∷ box) (Some send.Idle) came bytes between later number some sw cw sends polls link fails = absurd (nothing sends.shut) where
  nothing : most ≡ 0 → ⊥
  nothing is = omega (arith, number, is)
goes_up s most old new (byte ∷ box) (Some send.Failed) came bytes between later number some sw cw sends polls link fails = inl (fails refl)
goes_up s most old new (byte ∷ box) (Some send.Memory) came bytes between later number some sw cw sends polls link fails = absurd (sw refl)

pub up_goes : (s : Setting) (most : ℕ) (old new : Worldly) → GoesUp s most old new → Up s old new
up_goes s most old new (may, t) =
    made (goes_up s most old new (outbox s old) t.sent t.came t.turns.bytes t.turns.between t.turns.later may.number may.some t.sent_well t.came_well
    t.turns.sends t.turns.polls t.turns.link
    (λ failed. subst IsOver (sym t.turns.past) (over_by t.turns.more old.past end.LinkFault (t.turns.adds.failed.1 failed)))) where
      made : IsOver new.past ⊎ ((count : ℕ) × (0 < count) × (new.link.sent ≡ old.link.sent ++ take count (outbox s old))) → Up s old new
      made (inl over) = Over over
      made (inr (n, some, is)) = Sent (record { count = n; some = some; sent = is })

-- ---- a turn down

-- nothing was sent, nothing waits for memory, and the instrument stands as before; the hub has ended, or bytes were taken
pub record WentDown (old new : Looped) (Ended : Type 0) : Type 0 where
  pub sent : new.sent ≡ old.sent
  pub unlate : new.late ≡ false
  pub stands : standing new.node ≡ standing old.node
  pub no_more : length new.node.out ≤ length old.node.out
  pub less : Ended ⊎ (length new.node.out < length old.node.out)

abbrev same_link : (old new : Looped) (Ended : Type 0) → new.sent ≡ old.sent → new.late ≡ old.late → new.node ≡ old.node → old.late ≡ false → Ended → WentDown old new Ended
same_link old new Ended sent late node unlate over = record {
  sent = sent;
  unlate = late ∙ unlate;
  stands = ap standing node;
  no_more = subst (λ (n : Seen). length n.out ≤ length old.node.out) (sym node) (omega arith);
  less = inl over;
}

ready_is : (most : ℕ) (late : Bool) (old ready : Looped) → late ≡ false → Readies (Paced (record { send = 0; poll = most })) late old ready → ready ≡ old
ready_is most true old ready is r = cc
ready_is most false old ready is r = r

-- so many bytes, of some that there are, are fewer than before
fewer : (n room : ℕ) (out rest : List ℕ) → 0 < n → n ≡ min room (length out) → rest ≡ drop n out → length rest < length out
fewer n room out rest some fits is =
    let e : length rest ≡ length out - n = ap length is ∙ length-drop n out in
    omega (arith, e, some, fits)

got_down : (most n : ℕ) (bytes : List ℕ) (old later : Looped) (Ended : Type 0) → old.late ≡ false
    → Polls (record old { pace = Paced (record { send = 0; poll = most }) }) 8192 (poll.Got n) bytes later → WentDown old later Ended
got_down most n bytes old later Ended unlate p =
    let is = ready_is most old.late _ p.ready unlate p.begins.readies in
    let l = p.ends.is in
    let less : length later.node.out < length old.node.out =
    fewer n (min 8192 most) old.node.out later.node.out p.ends.some
    (p.ends.fits ∙ ap (λ (x : Looped). min (min 8192 most) (length x.node.out)) is)
    (ap (λ (x : Looped). x.node.out) l ∙ ap (λ (x : Looped). drop n x.node.out) is) in
    record {
      sent = ap (λ (x : Looped). x.sent) l ∙ ap (λ (x : Looped). x.sent) is;
      unlate = ap (λ (x : Looped). x.late) l ∙ ap (λ (x : Looped). x.late) is ∙ unlate;
      stands = ap (λ (x : Looped). standing x.node) l ∙ ap (λ (x : Looped). standing x.node) is;
      no_more = omega (arith, less);
      less = inr less;
    }

polled_down : (most : ℕ) (step : PollStep) (bytes : List ℕ) (old later : Looped) (Ended : Type 0) → 1 ≤ most → old.late ≡ false
    → ((old.node.out ≢ []) ⊎ IsShut old.node) → (step ≡ poll.Memory → ⊥)
    → (said_of step ≡ Failed → Ended) → (said_of step ≡ Closed → Ended)
    → Polls (record old { pace = Paced (record { send = 0; poll = most }) }) 8192 step bytes later → WentDown old later Ended
polled_down most (poll.Got n) bytes old later Ended number unlate some well fails closes p = got_down most n bytes old later Ended unlate p
polled_down most poll.Idle bytes old later Ended number unlate some well fails closes (inl p) = absurd (nothing p.shut) where
  nothing : most ≡ 0 → ⊥
  nothing is = omega (arith, number, is)
polled_down most poll.Idle bytes old later Ended number unlate some well fails closes (inr p) =
    absurd (none (ready_is most old.late _ p.ready unlate p.begins.readies) some) where
      none : p.ready ≡ record old { pace = Paced (record { send = 0; poll = most }) } → ((old.node.out ≢ []) ⊎ IsShut old.node) → ⊥
      none is (inl more) = more (sym (ap (λ (x : Looped). x.node.out) is) ∙ p.ends.none)
      none is (inr closed) = opened_shut (subst (λ (x : Looped). IsOpen x.node) is p.ends.opened) closed where
        opened_shut : IsOpen old.node → IsShut old.node → ⊥
        opened_shut a b = absurd (true_is_false (sym b ∙ a)) where
          true_is_false : true ≡ false → ⊥
          true_is_false e = cc
polled_down most poll.Closed bytes old later Ended number unlate some well fails closes p =
    let is = ready_is most old.late _ p.ready unlate p.begins.readies in
    let l = p.ends.is in
    same_link old later Ended (ap (λ (x : Looped). x.sent) l ∙ ap (λ (x : Looped). x.sent) is) (ap (λ (x : Looped). x.late) l ∙ ap (λ (x : Looped). x.late) is)
    (ap (λ (x : Looped). x.node) l ∙ ap (λ (x : Looped). x.node) is) unlate (closes refl)
polled_down most poll.Failed bytes old later Ended number unlate some well fails closes p =
    same_link old later Ended (ap (λ (x : Looped). x.sent) p.is) (ap (λ (x : Looped). x.late) p.is) (ap (λ (x : Looped). x.node) p.is) unlate (fails refl)
polled_down most poll.Memory bytes old later Ended number unlate some well fails closes p = absurd (well refl)

goes_down : (most : ℕ) (box : List ℕ) (sent : Option SendStep) (came : Option PollStep) (bytes : List ℕ) (old between later : Looped) (Ended : Type 0) → 1 ≤ most
    → box ≡ [] → old.late ≡ false → ((old.node.out ≢ []) ⊎ IsShut old.node) → came ≢ Some poll.Memory
    → (said_by sent came ≡ Failed → Ended) → (said_by sent came ≡ Closed → Ended)
    → SendsOnce Sends box sent (record old { pace = Paced (record { send = 0; poll = most }) }) between → PollsOnce Polls sent came bytes between later
    → WentDown old later Ended
goes_down most (byte ∷ box) sent came bytes old between later Ended number empty unlate some well fails closes sends polls = cc
goes_down most [] (Some step) came bytes old between later Ended number empty unlate some well fails closes sends polls = absurd sends
goes_down most [] None None bytes old between later Ended number empty unlate some well fails closes sends polls = absurd polls
goes_down most [] None (Some step) bytes old between later Ended number empty unlate some well fails closes sends polls =
    polled_down most step bytes old later Ended number unlate some (λ e. well (ap Some e)) fails closes
    (subst (λ (l : Looped). Polls l 8192 step bytes later) sends polls)

shut_down : (old later new : Looped) (Ended : Type 0) → new ≡ record later { pace = shut } → WentDown old later Ended → WentDown old new Ended
shut_down old later new Ended is w = subst (λ (l : Looped). WentDown old l Ended) (sym is)
    (record { sent = w.sent; unlate = w.unlate; stands = w.stands; no_more = w.no_more; less = w.less })

pub down_goes : (s : Setting) (most : ℕ) (old new : Worldly) → outbox s old ≡ [] → old.link.late ≡ false → GoesDown s most old new
    → WentDown old.link new.link (IsOver new.past)
down_goes s most old new empty unlate (may, t) =
    shut_down old.link t.turns.later new.link (IsOver new.past) t.turns.link
    (goes_down most (outbox s old) t.sent t.came t.turns.bytes old.link t.turns.between t.turns.later (IsOver new.past) may.number empty unlate may.some t.came_well
    (λ failed. subst IsOver (sym t.turns.past) (over_by t.turns.more old.past end.LinkFault (t.turns.adds.failed.1 failed)))
    (λ closed. subst IsOver (sym t.turns.past) (over_by t.turns.more old.past end.Unplugged (t.turns.adds.closed.1 closed)))
    t.turns.sends t.turns.polls)
