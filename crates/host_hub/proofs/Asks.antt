-- a ticket is asked of a hub
use Rattle.std.proofs.Common.{◌≡◌, ◌≢◌, ◌≤◌, ◌<◌, ℕ, ◌+◌, Bool, true, false, List, [], ◌∷◌, ◌++◌, length, Option, Some, None, refl, sym, subst, ◌∙◌, ap, arith, append_assoc}
use Rattle.std.specs.Prelude.{◌==◌, ◌||◌, ◌&&◌, nat_lt, nat_le, if◌then◌else◌}
use Rattle.std.proofs.lemmas.Bool.{ltb-false, eqb-false}
use Rattle.host_hub.specs.declared.hub_core.HubCore.{HubCore}
use Rattle.host_hub.specs.declared.hub_core.Phase.{Phase}
use Rattle.host_hub.specs.declared.hub_core.Phase.TheVariants as phase
use Rattle.host_hub.specs.declared.limits.TheConstants.{MESSAGE_MAX, LIMIT_MAX, TICKETS_MAX, LIMITS_MAX, LAST_ASK, SESSIONS}
use Rattle.host_hub.specs.declared.outcome.End.{End}
use Rattle.host_hub.specs.declared.refusals.AskFault.{AskFault}
use Rattle.host_hub.specs.declared.refusals.AskFault.TheVariants as fault
use Rattle.host_hub.specs.BookSeen.{BookSeen}
use Rattle.host_hub.specs.Noted.{Noted}
use Rattle.host_hub.specs.Order.{Order, Setting, is_listen}
use Rattle.host_hub.specs.Record.{Asking, Asked, Past, next}
use Rattle.host_hub.specs.Hand.{ended, in_hand, is_begun, is_of}
use Rattle.host_hub.specs.Outstanding.{Sent, busy, involved, outstanding}
use Rattle.host_hub.specs.Book.{active, asking_of, first_of, live, tickets}
use Rattle.host_hub.specs.Status.{listens}
use Rattle.host_hub.specs.Refusals.{ask_fault, ask_fault_while, has_limit, has_message, is_full, limits, needs_488}
use Rattle.host_hub.specs.Law.{Kept}
use Rattle.host_hub.specs.Steps.{asked}
use Rattle.host_recover.specs.declared.need.Need.{Need}
use Rattle.host_recover.specs.declared.need.Need.TheVariants as need
use Rattle.host_hub.specs.Needs.{need_of}
use Rattle.host_hub.specs.Recovery.{AreRecovered, is_called, is_served, wanted}
use Rattle.host_hub.specs.Proper.{IsProper}
use Rattle.host_hub.specs.Knows.{Knows, Tells}
use Rattle.host_hub.specs.Stands.{GoesTo, IsIdle, IsOut, Rests, Stands}
use Rattle.host_hub.specs.Writes.{Ready}
use Rattle.host_hub.specs.Asks.{Enters}
use Rattle.host_hub.proofs.Clean.{clean_asked}
use Rattle.host_hub.proofs.Lists.{differ, first_added, neither, own, first_has, clash}
use Rattle.host_hub.proofs.Pasts.{live_known, unasked_begun}
use Rattle.host_hub.proofs.Stepping.{asked_works, waiting_kept}
use Rattle.host_hub.proofs.Begins.{same_next, speaks}
use Rattle.host_hub.proofs.Knowing.{active_next, knows_roomier}

pub tells : (s : Setting) (past : Past) (sent : List ℕ) (core : HubCore) → Knows s past sent core → Tells s past core
tells s past sent core k = record { over = sym k.over; count = sym k.shows.count; limit_sum = sym k.limit_sum; number = sym (same_next s past sent core k) }

-- ---- what is not refused

pub record Unrefused (s : Setting) (past : Past) (a : Asking) : Type 0 where
  pub running : ended past ≡ None
  pub proper : IsProper a
  pub few : (tickets past == TICKETS_MAX) ≡ false
  pub sum : limits past + a.limit ≤ LIMITS_MAX
  pub numbers : next s.first past ≤ LAST_ASK

some_none : {P : Type 0} (x : AskFault) → Some x ≡ None → P
some_none x e = absurd (no e)
  where
    no : Some x ≡ None → ⊥
    no h = cc

test_none : (b : Bool) (x : AskFault) (y : Option AskFault) → (if b then Some x else y) ≡ None → (b ≡ false) × (y ≡ None)
test_none true x y e = some_none x e
test_none false x y e = (refl, e)

and_right : (a b : Bool) → a ≡ true → a && b ≡ false → b ≡ false
and_right true b h e = e
and_right false b h e = clash h

some_bytes : (n : ℕ) → (n == 0) ≡ false → 1 ≤ n
some_bytes n h = omega (arith, eqb-false n 0 h)

pub unrefused : (s : Setting) (past : Past) (a : Asking) → has_message a.kind ≡ true → ask_fault s past a ≡ None → Unrefused s past a
unrefused s past a message none = step (ended past) refl none
  where
    step : (e : Option End) → ended past ≡ e → ask_fault_while s e past a ≡ None → Unrefused s past a
    step (Some e) is h = some_none (fault.Down e) h
    step None is h =
        let one = test_none (nat_le SESSIONS a.session) fault.NoSession _ h in
        let two = test_none (needs_488 a.kind && (s.ends.protocol == 0)) fault.No488 _ one.1 in
        let three = test_none (has_message a.kind && (length a.message == 0)) fault.EmptyMessage _ two.1 in
        let four = test_none (has_message a.kind && nat_lt MESSAGE_MAX (length a.message)) fault.LongMessage _ three.1 in
        let five = test_none (has_limit a.kind && ((a.limit == 0) || nat_lt LIMIT_MAX a.limit)) fault.BadLimit _ four.1 in
        let six = test_none (is_full past a) fault.Full _ five.1 in
        let seven = test_none (nat_lt LAST_ASK (next s.first past)) fault.Exhausted None six.1 in
        let room : ((tickets past == TICKETS_MAX) ≡ false) × (nat_lt LIMITS_MAX (limits past + a.limit) ≡ false) =
        neither (tickets past == TICKETS_MAX) (nat_lt LIMITS_MAX (limits past + a.limit)) six.0 in
        record {
          running = is;
          proper = record {
            messages = message;
            some = some_bytes (length a.message) (and_right (has_message a.kind) (length a.message == 0) message three.0);
            short = ltb-false MESSAGE_MAX (length a.message) (and_right (has_message a.kind) (nat_lt MESSAGE_MAX (length a.message)) message four.0);
            limited = λ e. some_bytes a.limit (neither (a.limit == 0) (nat_lt LIMIT_MAX a.limit)
                (and_right (has_limit a.kind) ((a.limit == 0) || nat_lt LIMIT_MAX a.limit) (ap has_limit e) five.0)).0;
          };
          few = room.0;
          sum = ltb-false LIMITS_MAX (limits past + a.limit) room.1;
          numbers = ltb-false LAST_ASK (next s.first past) seven.0;
        }

pub fewer : (s : Setting) (past : Past) (sent : List ℕ) (core : HubCore) (a : Asking) → Knows s past sent core → Unrefused s past a → length core.book.tickets < TICKETS_MAX
fewer s past sent core a k u = omega (arith, k.few, k.shows.count, eqb-false (tickets past) TICKETS_MAX u.few)

-- ---- behind an active ticket

one_awaited : (t : ℕ) (l : Bool) (x : Sent) (xs : List Sent) → xs ≡ x ∷ [] → is_of t x.owner ≡ true → involved t l xs ≢ []
one_awaited t l x xs is mine e = no (sym (ap (involved t l) is ∙ both) ∙ e)
  where
    both : involved t l (x ∷ []) ≡ x ∷ []
    both = rw mine refl

    no : x ∷ [] ≡ [] → ⊥
    no h = cc

one_busy : (x : Sent) (xs : List Sent) → xs ≡ x ∷ [] → is_listen x.order ≡ false → busy xs ≢ []
one_busy x xs is plain e = no (sym (ap busy is ∙ both) ∙ e)
  where
    both : busy (x ∷ []) ≡ x ∷ []
    both = rw plain refl

    no : x ∷ [] ≡ [] → ⊥
    no h = cc

asks_still : (s : Setting) (past : Past) (t : ℕ) (a old : Asking) → Kept s past → active past ≡ Some t → asking_of t past ≡ Some old → asking_of t (asked past a) ≡ Some old
asks_still s past t a old kept turn e =
    rw (differ (tickets past + 1) t (λ k. omega (arith, k, live_known s past kept.lawful t (first_has t (live past) turn)))) e

pub out_asked : (s : Setting) (past : Past) (core : HubCore) (a old : Asking) (order : Order) (split : Bool) (b : BookSeen) (n : Noted) (sum : ℕ) → Kept s past
    → IsOut s past core old order split → IsOut s (asked past a) (record core { book = b; notes = n; limits = sum }) old order split
out_asked s past core a old order split b n sum kept o = record {
  turn = first_added core.active (tickets past + 1) (live past) o.turn;
  begun = o.begun;
  asks = asks_still s past core.active a old kept o.turn o.asks;
  free = o.free;
  number = o.number;
  alone = o.alone;
  written_last = o.written_last;
  clean = clean_asked past core.active split a o.clean;
  counted = o.counted;
  whole = o.whole;
  queue = o.queue;
}

pub waits_asked : (s : Setting) (past : Past) (core : HubCore) (a old : Asking) (order : Order) (split : Bool) → s.depth ≡ 1 → Kept s past → ended past ≡ None
    → IsProper old → is_listen order ≡ false → IsOut s past core old order split → Kept s (asked past a)
waits_asked s past core a old order split depth kept running good plain o =
    waiting_kept s (asked past a) core.active old depth (asked_works s past a kept running) (first_added core.active (tickets past + 1) (live past) o.turn) o.begun
    (asks_still s past core.active a old kept o.turn o.asks, speaks old.kind good.messages)
    (one_awaited core.active (listens core.active (asked past a)) _ (outstanding past) o.alone (own core.active))
    (one_busy _ (outstanding past) o.alone plain)

-- ---- the three phases, and the ticket that waits behind

abbrev pub after : HubCore → BookSeen → Noted → (sum : ℕ) → HubCore
after core b n sum = record core { book = b; notes = n; limits = sum }

pub queued_rests : (s : Setting) (past : Past) (sent : List ℕ) (core : HubCore) (a : Asking) (b : BookSeen) (n : Noted) (sum : ℕ) → Rests s past sent core → core.end ≡ None
    → (core.phase ≡ phase.Idle → ⊥) → Knows s (asked past a) sent (after core b n sum) → Rests s (asked past a) sent (after core b n sum)
unfolding out_asked
queued_rests s past sent core a b n sum r running works k = step core.phase refl (r.stands running)
  where
    over : ended past ≡ None
    over = sym r.knows.over ∙ running

    step : (p : Phase) → core.phase ≡ p → Stands p s past core → Rests s (asked past a) sent (after core b n sum)
    step phase.Idle e h = absurd (works e)
    step phase.Message e h = record {
      knows = k;
      kept = waits_asked s past core a h.asking _ h.split r.knows.shallow r.kept over (r.knows.proper core.active h.asking h.out.asks) refl h.out;
      stands = λ _. subst (λ (q : Phase). Stands q s (asked past a) (after core b n sum)) (sym e) (record {
        asking = h.asking;
        tag = h.tag;
        text = h.text;
        split = h.split;
        out = out_asked s past core a h.asking _ h.split b n sum r.kept h.out;
        none = h.none;
      });
    }
    step phase.Request e h = record {
      knows = k;
      kept = waits_asked s past core a h.asking _ false r.knows.shallow r.kept over (r.knows.proper core.active h.asking h.out.asks) refl h.out;
      stands = λ _. subst (λ (q : Phase). Stands q s (asked past a) (after core b n sum)) (sym e) (record {
        asking = h.asking;
        asks = h.asks;
        tag = h.tag;
        size = h.size;
        earlier = h.earlier;
        out = out_asked s past core a h.asking _ false b n sum r.kept h.out;
        now = h.now;
        assembly = h.assembly;
      });
    }
    step phase.Response e h = record {
      knows = k;
      kept = waits_asked s past core a h.asking _ false r.knows.shallow r.kept over (r.knows.proper core.active h.asking h.out.asks) refl h.out;
      stands = λ _. subst (λ (q : Phase). Stands q s (asked past a) (after core b n sum)) (sym e) (record {
        asking = h.asking;
        asks = h.asks;
        piece = h.piece;
        earlier = h.earlier;
        out = out_asked s past core a h.asking _ false b n sum r.kept h.out;
        now = h.now;
        goes_on = h.goes_on;
        counts = h.counts;
        tag = h.tag;
        size = h.size;
        holds = h.holds;
        open_still = h.open_still;
      });
    }

-- ---- where nothing is entered

abbrev pub roomier : HubCore → (room places : ℕ) → HubCore
roomier core room places = record core { notes = record core.notes { room = room; places = places } }

out_roomier : (s : Setting) (past : Past) (core : HubCore) (a : Asking) (order : Order) (split : Bool) (room places : ℕ) → IsOut s past core a order split
    → IsOut s past (roomier core room places) a order split
out_roomier s past core a order split room places o = record {
  turn = o.turn;
  begun = o.begun;
  asks = o.asks;
  free = o.free;
  number = o.number;
  alone = o.alone;
  written_last = o.written_last;
  clean = o.clean;
  counted = o.counted;
  whole = o.whole;
  queue = o.queue;
}

stands_roomier : (p : Phase) (s : Setting) (past : Past) (core : HubCore) (room places : ℕ) → Stands p s past core → Stands p s past (roomier core room places)
unfolding out_roomier
stands_roomier phase.Idle s past core room places h = record { none = h.none; nothing = h.nothing; recovered = h.recovered; queue = h.queue }
stands_roomier phase.Message s past core room places h =
    record { asking = h.asking; tag = h.tag; text = h.text; split = h.split; out = out_roomier s past core h.asking _ h.split room places h.out; none = h.none }
stands_roomier phase.Request s past core room places h =
    record {
      asking = h.asking;
      asks = h.asks;
      tag = h.tag;
      size = h.size;
      earlier = h.earlier;
      out = out_roomier s past core h.asking _ false room places h.out;
      now = h.now;
      assembly = h.assembly;
    }
stands_roomier phase.Response s past core room places h =
    record {
      asking = h.asking;
      asks = h.asks;
      piece = h.piece;
      earlier = h.earlier;
      out = out_roomier s past core h.asking _ false room places h.out;
      now = h.now;
      goes_on = h.goes_on;
      counts = h.counts;
      tag = h.tag;
      size = h.size;
      holds = h.holds;
      open_still = h.open_still;
    }

pub roomier_rests : (s : Setting) (past : Past) (sent : List ℕ) (core : HubCore) (room places : ℕ) → Rests s past sent core → core.notes.room ≤ room
    → Rests s past sent (roomier core room places)
roomier_rests s past sent core room places r more = record {
  knows = knows_roomier s past sent core room places r.knows more;
  kept = r.kept;
  stands = λ running. stands_roomier core.phase s past core room places (r.stands running);
}

-- ---- a hub that idles

need_asked : (past : Past) (a : Asking) (o : Option ℕ) → need_of o (asked past a) ≡ need_of o past
need_asked past a None = refl
need_asked past a (Some t) = refl

wanted_asked : (past : Past) (a : Asking) → wanted (asked past a) ≡ wanted past
wanted_asked past a = ap (λ (n : Option Need). if is_called past then Some need.Full else if is_served past then None else n) (need_asked past a (in_hand past))

recovered_asked : (past : Past) (a : Asking) → AreRecovered past → AreRecovered (asked past a)
recovered_asked past a h = (h.0, wanted_asked past a ∙ h.1)

pub idle_ready : (s : Setting) (past : Past) (sent : List ℕ) (core : HubCore) (a : Asking) (b : BookSeen) (n : Noted) (sum : ℕ) → Rests s past sent core → core.end ≡ None
    → core.phase ≡ phase.Idle → Knows s (asked past a) sent (after core b n sum) → Ready s (asked past a) sent (after core b n sum)
idle_ready s past sent core a b n sum r running idle k =
    let h : IsIdle past core = subst (λ (p : Phase). Stands p s past core) idle (r.stands running) in
    let over : ended past ≡ None = sym r.knows.over ∙ running in
    let here : core.active ≡ tickets past + 1 = active_next s past sent core r.knows h.none in
    record {
      knows = k;
      working = asked_works s past a r.kept over;
      running = running;
      turn = ap (λ (l : List ℕ). first_of (l ++ (tickets past + 1) ∷ [])) h.none ∙ ap Some (sym here);
      fresh = subst (λ (m : ℕ). is_begun m past ≡ false) (sym here) (unasked_begun s past r.kept.lawful (tickets past + 1) (omega arith));
      none_out = h.nothing;
      recovered = recovered_asked past a h.recovered;
      queue = h.queue;
    }

-- ---- the entry, and what follows

pub enters_queued : (s : Setting) (past : Past) (sent : List ℕ) (a : Asking) (core : HubCore) → Rests s (asked past a) sent core → Enters s past sent a core
enters_queued s past sent a core r = record {
  more = Asked (tickets past + 1) a ∷ [];
  adds = record { own = []; by_itself = tt; is = refl };
  plain = tt;
  rests = r;
}

pub enters_begun : (s : Setting) (past : Past) (sent : List ℕ) (a : Asking) (core : HubCore) → GoesTo s (asked past a) sent core → Enters s past sent a core
enters_begun s past sent a core g = record {
  more = g.more ++ Asked (tickets past + 1) a ∷ [];
  adds = record { own = g.more; by_itself = g.by_itself; is = refl };
  plain = g.plain;
  rests = subst (λ (p : Past). Rests s p sent core) (sym (append_assoc g.more (Asked (tickets past + 1) a ∷ []) past)) g.rests;
}

-- ---- the same by what the entry changed

pub ready_by : (s : Setting) (past : Past) (sent : List ℕ) (old new : HubCore) (a : Asking) → Rests s past sent old → old.end ≡ None
    → new ≡ record old { book = new.book; notes = new.notes; limits = new.limits } → new.phase ≡ phase.Idle → Knows s (asked past a) sent new → Ready s (asked past a) sent new
ready_by s past sent old new a r running rest idle k =
    subst (λ (h : HubCore). Ready s (asked past a) sent h) (sym rest)
    (idle_ready s past sent old a new.book new.notes new.limits r running (sym (ap (λ (h : HubCore). h.phase) rest) ∙ idle)
    (subst (λ (h : HubCore). Knows s (asked past a) sent h) rest k))

pub queued_by : (s : Setting) (past : Past) (sent : List ℕ) (old new : HubCore) (a : Asking) → Rests s past sent old → old.end ≡ None
    → new ≡ record old { book = new.book; notes = new.notes; limits = new.limits } → (new.phase ≡ phase.Idle → ⊥) → Knows s (asked past a) sent new → Rests s (asked past a) sent new
queued_by s past sent old new a r running rest works k =
    subst (λ (h : HubCore). Rests s (asked past a) sent h) (sym rest)
    (queued_rests s past sent old a new.book new.notes new.limits r running (λ e. works (ap (λ (h : HubCore). h.phase) rest ∙ e))
    (subst (λ (h : HubCore). Knows s (asked past a) sent h) rest k))
