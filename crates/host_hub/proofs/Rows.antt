-- the steps of a worked record, by what is computed of it
use Rattle.std.proofs.Common.{◌≡◌, ◌≢◌, ℕ, ◌+◌, ◌<◌, ◌≤◌, true, false, List, [], ◌∷◌, length, Some, None, refl}
use Rattle.usbip_wire.specs.RetSubmit.{Returns}
use Rattle.usbip_wire.specs.declared.ret_submit.RetSubmitHead.{RetSubmitHead}
use Rattle.usbip_wire.specs.declared.ret_unlink.RetUnlinkHead.{RetUnlinkHead}
use Rattle.usbip_wire.specs.declared.dirs.TheConstants.{DIRS_MAX}
use Rattle.host_recover.specs.Letter.{Submit, Ask, Clear, Read}
use Rattle.usbip_wire.specs.Down as down
use Rattle.host_urbs.specs.declared.limits.TheConstants.{LAST_SUBMIT}
use Rattle.host_hub.specs.declared.outcome.Outcome.{Outcome}
use Rattle.host_hub.specs.Order.{Order, is_listen, is_unlink, size_of, way_of}
use Rattle.host_hub.specs.Record.{Asking, Cancelled, Of, Past, Recovery, Settled, Took, next}
use Rattle.host_hub.specs.Book.{active, has, is_cancelled, live, remove, tickets}
use Rattle.host_hub.specs.Hand.{ended, in_hand, is_begun}
use Rattle.host_hub.specs.Outstanding.{Sent, busy, find, not_unlinked, others, outstanding}
use Rattle.host_hub.specs.Pieces.{pieces}
use Rattle.host_hub.specs.Status.{awaits}
use Rattle.host_hub.specs.Made.{made_at}
use Rattle.host_hub.specs.Causes.{reached}
use Rattle.host_hub.specs.Plan.{When, first_order, follows, last, next_tag, parts}
use Rattle.host_hub.specs.Letters.{order_of}
use Rattle.host_hub.specs.Recovery.{AreRecovered, MayComeFor, running}
use Rattle.host_hub.specs.Ends.{end_due, ends_by}
use Rattle.host_hub.specs.Law.{IsHandOver, Kept, Lawful}
use Rattle.host_hub.specs.Steps.{Comes, Speaks, Working, asked, recovers_with, took, write_unlinks, wrote}
use Rattle.host_hub.specs.Worked.{setting}
use Rattle.host_hub.proofs.Lists.{clash}
use Rattle.host_hub.proofs.Entries.{submit_answer, submit_may, unlink_answer}
use Rattle.host_hub.proofs.Quiets.{none_planned_idle, unlinks_none}
use Rattle.host_hub.proofs.Recovering.{recovery_answered, recovery_writes}
use Rattle.host_hub.proofs.Stopping.{cancel_kept, stops_works}
use Rattle.host_hub.proofs.Stepping.{answer_settles, answer_works, asked_works, begins_planned, goes_on_planned, idle_kept, no_unlinks_behind, no_unlinks_settled, waiting_kept, written_kept}

pub start : Kept setting []
start = record {
  lawful = tt;
  quiet = record { settled = λ t h. clash h; unlinked = refl; written = λ runs. none_planned_idle setting [] refl; waits = (tt, λ e. (refl, refl)); over = λ runs. refl };
}

-- a ticket is asked, and begins
pub asks : {past : Past} → Kept setting past → (t : ℕ) (a : Asking) (order : Order) → t ≡ tickets past + 1 → ended past ≡ None → active (asked past a) ≡ Some t
    → is_begun t past ≡ false → busy (outstanding past) ≡ [] → AreRecovered (asked past a) → Speaks (asked past a) t a
    → first_order a.kind a.message (next_tag past) ≡ Some order → is_unlink order ≡ false → next 1 past ≤ LAST_SUBMIT → length (outstanding past) < DIRS_MAX
    → Kept setting (wrote setting (asked past a) t order)
asks {past} kept t a order number running turn fresh free recovered speaks plan plain last place =
    written_kept setting (asked past a) t a order refl w speaks (begins_planned setting (asked past a) t a order w turn fresh free recovered speaks plan)
    (submit_may setting (asked past a) order w.lawful plain last place)
  where
    w : Working setting (asked past a)
    w = asked_works setting past a kept running

-- what comes to a submit of the active ticket
pub record Answered (past : Past) (t n : ℕ) (order : Order) (head : RetSubmitHead) (bytes : List ℕ) : Type 0 where
  pub running : ended past ≡ None
  pub turn : active past ≡ Some t
  pub found : find head.seqnum (outstanding past) ≡ Some (record { number = n; owner = Of t; order = order })
  pub plain : is_listen order ≡ false
  pub submits : is_unlink order ≡ false
  pub within : head.actual ≤ size_of setting.ends order
  pub returned : Returns (way_of order) head.actual bytes
  pub good : ends_by setting past (down.RetSubmit head bytes) ≡ None
  pub free : end_due (took past head bytes) ≡ None

comes : (past : Past) (t n : ℕ) (order : Order) (head : RetSubmitHead) (bytes : List ℕ) → Lawful setting past → Answered past t n order head bytes → Comes setting past t n order head bytes
comes past t n order head bytes h x = record {
  turn = x.turn;
  found = x.found;
  plain = x.plain;
  may = submit_answer setting past (record { number = n; owner = Of t; order = order }) head bytes h x.found x.submits x.within x.returned;
  good = x.good;
}

-- and the next one is written
pub goes : {past : Past} {t n : ℕ} {k : Order} {head : RetSubmitHead} {bytes : List ℕ} → Kept setting past → Answered past t n k head bytes → (a : Asking) (order : Order)
    → is_begun t past ≡ true → Speaks past t a → made_at setting t past (Took (down.RetSubmit head bytes)) ≡ None → reached t past ≡ None
    → follows a (last t past) (next_tag past) (parts t past) (pieces t (took past head bytes)) ≡ Some order
    → When setting (pieces t (took past head bytes)) (awaits t (took past head bytes)) order → is_unlink order ≡ false → next 1 past ≤ LAST_SUBMIT
    → length (outstanding (took past head bytes)) < DIRS_MAX → Kept setting (wrote setting (took past head bytes) t order)
goes {past} {t} {n} {k} {head} {bytes} kept x a order begun speaks unmade free plan when plain last place =
    written_kept setting (took past head bytes) t a order refl w speaks
    (goes_on_planned setting (took past head bytes) t a order x.turn begun free speaks plan when)
    (submit_may setting (took past head bytes) order w.lawful plain last place)
  where
    w : Working setting (took past head bytes)
    w = answer_works setting past t n k head bytes kept x.running (comes past t n k head bytes kept.lawful x) unmade free x.free
        (no_unlinks_behind setting past t head bytes refl kept x.running x.turn free)

-- or it settles, and the hub works on
pub settles : {past : Past} {t n : ℕ} {k : Order} → Kept setting past → (head : RetSubmitHead) (bytes : List ℕ) → Answered past t n k head bytes → (o : Outcome)
    → made_at setting t past (Took (down.RetSubmit head bytes)) ≡ Some o → Working setting (Settled t o ∷ took past head bytes)
settles {past} {t} {n} {k} kept head bytes x o made =
    answer_settles setting past t n k o head bytes kept x.running (comes past t n k head bytes kept.lawful x) made x.free
    (no_unlinks_settled setting past t o head bytes refl kept x.running x.turn)

-- and idles
pub idles : {past : Past} → Working setting past → active past ≡ None → AreRecovered past → Kept setting past
idles {past} w idle recovered = idle_kept setting past w idle (λ e. recovered)

-- another ticket is asked while the active one waits
pub queues : {past : Past} → Kept setting past → (asking : Asking) → ended past ≡ None → (t : ℕ) (a : Asking) → active (asked past asking) ≡ Some t → is_begun t past ≡ true
    → Speaks (asked past asking) t a → awaits t (asked past asking) ≢ [] → busy (outstanding past) ≢ [] → Kept setting (asked past asking)
queues {past} kept asking running t a turn begun speaks some more =
    waiting_kept setting (asked past asking) t a refl (asked_works setting past asking kept running) turn begun speaks some more

-- ---- a cancel, and a recovery

pub cancels : {past : Past} → Kept setting past → (t : ℕ) (targets : List ℕ) → ended past ≡ None → active past ≡ Some t → in_hand past ≡ Some t → is_cancelled t past ≡ false
    → reached t past ≡ None → awaits t past ≢ [] → busy (outstanding past) ≢ [] → not_unlinked (awaits t past) (outstanding past) ≡ targets
    → length (outstanding past) + length targets ≤ DIRS_MAX → Kept setting (write_unlinks setting t targets (Cancelled t ∷ past))
cancels {past} kept t targets running turn hand fresh free some more due place = cancel_kept setting past t targets kept running turn hand fresh free some more due place

-- the answer to its last unlink, with which it settles
pub stops : {past : Past} → Kept setting past → (t : ℕ) (o : Outcome) (head : RetUnlinkHead) (x : Sent) → ended past ≡ None → active past ≡ Some t
    → find head.seqnum (outstanding past) ≡ Some x → is_unlink x.order ≡ true → ends_by setting past (down.RetUnlink head) ≡ None → reached t past ≡ Some o
    → awaits t (Took (down.RetUnlink head) ∷ past) ≡ [] → end_due past ≡ None → ((u : ℕ) → has u (remove t (live past)) ≡ true → reached u past ≡ None)
    → Working setting (Settled t o ∷ Took (down.RetUnlink head) ∷ past)
stops {past} kept t o head x running turn found is good stop none free others =
    stops_works setting past t (down.RetUnlink head) o kept running (record {
      turn = turn;
      may = unlink_answer setting past x head kept.lawful found is;
      good = good;
      stop = stop;
      none_left = none;
      unmade = λ u lives. refl;
      free = free;
    }) (unlinks_none setting (Settled t o ∷ Took (down.RetUnlink head) ∷ past) refl running others)

pub record Heard (past : Past) (n : ℕ) (order : Order) (head : RetSubmitHead) (bytes : List ℕ) : Type 0 where
  pub running : ended past ≡ None
  pub hand : IsHandOver (in_hand past) past
  pub found : find head.seqnum (outstanding past) ≡ Some (record { number = n; owner = Recovery; order = order })
  pub alone : busy (others head.seqnum (outstanding past)) ≡ []
  pub plain : is_listen order ≡ false
  pub submits : is_unlink order ≡ false
  pub within : head.actual ≤ size_of setting.ends order
  pub returned : Returns (way_of order) head.actual bytes
  pub good : ends_by setting past (down.RetSubmit head bytes) ≡ None
  pub free : end_due (took past head bytes) ≡ None

pub hears : {past : Past} {n : ℕ} {order : Order} → Kept setting past → (head : RetSubmitHead) (bytes : List ℕ) → Heard past n order head bytes → Working setting (took past head bytes)
hears {past} {n} {order} kept head bytes x =
    recovery_answered setting past n order head bytes kept x.running (record {
      hand = x.hand;
      found = x.found;
      alone = x.alone;
      plain = x.plain;
      may = submit_answer setting past (record { number = n; owner = Recovery; order = order }) head bytes kept.lawful x.found x.submits x.within x.returned;
      good = x.good;
      free = x.free;
    })

submit_plain : (submit : Submit) → is_unlink (order_of submit) ≡ false
submit_plain (Ask request) = refl
submit_plain (Clear endpoint) = refl
submit_plain Read = refl

pub recovers : {past : Past} → Working setting past → (submit : Submit) → IsHandOver (in_hand past) past → busy (outstanding past) ≡ [] → MayComeFor (running past) past submit
    → next 1 past ≤ LAST_SUBMIT → length (outstanding past) < DIRS_MAX → Kept setting (recovers_with setting past (order_of submit))
recovers {past} w submit hand free next last place =
    recovery_writes setting past submit w hand (record { free = free; next = record { submit = submit; is = refl; next = next } })
    (submit_may setting past (order_of submit) w.lawful (submit_plain submit) last place)
