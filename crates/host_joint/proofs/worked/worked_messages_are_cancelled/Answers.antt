use Rattle.std.proofs.Common.{◌≡◌, ◌≢◌, ℕ, ◌^◌, true, false, Some, None, List, [], ◌∷◌, replicate, codes, inl, inr, refl, lit<, lit≤}
use Rattle.usbip_wire.specs.Urb.{AreWide}
use Rattle.tmc_law.specs.Endpoint.{Control, BulkOut}
use Rattle.tmc_law.specs.State.{State, start, arrived}
use Rattle.tmc_law.specs.Put.{success, stalled, unlinked}
use Rattle.tmc_law.specs.Halts.{DoesHalt}
use Rattle.tmc_law.specs.Queues.{Hits}
use Rattle.tmc_law.specs.Run.{Runs}
use Rattle.tmc_law.specs.WorkedParts.{spaced, spaces_text}
use Rattle.tmc_law.specs.WorkedSession.{out_submit, unlink}
use Rattle.host_joint.specs.Bond.{Saying, Bound, TakesPart}
use Rattle.host_joint.specs.Hand as hand
use Rattle.host_joint.specs.WorkedTies.{stopping, closing, closed_before}
use Rattle.host_joint.proofs.Coming.{all_below, below, comes}
use Rattle.host_joint.proofs.Tied.{spaces_are}
use Rattle.host_joint.proofs.worked.worked_messages_are_cancelled.Goals as goal

all_wide : (ns : List ℕ) → all_below (2 ^ 32) ns ≡ true → AreWide ns
all_wide ns e = below (2 ^ 32) ns (lit< tt) e

no_control : BulkOut ≢ Control
no_control e = cc

abbrev came : State
came = record start { bulk_out = arrived (out_submit 1 112) spaces_text ∷ [] }

stops : Runs start stopping start
stops = (
  came,
  comes start (out_submit 1 112) spaces_text BulkOut (record { plugged = refl; wide = refl; eight = refl; setup = refl; carried = refl; bytes = refl; free = refl; few = refl }) (record { number = refl; way = refl; usable = refl }),
  (start, record { plugged = refl; leads = (all_wide (2 ∷ 0x00010002 ∷ 1 ∷ []) refl, Hits BulkOut [] (arrived (out_submit 1 112) spaces_text) [] refl refl refl refl refl) }, refl),
)

closes : Runs start closing closed_before
closes = (
  came,
  comes start (out_submit 1 112) spaces_text BulkOut (record { plugged = refl; wide = refl; eight = refl; setup = refl; carried = refl; bytes = refl; free = refl; few = refl }) (record { number = refl; way = refl; usable = refl }),
  (closed_before, record { plugged = refl; leads = DoesHalt no_control refl refl refl }, refl),
)

pub returns-clause-stopped : goal.returns-clause-stopped
returns-clause-stopped c =
    let went = c.bonds_stay.ensures.bound (Saying 1 true false false) stopping (Some (out_submit 1 112)) (unlink 2 1 ∷ []) 3 [] [] start start stops ((λ e. cc), ((λ e. cc), tt)) c.worked_cancels_are_bound.ensures.stopped in
    let over = (c.messages_are_cancelled.ensures.unlinked 1 true false false (Some (out_submit 1 112)) (unlink 2 1) 3 (unlink 2 1) (record { seqnum = 2; status = unlinked }) [] [] start refl went).1 in
    (stops, over, c.messages_are_cancelled.ensures.to_first 1 false 3 [] [] start over)

by_halt : TakesPart 1 true false (out_submit 1 112) (record { seqnum = 1; status = stalled; actual = 0 }) [] 2 [] [] closed_before → Bound (Saying 1 true false false) None [] 2 [] [] closed_before
by_halt (inl h) = let e : stalled ≡ success = h.0 in absurd (cc)
by_halt (inr h) = h.2

pub returns-clause-halted : goal.returns-clause-halted
returns-clause-halted c =
    let wrote = c.messages_are_cancelled.ensures.part hand.Free (out_submit 1 112) spaces_text 1 spaced [] (replicate 100 32) (codes "*IDN?") 1 [] [] start (refl, lit≤ tt) refl spaces_are refl (c.ties_begin.ensures.power_on 1) in
    let went = c.bonds_stay.ensures.bound (Saying 1 true false false) closing (Some (out_submit 1 112)) [] 2 [] [] start closed_before closes ((λ e. cc), ((λ e. cc), tt)) wrote in
    let over = by_halt (c.messages_are_cancelled.ensures.answer 1 true false (out_submit 1 112) [] 2 (out_submit 1 112) (record { seqnum = 1; status = stalled; actual = 0 }) [] [] [] closed_before refl went).2 in
    (closes, over, c.messages_are_cancelled.ensures.to_first 1 false 2 [] [] closed_before over)
