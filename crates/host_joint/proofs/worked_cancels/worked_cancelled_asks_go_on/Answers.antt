use Rattle.std.proofs.Common.{◌≡◌, true, List, [], ◌∷◌, ◌++◌, drop, refl, ap, subst, arith}
use Rattle.usbip_wire.specs.declared.unlink.UnlinkHead.{UnlinkHead}
use Rattle.tmc_law.specs.Put.{success, unlinked}
use Rattle.tmc_law.specs.State.{start}
use Rattle.tmc_law.specs.Run.{inputs, outputs}
use Rattle.tmc_law.specs.WorkedQuery.{query_submit, asking, answering}
use Rattle.tmc_law.specs.WorkedSession.{unlink}
use Rattle.host_joint.specs.Lines.{without}
use Rattle.host_joint.specs.Asking.{Cancelled}
use Rattle.host_joint.specs.WorkedAsks.{query_ask, query_asked}
use Rattle.host_joint.specs.WorkedTies.{queried}
use Rattle.host_joint.specs.WorkedAhead.{ahead_asked, ahead_unlinks, cancelling_ahead}
use Rattle.host_joint.specs.WorkedCancels.{race_unlinks, missing, racing}
use Rattle.host_joint.proofs.RaceExamples.{all_miss, lines, unlinking, racing_fits, racing_order, racing_plugged}
use Rattle.host_joint.proofs.worked_cancels.worked_cancelled_asks_go_on.Goals as goal

pub returns-clause-runs : goal.returns-clause-runs
returns-clause-runs c = c.runs_join.ensures.together (asking ++ answering) missing start queried queried c.a_query_is_answered.ensures.runs all_miss

pub returns-clause-begins : goal.returns-clause-begins
returns-clause-begins c = (c.cancelled_asks_go_on.ensures.begins query_asked race_unlinks query_ask (inputs (asking ++ answering)) [] start lines unlinking c.worked_asks_are_in_hand.ensures.begins).0

pub returns-clause-raced : goal.returns-clause-raced
returns-clause-raced c =
    c.cancelled_asks_stay.ensures.run [] racing query_asked race_unlinks (record query_ask { gone = true }) start queried [] [] refl (returns-clause-runs c) racing_fits racing_order racing_plugged (returns-clause-begins c)

pub returns-clause-taken : goal.returns-clause-taken
returns-clause-taken c =
    (c.cancelled_asks_go_on.ensures.outs query_asked race_unlinks (record query_ask { gone = true }) [] query_submit (record { seqnum = 1; status = success; actual = 20 }) [] (drop 1 (outputs racing)) queried refl (returns-clause-raced c)).1

others : (a b : UnlinkHead) (as_ bs : List UnlinkHead) → a ∷ as_ ≡ b ∷ bs → bs ≡ as_
others a b as_ bs e = cc

pub returns-clause-one : goal.returns-clause-one
returns-clause-one c =
    let over = c.cancelled_asks_go_on.ensures.unlinked ahead_asked ahead_unlinks (record query_ask { gone = true }) [] (unlink 3 2) (record { seqnum = 3; status = unlinked }) (drop 1 (outputs cancelling_ahead)) start
    c.worked_asks_are_written_ahead.ensures.cancelled.2 in
    subst (λ (l : List UnlinkHead). Cancelled (λ e. without 2 (ahead_asked e)) l (record query_ask { gone = true }) [] (drop 1 (outputs cancelling_ahead)) start)
    (others (unlink 3 2) (unlink 3 2) (unlink 4 1 ∷ []) over.0 over.1) over.2

pub returns-clause-two : goal.returns-clause-two
returns-clause-two c =
    let over = c.cancelled_asks_go_on.ensures.unlinked (λ e. without 2 (ahead_asked e)) (unlink 4 1 ∷ []) (record query_ask { gone = true }) [] (unlink 4 1) (record { seqnum = 4; status = unlinked }) [] start
    (returns-clause-one c) in
    subst (λ (l : List UnlinkHead). Cancelled (λ e. without 1 (without 2 (ahead_asked e))) l (record query_ask { gone = true }) [] [] start)
    (others (unlink 4 1) (unlink 4 1) [] over.0 over.1) over.2

pub returns-clause-over : goal.returns-clause-over
returns-clause-over c = c.cancelled_asks_go_on.ensures.over (λ e. without 1 (without 2 (ahead_asked e))) (record query_ask { gone = true }) [] [] start (returns-clause-two c)

first_is : (rest : List UnlinkHead) → unlink 3 2 ∷ unlink 4 1 ∷ [] ≡ unlink 4 1 ∷ rest → ⊥
first_is rest e = let same : unlink 3 2 ≡ unlink 4 1 = cc in omega (arith, ap (λ (u : UnlinkHead). u.target) same)

pub returns-clause-second : goal.returns-clause-second
returns-clause-second c answer ups downs s cancelled =
    let over = c.cancelled_asks_go_on.ensures.unlinked ahead_asked ahead_unlinks (record query_ask { gone = true }) ups (unlink 4 1) answer downs s cancelled in first_is over.0 over.1
