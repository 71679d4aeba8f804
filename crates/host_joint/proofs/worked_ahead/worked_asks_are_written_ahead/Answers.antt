use Rattle.std.proofs.Common.{true, [], ◌∷◌, ◌++◌, codes, refl, lit≤}
use Rattle.usbip_wire.specs.Up as up
use Rattle.tmc_law.specs.State.{start}
use Rattle.tmc_law.specs.Put.{Unlinked, unlinked}
use Rattle.tmc_law.specs.Run.{inputs}
use Rattle.tmc_law.specs.WorkedQuery.{query_submit, request_submit, response_submit, query_text, request_text, asking, answering, query_log}
use Rattle.tmc_law.specs.WorkedSession.{unlink}
use Rattle.host_joint.specs.Stage.{NoneComes, Final}
use Rattle.host_joint.specs.Asking.{Ask, Asking, Cancelled}
use Rattle.host_joint.specs.WorkedAsks.{query_ask, query_job, request_job}
use Rattle.host_joint.specs.WorkedAhead.{ahead_asked, ahead_unlinks, cancelling_ahead}
use Rattle.host_joint.proofs.Examples.{query_is, request_is, query_fits}
use Rattle.host_joint.proofs.AheadOf.{rests, quiet, cancels_ahead, lines, unlinking, ahead_fits, ahead_order, ahead_plugged}
use Rattle.host_joint.proofs.worked_ahead.worked_asks_are_written_ahead.Goals as goal

abbrev begun : Ask
begun = record query_ask { written = query_job ∷ [] }

pub returns-clause-written : goal.returns-clause-written
returns-clause-written c =
    let first : Asking begun (up.Submit query_submit query_text ∷ []) [] start =
    c.asks_begin.ensures 1 (codes "*IDN?") 2 4000 query_job [] [] start rests quiet query_is (lit≤ tt) (Final 1 5 refl refl refl (NoneComes refl)) in
    let ahead : Asking query_ask (up.Submit query_submit query_text ∷ up.Submit request_submit request_text ∷ []) [] start =
    c.messages_are_written.ensures.request_ahead begun 2 4000 [] query_job request_job (up.Submit query_submit query_text ∷ []) [] start request_is refl refl tt tt refl refl refl first in
    c.messages_are_written.ensures.one_read query_ask (up.Submit query_submit query_text ∷ up.Submit request_submit request_text ∷ []) [] start response_submit (record { number = refl; way = refl; size = refl }) refl ahead

pub returns-clause-turns : goal.returns-clause-turns
returns-clause-turns c =
    c.answers_come_in_turn.ensures.run [] (asking ++ answering) query_ask start (record start { log = query_log }) [] [] refl c.a_query_is_answered.ensures.runs query_fits refl
    ((λ e. cc), ((λ e. cc), ((λ e. cc), ((λ e. cc), ((λ e. cc), ((λ e. cc), ((λ e. cc), ((λ e. cc), tt)))))))) (returns-clause-written c) tt

pub returns-clause-cancelled : goal.returns-clause-cancelled
returns-clause-cancelled c =
    let first : Asking begun (up.Submit query_submit query_text ∷ []) [] start =
    c.asks_begin.ensures 1 (codes "*IDN?") 2 4000 query_job [] [] start rests quiet query_is (lit≤ tt) (Final 1 5 refl refl refl (NoneComes refl)) in
    let ahead : Asking query_ask (up.Submit query_submit query_text ∷ up.Submit request_submit request_text ∷ []) [] start =
    c.messages_are_written.ensures.request_ahead begun 2 4000 [] query_job request_job (up.Submit query_submit query_text ∷ []) [] start request_is refl refl tt tt refl refl refl first in
    let asks = c.messages_are_written.ensures.unlinks query_ask (up.Submit query_submit query_text ∷ up.Submit request_submit request_text ∷ []) [] start ahead_unlinks ahead in
    let before : Cancelled ahead_asked ahead_unlinks (record query_ask { gone = true }) (inputs cancelling_ahead) [] start = record { lines = lines; order = unlinking; asking = asks } in
    (cancels_ahead, before, c.cancelled_asks_stay.ensures.run [] cancelling_ahead ahead_asked ahead_unlinks (record query_ask { gone = true }) start start [] [] refl cancels_ahead ahead_fits ahead_order ahead_plugged before)

pub returns-clause-left : goal.returns-clause-left
returns-clause-left c =
    let one = c.answers_are_taken.ensures.unlinks (record query_ask { gone = true }) [] (unlink 3 2) (record { seqnum = 3; status = unlinked }) (Unlinked (unlink 4 1) (record { seqnum = 4; status = unlinked }) ∷ []) start (returns-clause-cancelled c).2.asking in
    let two = c.answers_are_taken.ensures.unlinks (record query_ask { gone = true }) [] (unlink 4 1) (record { seqnum = 4; status = unlinked }) [] start one in
    (two, c.asks_ahead_hand_over.ensures.to_first (record query_ask { gone = true }) query_job (request_job ∷ []) [] [] start refl refl (record { queue = refl; sent = refl; events = refl }) (record { queue = refl; sent = refl; events = refl }) two)

pub returns-clause-early : goal.returns-clause-early
returns-clause-early c turn = (turn.0 refl refl).0 refl refl
