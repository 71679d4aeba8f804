use Rattle.std.proofs.Common.{inl, inr, List, ℕ, [], ◌++◌, take, drop, replicate, codes, Some, refl, lit≤}
use Rattle.tmc_law.specs.State.{start}
use Rattle.tmc_law.specs.Put.{success}
use Rattle.tmc_law.specs.WorkedSession.{out_submit, answered}
use Rattle.tmc_law.specs.WorkedParts.{spaces_text, last_text, spaced, sending_parts, parts_log}
use Rattle.tmc_law.specs.WorkedQuery.{response_submit, response_text, asking, answering}
use Rattle.host_joint.specs.Stage.{Ran}
use Rattle.host_joint.specs.Hand.{Free, WritesPart, WritesLast}
use Rattle.host_joint.specs.Tie.{WasAccepted}
use Rattle.host_joint.specs.WorkedAsks.{query_ask}
use Rattle.host_joint.specs.WorkedTies.{telling, told, told_to, querying, queried, foreign}
use Rattle.host_joint.proofs.Examples.{query_begins, query_fits, query_taken}
use Rattle.host_joint.proofs.Tied.{spaces_are, last_is, first_calm, last_calm, says_on, said_on, answer_fits, query_tie, query_goes, query_ends, not_foreign}
use Rattle.host_joint.proofs.worked.worked_hosts_are_tied.Goals as goal

pub returns-clause-part : goal.returns-clause-part
returns-clause-part c =
    c.writes_keep_ties.ensures Free telling (out_submit 1 112) spaces_text 1 [] [] start
    (WritesPart 1 spaced [] (replicate 100 32) (codes "*IDN?") (refl, lit≤ tt) refl spaces_are refl) refl (c.ties_begin.ensures.power_on 1)

pub returns-clause-taken : goal.returns-clause-taken
returns-clause-taken c =
    let split = c.runs_join.ensures.apart (take 3 sending_parts) (drop 3 sending_parts) start told_to c.a_message_comes_in_parts.ensures in
    let tie = c.ties_stay.ensures.tie (take 3 sending_parts) telling (Some (out_submit 1 112)) 2 [] [] start split.0 split.1 first_calm (returns-clause-part c) in
    let given = c.answers_are_the_expected.ensures telling (out_submit 1 112) 2 (answered (out_submit 1 112) success 112 []) [] [] split.0 tie in
    (split.0, split.1, says_on spaced (replicate 100 32) (out_submit 1 112) _ given.transferred 2 [] [] split.0 given.goes)

pub returns-clause-told : goal.returns-clause-told
returns-clause-told c =
    let split = c.runs_join.ensures.apart (take 3 sending_parts) (drop 3 sending_parts) start told_to c.a_message_comes_in_parts.ensures in
    let first = c.ties_stay.ensures.tie (take 3 sending_parts) telling (Some (out_submit 1 112)) 2 [] [] start split.0 split.1 first_calm (returns-clause-part c) in
    let taken = c.answers_are_the_expected.ensures telling (out_submit 1 112) 2 (answered (out_submit 1 112) success 112 []) [] [] split.0 first in
    let wrote = c.writes_keep_ties.ensures telling told (out_submit 2 20) last_text 2 [] [] split.0 (WritesLast 2 spaced (replicate 100 32) (codes "*IDN?") (refl, refl) refl last_is refl) refl
    (says_on spaced (replicate 100 32) (out_submit 1 112) _ taken.transferred 2 [] [] split.0 taken.goes) in
    let second = c.ties_stay.ensures.tie (drop 3 sending_parts) told (Some (out_submit 2 20)) 3 [] [] split.0 told_to split.2 last_calm wrote in
    let given = c.answers_are_the_expected.ensures told (out_submit 2 20) 3 (answered (out_submit 2 20) success 20 []) [] [] told_to second in
    let tie = said_on 2 spaced (out_submit 2 20) _ given.transferred 3 [] [] told_to given.goes in
    (tie, c.tickets_end.ensures.told 2 spaced 3 [] [] told_to tie, executed (c.tickets_end.ensures.accepted 2 spaced 3 [] [] told_to tie))
  where
    executed : WasAccepted 2 spaced told_to → (response : List ℕ) × Ran 2 spaced response parts_log
    executed (inl waits) = absurd (cc)
    executed (inr ran) = ran

pub returns-clause-querying : goal.returns-clause-querying
returns-clause-querying c =
    query_tie answer_fits c.a_query_is_answered.ensures.runs
    (query_taken (c.asking_stays.ensures.run [] (asking ++ answering) query_ask start queried [] [] refl c.a_query_is_answered.ensures.runs query_fits refl
    ((λ e. cc), ((λ e. cc), ((λ e. cc), ((λ e. cc), ((λ e. cc), ((λ e. cc), ((λ e. cc), ((λ e. cc), tt)))))))) query_begins))

pub returns-clause-queried : goal.returns-clause-queried
returns-clause-queried c =
    let given = c.answers_are_the_expected.ensures querying response_submit 4 (answered response_submit success 32 response_text) [] [] queried (returns-clause-querying c) in
    let ends = query_ends c.pieces_have_no_fault.ensures.whole (query_goes given) in
    (ends.over, ends.ran)

pub returns-clause-foreign : goal.returns-clause-foreign
returns-clause-foreign c waits next ups downs tie = not_foreign (c.ties_own.ensures foreign waits next ups downs queried tie)
