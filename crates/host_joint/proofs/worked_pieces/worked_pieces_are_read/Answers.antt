use Rattle.std.proofs.Common.{[], ◌++◌, None, refl}
use Rattle.tmc_law.specs.State.{start}
use Rattle.tmc_law.specs.WorkedParts.{spaced, sending_parts}
use Rattle.tmc_law.specs.WorkedQuery.{identity}
use Rattle.tmc_law.specs.WorkedSession.{out_submit}
use Rattle.host_joint.specs.Hand.{Pauses, WritesRequest}
use Rattle.host_joint.specs.WorkedTies.{told, told_to, last_request}
use Rattle.host_joint.specs.WorkedPieces.{requested_first, requested_second, requesting_first, giving_first, requesting_second, giving_second, behind_first, behind_second, reading_first, first_data, second_log, skipping}
use Rattle.host_joint.proofs.Exchanging.{TieLaws}
use Rattle.host_joint.proofs.Serving.{requests_first, gives_first, requests_second, gives_second}
use Rattle.host_joint.proofs.Pausing.{first_is, requested, paused, again, whole, not_skipped}
use Rattle.host_joint.proofs.worked_pieces.worked_pieces_are_read.Goals as goal

pub returns-clause-runs : goal.returns-clause-runs
returns-clause-runs c =
    let one = c.headers_are_read_again.ensures.out_one in
    c.runs_join.ensures.together sending_parts (requesting_first ++ (giving_first ++ (requesting_second ++ giving_second))) start told_to behind_second c.a_message_comes_in_parts.ensures
    (c.runs_join.ensures.together requesting_first (giving_first ++ (requesting_second ++ giving_second)) told_to requested_first behind_second (requests_first one)
    (c.runs_join.ensures.together giving_first (requesting_second ++ giving_second) requested_first behind_first behind_second gives_first
    (c.runs_join.ensures.together requesting_second giving_second behind_first requested_second behind_second (requests_second one) gives_second)))

pub returns-clause-asked : goal.returns-clause-asked
returns-clause-asked c =
    c.writes_keep_ties.ensures told reading_first (out_submit 3 12) last_request 3 [] [] told_to (WritesRequest 2 3 4000 spaced refl first_is refl) refl c.worked_hosts_are_tied.ensures.told.0

pub returns-clause-requested : goal.returns-clause-requested
returns-clause-requested c = (
  requests_first c.headers_are_read_again.ensures.out_one,
  requested (record { writes = c.writes_keep_ties.ensures; stays = c.ties_stay.ensures.tie; given = c.answers_are_the_expected.ensures }) c.headers_are_read_again.ensures.out_one
      c.worked_hosts_are_tied.ensures.told.0,
)

pub returns-clause-paused : goal.returns-clause-paused
returns-clause-paused c =
    let laws : TieLaws = record { writes = c.writes_keep_ties.ensures; stays = c.ties_stay.ensures.tie; given = c.answers_are_the_expected.ensures } in
    let behind = paused laws c.pieces_have_no_fault.ensures.whole (requested laws c.headers_are_read_again.ensures.out_one c.worked_hosts_are_tied.ensures.told.0) in
    (behind.tie, c.ties_own.ensures (Pauses 2 spaced first_data) None 5 [] [] behind_first behind.tie, (behind.response, behind.ran, behind.longer))

pub returns-clause-again : goal.returns-clause-again
returns-clause-again c =
    let laws : TieLaws = record { writes = c.writes_keep_ties.ensures; stays = c.ties_stay.ensures.tie; given = c.answers_are_the_expected.ensures } in
    (requests_second c.headers_are_read_again.ensures.out_one, again laws c.headers_are_read_again.ensures.out_one (returns-clause-paused c).0)

pub returns-clause-whole : goal.returns-clause-whole
returns-clause-whole c =
    let laws : TieLaws = record { writes = c.writes_keep_ties.ensures; stays = c.ties_stay.ensures.tie; given = c.answers_are_the_expected.ensures } in
    whole laws c.pieces_have_no_fault.ensures.whole (again laws c.headers_are_read_again.ensures.out_one (returns-clause-paused c).0)

pub returns-clause-stopped : goal.returns-clause-stopped
returns-clause-stopped c = c.tickets_end.ensures.read 2 spaced first_data 5 [] [] behind_first (returns-clause-paused c).0

pub returns-clause-skipped : goal.returns-clause-skipped
returns-clause-skipped c waits next ups downs tie =
    not_skipped (λ response ran. c.what_ran_is_one.ensures.response 2 spaced spaced response identity second_log ran (returns-clause-whole c).1) (c.ties_own.ensures skipping waits next ups downs behind_second tie)

pub returns-clause-reached : goal.returns-clause-reached
returns-clause-reached c =
    let one = c.headers_are_read_again.ensures.out_one in
    let join = c.runs_join.ensures.together in
    join sending_parts (requesting_first ++ (giving_first ++ requesting_second)) start told_to requested_second c.a_message_comes_in_parts.ensures
    (join requesting_first (giving_first ++ requesting_second) told_to requested_first requested_second (requests_first one)
    (join giving_first requesting_second requested_first behind_first requested_second gives_first (requests_second one)))
