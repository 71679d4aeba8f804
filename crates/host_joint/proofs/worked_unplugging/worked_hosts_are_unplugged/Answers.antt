use Rattle.std.proofs.Common.{Some, None, [], ◌∷◌, ◌++◌, inl, refl}
use Rattle.usbip_wire.specs.Up as up
use Rattle.tmc_law.specs.Endpoint.{BulkIn}
use Rattle.tmc_law.specs.State.{start}
use Rattle.tmc_law.specs.Put.{success, unplugged}
use Rattle.tmc_law.specs.Step.{Comes, Unplug}
use Rattle.tmc_law.specs.WorkedParts.{spaced, sending_parts}
use Rattle.tmc_law.specs.WorkedSession.{in_submit, step, answered}
use Rattle.host_joint.specs.Hand.{Pauses, WritesRead}
use Rattle.host_joint.specs.WorkedTies.{told_to}
use Rattle.host_joint.specs.WorkedPieces.{first_data, first_piece, requesting_first, giving_first, requesting_second, behind_first, reading_first, reading_second, requested_first, requested_second, next_job, asked_with}
use Rattle.host_joint.specs.WorkedUnplugging.{unplugging_behind, unplugged_behind, unplugging_inside, unplugged_inside}
use Rattle.host_joint.proofs.Serving.{requests_first, gives_first, requests_second, second_read_came, second_comes}
use Rattle.host_joint.proofs.Gone.{unplugs_inside, goes_inside, taken_until, tells_inside, not_given, behind_halts, inside_halts}
use Rattle.host_joint.proofs.worked_unplugging.worked_hosts_are_unplugged.Goals as goal

pub returns-clause-piece : goal.returns-clause-piece
returns-clause-piece c =
    let wrote = c.hosts_go_on_until_unplugged.ensures.tie reading_first reading_first (in_submit 4 4096) [] 4 [] [] requested_first
    (WritesRead 2 3 4000 spaced [] [] refl (record { number = refl; way = refl; size = refl }) refl refl) refl (inl c.worked_pieces_are_read.ensures.requested.1) in
    c.ties_hold_until_unplugged.ensures.tie unplugging_behind reading_first (Some (in_submit 4 4096)) 5 [] [] requested_first unplugged_behind
    (c.runs_join.ensures.together giving_first (step Unplug [] ∷ []) requested_first behind_first unplugged_behind gives_first
    (unplugged_behind, record { plugged = refl; leads = record { answered = refl; is = refl } }, refl)) behind_halts wrote

pub returns-clause-taken : goal.returns-clause-taken
returns-clause-taken c =
    let tie = taken_until c.pieces_have_no_fault.ensures.whole c.answers_come_until_unplugged.ensures.tie_behind unplugged_behind
    (c.answers_come_until_unplugged.ensures.given reading_first (in_submit 4 4096) 5 (answered (in_submit 4 4096) success 24 first_piece) [] [] unplugged_behind (returns-clause-piece c)) in
    (tie, c.unplugged_hosts_own.ensures.tie (Pauses 2 spaced first_data) None 5 [] [] unplugged_behind tie)

pub returns-clause-inside : goal.returns-clause-inside
returns-clause-inside c =
    let wrote = c.hosts_go_on_until_unplugged.ensures.tie reading_second reading_second (in_submit 6 4096) [] 6 [] [] requested_second
    (WritesRead 2 4 4000 spaced first_data [] refl (record { number = refl; way = refl; size = refl }) refl refl) refl (inl c.worked_pieces_are_read.ensures.again.1) in
    let tie = c.ties_hold_until_unplugged.ensures.tie unplugging_inside reading_second (Some (in_submit 6 4096)) 7 [] [] requested_second unplugged_inside goes_inside inside_halts wrote in
    (goes_inside, tie, tells_inside, c.unplugged_hosts_own.ensures.tie reading_second (Some (in_submit 6 4096)) 7 [] (answered (in_submit 6 4096) unplugged 0 [] ∷ []) unplugged_inside tie)

pub returns-clause-asked : goal.returns-clause-asked
returns-clause-asked c =
    let wrote = c.messages_are_written.ensures.one_read (asked_with 4 (next_job ∷ []) 1 first_data) [] [] requested_second (in_submit 6 4096) (record { number = refl; way = refl; size = refl }) refl c.worked_pieces_are_asked.ensures.again in
    let join = c.runs_join.ensures.together in
    let one = c.headers_are_read_again.ensures.out_one in
    let reached = join sending_parts (requesting_first ++ (giving_first ++ requesting_second)) start told_to requested_second c.a_message_comes_in_parts.ensures
    (join requesting_first (giving_first ++ requesting_second) told_to requested_first requested_second (requests_first one)
    (join giving_first requesting_second requested_first behind_first requested_second gives_first (requests_second one))) in
    let went = c.asking_stays.ensures.run (sending_parts ++ (requesting_first ++ (giving_first ++ requesting_second))) (step (Comes (up.Submit (in_submit 6 4096) [])) [] ∷ []) (asked_with 4 (next_job ∷ []) 1 first_data)
    requested_second second_read_came [] [] reached (second_read_came, second_comes, refl) ((record { endpoint = BulkIn; number = refl; way = refl }), tt) refl ((λ e. cc), tt) wrote in
    let was = c.unplugged_asks_were_in_hand.ensures (asked_with 4 (next_job ∷ []) 1 first_data) second_read_came unplugged_inside [] [] (answered (in_submit 6 4096) unplugged 0 [] ∷ []) unplugs_inside went in
    (was, c.what_is_read_is_owned.ensures.unplugged (asked_with 4 (next_job ∷ []) 1 first_data) [] (answered (in_submit 6 4096) unplugged 0 [] ∷ []) unplugged_inside was)

pub returns-clause-last : goal.returns-clause-last
returns-clause-last c move puts t steps = c.unplugging_is_the_end.ensures.last second_read_came unplugged_inside t (answered (in_submit 6 4096) unplugged 0 [] ∷ []) puts move unplugs_inside steps

pub returns-clause-mistaken : goal.returns-clause-mistaken
returns-clause-mistaken c next ups downs s tie = not_given next ups downs s (c.answers_are_the_expected.ensures reading_second (in_submit 6 4096) next (answered (in_submit 6 4096) unplugged 0 []) ups downs s tie)
