use Rattle.std.proofs.Common.{◌≢◌, List, ℕ, [], ◌∷◌, ◌++◌, refl, subst}
use Rattle.tmc_law.specs.Endpoint.{Control, BulkIn, InterruptIn}
use Rattle.tmc_law.specs.State.{start}
use Rattle.tmc_law.specs.Halts.{DoesHalt}
use Rattle.tmc_law.specs.Run.{Runs}
use Rattle.tmc_law.specs.WorkedParts.{sending_parts}
use Rattle.tmc_law.specs.WorkedSession.{in_submit, notify_submit}
use Rattle.host_joint.specs.Owned.{HasMore}
use Rattle.host_joint.specs.WorkedKept.{noticing}
use Rattle.host_joint.specs.WorkedLines.{halting_between, halted_between}
use Rattle.host_joint.specs.WorkedNotices.{notice_came, deaf}
use Rattle.host_joint.specs.WorkedPieces.{first_data, first_piece, behind_first, requested_first, requesting_first, giving_first, spaces_job, last_job, request_job, asked_with}
use Rattle.host_joint.specs.WorkedTies.{told_to}
use Rattle.host_joint.proofs.Coming.{comes}
use Rattle.host_joint.proofs.Serving.{requests_first, gives_first}
use Rattle.host_joint.proofs.worked_kept.worked_unread_stays.Goals as goal

pub returns-clause-more : goal.returns-clause-more
returns-clause-more c =
    let first = c.worked_pieces_are_asked.ensures.first in
    let end = c.what_is_unread_stays.ensures.behind (asked_with 3 (spaces_job ∷ last_job ∷ request_job ∷ []) 3 []) first_piece [] [] behind_first first.0 first.2 in
    subst (λ (l : List ℕ). HasMore (asked_with 4 [] 0 l) behind_first) first.1 (record { response = end.response; ran = end.ran; all = end.all; more = end.more })

pub returns-clause-halted : goal.returns-clause-halted
returns-clause-halted c =
    let join = c.runs_join.ensures.together in
    let reached = join sending_parts (requesting_first ++ giving_first) start told_to behind_first c.a_message_comes_in_parts.ensures
    (join requesting_first giving_first told_to requested_first behind_first (requests_first c.headers_are_read_again.ensures.out_one) gives_first) in
    let wrote = c.messages_are_written.ensures.one_read (asked_with 4 [] 0 first_data) [] [] behind_first (in_submit 5 4096) (record { number = refl; way = refl; size = refl }) refl c.worked_pieces_are_asked.ensures.between.0 in
    c.what_is_unread_stays.ensures.run (sending_parts ++ (requesting_first ++ giving_first)) halting_between (asked_with 4 [] 0 first_data) behind_first halted_between [] [] reached c.worked_pieces_are_numbered.ensures.between.0
    ((record { endpoint = BulkIn; number = refl; way = refl }), tt) refl ((λ e. cc), ((λ e. cc), tt)) (tt, tt) refl (λ e. cc) wrote (returns-clause-more c)

halts_it : InterruptIn ≢ Control
halts_it e = cc

notices : Runs behind_first noticing deaf
notices = (
  notice_came,
  comes behind_first (notify_submit 5 2) [] InterruptIn (record { plugged = refl; wide = refl; eight = refl; setup = refl; carried = refl; bytes = refl; free = refl; few = refl }) (record { number = refl; way = refl; usable = refl }),
  (deaf, record { plugged = refl; leads = DoesHalt halts_it refl refl refl }, refl),
)

pub returns-clause-deaf : goal.returns-clause-deaf
returns-clause-deaf c =
    let join = c.runs_join.ensures.together in
    let reached = join sending_parts (requesting_first ++ giving_first) start told_to behind_first c.a_message_comes_in_parts.ensures
    (join requesting_first giving_first told_to requested_first behind_first (requests_first c.headers_are_read_again.ensures.out_one) gives_first) in
    let wrote = c.messages_are_written.ensures.interrupt (asked_with 4 [] 0 first_data) [] [] behind_first (notify_submit 5 2) refl c.worked_pieces_are_asked.ensures.between.0 in
    let kept = c.what_is_unread_stays.ensures.run (sending_parts ++ (requesting_first ++ giving_first)) noticing (asked_with 4 [] 0 first_data) behind_first deaf [] [] reached notices
    ((record { endpoint = InterruptIn; number = refl; way = refl }), tt) refl ((λ e. cc), ((λ e. cc), tt)) (tt, tt) refl (λ e. cc) wrote (returns-clause-more c) in
    (notices, kept.0, kept.1)

pub returns-clause-over : goal.returns-clause-over
returns-clause-over c more = more.more refl
