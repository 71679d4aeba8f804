use Rattle.std.proofs.Common.{◌≡◌, inl, ℕ, ◌^◌, true, List, [], ◌∷◌, ◌++◌, refl, lit<}
use Rattle.usbip_wire.specs.declared.submit.SubmitHead.{SubmitHead}
use Rattle.usbip_wire.specs.Urb.{AreWide}
use Rattle.usbip_wire.specs.Up as up
use Rattle.tmc_law.specs.Endpoint.{Endpoint, Control, BulkOut, BulkIn, InterruptIn}
use Rattle.tmc_law.specs.State.{State, start, arrived}
use Rattle.tmc_law.specs.Put.{unlinked}
use Rattle.tmc_law.specs.Queues.{Hits}
use Rattle.tmc_law.specs.Run.{Runs}
use Rattle.tmc_law.specs.WorkedParts.{sending_parts}
use Rattle.tmc_law.specs.WorkedSession.{out_submit, in_submit, unlink}
use Rattle.host_joint.specs.Asking.{Ask, Cancelled}
use Rattle.host_joint.specs.Lines.{Line}
use Rattle.host_joint.specs.Unlinking.{Rising, AllHeads, IsNamed, IsBulk}
use Rattle.host_joint.specs.WorkedAhead.{cancelling_request, cancelling_read}
use Rattle.host_joint.specs.WorkedPieces.{requesting_first, giving_first, requested_first, behind_first, first_data, spaces_job, last_job, request_job, asked_with}
use Rattle.host_joint.specs.WorkedTies.{told_to, last_request}
use Rattle.host_joint.proofs.Coming.{all_below, below, comes}
use Rattle.host_joint.proofs.InLine.{request_asked, request_rises}
use Rattle.host_joint.proofs.Serving.{first_is, requests_first, gives_first}
use Rattle.host_joint.proofs.worked_ahead.worked_asks_are_cancelled_ahead.Goals as goal

all_wide : (ns : List ℕ) → all_below (2 ^ 32) ns ≡ true → AreWide ns
all_wide ns e = below (2 ^ 32) ns (lit< tt) e

-- ---- the request

abbrev request_came : State
request_came = record told_to { bulk_out = arrived (out_submit 3 12) last_request ∷ [] }

cancels_request : Runs told_to cancelling_request told_to
cancels_request = (
  request_came,
  comes told_to (out_submit 3 12) last_request BulkOut (record { plugged = refl; wide = refl; eight = refl; setup = refl; carried = refl; bytes = refl; free = refl; few = refl }) (record { number = refl; way = refl; usable = refl }),
  (told_to, record { plugged = refl; leads = (all_wide (4 ∷ 0x00010002 ∷ 3 ∷ []) refl, Hits BulkOut [] (arrived (out_submit 3 12) last_request) [] refl refl refl refl refl) }, refl),
)

request_line : (e : Endpoint) → Line e (request_asked e) (up.Submit (out_submit 3 12) last_request ∷ up.Unlink (unlink 4 3) ∷ []) [] told_to
request_line Control = refl
request_line BulkOut = refl
request_line BulkIn = refl
request_line InterruptIn = refl

request_named : (e : Endpoint) → IsBulk e → AllHeads (λ head. IsNamed (unlink 4 3 ∷ []) head.seqnum) (request_asked e)
request_named Control bulk = tt
request_named BulkOut bulk = (inl refl, tt)
request_named BulkIn bulk = tt
request_named InterruptIn bulk = tt

abbrev requesting : Ask
requesting = asked_with 3 (spaces_job ∷ last_job ∷ request_job ∷ []) 2 []

pub returns-clause-request : goal.returns-clause-request
returns-clause-request c =
    let wrote = c.messages_are_written.ensures.request (asked_with 3 (spaces_job ∷ last_job ∷ []) 2 []) [] [] told_to request_job first_is refl (inl tt) (λ some. absurd (some refl)) refl c.worked_pieces_are_asked.ensures.said in
    let asks = c.messages_are_written.ensures.unlinks requesting (up.Submit (out_submit 3 12) last_request ∷ []) [] told_to (unlink 4 3 ∷ []) wrote in
    let before : Cancelled request_asked (unlink 4 3 ∷ []) (record requesting { gone = true }) (up.Submit (out_submit 3 12) last_request ∷ up.Unlink (unlink 4 3) ∷ []) [] told_to =
    record { lines = record { submits = request_line; unlinked = refl }; order = record { rising = request_rises.rising; falling = (tt, tt); named = request_named }; asking = asks } in
    let over = c.cancelled_asks_stay.ensures.run sending_parts cancelling_request request_asked (unlink 4 3 ∷ []) (record requesting { gone = true }) told_to told_to [] [] c.a_message_comes_in_parts.ensures cancels_request
    ((record { endpoint = BulkOut; number = refl; way = refl }), tt) ((λ e. tt), tt) ((λ e. cc), ((λ e. cc), tt)) before in
    (cancels_request, c.answers_are_taken.ensures.unlinks (record requesting { gone = true }) [] (unlink 4 3) (record { seqnum = 4; status = unlinked }) [] told_to over.asking)

pub returns-clause-left : goal.returns-clause-left
returns-clause-left c =
    c.asks_ahead_hand_over.ensures.to_out (record requesting { gone = true }) (spaces_job ∷ last_job ∷ []) request_job [] [] [] told_to (λ tag size e. cc) refl refl
    (record { queue = refl; sent = refl; events = refl }) (record { queue = refl; sent = refl; events = refl }) (returns-clause-request c).1

-- ---- the read

abbrev read_came : State
read_came = record behind_first { bulk_in = arrived (in_submit 5 4096) [] ∷ [] }

cancels_read : Runs behind_first cancelling_read behind_first
cancels_read = (
  read_came,
  comes behind_first (in_submit 5 4096) [] BulkIn (record { plugged = refl; wide = refl; eight = refl; setup = refl; carried = refl; bytes = refl; free = refl; few = refl }) (record { number = refl; way = refl; usable = refl }),
  (behind_first, record { plugged = refl; leads = (all_wide (6 ∷ 0x00010002 ∷ 5 ∷ []) refl, Hits BulkIn [] (arrived (in_submit 5 4096) []) [] refl refl refl refl refl) }, refl),
)

abbrev read_asked : Endpoint → List SubmitHead
read_asked Control = []
read_asked BulkOut = []
read_asked BulkIn = in_submit 5 4096 ∷ []
read_asked InterruptIn = []

read_line : (e : Endpoint) → Line e (read_asked e) (up.Submit (in_submit 5 4096) [] ∷ up.Unlink (unlink 6 5) ∷ []) [] behind_first
read_line Control = refl
read_line BulkOut = refl
read_line BulkIn = refl
read_line InterruptIn = refl

read_rises : (e : Endpoint) → Rising (read_asked e)
read_rises Control = tt
read_rises BulkOut = tt
read_rises BulkIn = (tt, tt)
read_rises InterruptIn = tt

read_named : (e : Endpoint) → IsBulk e → AllHeads (λ head. IsNamed (unlink 6 5 ∷ []) head.seqnum) (read_asked e)
read_named Control bulk = tt
read_named BulkOut bulk = tt
read_named BulkIn bulk = (inl refl, tt)
read_named InterruptIn bulk = tt

pub returns-clause-read : goal.returns-clause-read
returns-clause-read c =
    let join = c.runs_join.ensures.together in
    let reached = join sending_parts (requesting_first ++ giving_first) start told_to behind_first c.a_message_comes_in_parts.ensures
    (join requesting_first giving_first told_to requested_first behind_first (requests_first c.headers_are_read_again.ensures.out_one) gives_first) in
    let wrote = c.messages_are_written.ensures.one_read (asked_with 4 [] 0 first_data) [] [] behind_first (in_submit 5 4096) (record { number = refl; way = refl; size = refl }) refl c.worked_pieces_are_asked.ensures.between.0 in
    let asks = c.messages_are_written.ensures.unlinks (asked_with 4 [] 0 first_data) (up.Submit (in_submit 5 4096) [] ∷ []) [] behind_first (unlink 6 5 ∷ []) wrote in
    let before : Cancelled read_asked (unlink 6 5 ∷ []) (record (asked_with 4 [] 0 first_data) { gone = true }) (up.Submit (in_submit 5 4096) [] ∷ up.Unlink (unlink 6 5) ∷ []) [] behind_first =
    record { lines = record { submits = read_line; unlinked = refl }; order = record { rising = read_rises; falling = (tt, tt); named = read_named }; asking = asks } in
    let over = c.cancelled_asks_stay.ensures.run (sending_parts ++ (requesting_first ++ giving_first)) cancelling_read read_asked (unlink 6 5 ∷ []) (record (asked_with 4 [] 0 first_data) { gone = true }) behind_first behind_first [] []
    reached cancels_read ((record { endpoint = BulkIn; number = refl; way = refl }), tt) ((λ e. tt), tt) ((λ e. cc), ((λ e. cc), tt)) before in
    (cancels_read, c.answers_are_taken.ensures.unlinks (record (asked_with 4 [] 0 first_data) { gone = true }) [] (unlink 6 5) (record { seqnum = 6; status = unlinked }) [] behind_first over.asking)

pub returns-clause-again : goal.returns-clause-again
returns-clause-again c = c.asks_are_settled_late.ensures.reads (record (asked_with 4 [] 0 first_data) { gone = true }) [] [] behind_first refl (λ e. cc) refl (returns-clause-read c).1
