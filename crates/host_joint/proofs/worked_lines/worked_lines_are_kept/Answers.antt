use Rattle.std.proofs.Common.{[], ◌∷◌, ◌++◌, refl, sym}
use Rattle.usbip_wire.specs.Up as up
use Rattle.tmc_law.specs.Endpoint.{BulkOut, BulkIn}
use Rattle.tmc_law.specs.State.{start}
use Rattle.tmc_law.specs.Put.{success, stalled}
use Rattle.tmc_law.specs.WorkedQuery.{query_submit, request_submit, response_submit, query_text, request_text, response_text, asking, answering, query_log}
use Rattle.tmc_law.specs.WorkedParts.{sending_parts}
use Rattle.tmc_law.specs.WorkedSession.{in_submit, answered}
use Rattle.host_joint.specs.Lines.{Lines}
use Rattle.host_joint.specs.WorkedAsks.{query_asked}
use Rattle.host_joint.specs.WorkedLines.{none_asked, one_asked}
use Rattle.host_joint.specs.WorkedPieces.{requesting_first, giving_first, requesting_second, requested_second}
use Rattle.host_joint.specs.WorkedRecoveries.{halting_second, halted_inside}
use Rattle.host_joint.proofs.Examples.{query_fits}
use Rattle.host_joint.proofs.Stopping.{halts_second}
use Rattle.host_joint.proofs.InLine.{query_one, query_two, request_left, response_left, first_others, second_others, third_others, request_others, response_others, none_others, one_others, none_pending, rest_of, forgotten}
use Rattle.host_joint.proofs.worked_lines.worked_lines_are_kept.Goals as goal

pub returns-clause-written : goal.returns-clause-written
returns-clause-written c =
    let none = c.hosts_keep_lines.ensures.begins none_asked (λ e. refl) in
    let one = c.hosts_keep_lines.ensures.submit none_asked query_one [] [] [] start BulkOut query_submit query_text refl refl first_others (λ named. named) none in
    let two = c.hosts_keep_lines.ensures.submit query_one query_two [] (up.Submit query_submit query_text ∷ []) [] start BulkOut request_submit request_text refl refl second_others (λ named. named) one in
    c.hosts_keep_lines.ensures.submit query_two query_asked [] (up.Submit query_submit query_text ∷ up.Submit request_submit request_text ∷ []) [] start BulkIn response_submit [] refl refl third_others (λ named. named) two

pub returns-clause-answered : goal.returns-clause-answered
returns-clause-answered c =
    c.lines_stay.ensures.run [] (asking ++ answering) query_asked [] start (record start { log = query_log }) [] [] refl c.a_query_is_answered.ensures.runs query_fits tt (returns-clause-written c)

pub returns-clause-over : goal.returns-clause-over
returns-clause-over c =
    let one = c.hosts_keep_lines.ensures.answer query_asked [] [] query_submit (record { seqnum = 1; status = success; actual = 20 }) [] (answered request_submit success 12 [] ∷ answered response_submit success 32 response_text ∷ []) (record start { log = query_log }) BulkOut refl (returns-clause-answered c) in
    let two = c.hosts_keep_lines.ensures.answer request_left [] [] request_submit (record { seqnum = 2; status = success; actual = 12 }) [] (answered response_submit success 32 response_text ∷ []) (record start { log = query_log }) BulkOut refl
    (one.2 request_left (rest_of query_submit (request_submit ∷ []) one.0 one.1) request_others) in
    let three = c.hosts_keep_lines.ensures.answer response_left [] [] response_submit (record { seqnum = 3; status = success; actual = 32 }) response_text [] (record start { log = query_log }) BulkIn refl
    (two.2 response_left (rest_of request_submit [] two.0 two.1) response_others) in
    let over = three.2 none_asked (rest_of response_submit [] three.0 three.1) none_others in
    (over, c.what_is_answered_is_over.ensures none_asked BulkIn [] [] (record start { log = query_log }) over refl)

pub returns-clause-halted : goal.returns-clause-halted
returns-clause-halted c =
    let none : Lines none_asked [] [] [] requested_second = record { submits = none_pending; unlinked = refl } in
    let one = c.hosts_keep_lines.ensures.submit none_asked one_asked [] [] [] requested_second BulkIn (in_submit 6 4096) [] refl refl one_others (λ named. named) none in
    let halted = c.lines_stay.ensures.run (sending_parts ++ (requesting_first ++ (giving_first ++ requesting_second))) halting_second one_asked [] requested_second halted_inside [] [] c.worked_pieces_are_read.ensures.reached halts_second ((record { endpoint = BulkIn; number = refl; way = refl }), tt) tt one in
    let taken = c.hosts_keep_lines.ensures.answer one_asked [] [] (in_submit 6 4096) (record { seqnum = 6; status = stalled; actual = 0 }) [] [] halted_inside BulkIn refl halted in
    let over = taken.2 none_asked (rest_of (in_submit 6 4096) [] taken.0 taken.1) (λ e h. sym (one_others e h)) in
    (halted, over, c.what_is_answered_is_over.ensures none_asked BulkIn [] [] halted_inside over refl)

pub returns-clause-forgotten : goal.returns-clause-forgotten
returns-clause-forgotten c = forgotten
