use Rattle.std.proofs.Common.{◌≡◌, ◌∙◌, inl, inr, ◌+◌, List, [], ◌∷◌, ◌++◌, refl, sym, lit<, arith}
use Rattle.usbip_wire.specs.declared.submit.SubmitHead.{SubmitHead}
use Rattle.usbip_wire.specs.declared.ret_submit.RetSubmitHead.{RetSubmitHead}
use Rattle.tmc_law.specs.Endpoint.{BulkIn}
use Rattle.tmc_law.specs.Put.{Put, success, stalled}
use Rattle.tmc_law.specs.State.{State}
use Rattle.tmc_law.specs.WorkedParts.{sending_parts}
use Rattle.tmc_law.specs.WorkedQuery.{query_submit, request_submit, response_submit, response_text}
use Rattle.tmc_law.specs.WorkedSession.{in_submit, answered}
use Rattle.host_joint.specs.Asking.{Ask, Asking}
use Rattle.host_joint.specs.Hosted.{OutAnswered}
use Rattle.host_joint.specs.Given.{BringsPiece, BringsMore, BringsEnd}
use Rattle.host_joint.specs.WorkedAsks.{query_ask}
use Rattle.host_joint.specs.WorkedTies.{queried}
use Rattle.host_joint.specs.WorkedPieces.{first_data, second_piece, requesting_first, giving_first, requesting_second, giving_second, requested_second, behind_second, next_job, asked_with}
use Rattle.usbip_wire.specs.Up as up
use Rattle.host_joint.proofs.Serving.{gives_second}
use Rattle.host_joint.proofs.worked_kept.worked_asks_are_given_pieces.Goals as goal

-- where the status is 0 the transfer was taken
was_taken : (ask : Ask) (ups : List up.Message) (head : SubmitHead) (a : RetSubmitHead) (downs : List Put) (s : State) → a.status ≡ success → OutAnswered ask ups head a downs s → Asking (record ask { answered = ask.answered + 1 }) ups downs s
was_taken ask ups head a downs s ok (inl taken) = taken.2
was_taken ask ups head a downs s ok (inr halted) = let e : success ≡ stalled = sym ok ∙ halted.0 in absurd (cc)

pub returns-clause-query : goal.returns-clause-query
returns-clause-query c =
    let all = c.worked_asks_are_in_hand.ensures.answered in
    let one = was_taken query_ask [] query_submit (record { seqnum = 1; status = success; actual = 20 }) (answered request_submit success 12 [] ∷ answered response_submit success 32 response_text ∷ []) queried refl
    (c.answers_are_taken.ensures.outs query_ask [] query_submit (record { seqnum = 1; status = success; actual = 20 }) [] (answered request_submit success 12 [] ∷ answered response_submit success 32 response_text ∷ []) queried refl all) in
    let two = was_taken (record query_ask { answered = 1 }) [] request_submit (record { seqnum = 2; status = success; actual = 12 }) (answered response_submit success 32 response_text ∷ []) queried refl
    (c.answers_are_taken.ensures.outs (record query_ask { answered = 1 }) [] request_submit (record { seqnum = 2; status = success; actual = 12 }) [] (answered response_submit success 32 response_text ∷ []) queried refl one) in
    c.asks_are_given_pieces.ensures.piece (record query_ask { answered = 2 }) [] response_submit (record { seqnum = 3; status = success; actual = 32 }) response_text [] queried (lit< tt, lit< tt) (lit< tt, lit< tt) refl refl two

pub returns-clause-second : goal.returns-clause-second
returns-clause-second c =
    let wrote = c.messages_are_written.ensures.one_read (asked_with 4 (next_job ∷ []) 1 first_data) [] [] requested_second (in_submit 6 4096) (record { number = refl; way = refl; size = refl }) refl c.worked_pieces_are_asked.ensures.again in
    let given : Asking (asked_with 4 (next_job ∷ []) 1 first_data) [] (answered (in_submit 6 4096) success 24 second_piece ∷ []) behind_second =
    c.asking_stays.ensures.run (sending_parts ++ (requesting_first ++ (giving_first ++ requesting_second))) giving_second (asked_with 4 (next_job ∷ []) 1 first_data) requested_second behind_second [] [] c.worked_pieces_are_read.ensures.reached gives_second
    ((record { endpoint = BulkIn; number = refl; way = refl }), tt) refl ((λ e. cc), ((λ e. cc), ((λ e. cc), tt))) wrote in
    c.asks_are_given_pieces.ensures.piece (asked_with 4 (next_job ∷ []) 1 first_data) [] (in_submit 6 4096) (record { seqnum = 6; status = success; actual = 24 }) second_piece [] behind_second (lit< tt, lit< tt) (lit< tt, lit< tt) refl refl given

pub returns-clause-other : goal.returns-clause-other
returns-clause-other c answer brings = by brings
  where
    by : BringsPiece (asked_with 3 [] 0 first_data) answer second_piece → ⊥
    by (BringsMore actual full begun) = let e : 24 ≡ 4096 = full in omega (arith, e)
    by (BringsEnd eom carried actual short piece) = let e : 4 ≡ 3 = (c.pieces_have_no_fault.ensures.whole 3 4000 eom carried second_piece piece).0.tagged in omega (arith, e)
