use Rattle.std.proofs.Common.{true, false, Some, None, [], ◌∷◌, ◌++◌, refl, lit≤}
use Rattle.usbip_wire.specs.Up as up
use Rattle.tmc_law.specs.Endpoint.{Control}
use Rattle.tmc_law.specs.State.{start}
use Rattle.tmc_law.specs.Put.{success}
use Rattle.tmc_law.specs.WorkedSession.{notify_submit, answered}
use Rattle.tmc_law.specs.WorkedStatus.{status_submit, status_asked, answer_first, packet_first}
use Rattle.host_joint.specs.WorkedStatusReads.{first_read, status_given}
use Rattle.host_joint.proofs.StatusExamples.{status_is, two_submits, said, other_tag}
use Rattle.host_joint.proofs.worked_status_reads.worked_status_reads_are_tied.Goals as goal

pub returns-clause-begins : goal.returns-clause-begins
returns-clause-begins c =
    c.status_reads_are_tied.ensures.begins status_submit 5 (Some (notify_submit 1 8)) [] 2 (up.Submit (notify_submit 1 8) [] ∷ []) [] start status_is (lit≤ tt, lit≤ tt) (record { endpoint = Control; number = refl; way = refl }) refl
    (c.packets_are_told.ensures.notify (notify_submit 1 8) [] 1 [] [] start (record { number = refl; way = refl; room = lit≤ tt }) refl
    (c.packets_are_told.ensures.begins [] 1 [] [] start refl (c.remote_tickets_are_tied.ensures.stands 1 [] [] start (c.ties_begin.ensures.power_on 1))))

pub returns-clause-behind : goal.returns-clause-behind
returns-clause-behind c =
    let goes = c.a_status_comes_before_or_behind.ensures.behind in
    let went = c.status_reads_are_tied.ensures.stays first_read true (Some (notify_submit 1 8)) None [] (status_asked ++ answer_first) 3 [] [] start status_given goes ((λ e. cc), ((λ e. cc), ((λ e. cc), ((λ e. cc), tt)))) (returns-clause-begins c) in
    let first = said (Some (notify_submit 1 8)) None 3 [] (answered (notify_submit 1 8) success 2 (0x85 ∷ 0x00 ∷ []) ∷ []) status_given two_submits
    (c.status_reads_are_tied.ensures.answer first_read true (Some (notify_submit 1 8)) None [] status_submit (record { seqnum = 2; status = success; actual = 3 }) (0x01 ∷ 0x05 ∷ 0x00 ∷ []) 3 [] (answered (notify_submit 1 8) success 2 (0x85 ∷ 0x00 ∷ []) ∷ []) status_given went) in
    let second = c.status_reads_are_tied.ensures.owned first_read false (Some (notify_submit 1 8)) None [] (notify_submit 1 8) (record { seqnum = 1; status = success; actual = 2 }) 0 3 [] [] status_given refl refl tt first in
    let over = c.status_reads_are_tied.ensures.ends first_read None 0 [] 3 [] [] status_given second.1 in
    (goes, over.0, c.packets_are_told.ensures.ends [] 3 [] [] status_given over.1)

pub returns-clause-before : goal.returns-clause-before
returns-clause-before c =
    let goes = c.a_status_comes_before_or_behind.ensures.before in
    let went = c.status_reads_are_tied.ensures.stays first_read true (Some (notify_submit 1 8)) None [] (status_asked ++ packet_first) 3 [] [] start status_given goes ((λ e. cc), ((λ e. cc), ((λ e. cc), ((λ e. cc), ((λ e. cc), tt))))) (returns-clause-begins c) in
    let first = c.status_reads_are_tied.ensures.owned first_read true (Some (notify_submit 1 8)) None [] (notify_submit 1 8) (record { seqnum = 1; status = success; actual = 2 }) 0 3 [] (answered status_submit success 3 (0x01 ∷ 0x05 ∷ 0x00 ∷ []) ∷ []) status_given refl refl tt went in
    (goes, first.1)

pub returns-clause-mistaken : goal.returns-clause-mistaken
returns-clause-mistaken c byte next ups downs s r =
    other_tag (notify_submit 1 8) (record { seqnum = 1; status = success; actual = 2 }) byte next ups downs s refl
    (c.status_reads_are_tied.ensures.answer first_read true (Some (notify_submit 1 8)) None [] (notify_submit 1 8) (record { seqnum = 1; status = success; actual = 2 }) (0x86 ∷ byte ∷ []) next ups downs s r)
