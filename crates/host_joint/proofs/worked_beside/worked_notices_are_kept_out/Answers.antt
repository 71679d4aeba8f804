use Rattle.std.proofs.Common.{Some, None, [], ◌∷◌, refl}
use Rattle.usbip_wire.specs.Up as up
use Rattle.tmc_law.specs.State.{StatusPacket, start}
use Rattle.tmc_law.specs.Put.{success}
use Rattle.tmc_law.specs.WorkedSession.{notify_submit, answered}
use Rattle.host_joint.specs.Hand.{Free}
use Rattle.host_joint.specs.Bond.{Stands, Resting}
use Rattle.host_joint.specs.Beside.{HasAsk, HasRecovery, device_beside}
use Rattle.host_joint.specs.WorkedStatusReads.{status_given}
use Rattle.host_joint.proofs.UntilJoined.{none_tied}
use Rattle.host_joint.proofs.BesideExamples.{is_notify, nothing_apart, none_read, older_came, none_rests}
use Rattle.host_joint.proofs.worked_beside.worked_notices_are_kept_out.Goals as goal

pub returns-clause-begins : goal.returns-clause-begins
returns-clause-begins c =
    c.hosts_go_on_beside_notices.ensures.turns (HasRecovery (Stands Resting) None []) (HasAsk Free None) (Some (notify_submit 0 8)) [] 1 (up.Submit (notify_submit 0 8) [] ∷ []) [] start (nothing_apart (Some (notify_submit 0 8)))
    (λ packets ups downs bound. c.recoveries_end.ensures.rest 1 ups downs (device_beside packets start) refl refl bound)
    (c.notices_are_kept_out.ensures.begins (Some (notify_submit 0 8)) [] 1 (up.Submit (notify_submit 0 8) [] ∷ []) [] start (is_notify 0)
    (c.packets_are_told.ensures.notify (notify_submit 0 8) [] 0 [] [] start (is_notify 0) refl
    (c.packets_are_told.ensures.begins [] 0 [] [] start refl (c.remote_tickets_are_tied.ensures.stands 0 [] [] start (c.ties_begin.ensures.power_on 0)))))

pub returns-clause-left : goal.returns-clause-left
returns-clause-left c =
    let left = c.worked_packets_are_told.ensures.left in
    (left.0, left.1, c.notices_are_kept_out.ensures.begins (Some (notify_submit 1 8)) (StatusPacket 5 left.0 ∷ []) 3 [] (answered (notify_submit 1 8) success 2 (0x85 ∷ 0x00 ∷ []) ∷ []) status_given (is_notify 1) left.2)

pub returns-clause-came : goal.returns-clause-came
returns-clause-came c =
    let left = returns-clause-left c in
    older_came (HasRecovery (Stands Resting) None []) (notify_submit 1 8) left.0 1 3 status_given (none_rests 3 (notify_submit 1 8))
    (c.hosts_go_on_beside_notices.ensures.answer (HasRecovery (Stands Resting) None []) (Some (notify_submit 1 8)) (StatusPacket 5 left.0 ∷ []) (answered (notify_submit 1 8) success 2 (0x85 ∷ 0x00 ∷ [])) 3 [] [] status_given left.2)

pub returns-clause-mistaken : goal.returns-clause-mistaken
returns-clause-mistaken c byte next ups downs s b =
    none_read (HasAsk Free None) (notify_submit 0 8) byte 0 next ups downs s (λ a transferred ups downs s tie. none_tied Free next _ ups downs s tie)
    (c.hosts_go_on_beside_notices.ensures.answer (HasAsk Free None) (Some (notify_submit 0 8)) [] (answered (notify_submit 0 8) success 2 (0x85 ∷ byte ∷ [])) next ups downs s b)
