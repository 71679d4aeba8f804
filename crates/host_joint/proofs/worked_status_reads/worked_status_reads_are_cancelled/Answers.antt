use Rattle.std.proofs.Common.{◌≡◌, ℕ, true, false, Some, None, List, [], ◌∷◌, ◌++◌, refl, ap, sym}
use Rattle.usbip_wire.specs.declared.ret_unlink.RetUnlinkHead.{RetUnlinkHead}
use Rattle.usbip_wire.specs.Up as up
use Rattle.tmc_law.specs.State.{State, start}
use Rattle.tmc_law.specs.Put.{Put, Unlinked, success, unlinked}
use Rattle.tmc_law.specs.WorkedSession.{notify_submit, unlink, answered}
use Rattle.tmc_law.specs.WorkedStatus.{status_submit, status_asked, unlink_behind_poll}
use Rattle.host_joint.specs.StatusReads.{NonePolled, Quiet, ReadsStatus, CancelledRead, GivesCancelled, CancelSuccess, CancelBusy, CancelService, CancelOlder, CancelByte, CancelHalt, UnlinkOver, OverHit, OverMissed}
use Rattle.host_joint.specs.WorkedStatusReads.{first_read, both_sent, status_given, stopping_status, stopped_status}
use Rattle.host_joint.proofs.StatusExamples.{two_submits, stops}
use Rattle.host_joint.proofs.worked_status_reads.worked_status_reads_are_cancelled.Goals as goal

pub returns-clause-unlinked : goal.returns-clause-unlinked
returns-clause-unlinked c =
    c.status_reads_are_cancelled.ensures.unlink first_read (unlink 3 2) (Some (notify_submit 1 8)) None [] 3 both_sent [] start refl c.worked_status_reads_are_tied.ensures.begins

no_hit : success ≡ unlinked → ⊥
no_hit e = cc

no_wait : true ≡ false → ⊥
no_wait e = cc

hit : UnlinkOver first_read (unlink 3 2) true (Some (notify_submit 1 8)) None [] (record { seqnum = 3; status = unlinked }) 4 [] [] stopped_status → NonePolled [] stopped_status.log × Quiet (Some (notify_submit 1 8)) [] 4 [] [] stopped_status
hit (OverHit w is g unread quiet) = (unread, quiet)
hit (OverMissed w is read) = absurd (no_wait w)

pub returns-clause-hit : goal.returns-clause-hit
returns-clause-hit c =
    let went = c.status_reads_are_cancelled.ensures.stays first_read (unlink 3 2) true (Some (notify_submit 1 8)) None [] stopping_status 4 [] [] start stopped_status stops ((λ e. cc), ((λ e. cc), ((λ e. cc), tt))) (returns-clause-unlinked c) in
    let over = hit (c.status_reads_are_cancelled.ensures.over first_read (unlink 3 2) true (Some (notify_submit 1 8)) None [] (unlink 3 2) (record { seqnum = 3; status = unlinked }) 4 [] [] stopped_status went) in
    (stops, over.0, over.1)

abbrev behind_answer : List Put
behind_answer = Unlinked (unlink 3 2) (record { seqnum = 3; status = success }) ∷ answered (notify_submit 1 8) success 2 (0x85 ∷ 0x00 ∷ []) ∷ []

said : GivesCancelled first_read (unlink 3 2) true (Some (notify_submit 1 8)) None [] status_submit (record { seqnum = 2; status = success; actual = 3 }) (0x01 ∷ 0x05 ∷ 0x00 ∷ []) 4 [] behind_answer status_given
    → CancelledRead first_read (unlink 3 2) false (Some (notify_submit 1 8)) None [] 4 [] behind_answer status_given
said (CancelSuccess w same is text behind) = behind
said (CancelBusy w same is text some none behind) = absurd (some refl)
said (CancelService byte is good text behind) = absurd (two_submits is)
said (CancelOlder packet others is good left text behind) = absurd (two_submits is)
said (CancelByte byte is good none g text one behind) = absurd (two_submits is)
said (CancelHalt is halted behind) = absurd (two_submits is)

missed : UnlinkOver first_read (unlink 3 2) false (Some (notify_submit 1 8)) None [] (record { seqnum = 3; status = success }) 4 [] (answered (notify_submit 1 8) success 2 (0x85 ∷ 0x00 ∷ []) ∷ []) status_given
    → ReadsStatus first_read false (Some (notify_submit 1 8)) None [] 4 [] (answered (notify_submit 1 8) success 2 (0x85 ∷ 0x00 ∷ []) ∷ []) status_given
missed (OverHit w is g unread quiet) = absurd (no_wait (sym w))
missed (OverMissed w is read) = read

pub returns-clause-missed : goal.returns-clause-missed
returns-clause-missed c =
    let goes = c.a_polled_request_is_answered.ensures in
    let went = c.status_reads_are_cancelled.ensures.stays first_read (unlink 3 2) true (Some (notify_submit 1 8)) None [] (status_asked ++ unlink_behind_poll) 4 [] [] start status_given goes
    ((λ e. cc), ((λ e. cc), ((λ e. cc), ((λ e. cc), ((λ e. cc), tt))))) (returns-clause-unlinked c) in
    let first = said (c.status_reads_are_cancelled.ensures.answer first_read (unlink 3 2) true (Some (notify_submit 1 8)) None [] status_submit (record { seqnum = 2; status = success; actual = 3 }) (0x01 ∷ 0x05 ∷ 0x00 ∷ []) 4 [] behind_answer status_given went) in
    (goes, missed (c.status_reads_are_cancelled.ensures.over first_read (unlink 3 2) false (Some (notify_submit 1 8)) None [] (unlink 3 2) (record { seqnum = 3; status = success }) 4 [] (answered (notify_submit 1 8) success 2 (0x85 ∷ 0x00 ∷ []) ∷ []) status_given first))

never : (next : ℕ) (ups : List up.Message) (downs : List Put) (s : State) → UnlinkOver first_read (unlink 3 2) true (Some (notify_submit 1 8)) None [] (record { seqnum = 3; status = success }) next ups downs s → ⊥
never next ups downs s (OverHit w is g unread quiet) = no_hit (ap (λ (r : RetUnlinkHead). r.status) is)
never next ups downs s (OverMissed w is read) = no_wait w

pub returns-clause-mistaken : goal.returns-clause-mistaken
returns-clause-mistaken c next ups downs s r =
    never next ups downs s (c.status_reads_are_cancelled.ensures.over first_read (unlink 3 2) true (Some (notify_submit 1 8)) None [] (unlink 3 2) (record { seqnum = 3; status = success }) next ups downs s r)
