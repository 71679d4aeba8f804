use Rattle.std.proofs.Common.{◌≡◌, ℕ, true, Some, None, List, [], ◌∷◌, ◌++◌, refl, lit≤, arith}
use Rattle.usbip_wire.specs.Up as up
use Rattle.tmc_law.specs.Endpoint.{Control}
use Rattle.tmc_law.specs.State.{State, Packet, StatusPacket, start}
use Rattle.tmc_law.specs.Put.{Put, success}
use Rattle.tmc_law.specs.WorkedSession.{notify_submit, answered}
use Rattle.tmc_law.specs.WorkedStatus.{status_submit, status_asked, answer_first}
use Rattle.host_joint.specs.StatusReads.{Quiet, GivesQuiet, QuietService, QuietOlder, QuietHalt}
use Rattle.host_joint.specs.WorkedStatusReads.{first_read, status_given}
use Rattle.host_joint.proofs.StatusExamples.{status_is, two_submits, first_apart, no_packet, no_stall, said}
use Rattle.host_joint.proofs.worked_status_reads.worked_packets_are_told.Goals as goal

pub returns-clause-begins : goal.returns-clause-begins
returns-clause-begins c =
    c.packets_are_told.ensures.notify (notify_submit 1 8) [] 1 [] [] start (record { number = refl; way = refl; room = lit≤ tt }) refl
    (c.packets_are_told.ensures.begins [] 1 [] [] start refl (c.remote_tickets_are_tied.ensures.stands 1 [] [] start (c.ties_begin.ensures.power_on 1)))

pub returns-clause-left : goal.returns-clause-left
returns-clause-left c =
    let begun = c.status_reads_are_tied.ensures.begins status_submit 5 (Some (notify_submit 1 8)) [] 2 (up.Submit (notify_submit 1 8) [] ∷ []) [] start status_is (lit≤ tt, lit≤ tt)
    (record { endpoint = Control; number = refl; way = refl }) refl (returns-clause-begins c) in
    let went = c.status_reads_are_tied.ensures.stays first_read true (Some (notify_submit 1 8)) None [] (status_asked ++ answer_first) 3 [] [] start status_given c.a_status_comes_before_or_behind.ensures.behind
    ((λ e. cc), ((λ e. cc), ((λ e. cc), ((λ e. cc), tt)))) begun in
    c.status_reads_are_tied.ensures.left first_read (Some (notify_submit 1 8)) [] 3 [] (answered (notify_submit 1 8) success 2 (0x85 ∷ 0x00 ∷ []) ∷ []) status_given
    (said (Some (notify_submit 1 8)) None 3 [] (answered (notify_submit 1 8) success 2 (0x85 ∷ 0x00 ∷ []) ∷ []) status_given two_submits
    (c.status_reads_are_tied.ensures.answer first_read true (Some (notify_submit 1 8)) None [] status_submit (record { seqnum = 2; status = success; actual = 3 }) (0x01 ∷ 0x05 ∷ 0x00 ∷ []) 3 [] (answered (notify_submit 1 8) success 2 (0x85 ∷ 0x00 ∷ []) ∷ []) status_given went))

none_behind : (x y : Packet) (l : List Packet) → x ∷ [] ≡ y ∷ l → [] ≡ l
none_behind x y l e = cc

came : (byte : ℕ) → GivesQuiet (Some (notify_submit 1 8)) (StatusPacket 5 byte ∷ []) (notify_submit 1 8) (record { seqnum = 1; status = success; actual = 2 }) (0x85 ∷ 0x00 ∷ []) 3 [] [] status_given → Quiet None [] 3 [] [] status_given
came byte (QuietService other is fine text behind) = absurd (first_apart 0x85 0x81 (0x00 ∷ []) (other ∷ []) (λ e. omega (arith, e)) text)
came byte (QuietOlder packet [] is fine left text behind) = behind
came byte (QuietOlder packet (x ∷ others) is fine left text behind) = absurd (no_packet x others (none_behind (StatusPacket 5 byte) packet (x ∷ others) left))
came byte (QuietHalt is halted behind) = absurd (no_stall halted)

pub returns-clause-came : goal.returns-clause-came
returns-clause-came c =
    let left = returns-clause-left c in
    came left.0 (c.packets_are_told.ensures.answer (Some (notify_submit 1 8)) (StatusPacket 5 left.0 ∷ []) (notify_submit 1 8) (record { seqnum = 1; status = success; actual = 2 }) (0x85 ∷ 0x00 ∷ []) 3 [] [] status_given left.2)

none_left : (byte next : ℕ) (ups : List up.Message) (downs : List Put) (s : State) → GivesQuiet (Some (notify_submit 1 8)) [] (notify_submit 1 8) (record { seqnum = 1; status = success; actual = 2 }) (0x85 ∷ byte ∷ []) next ups downs s → ⊥
none_left byte next ups downs s (QuietService other is fine text behind) = first_apart 0x85 0x81 (byte ∷ []) (other ∷ []) (λ e. omega (arith, e)) text
none_left byte next ups downs s (QuietOlder packet others is fine left text behind) = no_packet packet others left
none_left byte next ups downs s (QuietHalt is halted behind) = no_stall halted

pub returns-clause-mistaken : goal.returns-clause-mistaken
returns-clause-mistaken c byte next ups downs s q =
    none_left byte next ups downs s (c.packets_are_told.ensures.answer (Some (notify_submit 1 8)) [] (notify_submit 1 8) (record { seqnum = 1; status = success; actual = 2 }) (0x85 ∷ byte ∷ []) next ups downs s q)
