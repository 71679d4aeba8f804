use Rattle.std.proofs.Common.{◌∙◌, ℕ, Some, None, List, [], ◌∷◌, ◌++◌, replicate, codes, refl, sym, append-nil, lit≤, arith}
use Rattle.usbip_wire.specs.Up as up
use Rattle.usbip_wire.specs.Down as down
use Rattle.tmc_law.specs.Endpoint.{InterruptIn}
use Rattle.tmc_law.specs.State.{start}
use Rattle.tmc_law.specs.Put.{success, stalled}
use Rattle.tmc_law.specs.Run.{SpellsPut}
use Rattle.tmc_law.specs.Step.{Comes, Halt}
use Rattle.tmc_law.specs.WorkedSession.{devid, out_submit, notify_submit, answered}
use Rattle.tmc_law.specs.WorkedParts.{spaces_text, spaced}
use Rattle.tmc_law.specs.WorkedTold.{takes_in, puts_out}
use Rattle.host_joint.specs.Hand.{Free, WritesPart}
use Rattle.host_joint.specs.Bond.{Stands, Resting}
use Rattle.host_joint.specs.Joint.{TellsPlugged}
use Rattle.host_joint.specs.Beside.{HasAsk, HasRecovery, device_beside, JoinedBeside}
use Rattle.host_joint.specs.WorkedTies.{telling}
use Rattle.host_joint.specs.WorkedBeside.{notice_pends, deafened}
use Rattle.host_joint.proofs.Tied.{spaces_are}
use Rattle.host_joint.proofs.BesideExamples.{is_notify, nothing_apart, telling_apart, came_alone, halts_then, not_told, none_came}
use Rattle.host_joint.proofs.worked_beside.worked_notices_are_joined.Goals as goal

pub returns-clause-written : goal.returns-clause-written
returns-clause-written c text more first second =
    let kept : JoinedBeside (HasRecovery (Stands Resting) None []) (Some (notify_submit 0 8)) [] 1 devid text [] [] start = c.notices_are_joined.ensures.begins (Some (notify_submit 0 8)) [] 1 devid text [] [] start (is_notify 0)
    (c.status_reads_are_read.ensures.notify devid (notify_submit 0 8) [] 0 text [] [] [] start (is_notify 0) refl first
    (c.status_reads_are_read.ensures.begins devid [] 0 [] [] [] start refl (c.remote_tickets_are_read.ensures.stands devid 0 [] [] [] start (c.joints_begin.ensures.power_on devid 0)))) in
    c.notices_are_joined.ensures.writes (HasAsk Free None) (HasAsk telling (Some (out_submit 1 112))) (Some (notify_submit 0 8)) [] 1 2 devid (up.Submit (out_submit 1 112) spaces_text) more text [] [] start
    (λ e. omega (arith, e)) telling_apart (lit≤ tt) second
    (λ ups downs s tie. c.writes_keep_ties.ensures Free telling (out_submit 1 112) spaces_text 1 ups downs s (WritesPart 1 spaced [] (replicate 100 32) (codes "*IDN?") (refl, lit≤ tt) refl spaces_are refl) refl tie)
    (c.notices_are_joined.ensures.turns (HasRecovery (Stands Resting) None []) (HasAsk Free None) (Some (notify_submit 0 8)) [] 1 devid text [] [] start (nothing_apart (Some (notify_submit 0 8)))
    (λ packets ups downs bound. c.recoveries_end.ensures.rest 1 ups downs (device_beside packets start) refl refl bound) kept)

-- the two told steps
told_steps : (text bytes : List ℕ) → up.Spells devid (up.Submit (notify_submit 0 8) []) text → SpellsPut (answered (notify_submit 0 8) stalled 0 []) bytes → TellsPlugged devid start (takes_in text ∷ puts_out bytes ∷ []) deafened
told_steps text bytes spelled put = (
  notice_pends,
  record {
    means = record { run = record { move = Comes (up.Submit (notify_submit 0 8) []); puts = [] } ∷ []; goes = came_alone; took = (text, [], sym (append-nil text), spelled, refl); put = refl };
    calm = ((λ e. cc), tt);
  },
  (
    deafened,
    record {
      means = record { run = record { move = Halt InterruptIn; puts = answered (notify_submit 0 8) stalled 0 [] ∷ [] } ∷ []; goes = halts_then; took = ([], [], refl, refl, refl); put = (bytes, [], sym (append-nil bytes), put, refl) };
      calm = ((λ e. cc), tt);
    },
    refl,
  ),
)

pub returns-clause-next : goal.returns-clause-next
returns-clause-next c text bytes spelled put =
    let kept : JoinedBeside (HasRecovery (Stands Resting) None []) (Some (notify_submit 0 8)) [] 1 devid text [] [] start = c.notices_are_joined.ensures.begins (Some (notify_submit 0 8)) [] 1 devid text [] [] start (is_notify 0)
    (c.status_reads_are_read.ensures.notify devid (notify_submit 0 8) [] 0 text [] [] [] start (is_notify 0) refl spelled
    (c.status_reads_are_read.ensures.begins devid [] 0 [] [] [] start refl (c.remote_tickets_are_read.ensures.stands devid 0 [] [] [] start (c.joints_begin.ensures.power_on devid 0)))) in
    let went = c.notices_are_joined.ensures.plugged (HasRecovery (Stands Resting) None []) (Some (notify_submit 0 8)) [] 1 devid text [] [] (takes_in text ∷ puts_out bytes ∷ []) start deafened tt
    (told_steps text bytes spelled put) ([], sym (append-nil (text ++ []) ∙ append-nil text)) kept in
    c.notices_are_joined.ensures.next (HasRecovery (Stands Resting) None []) (Some (notify_submit 0 8)) [] 1 devid text [] bytes [] (down.RetSubmit (record { seqnum = 0; status = stalled; actual = 0 }) [])
    (takes_in text ∷ puts_out bytes ∷ []) deafened (record { waits_apart = tt; notify_apart = tt }) went refl (record { dir = (notify_submit 0 8).dir; size = 8 }, refl, put)

pub returns-clause-mistaken : goal.returns-clause-mistaken
returns-clause-mistaken c text bytes byte s put joint =
    let next = c.notices_are_joined.ensures.next (HasAsk telling (Some (out_submit 1 112))) (Some (notify_submit 0 8)) [] 2 devid text [] bytes [] (down.RetSubmit (record { seqnum = 0; status = success; actual = 2 }) (0x85 ∷ byte ∷ []))
    (puts_out bytes ∷ []) s (record { waits_apart = tt; notify_apart = tt }) joint refl (record { dir = (notify_submit 0 8).dir; size = 8 }, refl, put) in
    none_came byte next.put next.ups next.downs s
    (λ a transferred ups downs s tie. not_told 2 a transferred ups downs s (c.answers_are_the_expected.ensures telling (out_submit 1 112) 2 _ ups downs s tie))
    (λ p ups downs s tie. c.answers_are_the_expected.ensures telling (out_submit 1 112) 2 p ups downs s tie) next.is next.given
