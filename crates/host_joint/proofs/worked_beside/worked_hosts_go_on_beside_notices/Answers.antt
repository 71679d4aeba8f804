use Rattle.std.proofs.Common.{Some, None, [], ◌∷◌, replicate, codes, refl, lit≤, arith}
use Rattle.usbip_wire.specs.Up as up
use Rattle.tmc_law.specs.State.{start}
use Rattle.tmc_law.specs.Put.{success, stalled}
use Rattle.tmc_law.specs.WorkedSession.{out_submit, notify_submit, answered}
use Rattle.tmc_law.specs.WorkedParts.{spaces_text, spaced}
use Rattle.host_joint.specs.Hand.{Free, WritesPart}
use Rattle.host_joint.specs.Bond.{Stands, Resting}
use Rattle.host_joint.specs.Beside.{HasAsk, HasRecovery}
use Rattle.host_joint.specs.WorkedTies.{telling}
use Rattle.host_joint.specs.WorkedBeside.{both_come, both_pend, notice_halts, deafened}
use Rattle.host_joint.proofs.Tied.{spaces_are}
use Rattle.host_joint.proofs.BesideExamples.{is_notify, telling_apart, both_came, it_halts, none_read, halt_came, none_rests, not_told}
use Rattle.host_joint.proofs.worked_beside.worked_hosts_go_on_beside_notices.Goals as goal

pub returns-clause-written : goal.returns-clause-written
returns-clause-written c =
    c.hosts_go_on_beside_notices.ensures.writes (HasAsk Free None) (HasAsk telling (Some (out_submit 1 112))) (Some (notify_submit 0 8)) [] 1 2 (up.Submit (out_submit 1 112) spaces_text) (up.Submit (notify_submit 0 8) [] ∷ []) [] start
    (λ e. omega (arith, e)) telling_apart (lit≤ tt)
    (λ ups downs s tie. c.writes_keep_ties.ensures Free telling (out_submit 1 112) spaces_text 1 ups downs s (WritesPart 1 spaced [] (replicate 100 32) (codes "*IDN?") (refl, lit≤ tt) refl spaces_are refl) refl tie)
    c.worked_notices_are_kept_out.ensures.begins

pub returns-clause-came : goal.returns-clause-came
returns-clause-came c =
    (both_came, c.hosts_go_on_beside_notices.ensures.calm (HasAsk telling (Some (out_submit 1 112))) (Some (notify_submit 0 8)) [] both_come 2 [] [] start both_pend both_came ((λ e. cc), (λ e k. cc), ((λ e. cc), (λ e k. cc), tt)) (returns-clause-written c))

pub returns-clause-halted : goal.returns-clause-halted
returns-clause-halted c =
    let begun = c.notices_are_kept_out.ensures.begins (Some (notify_submit 0 8)) [] 1 (up.Submit (notify_submit 0 8) [] ∷ []) [] start (is_notify 0)
    (c.packets_are_told.ensures.notify (notify_submit 0 8) [] 0 [] [] start (is_notify 0) refl
    (c.packets_are_told.ensures.begins [] 0 [] [] start refl (c.remote_tickets_are_tied.ensures.stands 0 [] [] start (c.ties_begin.ensures.power_on 0)))) in
    let went = c.hosts_go_on_beside_notices.ensures.plugged (HasRecovery (Stands Resting) None []) (Some (notify_submit 0 8)) [] notice_halts 1 [] [] start deafened tt it_halts ((λ e. cc), ((λ e. cc), tt)) begun in (
      it_halts,
      went,
      halt_came (HasRecovery (Stands Resting) None []) (notify_submit 0 8) 0 1 deafened (none_rests 1 (notify_submit 0 8))
          (c.hosts_go_on_beside_notices.ensures.answer (HasRecovery (Stands Resting) None []) (Some (notify_submit 0 8)) [] (answered (notify_submit 0 8) stalled 0 []) 1 [] [] deafened went),
    )

pub returns-clause-mistaken : goal.returns-clause-mistaken
returns-clause-mistaken c byte next ups downs s b =
    none_read (HasAsk telling (Some (out_submit 1 112))) (notify_submit 0 8) byte 0 next ups downs s
    (λ a transferred ups downs s tie. not_told next a transferred ups downs s (c.answers_are_the_expected.ensures telling (out_submit 1 112) next _ ups downs s tie))
    (c.hosts_go_on_beside_notices.ensures.answer (HasAsk telling (Some (out_submit 1 112))) (Some (notify_submit 0 8)) [] (answered (notify_submit 0 8) success 2 (0x85 ∷ byte ∷ [])) next ups downs s b)
