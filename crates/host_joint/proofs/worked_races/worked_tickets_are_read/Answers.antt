use Rattle.std.proofs.Common.{◌≡◌, ◌∙◌, ◌≢◌, ℕ, Some, List, [], ◌∷◌, ◌++◌, refl, sym, ap, append-nil}
use Rattle.usbip_wire.specs.declared.submit.SubmitHead.{SubmitHead}
use Rattle.usbip_wire.specs.declared.ret_submit.RetSubmitHead.{RetSubmitHead}
use Rattle.usbip_wire.specs.declared.ret_unlink.RetUnlinkHead.{RetUnlinkHead}
use Rattle.usbip_wire.specs.Up as up
use Rattle.usbip_wire.specs.Down as down
use Rattle.instr_plain.specs.declared.remote.RemoteAct.TheVariants.{On}
use Rattle.tmc_law.specs.Endpoint.{Control, BulkOut}
use Rattle.tmc_law.specs.State.{State, start, arrived}
use Rattle.tmc_law.specs.Put.{Put, Submitted, Unlinked, success, unlinked}
use Rattle.tmc_law.specs.Laws.{message_of}
use Rattle.tmc_law.specs.Queues.{Hits}
use Rattle.tmc_law.specs.Run.{SpellsPut}
use Rattle.tmc_law.specs.Told.{Tells}
use Rattle.tmc_law.specs.WorkedSession.{devid, out_submit, unlink, submits, step}
use Rattle.tmc_law.specs.WorkedRemote.{remote_submit}
use Rattle.tmc_law.specs.WorkedTrigger.{trigger_text}
use Rattle.tmc_law.specs.WorkedTold.{takes_in, puts_out}
use Rattle.tmc_law.specs.Step.{Comes}
use Rattle.host_joint.specs.Races.{Acts, ActRaces, Triggers, TriggerRaces, CancelledAct, TicketHolds, NextHeld, HeldPlugged, HeldBefore, HeldBehind}
use Rattle.host_joint.specs.WorkedTriggers.{trigger_job}
use Rattle.host_joint.proofs.Coming.{comes}
use Rattle.host_joint.proofs.Shutting.{trigger_is}
use Rattle.host_joint.proofs.Stopping.{all_wide}
use Rattle.host_joint.proofs.worked_races.worked_tickets_are_read.Goals as goal

apart : remote_submit.seqnum ≢ (unlink 2 1).seqnum
apart e = cc

pub returns-clause-act : goal.returns-clause-act
returns-clause-act c text more spelled spelled_more =
    c.tickets_are_read.ensures.writes (Acts On [] remote_submit) (ActRaces On [] remote_submit (unlink 2 1)) 2 3 devid (up.Unlink (unlink 2 1)) more text [] [] start spelled_more
    (λ ups downs s o. c.remote_tickets_are_cancelled.ensures.unlink On [] remote_submit (unlink 2 1) 2 ups downs s refl refl o)
    (c.tickets_are_read.ensures.begins (Acts On [] remote_submit) 2 devid text [] [] start (c.worked_remote_tickets_are_read.ensures.written text spelled))

abbrev asked : State
asked = record start { control = arrived remote_submit [] ∷ [] }

act_steps : (text more bytes : List ℕ) → up.Spells devid (up.Submit remote_submit []) text → up.Spells devid (up.Unlink (unlink 2 1)) more → SpellsPut (Unlinked (unlink 2 1) (record { seqnum = 2; status = unlinked })) bytes
    → Tells devid start (takes_in text ∷ record { took = more; put = bytes } ∷ []) start
act_steps text more bytes spelled spelled_more put = (
  asked,
  record {
    run = submits remote_submit [] ∷ [];
    goes = (
      asked,
      comes start remote_submit [] Control (record { plugged = refl; wide = refl; eight = refl; setup = refl; carried = refl; bytes = refl; free = refl; few = refl }) (record { number = refl; way = refl; usable = refl }),
      refl,
    );
    took = (text, [], sym (append-nil text), spelled, refl);
    put = refl;
  },
  (
    start,
    record {
      run = step (Comes (up.Unlink (unlink 2 1))) (Unlinked (unlink 2 1) (record { seqnum = 2; status = unlinked }) ∷ []) ∷ [];
      goes = (start, record { plugged = refl; leads = (all_wide (2 ∷ 0x00010002 ∷ 1 ∷ []) refl, Hits Control [] (arrived remote_submit []) [] refl refl refl refl refl) }, refl);
      took = (more, [], sym (append-nil more), spelled_more, refl);
      put = (bytes, [], sym (append-nil bytes), put, refl);
    },
    refl,
  ),
)

pub returns-clause-act_hit : goal.returns-clause-act_hit
returns-clause-act_hit c text more bytes spelled spelled_more put =
    let joined = c.tickets_are_read.ensures.stays (ActRaces On [] remote_submit (unlink 2 1)) 3 devid (text ++ more) [] [] (takes_in text ∷ record { took = more; put = bytes } ∷ []) start start (act_steps text more bytes spelled spelled_more put)
    ([], sym (append-nil (text ++ (more ++ [])) ∙ ap (λ (l : List ℕ). text ++ l) (append-nil more))) (returns-clause-act c text more spelled spelled_more) in
    c.tickets_are_read.ensures.next (ActRaces On [] remote_submit (unlink 2 1)) 3 devid (text ++ more) [] bytes [] (down.RetUnlink (record { seqnum = 2; status = unlinked })) (takes_in text ∷ record { took = more; put = bytes } ∷ []) start
    (apart, tt) joined refl (refl, put)

pub returns-clause-fine : goal.returns-clause-fine
returns-clause-fine c text more bytes rest later f spelled spelled_more put whole bad =
    let joined = c.tickets_are_read.ensures.stays (ActRaces On [] remote_submit (unlink 2 1)) 3 devid (text ++ more) [] [] (takes_in text ∷ record { took = more; put = bytes } ∷ []) start start (act_steps text more bytes spelled spelled_more put)
    ([], sym (append-nil (text ++ (more ++ [])) ∙ ap (λ (l : List ℕ). text ++ l) (append-nil more))) (returns-clause-act c text more spelled spelled_more) in
    c.tickets_are_read.ensures.bad (ActRaces On [] remote_submit (unlink 2 1)) 3 devid (text ++ more) [] rest later (takes_in text ∷ record { took = more; put = bytes } ∷ []) start f (apart, tt) joined (append-nil bytes ∙ whole) bad

abbrev came : State
came = record start { bulk_out = arrived (out_submit 1 12) trigger_text ∷ [] }

trigger_steps : (text more bytes : List ℕ) → up.Spells devid (up.Submit (out_submit 1 12) trigger_text) text → up.Spells devid (up.Unlink (unlink 2 1)) more → SpellsPut (Unlinked (unlink 2 1) (record { seqnum = 2; status = unlinked })) bytes
    → Tells devid start (takes_in text ∷ record { took = more; put = bytes } ∷ []) start
trigger_steps text more bytes spelled spelled_more put = (
  came,
  record {
    run = submits (out_submit 1 12) trigger_text ∷ [];
    goes = (
      came,
      comes start (out_submit 1 12) trigger_text BulkOut (record { plugged = refl; wide = refl; eight = refl; setup = refl; carried = refl; bytes = refl; free = refl; few = refl }) (record { number = refl; way = refl; usable = refl }),
      refl,
    );
    took = (text, [], sym (append-nil text), spelled, refl);
    put = refl;
  },
  (
    start,
    record {
      run = step (Comes (up.Unlink (unlink 2 1))) (Unlinked (unlink 2 1) (record { seqnum = 2; status = unlinked }) ∷ []) ∷ [];
      goes = (start, record { plugged = refl; leads = (all_wide (2 ∷ 0x00010002 ∷ 1 ∷ []) refl, Hits BulkOut [] (arrived (out_submit 1 12) trigger_text) [] refl refl refl refl refl) }, refl);
      took = (more, [], sym (append-nil more), spelled_more, refl);
      put = (bytes, [], sym (append-nil bytes), put, refl);
    },
    refl,
  ),
)

pub returns-clause-trigger_hit : goal.returns-clause-trigger_hit
returns-clause-trigger_hit c text more bytes spelled spelled_more put =
    let begun = c.tickets_are_read.ensures.begins (Triggers trigger_job) 2 devid text [] [] start
    (c.trigger_tickets_are_read.ensures.written devid trigger_job 1 text [] [] [] start trigger_is refl spelled (c.remote_tickets_are_read.ensures.stands devid 1 [] [] [] start (c.joints_begin.ensures.power_on devid 1))) in
    let wrote = c.tickets_are_read.ensures.writes (Triggers trigger_job) (TriggerRaces trigger_job (unlink 2 1)) 2 3 devid (up.Unlink (unlink 2 1)) more text [] [] start spelled_more
    (λ ups downs s o. c.trigger_tickets_are_cancelled.ensures.unlink trigger_job (unlink 2 1) 2 ups downs s refl refl o) begun in
    let joined = c.tickets_are_read.ensures.stays (TriggerRaces trigger_job (unlink 2 1)) 3 devid (text ++ more) [] [] (takes_in text ∷ record { took = more; put = bytes } ∷ []) start start (trigger_steps text more bytes spelled spelled_more put)
    ([], sym (append-nil (text ++ (more ++ [])) ∙ ap (λ (l : List ℕ). text ++ l) (append-nil more))) wrote in
    c.tickets_are_read.ensures.next (TriggerRaces trigger_job (unlink 2 1)) 3 devid (text ++ more) [] bytes [] (down.RetUnlink (record { seqnum = 2; status = unlinked })) (takes_in text ∷ record { took = more; put = bytes } ∷ []) start
    (apart, tt) joined refl (refl, put)

status_of : (a b : RetUnlinkHead) → down.RetUnlink a ≡ down.RetUnlink b → a.status ≡ b.status
status_of a b e = cc

pub returns-clause-mistaken : goal.returns-clause-mistaken
returns-clause-mistaken c written bytes s put joined =
    let next = c.tickets_are_read.ensures.next (ActRaces On [] remote_submit (unlink 2 1)) 3 devid written [] bytes [] (down.RetUnlink (record { seqnum = 2; status = success })) (puts_out bytes ∷ []) s (apart, tt) joined refl (refl, put) in
    by next.put next.ups next.downs next.is next.given
  where
    first : (p : Put) (ups : List up.Message) (downs : List Put) (t : State) → message_of p ≡ down.RetUnlink (record { seqnum = 2; status = success }) → CancelledAct On [] remote_submit (unlink 2 1) 3 ups (p ∷ downs) t → ⊥
    first (Submitted x answer transferred) ups downs t is o = cc
    first (Unlinked x answer) ups downs t is o =
        let over = (c.remote_tickets_are_cancelled.ensures.hit On [] remote_submit (unlink 2 1) 3 x answer ups downs t o).0 in
        let e : unlinked ≡ success = ap (λ (r : RetUnlinkHead). r.status) (sym over) ∙ status_of answer (record { seqnum = 2; status = success }) is in cc

    told : (p : Put) (head : SubmitHead) (answer : RetSubmitHead) (transferred : List ℕ) → p ≡ Submitted head answer transferred → message_of p ≡ down.RetUnlink (record { seqnum = 2; status = success }) → ⊥
    told (Submitted x b l) head answer transferred same is = cc
    told (Unlinked x b) head answer transferred same is = cc

    by : (p : Put) (ups : List up.Message) (downs : List Put) → message_of p ≡ down.RetUnlink (record { seqnum = 2; status = success })
        → NextHeld (λ ups downs t. TicketHolds (ActRaces On [] remote_submit (unlink 2 1)) 3 ups downs t) (Some remote_submit) p ups downs s → ⊥
    by p ups downs is (HeldPlugged o) = first p ups downs s is o
    by p ups downs is (HeldBefore before front o unplugs behind) = first p ups front before is o
    by p ups downs is (HeldBehind before o unplugs t) = told p t.head t.answer t.transferred t.is is
