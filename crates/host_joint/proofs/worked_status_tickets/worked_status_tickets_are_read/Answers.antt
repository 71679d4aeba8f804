use Rattle.std.proofs.Common.{◌≡◌, ◌∙◌, ℕ, true, false, Option, Some, None, List, [], ◌∷◌, ◌++◌, take, drop, refl, ap, sym, append_assoc, append-nil, arith}
use Rattle.tmc_base.specs.declared.run_step.RunStep.{RunStep}
use Rattle.usbip_wire.specs.declared.submit.SubmitHead.{SubmitHead}
use Rattle.usbip_wire.specs.declared.ret_unlink.RetUnlinkHead.{RetUnlinkHead}
use Rattle.usbip_wire.specs.Up as up
use Rattle.usbip_wire.specs.Down as down
use Rattle.tmc_law.specs.State.{State, start}
use Rattle.tmc_law.specs.Put.{Put, Submitted, Unlinked, success, unlinked}
use Rattle.tmc_law.specs.Laws.{message_of}
use Rattle.tmc_law.specs.Run.{SpellsPut}
use Rattle.tmc_law.specs.Told.{Tells}
use Rattle.tmc_law.specs.WorkedSession.{devid, notify_submit, unlink}
use Rattle.tmc_law.specs.WorkedStatus.{status_submit}
use Rattle.tmc_law.specs.WorkedTold.{takes_in, puts_out}
use Rattle.host_joint.specs.StatusReads.{CancelledRead, UnlinkOver, OverHit, OverMissed}
use Rattle.host_joint.specs.Unplugged.{NextBoth, BothPlugged, BothBefore, BothBehind, TellsOf, TellsBoth, TellsOne, TellsTwo, TellsNotify}
use Rattle.host_joint.specs.Beside.{AreAllApart}
use Rattle.host_joint.specs.WorkedStatusReads.{first_read, stopping_status, stopped_status}
use Rattle.host_joint.specs.StatusTickets.{HasRead, StopsRead, StatusHolds}
use Rattle.host_joint.proofs.StatusExamples.{both_came, stops_first, stops_second, stops_third}
use Rattle.host_joint.proofs.worked_status_tickets.worked_status_tickets_are_read.Goals as goal

pub returns-clause-written : goal.returns-clause-written
returns-clause-written c text more last first second third =
    c.status_tickets_are_read.ensures.writes (HasRead first_read true None) (StopsRead first_read (unlink 3 2) true None) (Some (notify_submit 1 8)) (Some (notify_submit 1 8)) [] [] 3 4 devid (up.Unlink (unlink 3 2)) last (text ++ more) [] [] start third
    (λ ups downs s r. c.status_reads_are_cancelled.ensures.unlink first_read (unlink 3 2) (Some (notify_submit 1 8)) None [] 3 ups downs s refl r)
    (c.status_tickets_are_read.ensures.begins (HasRead first_read true None) (Some (notify_submit 1 8)) [] 3 devid (text ++ more) [] [] start (c.worked_status_reads_are_read.ensures.written text more first second))

-- the three told steps
told_steps : (text more last bytes : List ℕ) → up.Spells devid (up.Submit (notify_submit 1 8) []) text → up.Spells devid (up.Submit status_submit []) more → up.Spells devid (up.Unlink (unlink 3 2)) last
    → SpellsPut (Unlinked (unlink 3 2) (record { seqnum = 3; status = unlinked })) bytes → Tells devid start (takes_in text ∷ takes_in more ∷ record { took = last; put = bytes } ∷ []) stopped_status
told_steps text more last bytes first second third put = (
  stopped_status,
  record { run = take 1 stopping_status; goes = stops_first; took = (text, [], sym (append-nil text), first, refl); put = refl },
  (
    both_came,
    record { run = take 1 (drop 1 stopping_status); goes = stops_second; took = (more, [], sym (append-nil more), second, refl); put = refl },
    (stopped_status, record { run = drop 2 stopping_status; goes = stops_third; took = (last, [], sym (append-nil last), third, refl); put = (bytes, [], sym (append-nil bytes), put, refl) }, refl),
  ),
)

all_apart : AreAllApart (Some status_submit) (Some (notify_submit 1 8)) (unlink 3 2 ∷ [])
all_apart = record { waits_apart = ((λ e. omega (arith, e)), tt); notify_apart = ((λ e. omega (arith, e)), tt) }

pub returns-clause-next : goal.returns-clause-next
returns-clause-next c text more last bytes first second third put =
    let steps : List RunStep = takes_in text ∷ takes_in more ∷ record { took = last; put = bytes } ∷ [] in
    let whole : (text ++ more) ++ last ≡ (text ++ (more ++ (last ++ []))) ++ [] =
    append_assoc text more last ∙ ap (λ (l : List ℕ). text ++ (more ++ l)) (sym (append-nil last)) ∙ sym (append-nil (text ++ (more ++ (last ++ [])))) in
    let joined = c.status_tickets_are_read.ensures.stays (StopsRead first_read (unlink 3 2) true None) (Some (notify_submit 1 8)) [] 4 devid ((text ++ more) ++ last) [] [] steps start stopped_status
    (told_steps text more last bytes first second third put) ([], whole) (returns-clause-written c text more last first second third) in
    c.status_tickets_are_read.ensures.next (StopsRead first_read (unlink 3 2) true None) (Some (notify_submit 1 8)) [] 4 devid ((text ++ more) ++ last) [] bytes [] (down.RetUnlink (record { seqnum = 3; status = unlinked }))
    steps stopped_status all_apart joined refl (refl, put)

no_hit : success ≡ unlinked → ⊥
no_hit e = cc

no_wait : true ≡ false → ⊥
no_wait e = cc

same_message : (a b : RetUnlinkHead) → down.RetUnlink a ≡ down.RetUnlink b → a ≡ b
same_message a b e = cc

never : (answer : RetUnlinkHead) (ups : List up.Message) (downs : List Put) (s : State) → down.RetUnlink answer ≡ down.RetUnlink (record { seqnum = 3; status = success }) → UnlinkOver first_read (unlink 3 2) true (Some (notify_submit 1 8)) None [] answer 4 ups downs s → ⊥
never answer ups downs s same (OverHit w is g unread quiet) = no_hit (ap (λ (r : RetUnlinkHead). r.status) (sym (same_message answer (record { seqnum = 3; status = success }) same) ∙ is))
never answer ups downs s same (OverMissed w is read) = no_wait w

pub returns-clause-mistaken : goal.returns-clause-mistaken
returns-clause-mistaken c text bytes s put joined =
    let next = c.status_tickets_are_read.ensures.next (StopsRead first_read (unlink 3 2) true None) (Some (notify_submit 1 8)) [] 4 devid text [] bytes [] (down.RetUnlink (record { seqnum = 3; status = success }))
    (puts_out bytes ∷ []) s all_apart joined refl (refl, put) in
    by next.put next.ups next.downs next.is next.given
  where
    tied : (p : Put) (ups : List up.Message) (downs : List Put) (t : State) → message_of p ≡ down.RetUnlink (record { seqnum = 3; status = success }) → CancelledRead first_read (unlink 3 2) true (Some (notify_submit 1 8)) None [] 4 ups (p ∷ downs) t → ⊥
    tied (Submitted asked answer transferred) ups downs t e r = cc
    tied (Unlinked asked answer) ups downs t e r = never answer ups downs t e (c.status_reads_are_cancelled.ensures.over first_read (unlink 3 2) true (Some (notify_submit 1 8)) None [] asked answer 4 ups downs t r)

    none_told : (p : Put) (o : Option SubmitHead) → message_of p ≡ down.RetUnlink (record { seqnum = 3; status = success }) → TellsOf o p → ⊥
    none_told p o e one = let k : message_of (Submitted one.head one.answer one.transferred) ≡ down.RetUnlink (record { seqnum = 3; status = success }) = ap message_of (sym one.is) ∙ e in cc

    told : (p : Put) (downs : List Put) → message_of p ≡ down.RetUnlink (record { seqnum = 3; status = success }) → TellsBoth (Some status_submit) (Some (notify_submit 1 8)) p downs → ⊥
    told p downs e (TellsOne one none) = none_told p _ e one
    told p downs e (TellsTwo last one two behind) = none_told p _ e one
    told p downs e (TellsNotify one none) = none_told p _ e one

    by : (p : Put) (ups : List up.Message) (downs : List Put) → message_of p ≡ down.RetUnlink (record { seqnum = 3; status = success })
        → NextBoth (λ ups downs t. StatusHolds (StopsRead first_read (unlink 3 2) true None) (Some (notify_submit 1 8)) [] 4 ups downs t) (Some status_submit) (Some (notify_submit 1 8)) p ups downs s → ⊥
    by p ups downs e (BothPlugged r) = tied p ups downs s e r
    by p ups downs e (BothBefore before front r unplugs behind) = tied p ups front before e r
    by p ups downs e (BothBehind before r unplugs t) = told p downs e t
