use Rattle.std.proofs.Common.{◌≡◌, inl, ◌∙◌, ℕ, true, Some, None, List, [], ◌∷◌, ap, sym}
use Rattle.usbip_wire.specs.declared.submit.SubmitHead.{SubmitHead}
use Rattle.usbip_wire.specs.declared.ret_submit.RetSubmitHead.{RetSubmitHead}
use Rattle.tmc_law.specs.State.{State, start}
use Rattle.tmc_law.specs.Put.{Put, Submitted, unplugged}
use Rattle.tmc_law.specs.WorkedSession.{notify_submit, unlink, answered}
use Rattle.tmc_law.specs.WorkedStatus.{status_submit}
use Rattle.host_joint.specs.Unplugged.{NextBoth, BothPlugged, BothBefore, BothBehind, TellsBoth, TellsOne, TellsTwo, TellsNotify}
use Rattle.host_joint.specs.WorkedStatusReads.{first_read, stopping_status, stopped_status, unplugging_status, unplugged_status}
use Rattle.host_joint.specs.StatusTickets.{HasRead, StopsRead, StatusHolds}
use Rattle.host_joint.proofs.StatusExamples.{two_submits, stops, unplugs_both, not_usual}
use Rattle.host_joint.proofs.worked_status_tickets.worked_status_tickets_are_held.Goals as goal

pub returns-clause-unplugged : goal.returns-clause-unplugged
returns-clause-unplugged c =
    (unplugs_both, c.status_tickets_are_held.ensures.until (HasRead first_read true None) (Some (notify_submit 1 8)) [] unplugging_status 3 [] [] start unplugged_status unplugs_both (inl c.worked_status_reads_are_tied.ensures.begins))

pub returns-clause-told : goal.returns-clause-told
returns-clause-told c =
    c.status_tickets_are_held.ensures.next (HasRead first_read true None) (Some (notify_submit 1 8)) [] 3 (answered status_submit unplugged 0 []) [] (answered (notify_submit 1 8) unplugged 0 [] ∷ []) unplugged_status
    (returns-clause-unplugged c).1

pub returns-clause-stopped : goal.returns-clause-stopped
returns-clause-stopped c =
    inl (c.status_tickets_are_held.ensures.stays (StopsRead first_read (unlink 3 2) true None) (Some (notify_submit 1 8)) [] stopping_status 4 [] [] start stopped_status stops ((λ e. cc), ((λ e. cc), ((λ e. cc), tt)))
    c.worked_status_reads_are_cancelled.ensures.unlinked)

same_asked : (x y : SubmitHead) (a b : RetSubmitHead) (k l : List ℕ) → Submitted x a k ≡ Submitted y b l → x ≡ y
same_asked x y a b k l e = cc

no_more : (put : Put) → put ∷ [] ≡ [] → ⊥
no_more put e = cc

other_order : TellsBoth (Some status_submit) (Some (notify_submit 1 8)) (answered (notify_submit 1 8) unplugged 0 []) (answered status_submit unplugged 0 [] ∷ []) → ⊥
other_order (TellsOne one none) = no_more _ none
other_order (TellsTwo last one two behind) = two_submits (ap (λ (h : SubmitHead). Some h) (same_asked (notify_submit 1 8) one.head _ one.answer _ one.transferred one.is) ∙ sym one.awaited)
other_order (TellsNotify one none) = no_more _ none

never : (s : State) → NextBoth (λ ups downs t. StatusHolds (HasRead first_read true None) (Some (notify_submit 1 8)) [] 3 ups downs t) (Some status_submit) (Some (notify_submit 1 8)) (answered (notify_submit 1 8) unplugged 0 []) [] (answered status_submit unplugged 0 [] ∷ []) s → ⊥
never s (BothPlugged r) = not_usual r.bond.held.brings.usual.0
never s (BothBefore before front r unplugs behind) = not_usual r.bond.held.brings.usual.0
never s (BothBehind before r unplugs told) = other_order told

pub returns-clause-mistaken : goal.returns-clause-mistaken
returns-clause-mistaken c s r =
    never s (c.status_tickets_are_held.ensures.next (HasRead first_read true None) (Some (notify_submit 1 8)) [] 3 (answered (notify_submit 1 8) unplugged 0 []) [] (answered status_submit unplugged 0 [] ∷ []) s r)
