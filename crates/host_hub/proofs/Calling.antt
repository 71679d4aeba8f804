-- the calls of a link in a turn
use Rattle.std.proofs.Common.{◌≡◌, ◌≢◌, ◌∙◌, ◌⊎◌, ◌<◌, ℕ, inl, inr, true, false, List, [], ◌∷◌, ◌++◌, length, take, Option, Some, None, refl, sym, ap, subst, arith, append-nil}
use Rattle.std.specs.Prelude.{◌==◌}
use Rattle.tmc_base.specs.declared.link.PollStep.{PollStep}
use Rattle.tmc_base.specs.declared.link.PollStep.TheVariants as poll
use Rattle.tmc_base.specs.declared.link.SendStep.{SendStep}
use Rattle.tmc_base.specs.declared.link.SendStep.TheVariants as send
use Rattle.tmc_base.specs.Faults.{Rose}
use Rattle.host_hub.specs.declared.hub_core.HubCore.{HubCore}
use Rattle.tmc_base.specs.Link.{Counts, PollsWithin, got_count, took_count}
use Rattle.tmc_base.specs.Told.{Told}
use Rattle.host_hub.specs.declared.outcome.End.{End}
use Rattle.host_hub.specs.declared.outcome.End.TheVariants as end
use Rattle.host_hub.specs.declared.answers.Turn.{Turn}
use Rattle.host_hub.specs.declared.answers.Turn.TheVariants as turn
use Rattle.host_hub.specs.Behind.{Account}
use Rattle.host_hub.specs.HubCalls.{EndsPoll, EndsSend, IsAnswer, IsIdleSend, KeepsTurn, PollsOnce, SendsOnce, TurnsOn, came_count, said_by, said_of, sent_count}
use Rattle.host_hub.specs.LinkCalls.{KeepsPoll, KeepsSend, SendsOn, WithinSend}
use Rattle.host_hub.specs.Order.{Setting}
use Rattle.host_hub.specs.Record.{Past}
use Rattle.host_hub.specs.Tied.{Failed}
use Rattle.host_hub.proofs.Turns.{counted}

pub rose_some : (old new : ℕ) → Rose old new → new ≢ 0
rose_some old new r e = omega (arith, r.0, e)

pub some_length : (xs : List ℕ) → false ≡ (length xs == 0) → 0 < length xs
some_length [] e = absurd (let f : false ≡ true = e in cc)
some_length (x ∷ xs) e = omega arith

pub sends_once : {A : Type 0} (sends : A → List ℕ → SendStep → A → Type 0) (outbox : List ℕ) (step : SendStep) (old new : A) → 0 < length outbox → sends old outbox step new
    → SendsOnce sends outbox (Some step) old new
sends_once sends [] step old new some goes = absurd (omega (arith, some))
sends_once sends (x ∷ xs) step old new some goes = goes

pub either_send : (P : SendStep → Type 0) (step : SendStep) → (step ≡ send.Idle) ⊎ (step ≡ send.Memory) → P send.Idle → P send.Memory → P step
either_send P step (inl e) a b = subst P (sym e) a
either_send P step (inr e) a b = subst P (sym e) b

pub neither_send : (P : SendStep → Type 0) (Q : Type 0) (step : SendStep) → (step ≡ send.Idle) ⊎ (step ≡ send.Memory) → (P send.Idle → Q) → (P send.Memory → Q) → P step → Q
neither_send P Q step (inl e) a b p = a (subst P e p)
neither_send P Q step (inr e) a b p = b (subst P e p)

pub either_poll : (P : PollStep → Type 0) (step : PollStep) → (step ≡ poll.Idle) ⊎ (step ≡ poll.Memory) → P poll.Idle → P poll.Memory → P step
either_poll P step (inl e) a b = subst P (sym e) a
either_poll P step (inr e) a b = subst P (sym e) b

pub neither_poll : (P : PollStep → Type 0) (Q : Type 0) (step : PollStep) → (step ≡ poll.Idle) ⊎ (step ≡ poll.Memory) → (P poll.Idle → Q) → (P poll.Memory → Q) → P step → Q
neither_poll P Q step (inl e) a b p = a (subst P e p)
neither_poll P Q step (inr e) a b p = b (subst P e p)

-- ---- behind the send

no_some : {P : Type 0} (e : End) → None ≡ Some e → P
no_some e f = cc

-- it ended the hub where it failed, and only there
pub ended_failed : (sent : Option SendStep) (over : Option End) (e : End) → EndsSend sent over → over ≡ Some e → sent ≡ Some send.Failed
ended_failed None over e ends is = no_some e (sym ends ∙ is)
ended_failed (Some (send.Took n)) over e ends is = no_some e (sym ends ∙ is)
ended_failed (Some send.Idle) over e ends is = no_some e (sym ends ∙ is)
ended_failed (Some send.Failed) over e ends is = refl
ended_failed (Some send.Memory) over e ends is = no_some e (sym ends ∙ is)

pub turns_ended : (sent : Option SendStep) (start now : Told) (counts : Counts) (s : Setting) (past : Past) (before received outbox : List ℕ) (core : HubCore) → sent ≡ Some send.Failed
    → SendsOn sent start now counts s past before received outbox core
    → TurnsOn start now counts s past (before ++ take (sent_count sent) outbox) (received ++ []) (said_by sent None) core
turns_ended sent start now counts s past before received outbox core failed on =
    subst (λ (x : Option SendStep). TurnsOn start now counts s past (before ++ take (sent_count x) outbox) (received ++ []) (said_by x None) core) (sym failed)
    (subst (λ (l : List ℕ). TurnsOn start now counts s past (before ++ []) l Failed core) (sym (append-nil received))
    (subst (λ (x : Option SendStep). SendsOn x start now counts s past before received outbox core) failed on))

pub goes_on : (sent : Option SendStep) (start now : Told) (counts : Counts) (s : Setting) (past : Past) (before received outbox : List ℕ) (core : HubCore) → EndsSend sent None
    → SendsOn sent start now counts s past before received outbox core → Account start now counts s past (before ++ take (sent_count sent) outbox) received core
goes_on None start now counts s past before received outbox core ends on = on
goes_on (Some (send.Took n)) start now counts s past before received outbox core ends on = on
goes_on (Some send.Idle) start now counts s past before received outbox core ends on = on
goes_on (Some send.Failed) start now counts s past before received outbox core ends on = no_some end.LinkFault ends
goes_on (Some send.Memory) start now counts s past before received outbox core ends on = on

pub polls_on : {A : Type 0} (polls : A → ℕ → PollStep → List ℕ → A → Type 0) (sent : Option SendStep) (step : PollStep) (bytes : List ℕ) (old new : A) → EndsSend sent None
    → polls old 8192 step bytes new → PollsOnce polls sent (Some step) bytes old new
polls_on polls None step bytes old new ends goes = goes
polls_on polls (Some (send.Took n)) step bytes old new ends goes = goes
polls_on polls (Some send.Idle) step bytes old new ends goes = goes
polls_on polls (Some send.Failed) step bytes old new ends goes = no_some end.LinkFault ends
polls_on polls (Some send.Memory) step bytes old new ends goes = goes

pub same_said : (sent : Option SendStep) (step : PollStep) → EndsSend sent None → said_by sent (Some step) ≡ said_of step
same_said None step ends = refl
same_said (Some (send.Took n)) step ends = refl
same_said (Some send.Idle) step ends = refl
same_said (Some send.Failed) step ends = no_some end.LinkFault ends
same_said (Some send.Memory) step ends = refl

-- ---- a turn that moves no byte

same_send : (sent : Option SendStep) (offered : ℕ) (old new : HubCore) → WithinSend sent offered → EndsSend sent None → sent_count sent ≡ 0 → KeepsSend sent old new → new ≡ old
same_send None offered old new within ends none keeps = keeps
same_send (Some (send.Took n)) offered old new within ends none keeps = absurd (omega (arith, within.0, none))
same_send (Some send.Idle) offered old new within ends none keeps = keeps
same_send (Some send.Failed) offered old new within ends none keeps = no_some end.LinkFault ends
same_send (Some send.Memory) offered old new within ends none keeps = keeps

same_poll : (step : PollStep) (over : Option End) (old new : HubCore) → PollsWithin step 8192 → EndsPoll step over → over ≡ None → got_count step ≡ 0 → KeepsPoll step old new → new ≡ old
same_poll (poll.Got n) over old new within ends runs none keeps = absurd (omega (arith, within.0, none))
same_poll poll.Idle over old new within ends runs none keeps = keeps
same_poll poll.Closed over old new within ends runs none keeps = no_some end.Unplugged (sym runs ∙ ends)
same_poll poll.Failed over old new within ends runs none keeps = no_some end.LinkFault (sym runs ∙ ends)
same_poll poll.Memory over old new within ends runs none keeps = keeps

idle_count : (sent : Option SendStep) → IsIdleSend sent → sent_count sent ≡ 0
idle_count None idle = refl
idle_count (Some step) idle = ap took_count idle

same_but_turned : (old new : HubCore) (n : ℕ) → new ≡ counted old n → new ≡ counted old new.turned
same_but_turned old new n same = same ∙ ap (λ (t : ℕ). counted old t) (sym (ap (λ (core : HubCore). core.turned) same))

pub keeps_turn : (answer : Turn) (sent : Option SendStep) (step : PollStep) (offered : ℕ) (old between new : HubCore) (n : ℕ) → IsAnswer answer new.end sent (Some step)
    → WithinSend sent offered → PollsWithin step 8192 → EndsSend sent None → EndsPoll step new.end → KeepsSend sent (counted old n) between → KeepsPoll step between new → KeepsTurn answer old new
keeps_turn turn.Moved sent step offered old between new n is sending polling sent_well polled_well first then = tt
keeps_turn (turn.Ended e) sent step offered old between new n is sending polling sent_well polled_well first then = tt
keeps_turn turn.Idle sent step offered old between new n is sending polling sent_well polled_well first then =
    same_but_turned old new n
    (same_poll step new.end between new polling polled_well is.0 (ap came_count is.2) then ∙ same_send sent offered (counted old n) between sending sent_well (idle_count sent is.1) first)
keeps_turn turn.Memory sent step offered old between new n is sending polling sent_well polled_well first then =
    same_but_turned old new n
    (same_poll step new.end between new polling polled_well is.0 (omega (arith, is.1)) then ∙ same_send sent offered (counted old n) between sending sent_well (omega (arith, is.1)) first)
