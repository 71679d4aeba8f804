-- numbers that were not given yet, and those of what was executed
use Rattle.std.proofs.Common.{◌≡◌, ◌∙◌, ℕ, ◌+◌, ◌<◌, ◌≤◌, Bool, true, false, cond, eqb, List, [], ◌∷◌, ◌++◌, Option, Some, None, refl, ap, sym, subst, append_assoc, append-nil, arith}
use Rattle.usbip_wire.specs.declared.submit.SubmitHead.{SubmitHead}
use Rattle.usbip_wire.specs.Up as up
use Rattle.instr_plain.specs.declared.log.LogEntry.{LogEntry}
use Rattle.instr_plain.specs.declared.log.LogEntry.TheVariants as entry
use Rattle.tmc_law.specs.State.{State, Waiting}
use Rattle.tmc_law.specs.Step.{Move, Take, Exec, Begin, Answer, Poll}
use Rattle.tmc_law.specs.LogStep.{MayLog, Adds, LogsNothing, LogsOne}
use Rattle.tmc_law.specs.Numbers.{AllAbove, AllBelow, Rises, effect_of, effects, waits, numbers_of, coming_out, numbers}
use Rattle.host_joint.specs.Stage.{NoExec, Ran, IsAnother}
use Rattle.host_joint.proofs.Logged.{ran_more}

effects-append : (a b : List LogEntry) → effects (a ++ b) ≡ effects a ++ effects b
effects-append [] b = refl
effects-append (x ∷ a) b = ap (λ (l : List ℕ). effect_of x ++ l) (effects-append a b) ∙ sym (append_assoc (effect_of x) (effects a) (effects b))

below_front : (n : ℕ) (a b : List ℕ) → AllBelow n (a ++ b) → AllBelow n a × AllBelow n b
below_front n [] b h = (tt, h)
below_front n (x ∷ a) b h = let go = below_front n a b h.1 in ((h.0, go.0), go.1)

no_exec : (n last : ℕ) (log : List LogEntry) → n ≤ last → AllBelow n (effects log) → NoExec last log
no_exec n last [] most h = tt
no_exec n last (entry.Exec seq message ∷ log) most h = ((λ e. omega (arith, h.0, most, e)), no_exec n last log most h.1)
no_exec n last (entry.Took k ∷ log) most h = no_exec n last log most h
no_exec n last (entry.Interrupt ∷ log) most h = no_exec n last log most h
no_exec n last (entry.Bare ∷ log) most h = no_exec n last log most h
no_exec n last (entry.Trigger k ∷ log) most h = no_exec n last log most h.1
no_exec n last (entry.Poll k ∷ log) most h = no_exec n last log most h
no_exec n last (entry.Clear ∷ log) most h = no_exec n last log most h
no_exec n last (entry.Remote k ∷ log) most h = no_exec n last log most h

another_wait : (n last : ℕ) (o : Option Waiting) → n ≤ last → AllBelow n (waits o) → IsAnother last o
another_wait n last None most h = tt
another_wait n last (Some w) most h = λ e. omega (arith, h.0, most, e)

-- the premises of `asks_begin`, for each number that was not given
pub begins_new : (n last : ℕ) (ups : List up.Message) (s : State) → n ≤ last → AllBelow n (numbers s ups) → NoExec last s.log × IsAnother last s.waiting
begins_new n last ups s most h =
    let apart = below_front n (effects s.log) (waits s.waiting ++ (numbers_of s.bulk_out ++ coming_out ups)) h in
    (no_exec n last s.log most apart.0, another_wait n last s.waiting most (below_front n (waits s.waiting) (numbers_of s.bulk_out ++ coming_out ups) apart.1).0)

-- the premise of `what_ran_is_kept`
above_front : (n : ℕ) (a b : List ℕ) → AllAbove n (a ++ b) → AllAbove n a × AllAbove n b
above_front n [] b h = (tt, h)
above_front n (x ∷ a) b h = let go = above_front n a b h.1 in ((h.0, go.0), go.1)

rises_behind : (n : ℕ) (a b c : List ℕ) → Rises ((a ++ n ∷ b) ++ c) → AllAbove n c
rises_behind n [] b c h = (above_front n b c h.0).1
rises_behind n (x ∷ a) b c h = rises_behind n a b c h.1

above_wait : (n : ℕ) (o : Option Waiting) → AllAbove n (waits o) → IsAnother n o
above_wait n None h = tt
above_wait n (Some w) h = λ e. omega (arith, h.0, e)

pub ran_waits_not : (n : ℕ) (message response : List ℕ) (ups : List up.Message) (s : State) → Rises (numbers s ups) → Ran n message response s.log → IsAnother n s.waiting
ran_waits_not n message response ups s rises ran =
    let split : effects s.log ≡ effects ran.before ++ n ∷ effects ran.behind = ap (λ (l : List LogEntry). effects l) ran.whole ∙ effects-append ran.before (entry.Exec n message ∷ ran.behind) in
    let above = rises_behind n (effects ran.before) (effects ran.behind) (waits s.waiting ++ (numbers_of s.bulk_out ++ coming_out ups)) (subst (λ (l : List ℕ). Rises (l ++ (waits s.waiting ++ (numbers_of s.bulk_out ++ coming_out ups)))) split rises) in
    above_wait n s.waiting (above_front n (waits s.waiting) (numbers_of s.bulk_out ++ coming_out ups) above).0

-- what a step logs executes nothing under a number that does not wait
not_again : (n : ℕ) (s : State) (move : Move) (e : LogEntry) → IsAnother n s.waiting → MayLog s move e → NoExec n (e ∷ [])
not_again n s Exec (entry.Exec seq message) another may = (subst (λ (o : Option Waiting). IsAnother n o) may another, tt)
not_again n s (Take count) (entry.Exec seq message) another may = absurd may
not_again n s (Begin count) (entry.Exec seq message) another may = absurd may
not_again n s Answer (entry.Exec seq message) another may = absurd may
not_again n s Poll (entry.Exec seq message) another may = absurd may
not_again n s _ (entry.Exec seq message) another may = absurd may
not_again n s move (entry.Took k) another may = tt
not_again n s move entry.Interrupt another may = tt
not_again n s move entry.Bare another may = tt
not_again n s move (entry.Trigger k) another may = tt
not_again n s move (entry.Poll k) another may = tt
not_again n s move entry.Clear another may = tt
not_again n s move (entry.Remote act) another may = tt

-- a message that was executed is the one of its number for good
pub ran_keeps : (n : ℕ) (message response : List ℕ) (s t : State) (move : Move) → IsAnother n s.waiting → Adds (MayLog s move) s t → Ran n message response s.log → Ran n message response t.log
ran_keeps n message response s t move another (LogsNothing log standing) ran = subst (λ (l : List LogEntry). Ran n message response l) (sym log) ran
ran_keeps n message response s t move another (LogsOne e may log after) ran =
    subst (λ (l : List LogEntry). Ran n message response l) (sym log) (ran_more n message response s.log e (not_again n s move e another may) ran)

-- ---- a submit with a new number is written

above_more : (m n : ℕ) (l : List ℕ) → m < n → AllAbove m l → AllAbove m (l ++ n ∷ [])
above_more m n [] less h = (less, tt)
above_more m n (x ∷ l) less h = (h.0, above_more m n l less h.1)

rises_more : (n : ℕ) (l : List ℕ) → AllBelow n l → Rises l → Rises (l ++ n ∷ [])
rises_more n [] below h = (tt, tt)
rises_more n (x ∷ l) below h = (above_more x n l below.0 h.0, rises_more n l below.1 h.1)

below_more : (n : ℕ) (l : List ℕ) → AllBelow n l → AllBelow (n + 1) (l ++ n ∷ [])
below_more n [] h = (omega arith, tt)
below_more n (x ∷ l) h = (omega (arith, h.0), below_more n l h.1)

pub below_next : (n : ℕ) (l : List ℕ) → AllBelow n l → AllBelow (n + 1) l
below_next n [] h = tt
below_next n (x ∷ l) h = (omega (arith, h.0), below_next n l h.1)

pub coming_more : (head : SubmitHead) (transferred : List ℕ) (messages : List up.Message)
    → coming_out (messages ++ up.Submit head transferred ∷ []) ≡ coming_out messages ++ cond (eqb head.ep 1) (head.seqnum ∷ []) []
coming_more head transferred [] = refl
coming_more head transferred (up.Unlink x ∷ messages) = coming_more head transferred messages
coming_more head transferred (up.Submit x bytes ∷ messages) = by (eqb x.ep 1) (coming_more head transferred messages)
  where
    by : (b : Bool) → coming_out (messages ++ up.Submit head transferred ∷ []) ≡ coming_out messages ++ cond (eqb head.ep 1) (head.seqnum ∷ []) []
        → cond b (x.seqnum ∷ coming_out (messages ++ up.Submit head transferred ∷ [])) (coming_out (messages ++ up.Submit head transferred ∷ []))
        ≡ cond b (x.seqnum ∷ coming_out messages) (coming_out messages) ++ cond (eqb head.ep 1) (head.seqnum ∷ []) []
    by true h = ap (λ (l : List ℕ). x.seqnum ∷ l) h
    by false h = h

numbers_more : (head : SubmitHead) (transferred : List ℕ) (messages : List up.Message) (s : State)
    → numbers s (messages ++ up.Submit head transferred ∷ []) ≡ numbers s messages ++ cond (eqb head.ep 1) (head.seqnum ∷ []) []
numbers_more head transferred messages s =
    let last : List ℕ = cond (eqb head.ep 1) (head.seqnum ∷ []) [] in
    ap (λ (l : List ℕ). effects s.log ++ (waits s.waiting ++ (numbers_of s.bulk_out ++ l))) (coming_more head transferred messages)
    ∙ ap (λ (l : List ℕ). effects s.log ++ (waits s.waiting ++ l)) (sym (append_assoc (numbers_of s.bulk_out) (coming_out messages) last))
    ∙ ap (λ (l : List ℕ). effects s.log ++ l) (sym (append_assoc (waits s.waiting) (numbers_of s.bulk_out ++ coming_out messages) last))
    ∙ sym (append_assoc (effects s.log) (waits s.waiting ++ (numbers_of s.bulk_out ++ coming_out messages)) last)

pub rises_written : (head : SubmitHead) (transferred : List ℕ) (messages : List up.Message) (s : State) → AllBelow head.seqnum (numbers s messages) → Rises (numbers s messages)
    → Rises (numbers s (messages ++ up.Submit head transferred ∷ [])) × AllBelow (head.seqnum + 1) (numbers s (messages ++ up.Submit head transferred ∷ []))
rises_written head transferred messages s below rises = by (eqb head.ep 1) (numbers_more head transferred messages s)
  where
    by : (b : Bool) → numbers s (messages ++ up.Submit head transferred ∷ []) ≡ numbers s messages ++ cond b (head.seqnum ∷ []) []
        → Rises (numbers s (messages ++ up.Submit head transferred ∷ [])) × AllBelow (head.seqnum + 1) (numbers s (messages ++ up.Submit head transferred ∷ []))
    by true is = (
      subst (λ (l : List ℕ). Rises l) (sym is) (rises_more head.seqnum (numbers s messages) below rises),
      subst (λ (l : List ℕ). AllBelow (head.seqnum + 1) l) (sym is) (below_more head.seqnum (numbers s messages) below),
    )
    by false is =
        let same : numbers s (messages ++ up.Submit head transferred ∷ []) ≡ numbers s messages = is ∙ append-nil (numbers s messages) in (
          subst (λ (l : List ℕ). Rises l) (sym same) rises,
          subst (λ (l : List ℕ). AllBelow (head.seqnum + 1) l) (sym same) (below_next head.seqnum (numbers s messages) below),
        )
