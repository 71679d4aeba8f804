-- a number is answered no oftener than it is pending
use Rattle.std.proofs.Common.{◌≡◌, ℕ, ◌+◌, ◌≤◌, cond, eqb, List, [], ◌∷◌, ◌++◌, ap, arith}
use Rattle.std.proofs.lemmas.Bool.{eq-eqb}
use Rattle.usbip_wire.specs.declared.submit.SubmitHead.{SubmitHead}
use Rattle.tmc_law.specs.State.{State, Pending, arrived, queue_of, with_queue}
use Rattle.tmc_law.specs.Put.{Put, Submitted, Unlinked}
use Rattle.tmc_law.specs.Queues.{Arrives, Queued, TurnedAway}
use Rattle.tmc_law.specs.Laws.{NoneAnswers}
use Rattle.tmc_law.proofs.Queued.{times, here, times-append, here-with, here_same}
use Rattle.usbip_wire.specs.declared.unlink.UnlinkHead.{UnlinkHead}
use Rattle.tmc_law.specs.Acts.{Acts, Done, Replies, Changes, Hit, Miss}

-- how often it is answered
abbrev pub answered : ℕ → List Put → ℕ
answered n [] = 0
answered n (Submitted asked answer transferred ∷ puts) = cond (eqb answer.seqnum n) 1 0 + answered n puts
answered n (Unlinked asked answer ∷ puts) = answered n puts

pub none_answered : (n : ℕ) (puts : List Put) → answered n puts ≡ 0 → NoneAnswers n puts
none_answered n [] h = tt
none_answered n (Submitted asked answer transferred ∷ puts) h = (λ same. by (rw (eq-eqb answer.seqnum n same) at h), none_answered n puts (omega arith))
  where
    by : 1 + answered n puts ≡ 0 → ⊥
    by e = omega arith
none_answered n (Unlinked asked answer ∷ puts) h = none_answered n puts h

-- acts answer what was pending
pub acts_count : (n : ℕ) (t s : State) (unlinks : List UnlinkHead) (puts : List Put) → Acts t s unlinks puts → answered n puts + here n t ≤ here n s
acts_count n t s _ _ (Done _ same) = rw (here_same n s t same) (omega arith)
acts_count n t s unlinks _ (Replies _ _ puts e submit behind status moved queue ok within rest) =
    omega (
      arith,
      acts_count n t (with_queue e behind s) unlinks puts rest,
      here-with n e behind s,
      ap (λ (q : List Pending). times n q) queue,
    )
acts_count n t s unlinks puts (Changes _ _ _ e submit later behind queue changed rest) =
    omega (
      arith,
      acts_count n t (with_queue e (later ∷ behind) s) unlinks puts rest,
      here-with n e (later ∷ behind) s,
      ap (λ (q : List Pending). times n q) queue,
      ap {B = ℕ} (λ (h : SubmitHead). cond (eqb h.seqnum n) 1 0) changed.head,
    )
acts_count n t s _ _ (Hit _ unlinks puts head e before submit behind queue target none rest) =
    omega (
      arith,
      acts_count n t (with_queue e (before ++ behind) s) unlinks puts rest,
      here-with n e (before ++ behind) s,
      ap (λ (q : List Pending). times n q) queue,
      times-append n before behind,
      times-append n before (submit ∷ behind),
    )
acts_count n t s _ _ (Miss _ unlinks puts head none rest) = acts_count n t s unlinks puts rest

-- an arrival adds one, or answers it
pub arrival_count : (n : ℕ) (s t : State) (head : SubmitHead) (transferred : List ℕ) (puts : List Put) → Arrives s head transferred puts t
    → answered n puts + here n t ≤ cond (eqb head.seqnum n) 1 0 + here n s
arrival_count n s t head transferred puts (Queued e is_taken put is) =
    rw (put, is) (omega (
      arith,
      here-with n e (queue_of e s ++ arrived head transferred ∷ []) s,
      times-append n (queue_of e s) (arrived head transferred ∷ []),
    ))
arrival_count n s t head transferred puts (TurnedAway none put is) = rw (put, is) (omega arith)
