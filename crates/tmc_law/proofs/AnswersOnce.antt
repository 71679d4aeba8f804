-- a number is answered once in a step, and is not pending behind it
use Rattle.std.proofs.Common.{◌≡◌, ◌∙◌, ℕ, ◌+◌, ◌≤◌, Bool, true, false, cond, eqb, List, [], ◌∷◌, ◌++◌, refl, ap, sym, subst, arith}
use Rattle.std.proofs.lemmas.Bool.{eqb-true, eq-eqb}
use Rattle.usbip_wire.specs.declared.unlink.UnlinkHead.{UnlinkHead}
use Rattle.usbip_wire.specs.Up as up
use Rattle.tmc_law.specs.Endpoint.{Endpoint}
use Rattle.tmc_law.specs.State.{State, Pending, start, queue_of, with_queue, pending, Avoids}
use Rattle.tmc_law.specs.Put.{Put, Submitted, Unlinked}
use Rattle.tmc_law.specs.Queues.{Unlinks, Hits, Polled, Misses}
use Rattle.tmc_law.specs.Step.{Move, Comes, Steps}
use Rattle.tmc_law.specs.Run.{Entry, Runs}
use Rattle.tmc_law.specs.AnswerFits.{AreOnce}
use Rattle.tmc_law.specs.Acts.{unlinks_of}
use Rattle.tmc_law.proofs.Queued.{times, here, times-append, times_own, here-with, not_here, here_not, IsSound}
use Rattle.tmc_law.proofs.Counted.{answered, none_answered, acts_count, arrival_count}
use Rattle.tmc_law.proofs.Sound.{Does, Arriving, Acting, does, sound}

-- a number that is not pending, and arrives
at_most : (m n k : ℕ) → (m ≡ n → k ≡ 0) → k ≤ 1 → cond (eqb m n) 1 0 + k ≤ 1
at_most m n k free few = by (eqb m n) refl
  where
    by : (b : Bool) → eqb m n ≡ b → cond b 1 0 + k ≤ 1
    by true e = omega (arith, free (eqb-true m n e))
    by false e = omega (arith, few)

step_once : (s t : State) (move : Move) (puts : List Put) (n : ℕ) → IsSound s → Does s move puts t → answered n puts + here n t ≤ 1
step_once s t move puts n whole (Acting other a) = omega (arith, acts_count n t s (unlinks_of move) puts a, whole.distinct n)
step_once s t move puts n whole (Arriving head transferred is came free arrives) =
    omega (
      arith,
      arrival_count n s t head transferred puts arrives,
      at_most head.seqnum n (here n s) (λ same. subst (λ (k : ℕ). here k s ≡ 0) same (not_here head.seqnum s free)) (whole.distinct n),
    )

own_count : (n k : ℕ) → cond (eqb n n) 1 0 + k ≡ 1 + k
own_count n k = rw (eq-eqb n n refl) refl

are_once : (puts : List Put) (t : State) → ((n : ℕ) → answered n puts + here n t ≤ 1) → AreOnce puts t
are_once [] t h = tt
are_once (Submitted asked answer transferred ∷ puts) t h = (
  none_answered answer.seqnum puts (omega (arith, h answer.seqnum, own_count answer.seqnum (answered answer.seqnum puts))),
  here_not answer.seqnum t (omega (arith, h answer.seqnum, own_count answer.seqnum (answered answer.seqnum puts))),
  are_once puts t (λ n. omega (arith, h n)),
)
are_once (Unlinked asked answer ∷ puts) t h = are_once puts t h

pub all_once : (run : List Entry) (s t : State) (move : Move) (puts : List Put) → Runs start run s → Steps s move puts t → AreOnce puts t
all_once run s t move puts goes step =
    let whole = sound run s goes in are_once puts t (λ n. step_once s t move puts n whole (does s move puts t whole step))

-- ---- unlinks

-- a submit leaves its queue, and nothing else has its number
leaves : (n : ℕ) (s : State) (e : Endpoint) (before : List Pending) (submit : Pending) (behind : List Pending) → IsSound s → queue_of e s ≡ before ++ submit ∷ behind → submit.head.seqnum ≡ n
    → here n (with_queue e (before ++ behind) s) ≡ 0
leaves n s e before submit behind whole holds own =
    omega (
      arith,
      here-with n e (before ++ behind) s,
      ap (λ (q : List Pending). times n q) holds,
      times-append n before behind,
      times-append n before (submit ∷ behind),
      subst (λ (m : ℕ). times m (submit ∷ behind) ≡ 1 + times m behind) own (times_own submit behind),
      whole.distinct n,
    )

unlinked_gone : (s t : State) (head : UnlinkHead) (puts : List Put) → IsSound s → Unlinks s head puts t → Avoids head.target (pending t)
unlinked_gone s t head puts whole (Hits e before submit behind holds own fresh put is) =
    here_not head.target t (ap (λ (x : State). here head.target x) is ∙ leaves head.target s e before submit behind whole holds own)
unlinked_gone s t head puts whole (Polled e before submit behind setup tag holds own polled asks row put is) =
    here_not head.target t (ap (λ (x : State). here head.target x) is ∙ leaves head.target s e before submit behind whole holds own)
unlinked_gone s t head puts whole (Misses avoids put is) = subst (λ (x : State). Avoids head.target (pending x)) (sym is) avoids

pub target_gone : (run : List Entry) (s t : State) (head : UnlinkHead) (puts : List Put) → Runs start run s → Steps s (Comes (up.Unlink head)) puts t → Avoids head.target (pending t)
target_gone run s t head puts goes step = unlinked_gone s t head puts (sound run s goes) step.leads.1
