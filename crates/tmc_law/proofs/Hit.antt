-- a submit that was hit is never answered
use Rattle.std.proofs.Common.{◌≡◌, ◌∙◌, ℕ, ◌+◌, ◌≤◌, Bool, false, cond, eqb, ℤ, List, [], ◌∷◌, ◌++◌, refl, ap, sym, subst, arith}
use Rattle.std.proofs.lemmas.Bool.{ne_eqb}
use Rattle.usbip_wire.specs.declared.unlink.UnlinkHead.{UnlinkHead}
use Rattle.usbip_wire.specs.Up as up
use Rattle.tmc_law.specs.State.{State, Pending, start, pending, Avoids}
use Rattle.tmc_law.specs.Put.{Put, Submitted, Unlinked, unlink_answer, success, unlinked}
use Rattle.tmc_law.specs.Queues.{Unlinks, Hits, Polled, Misses}
use Rattle.tmc_law.specs.Step.{Move, Comes, Steps}
use Rattle.tmc_law.specs.Run.{Entry, Runs, taken, inputs, outputs}
use Rattle.tmc_law.specs.Laws.{NoneArrives, NoneAnswers}
use Rattle.tmc_law.proofs.Queued.{times, here, times-append, times_own, here-with, not_here, here_not, IsSound}
use Rattle.tmc_law.proofs.Counted.{answered, none_answered, acts_count, arrival_count}
use Rattle.tmc_law.specs.Acts.{unlinks_of, Does, Arriving, Acting}
use Rattle.tmc_law.proofs.Sound.{does, sound, sound_step}

-- ---- what does not arrive

pub none_arrives-front : (n : ℕ) (a b : List up.Message) → NoneArrives n (a ++ b) → NoneArrives n a
none_arrives-front n [] b h = tt
none_arrives-front n (up.Submit head transferred ∷ a) b h = (h.0, none_arrives-front n a b h.1)
none_arrives-front n (up.Unlink head ∷ a) b h = none_arrives-front n a b h

pub none_arrives-behind : (n : ℕ) (a b : List up.Message) → NoneArrives n (a ++ b) → NoneArrives n b
none_arrives-behind n [] b h = h
none_arrives-behind n (up.Submit head transferred ∷ a) b h = none_arrives-behind n a b h.1
none_arrives-behind n (up.Unlink head ∷ a) b h = none_arrives-behind n a b h

pub answered-append : (n : ℕ) (a b : List Put) → answered n (a ++ b) ≡ answered n a + answered n b
answered-append n [] b = omega arith
answered-append n (Submitted asked answer transferred ∷ a) b = omega (arith, answered-append n a b)
answered-append n (Unlinked asked answer ∷ a) b = answered-append n a b

-- ---- a number that does not arrive

does_count : (n : ℕ) (s : State) (move : Move) (puts : List Put) (t : State) → NoneArrives n (taken move) → Does s move puts t → answered n puts + here n t ≤ here n s
does_count n s move puts t none (Arriving head transferred is came free arrives) =
    by (ne_eqb head.seqnum n (subst (λ (m : Move). NoneArrives n (taken m)) is none).0) (arrival_count n s t head transferred puts arrives)
  where
    by : eqb head.seqnum n ≡ false → answered n puts + here n t ≤ cond (eqb head.seqnum n) 1 0 + here n s → answered n puts + here n t ≤ here n s
    by e h = let k : answered n puts + here n t ≤ 0 + here n s = subst (λ (b : Bool). answered n puts + here n t ≤ cond b 1 0 + here n s) e h in omega (arith, k)
does_count n s move puts t none (Acting other a) = acts_count n t s (unlinks_of move) puts a

pub step_count : (n : ℕ) (s : State) (move : Move) (puts : List Put) (t : State) → IsSound s → NoneArrives n (taken move) → Steps s move puts t
    → answered n puts + here n t ≤ here n s
step_count n s move puts t whole none step = does_count n s move puts t none (does s move puts t whole step)

-- a step that takes in no submit with a number that is not pending
pub stays_away : (n : ℕ) (s : State) (move : Move) (puts : List Put) (t : State) → IsSound s → NoneArrives n (taken move) → Steps s move puts t → Avoids n (pending s)
    → NoneAnswers n puts × Avoids n (pending t)
stays_away n s move puts t whole none step free =
    let few = step_count n s move puts t whole none step in
    let away = not_here n s free in
    (none_answered n puts (omega (arith, few, away)), here_not n t (omega (arith, few, away)))

run_count : (n : ℕ) (s : State) (run : List Entry) (t : State) → IsSound s → Runs s run t → NoneArrives n (inputs run) → here n s ≡ 0 → answered n (outputs run) ≡ 0
run_count n s [] t whole h none away = refl
run_count n s (entry ∷ run) t whole h none away =
    let few = step_count n s entry.move entry.puts h.0 whole (none_arrives-front n (taken entry.move) (inputs run) none) h.1 in
    omega (
      arith,
      answered-append n entry.puts (outputs run),
      few,
      away,
      run_count n h.0 run t (sound_step s entry.move entry.puts h.0 whole h.1) h.2 (none_arrives-behind n (taken entry.move) (inputs run) none) (omega (arith, few, away)),
    )

-- ---- a hit

-- the status that an unlink is answered with
abbrev status_in : List Put → ℤ
status_in [] = success
status_in (Submitted asked answer transferred ∷ puts) = success
status_in (Unlinked asked answer ∷ puts) = answer.status

hit_away : (s : State) (head : UnlinkHead) (puts : List Put) (m : State) → IsSound s → puts ≡ unlink_answer head unlinked ∷ [] → Unlinks s head puts m → here head.target m ≡ 0
hit_away s head puts m whole put (Hits e before submit behind queue target fresh says is) =
    rw is (omega (
      arith,
      here-with head.target e (before ++ behind) s,
      ap (λ (q : List Pending). times head.target q) queue,
      times-append head.target before behind,
      times-append head.target before (submit ∷ behind),
      subst (λ (n : ℕ). times n (submit ∷ behind) ≡ 1 + times n behind) target (times_own submit behind),
      whole.distinct head.target,
    ))
hit_away s head puts m whole put (Polled e before submit behind setup tag queue target polled asks row says is) = absurd (clash (ap status_in (sym says ∙ put)))
  where
    clash : success ≡ unlinked → ⊥
    clash h = cc
hit_away s head puts m whole put (Misses free says is) = absurd (clash (ap status_in (sym says ∙ put)))
  where
    clash : success ≡ unlinked → ⊥
    clash h = cc

pub hit_is_final : (run more : List Entry) (s m t : State) (head : UnlinkHead) → Runs start run s
    → Steps s (Comes (up.Unlink head)) (unlink_answer head unlinked ∷ []) m → Runs m more t
    → NoneArrives head.target (inputs more) → NoneAnswers head.target (outputs more)
hit_is_final run more s m t head before step behind none =
    let whole = sound run s before in
    none_answered head.target (outputs more)
    (run_count head.target m more t (sound_step s (Comes (up.Unlink head)) (unlink_answer head unlinked ∷ []) m whole step) behind none
    (hit_away s head (unlink_answer head unlinked ∷ []) m whole refl step.leads.1))
