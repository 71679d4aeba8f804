-- the statuses come by their causes
use Rattle.std.proofs.Common.{◌≡◌, ◌≢◌, ◌⊎◌, inl, inr, ℕ, List, refl, ap, ◌∙◌, subst, arith}
use Rattle.tmc_base.specs.Faults.{Rose}
use Rattle.tmc_live.specs.declared.net.NetFault.{NetFault}
use Rattle.tmc_live.specs.declared.net.NetFault.TheVariants as fault
use Rattle.tmc_live.specs.declared.status.Status.{Status}
use Rattle.tmc_live.specs.declared.status.Status.TheVariants.{Served, Usage, SinkFault, NoMemory, NetFault as NetFaulted}
use Rattle.tmc_live.specs.Command.{IsCommand}
use Rattle.tmc_live.specs.Live.{Ways, Connection, Fails, deaf, lost, EndsServing, EndsUsage, Ends, code_of}

-- words that name no command, and a sink that did not fail
pub ends_usage : {N K L : Type 0} (w : Ways N K L) (words : List (List ℕ)) (status : Status) (net new : N) (sink after : K)
    → Ends w words status net sink new after → (IsCommand words → ⊥) → (Rose (w.faults sink) (w.faults after) → ⊥) → status ≡ Usage
ends_usage w words status net new sink after (inl (address, count, asks, ended)) others calm = absurd (others (address, count, asks))
ends_usage w words status net new sink after (inr (none, ended)) others calm = by_status status ended
  where
    by_status : (s : Status) → EndsUsage w s net sink new after → s ≡ Usage
    by_status Served e = absurd e
    by_status Usage e = refl
    by_status SinkFault e = absurd (calm e.1.rose)
    by_status NoMemory e = absurd e
    by_status NetFaulted e = absurd e

-- the net's count rose
net_rose : {N K L : Type 0} (w : Ways N K L) (address : List ℕ) (count : ℕ) (net new : N) (sink before : K) (done : List (Connection L))
    → Fails w address count net sink fault.Failed new done before → Rose (w.standing net).faults (w.standing new).faults
net_rose w address count net new sink before done (deaf opens lacking) = lacking.rose refl
net_rose w address count net new sink before done (lost _ mid _ reached due none_came) =
    subst (λ f. Rose f (w.standing new).faults) reached.net_counts (none_came.lacks.rose refl)

-- the sink's count stood until then
sink_stood : {N K L : Type 0} (w : Ways N K L) (address : List ℕ) (count : ℕ) (why : NetFault) (net new : N) (sink before : K) (done : List (Connection L))
    → Fails w address count net sink why new done before → w.faults before ≡ w.faults sink
sink_stood w address count why net new sink before done (deaf opens lacking) = refl
sink_stood w address count why net new sink before done (lost _ mid _ reached due none_came) = reached.sink_counts

-- words that name a command, a net and a sink that did not fail
pub ends_served : {N K L : Type 0} (w : Ways N K L) (words : List (List ℕ)) (status : Status) (net new : N) (sink after : K)
    → Ends w words status net sink new after → IsCommand words
    → (Rose (w.standing net).faults (w.standing new).faults → ⊥) → (Rose (w.faults sink) (w.faults after) → ⊥)
    → (status ≡ Served) ⊎ (status ≡ NoMemory)
ends_served w words status net new sink after (inr (none, ended)) named calm_net calm_sink = absurd (none named)
ends_served w words status net new sink after (inl (address, count, asks, ended)) named calm_net calm_sink = by_status status ended
  where
    by_status : (s : Status) → EndsServing w address count s net sink new after → (s ≡ Served) ⊎ (s ≡ NoMemory)
    by_status Served e = inl refl
    by_status Usage e = absurd e
    by_status NoMemory e = inr refl
    by_status NetFaulted (done, before, failed, put) = absurd (calm_net (net_rose w address count net new sink before done failed))
    by_status SinkFault (done, before, inl (failed, broken)) =
        absurd (calm_sink (subst (λ f. Rose f (w.faults after)) (sink_stood w address count fault.Failed net new sink before done failed) broken.rose))
    by_status SinkFault (done, before, inr (one, unprinted, ample, broken)) =
        absurd (calm_sink (subst (λ f. Rose f (w.faults after)) unprinted.reached.sink_counts broken.rose))

-- status 4 comes of a write that failed
pub sink_failed : {N K L : Type 0} (w : Ways N K L) (words : List (List ℕ)) (status : Status) (net new : N) (sink after : K)
    → Ends w words status net sink new after → status ≡ SinkFault → Rose (w.faults sink) (w.faults after)
sink_failed w words status net new sink after (inr (none, ended)) e =
    (subst (λ s. EndsUsage w s net sink new after) e ended).1.rose
sink_failed w words status net new sink after (inl (address, count, asks, ended)) e =
    broken_by (subst (λ s. EndsServing w address count s net sink new after) e ended)
  where
    broken_by : EndsServing w address count SinkFault net sink new after → Rose (w.faults sink) (w.faults after)
    broken_by (done, before, inl (failed, broken)) =
        subst (λ f. Rose f (w.faults after)) (sink_stood w address count fault.Failed net new sink before done failed) broken.rose
    broken_by (done, before, inr (one, unprinted, ample, broken)) = subst (λ f. Rose f (w.faults after)) unprinted.reached.sink_counts broken.rose

-- status 6 comes of a call of the net that failed
pub net_failed : {N K L : Type 0} (w : Ways N K L) (words : List (List ℕ)) (status : Status) (net new : N) (sink after : K)
    → Ends w words status net sink new after → status ≡ NetFaulted → Rose (w.standing net).faults (w.standing new).faults
net_failed w words status net new sink after (inr (none, ended)) e = absurd (subst (λ s. EndsUsage w s net sink new after) e ended)
net_failed w words status net new sink after (inl (address, count, asks, ended)) e =
    let said = subst (λ s. EndsServing w address count s net sink new after) e ended in net_rose w address count net new sink said.1 said.0 said.2

-- at every other status but 4 no write failed
pub sink_stands : {N K L : Type 0} (w : Ways N K L) (words : List (List ℕ)) (status : Status) (net new : N) (sink after : K)
    → Ends w words status net sink new after → status ≢ SinkFault → w.faults after ≡ w.faults sink
sink_stands w words status net new sink after (inr (none, ended)) other = by_status status ended other
  where
    by_status : (s : Status) → EndsUsage w s net sink new after → s ≢ SinkFault → w.faults after ≡ w.faults sink
    by_status Served e not = absurd e
    by_status Usage e not = e.1.counts
    by_status SinkFault e not = absurd (not refl)
    by_status NoMemory e not = absurd e
    by_status NetFaulted e not = absurd e
sink_stands w words status net new sink after (inl (address, count, asks, ended)) other = by_status status ended other
  where
    by_status : (s : Status) → EndsServing w address count s net sink new after → s ≢ SinkFault → w.faults after ≡ w.faults sink
    by_status Served (done, many, reached) not = reached.sink_counts
    by_status Usage e not = absurd e
    by_status SinkFault e not = absurd (not refl)
    by_status NoMemory (done, inl failed) not = sink_stood w address count fault.Memory net new sink after done failed
    by_status NoMemory (done, inr (one, unprinted)) not = unprinted.reached.sink_counts
    by_status NetFaulted (done, before, failed, put) not = put.counts ∙ sink_stood w address count fault.Failed net new sink before done failed

-- where the net wanted memory its count stood
net_stood : {N K L : Type 0} (w : Ways N K L) (address : List ℕ) (count : ℕ) (net new : N) (sink before : K) (done : List (Connection L))
    → Fails w address count net sink fault.Memory new done before → (w.standing new).faults ≡ (w.standing net).faults
net_stood w address count net new sink before done (deaf opens lacking) = lacking.counts refl
net_stood w address count net new sink before done (lost _ mid _ reached due none_came) = none_came.lacks.counts refl ∙ reached.net_counts

-- at the statuses 0, 1 and 5 no call of the net failed
pub net_stands : {N K L : Type 0} (w : Ways N K L) (words : List (List ℕ)) (status : Status) (net new : N) (sink after : K)
    → Ends w words status net sink new after → status ≢ SinkFault → status ≢ NetFaulted → (w.standing new).faults ≡ (w.standing net).faults
net_stands w words status net new sink after (inr (none, ended)) unbroken other = by_status status ended unbroken
  where
    by_status : (s : Status) → EndsUsage w s net sink new after → s ≢ SinkFault → (w.standing new).faults ≡ (w.standing net).faults
    by_status Served e not = absurd e
    by_status Usage e not = ap (λ n. (w.standing n).faults) e.0
    by_status SinkFault e not = absurd (not refl)
    by_status NoMemory e not = absurd e
    by_status NetFaulted e not = absurd e
net_stands w words status net new sink after (inl (address, count, asks, ended)) unbroken other = by_status status ended unbroken other
  where
    by_status : (s : Status) → EndsServing w address count s net sink new after → s ≢ SinkFault → s ≢ NetFaulted
        → (w.standing new).faults ≡ (w.standing net).faults
    by_status Served (done, many, reached) not nor = reached.net_counts
    by_status Usage e not nor = absurd e
    by_status SinkFault e not nor = absurd (not refl)
    by_status NoMemory (done, inl failed) not nor = net_stood w address count net new sink after done failed
    by_status NoMemory (done, inr (one, unprinted)) not nor = unprinted.handled.counts ∙ unprinted.reached.net_counts
    by_status NetFaulted e not nor = absurd (nor refl)

-- each status has its own number
pub coded : (status other : Status) → code_of status ≡ code_of other → status ≡ other
coded Served Served e = refl
coded Usage Usage e = refl
coded SinkFault SinkFault e = refl
coded NoMemory NoMemory e = refl
coded NetFaulted NetFaulted e = refl
coded Served Usage e = absurd (omega (arith, e))
coded Served SinkFault e = absurd (omega (arith, e))
coded Served NoMemory e = absurd (omega (arith, e))
coded Served NetFaulted e = absurd (omega (arith, e))
coded Usage Served e = absurd (omega (arith, e))
coded Usage SinkFault e = absurd (omega (arith, e))
coded Usage NoMemory e = absurd (omega (arith, e))
coded Usage NetFaulted e = absurd (omega (arith, e))
coded SinkFault Served e = absurd (omega (arith, e))
coded SinkFault Usage e = absurd (omega (arith, e))
coded SinkFault NoMemory e = absurd (omega (arith, e))
coded SinkFault NetFaulted e = absurd (omega (arith, e))
coded NoMemory Served e = absurd (omega (arith, e))
coded NoMemory Usage e = absurd (omega (arith, e))
coded NoMemory SinkFault e = absurd (omega (arith, e))
coded NoMemory NetFaulted e = absurd (omega (arith, e))
coded NetFaulted Served e = absurd (omega (arith, e))
coded NetFaulted Usage e = absurd (omega (arith, e))
coded NetFaulted SinkFault e = absurd (omega (arith, e))
coded NetFaulted NoMemory e = absurd (omega (arith, e))
