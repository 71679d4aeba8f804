-- a query whose unlinks come behind its response
use Rattle.std.proofs.Common.{◌≡◌, ◌≢◌, inl, inr, ℕ, ◌^◌, true, List, [], ◌∷◌, ◌++◌, refl, lit<}
use Rattle.usbip_wire.specs.Urb.{AreWide}
use Rattle.tmc_law.specs.Endpoint.{Endpoint, Control, BulkOut, BulkIn, InterruptIn}
use Rattle.tmc_law.specs.State.{start}
use Rattle.tmc_law.specs.Queues.{Misses}
use Rattle.tmc_law.specs.Run.{Runs, inputs}
use Rattle.tmc_law.specs.WorkedQuery.{asking, answering}
use Rattle.host_joint.specs.Lines.{Line, Lines, AllFitting, InOrder, NoneNumbered}
use Rattle.host_joint.specs.Asking.{StaysPlugged}
use Rattle.host_joint.specs.Unlinking.{Unlinking, AreApart, Rising, AllHeads, IsNamed, IsBulk}
use Rattle.host_joint.specs.WorkedAsks.{query_asked}
use Rattle.host_joint.specs.WorkedTies.{queried}
use Rattle.host_joint.specs.WorkedAhead.{ahead_asked}
use Rattle.host_joint.specs.WorkedCancels.{race_unlinks, missing, racing}
use Rattle.host_joint.proofs.Coming.{all_below, below}

all_wide : (ns : List ℕ) → all_below (2 ^ 32) ns ≡ true → AreWide ns
all_wide ns e = below (2 ^ 32) ns (lit< tt) e

pub all_miss : Runs queried missing queried
all_miss = (
  queried,
  record { plugged = refl; leads = (all_wide (4 ∷ 0x00010002 ∷ 3 ∷ []) refl, Misses tt refl refl) },
  (
    queried,
    record { plugged = refl; leads = (all_wide (5 ∷ 0x00010002 ∷ 2 ∷ []) refl, Misses tt refl refl) },
    (queried, record { plugged = refl; leads = (all_wide (6 ∷ 0x00010002 ∷ 1 ∷ []) refl, Misses tt refl refl) }, refl),
  ),
)

line : (e : Endpoint) → Line e (query_asked e) (inputs (asking ++ answering)) [] start
line Control = refl
line BulkOut = refl
line BulkIn = refl
line InterruptIn = refl

pub lines : Lines query_asked [] (inputs (asking ++ answering)) [] start
lines = record { submits = line; unlinked = refl }

rises : (e : Endpoint) → Rising (query_asked e)
rises Control = tt
rises BulkOut = ((lit< tt, tt), (tt, tt))
rises BulkIn = (tt, tt)
rises InterruptIn = tt

named : (e : Endpoint) → IsBulk e → AllHeads (λ head. IsNamed race_unlinks head.seqnum) (query_asked e)
named Control bulk = tt
named BulkOut bulk = (inr (inr (inl refl)), (inr (inl refl), tt))
named BulkIn bulk = (inl refl, tt)
named InterruptIn bulk = tt

pub unlinking : Unlinking query_asked race_unlinks
unlinking = record { rising = rises; falling = ((lit< tt, (lit< tt, tt)), ((lit< tt, tt), (tt, tt))); named = named }

apart : (d e : Endpoint) → d ≢ e → AllHeads (λ head. NoneNumbered head.seqnum (query_asked e)) (query_asked d)
apart Control e differ = tt
apart InterruptIn e differ = tt
apart BulkOut Control differ = (tt, (tt, tt))
apart BulkOut BulkOut differ = absurd (differ refl)
apart BulkOut BulkIn differ = (((λ same. cc), tt), (((λ same. cc), tt), tt))
apart BulkOut InterruptIn differ = (tt, (tt, tt))
apart BulkIn Control differ = (tt, tt)
apart BulkIn BulkOut differ = (((λ same. cc), ((λ same. cc), tt)), tt)
apart BulkIn BulkIn differ = absurd (differ refl)
apart BulkIn InterruptIn differ = (tt, tt)

pub query_apart : AreApart query_asked
query_apart = record { rising = rises; apart = apart }

ahead_rises : (e : Endpoint) → Rising (ahead_asked e)
ahead_rises Control = tt
ahead_rises BulkOut = ((lit< tt, tt), (tt, tt))
ahead_rises BulkIn = tt
ahead_rises InterruptIn = tt

both_apart : (d e : Endpoint) → d ≢ e → AllHeads (λ head. NoneNumbered head.seqnum (ahead_asked e)) (ahead_asked d)
both_apart Control e differ = tt
both_apart InterruptIn e differ = tt
both_apart BulkIn e differ = tt
both_apart BulkOut Control differ = (tt, (tt, tt))
both_apart BulkOut BulkOut differ = absurd (differ refl)
both_apart BulkOut BulkIn differ = (tt, (tt, tt))
both_apart BulkOut InterruptIn differ = (tt, (tt, tt))

pub ahead_apart : AreApart ahead_asked
ahead_apart = record { rising = ahead_rises; apart = both_apart }

pub racing_fits : AllFitting (inputs racing)
racing_fits = (record { endpoint = BulkOut; number = refl; way = refl }, (record { endpoint = BulkOut; number = refl; way = refl }, (record { endpoint = BulkIn; number = refl; way = refl }, tt)))

pub racing_order : InOrder (inputs racing)
racing_order = ((λ e. tt), ((λ e. tt), ((λ e. tt), tt)))

pub racing_plugged : StaysPlugged racing
racing_plugged = ((λ e. cc), ((λ e. cc), ((λ e. cc), ((λ e. cc), ((λ e. cc), ((λ e. cc), ((λ e. cc), ((λ e. cc), ((λ e. cc), ((λ e. cc), ((λ e. cc), tt)))))))))))
