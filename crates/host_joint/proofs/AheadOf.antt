-- an ask whose request and read are written ahead, and one that is cancelled so
use Rattle.std.proofs.Common.{◌≡◌, inl, inr, ℕ, ◌^◌, true, List, [], ◌∷◌, refl, lit<}
use Rattle.usbip_wire.specs.Urb.{AreWide}
use Rattle.tmc_law.specs.Endpoint.{Endpoint, Control, BulkOut, BulkIn, InterruptIn}
use Rattle.tmc_law.specs.State.{State, start, arrived}
use Rattle.tmc_law.specs.Queues.{Hits}
use Rattle.tmc_law.specs.Run.{Runs, inputs}
use Rattle.tmc_law.specs.WorkedQuery.{query_submit, request_submit, query_text, request_text}
use Rattle.host_joint.specs.Lines.{Line, Lines, AllFitting, InOrder}
use Rattle.host_joint.specs.Asking.{AtRest, IsQuiet, StaysPlugged}
use Rattle.host_joint.specs.Unlinking.{Unlinking, Rising, AllHeads, IsNamed, IsBulk}
use Rattle.host_joint.specs.WorkedAhead.{ahead_asked, ahead_unlinks, cancelling_ahead}
use Rattle.host_joint.proofs.Coming.{all_below, below, comes}

pub rests : AtRest 1 start
rests = record { control = refl; bulk_out = refl; bulk_in = refl; transfer = refl; part = refl; waiting = tt; side = refl; running = refl; log = tt }

pub quiet : IsQuiet [] []
quiet = record { control = refl; bulk_out = refl; bulk_in = refl; unlinks = refl; outs = refl; ins = refl }

all_wide : (ns : List ℕ) → all_below (2 ^ 32) ns ≡ true → AreWide ns
all_wide ns e = below (2 ^ 32) ns (lit< tt) e

abbrev one_came : State
one_came = record start { bulk_out = arrived query_submit query_text ∷ [] }

abbrev both_came : State
both_came = record start { bulk_out = arrived query_submit query_text ∷ arrived request_submit request_text ∷ [] }

pub cancels_ahead : Runs start cancelling_ahead start
cancels_ahead = (
  one_came,
  comes start query_submit query_text BulkOut (record { plugged = refl; wide = refl; eight = refl; setup = refl; carried = refl; bytes = refl; free = refl; few = refl }) (record { number = refl; way = refl; usable = refl }),
  (
    both_came,
    comes one_came request_submit request_text BulkOut (record { plugged = refl; wide = refl; eight = refl; setup = refl; carried = refl; bytes = refl; free = refl; few = refl }) (record { number = refl; way = refl; usable = refl }),
    (
      one_came,
      record { plugged = refl; leads = (all_wide (3 ∷ 0x00010002 ∷ 2 ∷ []) refl, Hits BulkOut (arrived query_submit query_text ∷ []) (arrived request_submit request_text) [] refl refl refl refl refl) },
      (
        start,
        record { plugged = refl; leads = (all_wide (4 ∷ 0x00010002 ∷ 1 ∷ []) refl, Hits BulkOut [] (arrived query_submit query_text) [] refl refl refl refl refl) },
        refl,
      ),
    ),
  ),
)

line : (e : Endpoint) → Line e (ahead_asked e) (inputs cancelling_ahead) [] start
line Control = refl
line BulkOut = refl
line BulkIn = refl
line InterruptIn = refl

pub lines : Lines ahead_asked ahead_unlinks (inputs cancelling_ahead) [] start
lines = record { submits = line; unlinked = refl }

rises : (e : Endpoint) → Rising (ahead_asked e)
rises Control = tt
rises BulkOut = ((lit< tt, tt), (tt, tt))
rises BulkIn = tt
rises InterruptIn = tt

named : (e : Endpoint) → IsBulk e → AllHeads (λ head. IsNamed ahead_unlinks head.seqnum) (ahead_asked e)
named Control bulk = tt
named BulkOut bulk = (inr (inl refl), (inl refl, tt))
named BulkIn bulk = tt
named InterruptIn bulk = tt

pub unlinking : Unlinking ahead_asked ahead_unlinks
unlinking = record { rising = rises; falling = ((lit< tt, tt), (tt, tt)); named = named }

pub ahead_fits : AllFitting (inputs cancelling_ahead)
ahead_fits = (record { endpoint = BulkOut; number = refl; way = refl }, (record { endpoint = BulkOut; number = refl; way = refl }, tt))

pub ahead_order : InOrder (inputs cancelling_ahead)
ahead_order = ((λ e. tt), ((λ e. tt), tt))

pub ahead_plugged : StaysPlugged cancelling_ahead
ahead_plugged = ((λ e. cc), ((λ e. cc), ((λ e. cc), ((λ e. cc), tt))))
