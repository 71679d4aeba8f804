-- steps of worked runs: submits that come, and transfers that one packet carries whole
use Rattle.std.proofs.Common.{◌≡◌, ◌≢◌, ℕ, zero, suc, ◌<◌, ◌^◌, ◌==◌, ◌&&◌, not, nat_lt, Bool, true, false, List, [], ◌∷◌, ◌++◌, length, take, drop, slice_index, None, refl, sym, lit<}
use Rattle.std.proofs.lemmas.Bool.{eqb-false, eqb-true, ltb-true}
use Rattle.usbip_wire.specs.declared.urb.Dir.{Dir}
use Rattle.usbip_wire.specs.declared.urb.Dir.TheVariants.{Out, In}
use Rattle.usbip_wire.specs.declared.submit.SubmitHead.{SubmitHead}
use Rattle.usbip_wire.specs.Submit as wire
use Rattle.usbip_wire.specs.Up as up
use Rattle.tmc_law.specs.Endpoint.{Endpoint}
use Rattle.tmc_law.specs.State.{State, Pending, Plugged, arrived, queue_of, with_queue, pending, Avoids}
use Rattle.tmc_law.specs.Put.{ended, success}
use Rattle.tmc_law.specs.Queues.{IsTaken, Queued}
use Rattle.tmc_law.specs.BulkOut.{TakesEffect, TransferEnds, DoesMove, Begun, wants, packets_of}
use Rattle.tmc_law.specs.Step.{Steps, Comes, Take}
use Rattle.host_joint.specs.Jobs.{Job, IsJob, partly, transfer_of}
use Rattle.host_joint.proofs.Taking.{OneHeader, MayBegin, not_refused, owns_fresh}

-- ---- a submit comes

abbrev pub all_below : ℕ → List ℕ → Bool
all_below limit [] = true
all_below limit (n ∷ ns) = nat_lt n limit && all_below limit ns

abbrev pub is_carried : Dir → ℕ → List ℕ → Bool
is_carried Out size transferred = length transferred == size
is_carried In size [] = true
is_carried In size (byte ∷ bytes) = false

abbrev pub is_free : ℕ → List Pending → Bool
is_free seqnum [] = true
is_free seqnum (submit ∷ submits) = not (submit.head.seqnum == seqnum) && is_free seqnum submits

two : (a b : Bool) → (a && b) ≡ true → (a ≡ true) × (b ≡ true)
two true b e = (refl, e)
two false b e = absurd (cc)

pub below : (limit : ℕ) (ns : List ℕ) → 0 < limit → all_below limit ns ≡ true → (i : ℕ) → slice_index ns i < limit
below limit [] some e i = some
below limit (n ∷ ns) some e zero = ltb-true n limit (two (nat_lt n limit) (all_below limit ns) e).0
below limit (n ∷ ns) some e (suc i) = below limit ns some (two (nat_lt n limit) (all_below limit ns) e).1 i

carried_is : (dir : Dir) (size : ℕ) (transferred : List ℕ) → is_carried dir size transferred ≡ true → wire.Carries dir size transferred
carried_is Out size transferred e = eqb-true (length transferred) size e
carried_is In size [] e = refl
carried_is In size (byte ∷ bytes) e = absurd (cc)

neither : (a b : Bool) → (not a && b) ≡ true → (a ≡ false) × (b ≡ true)
neither false b e = (refl, e)
neither true b e = absurd (cc)

avoids : (seqnum : ℕ) (submits : List Pending) → is_free seqnum submits ≡ true → Avoids seqnum submits
avoids seqnum [] e = tt
avoids seqnum (submit ∷ submits) e =
    let parts = neither (submit.head.seqnum == seqnum) (is_free seqnum submits) e in
    (eqb-false _ _ parts.0, avoids seqnum submits parts.1)

-- what stands in front of a submit that comes
pub record IsRoom (s : State) (head : SubmitHead) (transferred : List ℕ) : Type 0 where
  pub plugged : s.presence ≡ Plugged
  pub wide : all_below (2 ^ 32) (head.seqnum ∷ head.devid ∷ head.ep ∷ head.length ∷ []) ≡ true
  pub eight : length head.setup ≡ 8
  pub setup : all_below 256 head.setup ≡ true
  pub carried : is_carried head.dir head.length transferred ≡ true
  pub bytes : all_below 256 transferred ≡ true
  pub free : is_free head.seqnum (pending s) ≡ true
  pub few : nat_lt (length (pending s)) 256 ≡ true

pub comes : (s : State) (head : SubmitHead) (transferred : List ℕ) (endpoint : Endpoint) → IsRoom s head transferred → IsTaken s head endpoint
    → Steps s (Comes (up.Submit head transferred)) [] (with_queue endpoint (queue_of endpoint s ++ arrived head transferred ∷ []) s)
comes s head transferred endpoint room taken = record {
  plugged = room.plugged;
  leads = (
    record {
      wide = below (2 ^ 32) (head.seqnum ∷ head.devid ∷ head.ep ∷ head.length ∷ []) (lit< tt) room.wide;
      eight = room.eight;
      setup = below 256 head.setup (lit< tt) room.setup;
      carried = carried_is head.dir head.length transferred room.carried;
      bytes = below 256 transferred (lit< tt) room.bytes;
    },
    avoids head.seqnum (pending s) room.free,
    ltb-true _ _ room.few,
    Queued endpoint taken refl refl,
  );
}

-- ---- a transfer is taken

-- one packet of its submit has the whole transfer, and nothing is in progress
pub record IsAlone (s : State) (job : Job) : Type 0 where
  pub plugged : s.presence ≡ Plugged
  pub none_waits : s.waiting ≡ None
  pub none_runs : s.transfer ≡ None
  pub first : s.bulk_out ≡ arrived job.head job.bytes ∷ []
  pub some : job.head.length ≢ 0
  pub one : packets_of (length job.bytes) ≡ 1
  pub moves : (take 64 job.bytes ≡ job.bytes) × (drop 64 job.bytes ≡ [])
  pub full : wants (transfer_of job job.bytes) ≡ 0

pub takes_job : (one_header : OneHeader) (s t : State) (job : Job) → IsJob job → MayBegin (job ∷ []) s → IsAlone s job
    → TakesEffect job.head.seqnum (transfer_of job job.bytes) (record s { bulk_out = []; transfer = None }) t
    → Steps s (Take 1) (ended success (partly job job.bytes []) ∷ []) t
takes_job one_header s t job is may alone effect = record {
  plugged = alone.plugged;
  leads = (
    alone.none_waits,
    TransferEnds (arrived job.head job.bytes) (partly job job.bytes []) [] (transfer_of job []) (transfer_of job job.bytes) alone.first alone.some (sym alone.one)
        (owns_fresh one_header s job [] (job ∷ []) refl is may alone.none_runs).unspoiled
        (Begun job.header alone.none_runs (not_refused one_header s job [] (job ∷ []) refl is may) is.headed refl)
        (DoesMove (rw (alone.moves.0, alone.moves.1) refl) (rw alone.moves.0 refl)) alone.full effect refl,
  );
}
