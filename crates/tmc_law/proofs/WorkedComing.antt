-- submits and unlinks that come in a worked run
use Rattle.std.proofs.Common.{◌≡◌, ℕ, ◌<◌, ◌^◌, ◌==◌, ◌&&◌, not, Bool, true, false, nat_lt, List, [], ◌∷◌, ◌++◌, length, refl}
use Rattle.std.proofs.lemmas.Bool.{eqb-false, ltb-true}
use Rattle.usbip_wire.specs.declared.submit.SubmitHead.{SubmitHead}
use Rattle.usbip_wire.specs.Up as up
use Rattle.tmc_law.specs.Endpoint.{Endpoint, Control, BulkOut, BulkIn, InterruptIn}
use Rattle.tmc_law.specs.State.{State, Pending, Plugged, arrived, queue_of, with_queue, pending, Avoids}
use Rattle.tmc_law.specs.Put.{Put}
use Rattle.tmc_law.specs.Queues.{IsTaken, Arrives, Queued, Unlinks}
use Rattle.tmc_law.specs.Step.{Steps, Comes}
use Rattle.tmc_law.specs.WorkedSession.{out_submit, in_submit, notify_submit, asking_submit, telling_submit, unlink}
use Rattle.tmc_law.proofs.WorkedArrived.{is_submit, submitted, unlinked}

-- no pending submit has this number
abbrev pub is_free : ℕ → List Pending → Bool
is_free seqnum [] = true
is_free seqnum (submit ∷ submits) = not (submit.head.seqnum == seqnum) && is_free seqnum submits

both : (a b : Bool) → (not a && b) ≡ true → (a ≡ false) × (b ≡ true)
both false true e = (refl, refl)
both true b e = absurd (cc)
both false false e = absurd (cc)

pub avoids : (seqnum : ℕ) (submits : List Pending) → is_free seqnum submits ≡ true → Avoids seqnum submits
avoids seqnum [] e = tt
avoids seqnum (submit ∷ submits) e =
    let parts = both (submit.head.seqnum == seqnum) (is_free seqnum submits) e in
    (eqb-false _ _ parts.0, avoids seqnum submits parts.1)

-- there is room for a submit with this number
pub record IsRoom (s : State) (seqnum : ℕ) : Type 0 where
  pub plugged : s.presence ≡ Plugged
  pub free : is_free seqnum (pending s) ≡ true
  pub few : nat_lt (length (pending s)) 256 ≡ true

pub comes : (s : State) (head : SubmitHead) (transferred : List ℕ) (endpoint : Endpoint) → IsRoom s head.seqnum → is_submit head transferred ≡ true → IsTaken s head endpoint
    → Steps s (Comes (up.Submit head transferred)) [] (with_queue endpoint (queue_of endpoint s ++ arrived head transferred ∷ []) s)
comes s head transferred endpoint room sent taken = record {
  plugged = room.plugged;
  leads = (submitted head transferred sent, avoids head.seqnum (pending s) room.free, ltb-true _ _ room.few, Queued endpoint taken refl refl);
}

-- a submit that the state turns away
pub turned_away : (s : State) (head : SubmitHead) (transferred : List ℕ) (puts : List Put) → IsRoom s head.seqnum → is_submit head transferred ≡ true
    → Arrives s head transferred puts s → Steps s (Comes (up.Submit head transferred)) puts s
turned_away s head transferred puts room sent arrives = record {
  plugged = room.plugged;
  leads = (submitted head transferred sent, avoids head.seqnum (pending s) room.free, ltb-true _ _ room.few, arrives);
}

pub out_comes : (s : State) (seqnum size : ℕ) (transferred : List ℕ) → IsRoom s seqnum → is_submit (out_submit seqnum size) transferred ≡ true → s.halted.bulk_out ≡ false
    → Steps s (Comes (up.Submit (out_submit seqnum size) transferred)) [] (record s { bulk_out = s.bulk_out ++ arrived (out_submit seqnum size) transferred ∷ [] })
out_comes s seqnum size transferred room sent usable =
    comes s (out_submit seqnum size) transferred BulkOut room sent
    (record { number = refl; way = refl; usable = usable })

pub in_comes : (s : State) (seqnum size : ℕ) → IsRoom s seqnum → is_submit (in_submit seqnum size) [] ≡ true → s.halted.bulk_in ≡ false
    → Steps s (Comes (up.Submit (in_submit seqnum size) [])) [] (record s { bulk_in = s.bulk_in ++ arrived (in_submit seqnum size) [] ∷ [] })
in_comes s seqnum size room sent usable =
    comes s (in_submit seqnum size) [] BulkIn room sent
    (record { number = refl; way = refl; usable = usable })

pub notify_comes : (s : State) (seqnum size : ℕ) → IsRoom s seqnum → is_submit (notify_submit seqnum size) [] ≡ true → s.halted.interrupt_in ≡ false
    → Steps s (Comes (up.Submit (notify_submit seqnum size) [])) [] (record s { interrupt_in = s.interrupt_in ++ arrived (notify_submit seqnum size) [] ∷ [] })
notify_comes s seqnum size room sent usable =
    comes s (notify_submit seqnum size) [] InterruptIn room sent
    (record { number = refl; way = refl; usable = usable })

-- a control request, whose setup says which way its data goes
pub asking_comes : (s : State) (seqnum size request_type : ℕ) (more : List ℕ) → IsRoom s seqnum → is_submit (asking_submit seqnum size (request_type ∷ more)) [] ≡ true → nat_lt request_type 128 ≡ false
    → Steps s (Comes (up.Submit (asking_submit seqnum size (request_type ∷ more)) [])) [] (record s { control = s.control ++ arrived (asking_submit seqnum size (request_type ∷ more)) [] ∷ [] })
asking_comes s seqnum size request_type more room sent in_way =
    comes s (asking_submit seqnum size (request_type ∷ more)) [] Control room sent
    (record { number = refl; way = rw in_way refl; usable = refl })

pub telling_comes : (s : State) (seqnum request_type : ℕ) (more : List ℕ) → IsRoom s seqnum → is_submit (telling_submit seqnum (request_type ∷ more)) [] ≡ true → nat_lt request_type 128 ≡ true
    → Steps s (Comes (up.Submit (telling_submit seqnum (request_type ∷ more)) [])) [] (record s { control = s.control ++ arrived (telling_submit seqnum (request_type ∷ more)) [] ∷ [] })
telling_comes s seqnum request_type more room sent out_way =
    comes s (telling_submit seqnum (request_type ∷ more)) [] Control room sent
    (record { number = refl; way = rw out_way refl; usable = refl })

pub unlink_comes : (s t : State) (seqnum target : ℕ) (puts : List Put) → s.presence ≡ Plugged → seqnum < 2 ^ 32 → target < 2 ^ 32 → Unlinks s (unlink seqnum target) puts t
    → Steps s (Comes (up.Unlink (unlink seqnum target))) puts t
unlink_comes s t seqnum target puts plugged number other unlinks =
    record { plugged = plugged; leads = (unlinked seqnum target number other, unlinks) }
