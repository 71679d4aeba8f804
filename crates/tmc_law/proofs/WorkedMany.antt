-- more submits than may be pending, step by step
use Rattle.std.proofs.Common.{◌≢◌, ℕ, zero, suc, ◌+◌, ◌<◌, ◌≤◌, ◌^◌, List, [], ◌∷◌, ◌++◌, length, map, refl, sym, ap, subst, arith, lit<, lit≤}
use Rattle.std.proofs.lemmas.List.{append_assoc, append-nil, length-append}
use Rattle.std.specs.List.{range_with_len}
use Rattle.usbip_wire.specs.Urb.{fields}
use Rattle.usbip_wire.specs.Submit.{submit_bytes}
use Rattle.usbip_wire.specs.Up as up
use Rattle.tmc_law.specs.Endpoint.{BulkIn}
use Rattle.tmc_law.specs.State.{State, Pending, start, Closed, Avoids}
use Rattle.tmc_law.specs.Queues.{IsSubmit, Queued, pending_most}
use Rattle.tmc_law.specs.Step.{Steps, Comes, Refuses}
use Rattle.tmc_law.specs.Run.{Runs}
use Rattle.tmc_law.specs.WorkedSession.{devid, no_setup, in_submit, step}
use Rattle.tmc_law.specs.WorkedRefused.{many_text, pending_field, one_comes, one_came, coming_many}
use Rattle.tmc_law.proofs.AnswerBytes.{each_wide}
use Rattle.tmc_law.proofs.WorkedArrived.{below}
use Rattle.tmc_law.proofs.WorkedSpelling.{submit_spells}
use Rattle.tmc_law.proofs.WorkedJoined.{joined}
use Rattle.tmc_law.proofs.WorkedRefused.{refuses_more}

-- these submits are pending on Bulk-IN
abbrev queued : List Pending → State
queued submits = record start { bulk_in = submits }

-- they have numbers below this one
abbrev Below : ℕ → List Pending → Type 0
Below seqnum [] = Unit {0}
Below seqnum (submit ∷ submits) = (submit.head.seqnum < seqnum) × Below seqnum submits

less_other : (a b : ℕ) → a < b → a ≢ b
less_other a b less same = omega (arith, less, same)

below_avoids : (seqnum : ℕ) (submits : List Pending) → Below seqnum submits → Avoids seqnum (submits ++ [])
below_avoids seqnum [] below = tt
below_avoids seqnum (submit ∷ submits) below = (less_other submit.head.seqnum seqnum below.0, below_avoids seqnum submits below.1)

below_next : (seqnum : ℕ) (submits : List Pending) → Below seqnum submits → Below (seqnum + 1) (submits ++ one_came seqnum ∷ [])
below_next seqnum [] below = (omega arith, tt)
below_next seqnum (submit ∷ submits) below = (omega (arith, below.0), below_next seqnum submits below.1)

in_submitted : (seqnum : ℕ) → seqnum < 2 ^ 32 → IsSubmit (in_submit seqnum 4096) []
in_submitted seqnum number = record {
  wide = each_wide (seqnum ∷ devid ∷ 2 ∷ 4096 ∷ []) (number, (lit< tt, (lit< tt, (lit< tt, tt))));
  eight = refl;
  setup = below 256 no_setup (lit< tt) refl;
  carried = refl;
  bytes = below 256 [] (lit< tt) refl;
}

comes_behind : (seqnum : ℕ) (submits : List Pending) → Below seqnum submits → seqnum < 2 ^ 32 → length submits < pending_most
    → Steps (queued submits) (Comes (up.Submit (in_submit seqnum 4096) [])) [] (queued (submits ++ one_came seqnum ∷ []))
comes_behind seqnum submits below number few = record {
  plugged = refl;
  leads = (
    in_submitted seqnum number,
    below_avoids seqnum submits below,
    subst (λ (l : List Pending). length l < pending_most) (sym (append-nil submits)) few,
    Queued BulkIn (record { number = refl; way = refl; usable = refl }) refl refl,
  );
}

all_come : (count first : ℕ) (submits : List Pending) → Below first submits → first + count ≤ 2 ^ 32 → length submits + count ≤ pending_most
    → Runs (queued submits) (map one_comes (range_with_len first count)) (queued (submits ++ map one_came (range_with_len first count)))
all_come zero first submits below wide few = ap queued (append-nil submits)
all_come (suc count) first submits below wide few = (
  queued (submits ++ one_came first ∷ []),
  comes_behind first submits below (omega (arith, wide)) (omega (arith, few)),
  subst (λ (l : List Pending). Runs (queued (submits ++ one_came first ∷ [])) (map one_comes (range_with_len (first + 1) count)) (queued l))
      (append_assoc submits (one_came first ∷ []) (map one_came (range_with_len (first + 1) count)))
      (all_come count (first + 1) (submits ++ one_came first ∷ []) (below_next first submits below) (omega (arith, wide)) (omega (arith, few, length-append submits (one_came first ∷ [])))),
)

abbrev full : State
full = queued (map one_came (range_with_len 1 256))

refuses_one : Steps full (Refuses devid many_text pending_field) [] (record full { presence = Closed pending_field })
unfolding submit_bytes fields
refuses_one =
    refuses_more devid full (in_submit 257 4096) [] many_text [] refl (lit≤ tt)
    (submit_spells (in_submit 257 4096) [] (record { imported = refl; number = lit< tt; endpoint = lit≤ tt; short = lit≤ tt; setup = refl; carried = refl }))

pub comes_many : Runs start coming_many (record full { presence = Closed pending_field })
comes_many =
    joined (map one_comes (range_with_len 1 256)) (step (Refuses devid many_text pending_field) [] ∷ []) start full (record full { presence = Closed pending_field })
    (all_come 256 1 [] tt (lit≤ tt) (lit≤ tt)) (record full { presence = Closed pending_field }, refuses_one, refl)
