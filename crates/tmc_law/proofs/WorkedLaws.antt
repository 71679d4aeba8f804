-- worked runs meet the premises of the laws
use Rattle.std.proofs.Common.{◌≡◌, ◌≢◌, ℕ, false, true, [], ◌∷◌, ◌++◌, take, codes, Some, refl, lit<}
use Rattle.tmc_wire.specs.declared.header.OutHeader.TheVariants.{Message}
use Rattle.tmc_law.specs.Endpoint.{BulkIn, Control}
use Rattle.tmc_law.specs.State.{State, Pending, Transfer, Waiting, Idle, Owed, start, is_halted}
use Rattle.tmc_law.specs.Halts.{halts, halt_answers, DoesHalt}
use Rattle.tmc_law.specs.Step.{Steps, Halt}
use Rattle.tmc_law.specs.Run.{Runs, inputs}
use Rattle.tmc_law.specs.Numbers.{Rises, numbers}
use Rattle.tmc_law.specs.WorkedQuery.{query_text, request_text, asking, answering, query_log}
use Rattle.tmc_law.specs.WorkedRead.{reading}
use Rattle.tmc_law.specs.WorkedParts.{spaces_text, sending_parts}
use Rattle.tmc_law.proofs.WorkedComing.{out_comes, in_comes}
use Rattle.tmc_law.proofs.WorkedQuery as query
use Rattle.tmc_law.proofs.WorkedRead as read
use Rattle.tmc_law.proofs.WorkedParts as parts

-- the query was taken, and waits
pub query_waits : (s : State) × (message : Waiting) × Runs start (take 4 asking) s × (s.waiting ≡ Some message)
query_waits = (
  query.waits,
  record { seq = 1; message = codes "*IDN?" },
  (
    query.query_came,
    out_comes start 1 20 query_text (record { plugged = refl; free = refl; few = refl }) refl refl,
    (
      query.request_came,
      out_comes query.query_came 2 12 request_text (record { plugged = refl; free = refl; few = refl }) refl refl,
      (
        query.came,
        in_comes query.request_came 3 4096 (record { plugged = refl; free = refl; few = refl }) refl refl,
        (query.waits, query.takes_query, refl),
      ),
    ),
  ),
  refl,
)

-- the first packet of a message was taken
pub transfer_begun : (s : State) × (first : Pending) × (transfer : Transfer) × Runs start (take 2 sending_parts) s
    × (s.bulk_out ≡ first ∷ []) × (first.moved ≢ []) × (s.transfer ≡ Some transfer)
transfer_begun = (
  parts.inside,
  parts.later,
  record { header = Message 1 100 false; taken = parts.later.moved },
  (parts.first_came, out_comes start 1 112 spaces_text (record { plugged = refl; free = refl; few = refl }) refl refl, (parts.inside, parts.takes_first, refl)),
  refl,
  parts.some_moved,
  refl,
)

owed : (tag size : ℕ) → Owed tag size ≢ Idle
owed tag size e = cc

pub response_owed : (s : State) × Runs start asking s × (s.side ≢ Idle)
response_owed = (query.requested, query.asks, owed 2 4000)

no_control : BulkIn ≢ Control
no_control e = cc

some_packet : read.part_filled.moved ≢ []
some_packet e = cc

-- Bulk-IN halts behind the first packet of a response
pub bulk_in_halts : (s t : State) × (first : Pending) × Runs start reading s × (s.bulk_in ≡ first ∷ []) × (first.moved ≢ [])
    × Steps s (Halt BulkIn) (halt_answers BulkIn s) t × (is_halted BulkIn s ≡ false) × (is_halted BulkIn t ≡ true)
bulk_in_halts = (
  read.half,
  halts BulkIn read.half,
  read.part_filled,
  read.reads_half,
  refl,
  some_packet,
  record { plugged = refl; leads = DoesHalt no_control refl refl refl },
  refl,
  refl,
)

pub query_numbers : Rises (numbers start (inputs (asking ++ answering))) × (numbers (record start { log = query_log }) [] ≡ 1 ∷ [])
query_numbers = (((lit< tt, tt), (tt, tt)), refl)
