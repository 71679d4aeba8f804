-- halts and unplugging (USB 2.0, sections 5.3.2, 5.8.5 and 9.1)
use Rattle.std.specs.Prelude.{◌≡◌, ◌≢◌, ℤ, false, true, List, [], ◌∷◌, ◌++◌, map, None}
use Rattle.tmc_law.specs.Endpoint.{Endpoint, Control, BulkOut, BulkIn, InterruptIn}
use Rattle.tmc_law.specs.State.{State, Pending, Idle, Unplugged, queue_of, with_queue, with_halt, is_halted}
use Rattle.tmc_law.specs.Put.{Put, answer_of, ended, stalled, unplugged}

-- the first submit of a queue ends with the bytes that it had, and the others have none
abbrev pub all_ended : (status : ℤ) → List Pending → List Put
all_ended status [] = []
all_ended status (first ∷ others) = ended status first ∷ map (λ submit. answer_of submit.head status []) others

-- A halt of Bulk-OUT drops the transfer in progress and the unfinished message. A halt of Bulk-IN ends the transfer in
-- progress and drops the rest of its piece; an abort that runs goes on.
abbrev pub without_transfer : Endpoint → State → State
without_transfer Control s = s
without_transfer BulkOut s = record s { transfer = None; part = [] }
without_transfer BulkIn s = record s { side = Idle }
without_transfer InterruptIn s = s

-- an endpoint halts: all its pending submits are answered, in their order
abbrev pub halts : Endpoint → State → State
halts endpoint s = with_halt endpoint true (with_queue endpoint [] (without_transfer endpoint s))

abbrev pub halt_answers : Endpoint → State → List Put
halt_answers endpoint s = all_ended stalled (queue_of endpoint s)

-- an endpoint halts by itself; the control endpoint never does
pub data HaltsItself (s : State) (endpoint : Endpoint) (puts : List Put) (t : State) : Type 0 where
  DoesHalt : endpoint ≢ Control → is_halted endpoint s ≡ false → puts ≡ halt_answers endpoint s → t ≡ halts endpoint s
      → HaltsItself s endpoint puts t

-- all pending submits are answered, endpoint by endpoint
abbrev pub unplug_answers : State → List Put
unplug_answers s =
    all_ended unplugged s.control
    ++ (all_ended unplugged s.bulk_out ++ (all_ended unplugged s.bulk_in ++ all_ended unplugged s.interrupt_in))

-- the device is unplugged, and nothing has an effect afterwards
pub record Unplugs (s : State) (puts : List Put) (t : State) : Type 0 where
  pub answered : puts ≡ unplug_answers s
  pub is : t ≡ record s { control = []; bulk_out = []; bulk_in = []; interrupt_in = []; presence = Unplugged }
