-- how the state of a device has the lists of its pipes
use Rattle.std.specs.Prelude.{◌≡◌, Bool, true, false, List, [], ◌∷◌}
use Rattle.tmc_law.specs.Endpoint.{Endpoint, Control, BulkOut, BulkIn, InterruptIn}
use Rattle.tmc_law.specs.State.{State, Pending}
use Rattle.endpoint_pipes.specs.Held.{Held}

-- the status byte was polled for the first of these submits
abbrev pub polled_first : List Pending → List Pending
polled_first [] = []
polled_first (first ∷ others) = record first { polled = true } ∷ others

-- the queue of an endpoint with this list, where the status byte was polled for the first control submit, or was not
abbrev pub queue_from : Endpoint → (polled : Bool) → List Pending → List Pending
queue_from Control true list = polled_first list
queue_from Control false list = list
queue_from BulkOut polled list = list
queue_from BulkIn polled list = list
queue_from InterruptIn polled list = list

-- this is the pipes' part of the state of a device
pub record Holds (polled : Bool) (s : State) (held : Held) : Type 0 where
  pub control : s.control ≡ queue_from Control polled held.control
  pub bulk_out : s.bulk_out ≡ held.bulk_out
  pub bulk_in : s.bulk_in ≡ held.bulk_in
  pub interrupt_in : s.interrupt_in ≡ held.interrupt_in
  pub halted : s.halted ≡ held.halted
