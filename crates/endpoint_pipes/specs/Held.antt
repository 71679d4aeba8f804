-- what the pipes keep of a device's state
use Rattle.std.specs.Prelude.{◌≡◌, ◌⊎◌, ℕ, Bool, false, ◌==◌, if◌then◌else◌, List, [], ◌∷◌, ◌++◌}
use Rattle.tmc_law.specs.Endpoint.{Endpoint, Control, BulkOut, BulkIn, InterruptIn}
use Rattle.tmc_law.specs.State.{Pending, Halted}

-- the endpoint that has this number
abbrev pub endpoint_of : ℕ → Endpoint
endpoint_of ep = if ep == 0 then Control else (if ep == 1 then BulkOut else (if ep == 2 then BulkIn else InterruptIn))

pub record Held : Type 0 where
  -- the pending submits of each endpoint, in the order of arrival; for none of them the status byte was polled
  pub control : List Pending
  pub bulk_out : List Pending
  pub bulk_in : List Pending
  pub interrupt_in : List Pending
  pub halted : Halted

-- nothing is pending, and no endpoint is halted
abbrev pub nothing_held : Held
nothing_held = record {
  control = [];
  bulk_out = [];
  bulk_in = [];
  interrupt_in = [];
  halted = record { bulk_out = false; bulk_in = false; interrupt_in = false };
}

abbrev pub list_of : Endpoint → Held → List Pending
list_of Control held = held.control
list_of BulkOut held = held.bulk_out
list_of BulkIn held = held.bulk_in
list_of InterruptIn held = held.interrupt_in

abbrev pub with_list : Endpoint → List Pending → Held → Held
with_list Control list held = record held { control = list }
with_list BulkOut list held = record held { bulk_out = list }
with_list BulkIn list held = record held { bulk_in = list }
with_list InterruptIn list held = record held { interrupt_in = list }

-- all pending submits
abbrev pub all_of : Held → List Pending
all_of held = held.control ++ (held.bulk_out ++ (held.bulk_in ++ held.interrupt_in))

-- a submit with this number is pending
abbrev pub IsPending : ℕ → List Pending → Type 0
IsPending seqnum [] = ⊥
IsPending seqnum (submit ∷ submits) = (submit.head.seqnum ≡ seqnum) ⊎ IsPending seqnum submits

-- the control endpoint is never halted
abbrev pub is_marked : Endpoint → Held → Bool
is_marked Control held = false
is_marked BulkOut held = held.halted.bulk_out
is_marked BulkIn held = held.halted.bulk_in
is_marked InterruptIn held = held.halted.interrupt_in

abbrev pub with_mark : Endpoint → Bool → Held → Held
with_mark Control halted held = held
with_mark BulkOut halted held = record held { halted = record held.halted { bulk_out = halted } }
with_mark BulkIn halted held = record held { halted = record held.halted { bulk_in = halted } }
with_mark InterruptIn halted held = record held { halted = record held.halted { interrupt_in = halted } }

-- for none of these submits the status byte was polled
abbrev pub AreUnpolled : List Pending → Type 0
AreUnpolled [] = Unit {0}
AreUnpolled (submit ∷ submits) = (submit.polled ≡ false) × AreUnpolled submits
