-- a device's state has the lists and the marks of its pipes
use Rattle.std.proofs.Common.{◌≡◌, Bool, List, refl, ap}
use Rattle.tmc_law.specs.Endpoint.{Endpoint, Control, BulkOut, BulkIn, InterruptIn}
use Rattle.tmc_law.specs.State.{State, Pending, Halted, queue_of, with_queue, is_halted, with_halt}
use Rattle.endpoint_pipes.specs.Held.{Held, list_of, with_list, is_marked, with_mark}
use Rattle.endpoint_pipes.specs.Part.{Holds, queue_from}

pub queue_is : (polled : Bool) (s : State) (held : Held) → Holds polled s held → (e : Endpoint) → queue_of e s ≡ queue_from e polled (list_of e held)
queue_is polled s held h Control = h.control
queue_is polled s held h BulkOut = h.bulk_out
queue_is polled s held h BulkIn = h.bulk_in
queue_is polled s held h InterruptIn = h.interrupt_in

pub holds_with : (polled : Bool) (s : State) (held : Held) → Holds polled s held → (e : Endpoint) (list : List Pending)
    → Holds polled (with_queue e (queue_from e polled list) s) (with_list e list held)
holds_with polled s held h Control list = record { control = refl; bulk_out = h.bulk_out; bulk_in = h.bulk_in; interrupt_in = h.interrupt_in; halted = h.halted }
holds_with polled s held h BulkOut list = record { control = h.control; bulk_out = refl; bulk_in = h.bulk_in; interrupt_in = h.interrupt_in; halted = h.halted }
holds_with polled s held h BulkIn list = record { control = h.control; bulk_out = h.bulk_out; bulk_in = refl; interrupt_in = h.interrupt_in; halted = h.halted }
holds_with polled s held h InterruptIn list = record { control = h.control; bulk_out = h.bulk_out; bulk_in = h.bulk_in; interrupt_in = refl; halted = h.halted }

pub mark_is : (polled : Bool) (s : State) (held : Held) → Holds polled s held → (e : Endpoint) → is_halted e s ≡ is_marked e held
mark_is polled s held h Control = refl
mark_is polled s held h BulkOut = ap (λ (x : Halted). x.bulk_out) h.halted
mark_is polled s held h BulkIn = ap (λ (x : Halted). x.bulk_in) h.halted
mark_is polled s held h InterruptIn = ap (λ (x : Halted). x.interrupt_in) h.halted

pub marked_with : (polled halted : Bool) (s : State) (held : Held) → Holds polled s held → (e : Endpoint) → Holds polled (with_halt e halted s) (with_mark e halted held)
marked_with polled halted s held h Control = h
marked_with polled halted s held h BulkOut = record { control = h.control; bulk_out = h.bulk_out; bulk_in = h.bulk_in; interrupt_in = h.interrupt_in; halted = ap (λ (x : Halted). record x { bulk_out = halted }) h.halted }
marked_with polled halted s held h BulkIn = record { control = h.control; bulk_out = h.bulk_out; bulk_in = h.bulk_in; interrupt_in = h.interrupt_in; halted = ap (λ (x : Halted). record x { bulk_in = halted }) h.halted }
marked_with polled halted s held h InterruptIn = record { control = h.control; bulk_out = h.bulk_out; bulk_in = h.bulk_in; interrupt_in = h.interrupt_in; halted = ap (λ (x : Halted). record x { interrupt_in = halted }) h.halted }
