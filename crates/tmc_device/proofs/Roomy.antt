-- there is room for the answers of one endpoint
use Rattle.std.proofs.Common.{◌≤◌, ◌++◌, length, arith}
use Rattle.std.proofs.lemmas.List.{length-append}
use Rattle.endpoint_pipes.specs.Held.{Held, all_of}

pub few_out : (held : Held) → length held.bulk_out ≤ length (all_of held)
few_out held = omega (arith, length-append held.control (held.bulk_out ++ (held.bulk_in ++ held.interrupt_in)), length-append held.bulk_out (held.bulk_in ++ held.interrupt_in))

pub few_interrupt_in : (held : Held) → length held.interrupt_in ≤ length (all_of held)
few_interrupt_in held =
    omega (
      arith,
      length-append held.control (held.bulk_out ++ (held.bulk_in ++ held.interrupt_in)),
      length-append held.bulk_out (held.bulk_in ++ held.interrupt_in),
      length-append held.bulk_in held.interrupt_in,
    )
