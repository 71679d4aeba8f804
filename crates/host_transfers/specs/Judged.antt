-- what is known of a transfer by its bytes so far: for the contract of the assembly's own function, no public one
use Rattle.std.specs.Prelude.{◌≡◌, ℕ, ◌+◌, ◌<◌, ◌≤◌, Bool, true, false, List, length}
use Rattle.host_transfers.specs.declared.judged.Judged.{Judged}
use Rattle.host_transfers.specs.declared.judged.Judged.TheVariants.{Open, Begins, Bad}
use Rattle.host_transfers.specs.Answer.{Fits, Refuses}
use Rattle.tmc_wire.specs.Standard.{header_size}

abbrev pub Judges : (tag size : ℕ) (bytes : List ℕ) (ended : Bool) → Judged → Type 0
Judges tag size bytes ended Open = (ended ≡ false) × (length bytes < header_size)
Judges tag size bytes ended (Begins header) =
    Fits tag size bytes header × (ended ≡ true → header_size + header.size ≤ length bytes) × (length bytes ≤ header_size + header.size + 3)
Judges tag size bytes ended (Bad field) = Refuses tag size bytes ended field
