-- what comes of one more connection, and of printing a text
use Rattle.std.specs.Prelude.{◌≡◌, ◌≢◌, ◌⊎◌, ℕ, List, Option, Some, None, codes}
use Rattle.tmc_base.specs.declared.sink.WriteStep.{WriteStep}
use Rattle.usbip_export.specs.declared.serving.ServeEnd.TheVariants as end
use Rattle.tmc_live.specs.declared.net.NetFault.{NetFault}
use Rattle.tmc_live.specs.declared.net.NetFault.TheVariants as fault
use Rattle.tmc_live.specs.declared.status.Status.{Status}
use Rattle.tmc_live.specs.declared.status.Status.TheVariants.{Served, Usage, SinkFault, NoMemory, NetFault as NetFaulted}
use Rattle.tmc_live.specs.Line.{connection_line}
use Rattle.tmc_live.specs.Live.{Ways, Connection, Puts, Breaks, Handles, Serves, Lost}

-- a text was put whole and the status is its own, or a write failed
abbrev pub Prints : {K : Type 0} → (K → Option (List ℕ)) → (K → ℕ) → (K → List ℕ → WriteStep → K → Type 0)
    → (text : List ℕ) (status result : Status) (sink after : K) → Type 0
Prints put faults writes text status result sink after =
    ((result ≡ status) × Puts put faults writes text sink after) ⊎ ((result ≡ SinkFault) × Breaks put faults writes text sink after)

-- a fault of the net: it is printed, and want of memory is not
abbrev pub PrintsFault : {K : Type 0} → (K → Option (List ℕ)) → (K → ℕ) → (K → List ℕ → WriteStep → K → Type 0)
    → NetFault → (result : Status) (sink after : K) → Type 0
PrintsFault put faults writes fault.Failed result sink after = Prints put faults writes (codes "net fault\n") NetFaulted result sink after
PrintsFault put faults writes fault.Memory result sink after = (result ≡ NoMemory) × (after ≡ sink)

module _ {N K L : Type 0} (w : Ways N K L) where
  -- what came of one more connection: it was served, or a status ends the serving
  abbrev pub Next : (number : ℕ) → Option Status → (net : N) (sink : K) (new : N) (after : K) → Type 0
  Next number None net sink new after = (one : Connection L) × Serves w number net sink one new after
  Next number (Some NetFaulted) net sink new after = Lost w fault.Failed net new × Puts w.put w.faults w.writes (codes "net fault\n") sink after
  Next number (Some SinkFault) net sink new after =
      (Lost w fault.Failed net new × Breaks w.put w.faults w.writes (codes "net fault\n") sink after)
      ⊎ ((one : Connection L) × Handles w net one new × (one.end ≢ end.Memory) × Breaks w.put w.faults w.writes (connection_line number one.end) sink after)
  Next number (Some NoMemory) net sink new after =
      (Lost w fault.Memory net new ⊎ ((one : Connection L) × Handles w net one new)) × (after ≡ sink)
  Next number (Some Served) net sink new after = ⊥
  Next number (Some Usage) net sink new after = ⊥
