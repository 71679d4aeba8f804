-- what a node does with the bytes that it is fed
use Rattle.std.specs.Prelude.{◌≡◌, ℕ, true, false, List, ◌++◌, Some, None}
use Rattle.tmc_base.specs.declared.field.Field.{Field}
use Rattle.usbip_wire.specs.declared.op_request.OpRequest.{OpRequest}
use Rattle.usbip_wire.specs.declared.op_request.OpRequest.TheVariants.{Import}
use Rattle.usbip_wire.specs.declared.up.UpPhase.TheVariants.{Ops}
use Rattle.usbip_wire.specs.OpRequest.{SpellsRequest}
use Rattle.usbip_wire.specs.UpFed.{BadAt}
use Rattle.tmc_law.specs.State.{start}
use Rattle.tmc_law.specs.Put.{Put}
use Rattle.tmc_law.specs.Run.{Entry, Runs, TakesAll, outputs, SpellAll, SpellsPut}
use Rattle.usbip_export.specs.Identity.{busid, devid}
use Rattle.usbip_export.specs.Operations.{import_done, ImportNone, replies}
use Rattle.usbip_export.specs.Seen.{Seen, standing}

-- the first answers of a list were spelled by these bytes, and the others are left
pub record IsSpelled (before : List Put) (answered : List ℕ) (after : List Put) : Type 0 where
  pub puts : List Put
  pub left : before ≡ puts ++ after
  pub text : SpellAll SpellsPut puts answered

-- some of them were spelled behind these bytes
pub record SpellsOff (before after : List Put) (old new : List ℕ) : Type 0 where
  pub answered : List ℕ
  pub spelled : IsSpelled before answered after
  pub out : new ≡ old ++ answered

-- Behind the import: a run of the lawful instrument takes in these bytes, and what it puts out is spelled in order. Where
-- a field is refused the run's last step refuses it.
pub record Serves (took answered : List ℕ) (old new : Seen) : Type 0 where
  pub run : List Entry
  pub goes : Runs (standing old) run (standing new)
  pub takes : TakesAll devid run took
  pub spelled : IsSpelled (old.puts ++ outputs run) answered new.puts

-- the operations leave the instrument alone
pub record IsUntouched (old new : Seen) : Type 0 where
  pub state : new.state ≡ old.state
  pub puts : new.puts ≡ old.puts

-- A node took in these bytes and answered those.
pub data TakenIn (took answered : List ℕ) (old new : Seen) : Type 0 where
  -- operations, and no import of the instrument
  Asked : (requests : List OpRequest) → old.imported ≡ false → new.imported ≡ false → new.refused ≡ old.refused
      → SpellAll SpellsRequest requests took → ImportNone requests → answered ≡ replies requests → IsUntouched old new
      → TakenIn took answered old new
  -- operations, and then bytes that are refused at a field
  Failed : (requests : List OpRequest) (front rest : List ℕ) (f : Field) → old.imported ≡ false → new.imported ≡ false
      → old.refused ≡ None → new.refused ≡ Some f → took ≡ front ++ rest → SpellAll SpellsRequest requests front
      → ImportNone requests → BadAt Ops rest f → answered ≡ replies requests → IsUntouched old new
      → TakenIn took answered old new
  -- operations, the last one the import, and then messages to the instrument at power-on
  Imported : (requests : List OpRequest) (front request rest behind : List ℕ) → old.imported ≡ false → new.imported ≡ true
      → took ≡ front ++ (request ++ rest) → SpellAll SpellsRequest requests front → ImportNone requests
      → SpellsRequest (Import busid) request → standing old ≡ start → answered ≡ replies requests ++ (import_done ++ behind)
      → Serves rest behind old new → TakenIn took answered old new
  -- messages to the instrument
  Served : old.imported ≡ true → new.imported ≡ true → Serves took answered old new → TakenIn took answered old new

-- A call of a node: it took in the first of the bytes that it had kept and keeps the others, and what it answered comes
-- behind what is pending.
pub record Moves (old new : Seen) : Type 0 where
  pub took : List ℕ
  pub answered : List ℕ
  pub kept : old.kept ≡ took ++ new.kept
  pub taken : TakenIn took answered old new
  pub out : new.out ≡ old.out ++ answered

-- the node with these bytes more
abbrev pub fed : Seen → List ℕ → Seen
fed seen piece = record seen { kept = seen.kept ++ piece }
