-- what holds of the calls of a node, one behind the other
use Rattle.std.specs.Prelude.{◌≡◌, ℕ, List, [], ◌∷◌, ◌++◌, None}
use Rattle.tmc_law.specs.State.{start}
use Rattle.tmc_law.specs.Run.{Entry, Runs, TakesAll, outputs}
use Rattle.usbip_export.specs.Identity.{devid}
use Rattle.usbip_export.specs.Seen.{Seen, standing}
use Rattle.usbip_export.specs.TakenIn.{IsSpelled}
use Rattle.usbip_export.specs.Serving.{Works}

-- the bytes that a call fed, and those that it sent
pub record Call : Type 0 where
  pub bytes : List ℕ
  pub sent : List ℕ

abbrev pub all_bytes : List Call → List ℕ
all_bytes [] = []
all_bytes (call ∷ calls) = call.bytes ++ all_bytes calls

abbrev pub all_sent : List Call → List ℕ
all_sent [] = []
all_sent (call ∷ calls) = call.sent ++ all_sent calls

-- some calls, none of them behind a refusal
abbrev pub Chain : Seen → List Call → Seen → Type 0
Chain old [] new = new ≡ old
Chain old (call ∷ calls) new = (mid : Seen) × (old.refused ≡ None) × Works call.bytes call.sent old mid × Chain mid calls new

-- Of a node that began imported at power-on: some lawful run took in the first of the bytes that it was fed, and the others
-- are kept; what the run put out is spelled by what was sent and what is pending.
pub record AnswersLawfully (bytes sent : List ℕ) (node : Seen) : Type 0 where
  pub run : List Entry
  pub took : List ℕ
  pub answered : List ℕ
  pub goes : Runs start run (standing node)
  pub takes : TakesAll devid run took
  pub spelled : IsSpelled (outputs run) answered node.puts
  pub kept : bytes ≡ took ++ node.kept
  pub out : answered ≡ sent ++ node.out
