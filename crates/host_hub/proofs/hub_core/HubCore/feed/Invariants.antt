use Rattle.std.proofs.Common.{◌≡◌, ◌++◌, ℕ, List, length}
use Rattle.host_hub.specs.Order.{Setting}
use Rattle.host_hub.specs.Record.{Past}
use Rattle.host_hub.specs.Fed.{FedAnswer, Feeds}
use Rattle.host_hub.specs.Leaves.{Keeps}
use Rattle.host_hub.proofs.hub_core.HubCore.feed.Given as goal

abbrev pub invariant-answers : goal.invariant-answers
invariant-answers l = record {
  front : List ℕ;
  whole : front ++ l.rest ≡ l.fn.bytes;
  goes : (s : Setting) (past : Past) (sent received rest : List ℕ) (count : ℕ) → Feeds s past sent received rest count l.fn.self → FedAnswer s past sent received count front l.self;
  keeps : Keeps l.fn.self l.self;
}

abbrev pub decreases-answers : goal.decreases-answers
decreases-answers l = length l.rest
