use Rattle.std.proofs.Common.{List, ◌++◌, ap}
use Rattle.tmc_law.specs.State.{State}
use Rattle.tmc_law.specs.Put.{Put}
use Rattle.host_joint.proofs.asks.unplugged_asks_were_in_hand.Goals as goal

pub returns : goal.returns
returns c ask s t ups downs puts step asking = record {
  before = s;
  front = downs;
  asking = asking;
  behind = ap (λ (p : List Put). downs ++ p) step.leads.answered;
  log = ap (λ (x : State). x.log) step.leads.is;
  standing = ap (λ (x : State). x.standing) step.leads.is;
}
