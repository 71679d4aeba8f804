use Rattle.std.proofs.Common.{◌≡◌, ◌≤◌, ◌-◌, length}
use Rattle.tmc_base.specs.Source.{GivesFirst}
use Rattle.tmc_base.specs.Reading.{Gave}
use Rattle.tmc_base.proofs.reading.read_up_to.Given as goal

abbrev pub invariant-pieces : goal.invariant-pieces
invariant-pieces g l = record {
  first : GivesFirst l.bytes.items (g.S.Source.left l.fn.source) (g.S.Source.left l.source);
  gave : Gave g.S.Source.reads l.fn.source l.bytes.items l.source;
  most : length l.bytes.items ≤ l.most;
  piece : length l.piece ≡ 4096;
  counts : g.S.Source.faults l.source ≡ g.S.Source.faults l.fn.source;
}

abbrev pub decreases-pieces : goal.decreases-pieces
decreases-pieces g l = l.most - length l.bytes.items
