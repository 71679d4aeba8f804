use Rattle.std.proofs.Common.{◌≡◌, ◌^◌, ◌-◌, length}
use Rattle.tmc_base.specs.Source.{GivesFirst}
use Rattle.tmc_base.specs.Reading.{Gave}
use Rattle.tmc_tool.specs.Script.{IsBounded, Stands}
use Rattle.tmc_tool.proofs.script.read_bytes.Given as goal

abbrev pub invariant-pieces : goal.invariant-pieces
invariant-pieces g l = record {
  first : GivesFirst l.bytes.items (g.S.Source.left l.fn.source) (g.S.Source.left l.source);
  gave : Gave g.S.Source.reads l.fn.source l.bytes.items l.source;
  stands : Stands l.bytes.items l.place;
  bounded : IsBounded l.bytes.items;
  piece : length l.piece ≡ 4096;
  counts : g.S.Source.faults l.source ≡ g.S.Source.faults l.fn.source;
}

abbrev pub decreases-pieces : goal.decreases-pieces
decreases-pieces g l = 2 ^ 64 - length l.bytes.items
