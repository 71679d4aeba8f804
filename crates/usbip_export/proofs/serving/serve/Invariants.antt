use Rattle.std.proofs.Common.{◌≡◌, ◌-◌, ◌≤◌, length, None}
use Rattle.usbip_export.specs.Serving.{Crosses}
use Rattle.usbip_export.specs.Ending.{Calls}
use Rattle.usbip_export.proofs.serving.serve.Given as goal

abbrev pub invariant-turns : goal.invariant-turns
invariant-turns g l = record {
  crosses : Crosses g.L.Link.told (Unit {0}) l.fn.node l.fn.link l.node l.link;
  calls : Calls g.L.Link.counts g.L.Link.sends g.L.Link.polls l.fn.link l.made l.link;
  unrefused : l.node.refused ≡ None;
  piece : length l.piece ≡ 4096;
  within : l.made ≤ l.turns;
}

abbrev pub decreases-turns : goal.decreases-turns
decreases-turns g l = l.turns - l.made
