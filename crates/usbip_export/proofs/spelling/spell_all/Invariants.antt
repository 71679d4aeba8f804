use Rattle.std.proofs.Common.{◌≡◌, length}
use Rattle.usbip_export.specs.TakenIn.{SpellsOff}
use Rattle.usbip_export.proofs.spelling.spell_all.Given as goal

abbrev pub invariant-answers : goal.invariant-answers
invariant-answers l = record {
  spelled : SpellsOff l.fn.device.puts l.device.puts l.fn.out.items l.out.items;
  state : l.device.state ≡ l.fn.device.state;
}

abbrev pub decreases-answers : goal.decreases-answers
decreases-answers l = length l.device.puts
