use Rattle.std.proofs.Common.{◌≡◌, ◌+◌, ◌*◌, ◌++◌, take}
use Rattle.usbip_wire.specs.Urb.{halves}
use Rattle.usbip_wire.proofs.urb.put_halves.Given as goal

abbrev pub invariant-loop-word : goal.invariant-loop-word
invariant-loop-word l = record {
  items : l.out.items ≡ l.fn.out.items ++ halves (take l.word-index l.words);
  spare : l.out.spare + 2 * l.word-index ≡ l.fn.out.spare;
}
