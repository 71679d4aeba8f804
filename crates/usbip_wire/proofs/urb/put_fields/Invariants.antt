use Rattle.std.proofs.Common.{◌≡◌, ◌+◌, ◌*◌, ◌++◌, take}
use Rattle.usbip_wire.specs.Urb.{fields}
use Rattle.usbip_wire.proofs.urb.put_fields.Given as goal

abbrev pub invariant-loop-word : goal.invariant-loop-word
invariant-loop-word l = record {
  items : l.out.items ≡ l.fn.out.items ++ fields (take l.word-index l.words);
  spare : l.out.spare + 4 * l.word-index ≡ l.fn.out.spare;
}
