use Rattle.std.proofs.Common.{◌≡◌, ◌++◌, length, ap, arith, length-append}
use Rattle.usbip_wire.specs.Unlink as unlink
use Rattle.usbip_wire.specs.Unlink.{unlink_bytes}
use Rattle.host_urbs.proofs.Sizes.{unlink_size}
use Rattle.host_urbs.proofs.outbox.Outbox.put_unlink.Goals as goal

pub invariant_of-self : goal.invariant_of-self
invariant_of-self c =
    let long : length c.put_unlink.new.out.items ≡ length (c.make_room.new.bytes.items ++ unlink_bytes c.args.head unlink.unused) = ap length c.put_unlink.ensures.written in
    let more = length-append c.make_room.new.bytes.items (unlink_bytes c.args.head unlink.unused) in
    let size = unlink_size c.args.head in
    (omega (arith, long, more, c.make_room.ensures.within), omega (arith, long, more, size, c.make_room.ensures.whole, c.put_unlink.ensures.spare))
