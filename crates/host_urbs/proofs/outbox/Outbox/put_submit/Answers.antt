use Rattle.std.proofs.Common.{◌≡◌, ◌++◌, length, ap, arith, length-append}
use Rattle.usbip_wire.specs.Submit as submit
use Rattle.usbip_wire.specs.Submit.{submit_bytes}
use Rattle.host_urbs.proofs.Sizes.{submit_size}
use Rattle.host_urbs.proofs.outbox.Outbox.put_submit.Goals as goal

pub invariant_of-self : goal.invariant_of-self
invariant_of-self c =
    let long : length c.put_submit.new.out.items ≡ length (c.make_room.new.bytes.items ++ submit_bytes c.args.head submit.unused c.args.data.now) = ap length c.put_submit.ensures.written in
    let more = length-append c.make_room.new.bytes.items (submit_bytes c.args.head submit.unused c.args.data.now) in
    let size = submit_size c.args.head c.args.data.now c.put_submit.ensures.spelled.setup in
    (omega (arith, long, more, c.make_room.ensures.within), omega (arith, long, more, size, c.make_room.ensures.whole, c.put_submit.ensures.spare))
