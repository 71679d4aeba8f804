-- the outbox keeps its bound
use Rattle.std.proofs.Common.{◌≡◌, ◌≤◌, ◌+◌, ℕ, List, length, sym, subst, arith, length-append}
use Rattle.usbip_wire.specs.declared.submit.SubmitHead.{SubmitHead}
use Rattle.usbip_wire.specs.declared.urb.Dir.{Dir}
use Rattle.usbip_wire.specs.Submit as submit
use Rattle.usbip_wire.specs.Submit.{submit_bytes}
use Rattle.usbip_wire.specs.Urb.{fields}
use Rattle.host_urbs.specs.declared.limits.TheConstants.{OUTBOX_MAX}
use Rattle.host_urbs.specs.Held.{HasRoom, Held, bytes_of, submit_by, wrote}

submit_size : (head : SubmitHead) (transferred : List ℕ) → length head.setup ≡ 8 → length (submit_bytes head submit.unused transferred) ≡ 48 + length transferred
unfolding submit_bytes fields
submit_size head transferred eight = omega (arith, eight, length-append head.setup transferred)

-- a submit that had room behind the others
pub room_short : (old new : Held) (dir : Dir) (ep size : ℕ) (setup text : List ℕ) → length setup ≡ 8 → HasRoom old text → new ≡ wrote (submit_by old dir ep size setup text) old
    → length new.outbox ≤ OUTBOX_MAX
room_short old new dir ep size setup text eight room is =
    subst (λ (h : Held). length h.outbox ≤ OUTBOX_MAX) (sym is)
    (omega (
      arith,
      room,
      length-append old.outbox (bytes_of (submit_by old dir ep size setup text)),
      submit_size (record { seqnum = old.next; devid = old.devid; dir = dir; ep = ep; length = size; setup = setup }) text eight,
    ))
