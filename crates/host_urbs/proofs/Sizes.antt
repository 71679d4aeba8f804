-- how long messages are
use Rattle.std.proofs.Common.{◌≡◌, ℕ, ◌+◌, List, length, refl, arith, length-append}
use Rattle.usbip_wire.specs.declared.submit.SubmitHead.{SubmitHead}
use Rattle.usbip_wire.specs.declared.unlink.UnlinkHead.{UnlinkHead}
use Rattle.usbip_wire.specs.Submit as submit
use Rattle.usbip_wire.specs.Submit.{submit_bytes, submit_words}
use Rattle.usbip_wire.specs.Unlink as unlink
use Rattle.usbip_wire.specs.Unlink.{unlink_bytes}
use Rattle.usbip_wire.specs.Urb.{fields}

pub submit_size : (head : SubmitHead) (transferred : List ℕ) → length head.setup ≡ 8 → length (submit_bytes head submit.unused transferred) ≡ 48 + length transferred
unfolding submit_bytes fields
submit_size head transferred eight = omega (arith, eight, length-append head.setup transferred)

pub unlink_size : (head : UnlinkHead) → length (unlink_bytes head unlink.unused) ≡ 48
unfolding unlink_bytes fields
unlink_size head = refl
