use Rattle.usbip_wire.proofs.Appends.{two_appended}
use Rattle.usbip_wire.specs.Unlink.{unlink_bytes}
use Rattle.usbip_wire.proofs.unlink.put_unlink.Goals as goal

pub returns-clause-written : goal.returns-clause-written
unfolding unlink_bytes
returns-clause-written c = two_appended _ _ _ _ _ c.put_fields.ensures.items c.extend_reserved.ensures.items
