use Rattle.usbip_wire.proofs.Recorded.{record_appended}
use Rattle.usbip_wire.proofs.device.put_record.Goals as goal

pub returns-clause-items : goal.returns-clause-items
returns-clause-items c =
    record_appended c.args.device.now _ _ _ _ _ _ c.extend_reserved.ensures.items c.extend_reserved-2.ensures.items
    c.put_fields.ensures.items c.put_halves.ensures.items c.extend_reserved-3.ensures.items
