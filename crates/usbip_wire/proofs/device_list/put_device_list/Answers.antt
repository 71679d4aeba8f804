use Rattle.std.proofs.Common.{arith}
use Rattle.usbip_wire.proofs.Listed.{list_spelled}
use Rattle.usbip_wire.proofs.device_list.put_device_list.Goals as goal

pub returns-clause-spelled : goal.returns-clause-spelled
returns-clause-spelled c =
    list_spelled c.args.status c.args.devices.now c.args.interfaces.now (omega arith) c.requires.few c.requires.each c.know_records.ensures c.know_triples.ensures
