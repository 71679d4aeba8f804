use Rattle.event_text.proofs.Sound.{client_kept, device_kept}
use Rattle.event_text.proofs.reading.Reader.kept.Goals as goal

pub returns-in-Client : goal.returns-in-Client
returns-in-Client c = client_kept c.args.self.now c.in-Client.reader c.kept.result c.in-Client.is c.kept.ensures

pub returns-in-Device : goal.returns-in-Device
returns-in-Device c = device_kept c.args.self.now c.in-Device.reader c.kept-in-Device.result c.in-Device.is c.kept-in-Device.ensures
