use Rattle.usbip_wire.proofs.Readings.{requests_read, urbs_read}
use Rattle.usbip_wire.proofs.laws.streams_are_read.Goals as goal

pub returns-clause-requests : goal.returns-clause-requests
returns-clause-requests c = requests_read

pub returns-clause-urbs : goal.returns-clause-urbs
returns-clause-urbs c = urbs_read
