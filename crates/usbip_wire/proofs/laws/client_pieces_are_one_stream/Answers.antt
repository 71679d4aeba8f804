use Rattle.usbip_wire.proofs.UpStream.{ops_stream, urbs_stream}
use Rattle.usbip_wire.proofs.laws.client_pieces_are_one_stream.Goals as goal

pub returns-clause-ops : goal.returns-clause-ops
returns-clause-ops c = ops_stream

pub returns-clause-urbs : goal.returns-clause-urbs
returns-clause-urbs c = urbs_stream
