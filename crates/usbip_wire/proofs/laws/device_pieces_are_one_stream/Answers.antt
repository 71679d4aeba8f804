use Rattle.std.proofs.Common.{[]}
use Rattle.usbip_wire.proofs.DownStream.{stream}
use Rattle.usbip_wire.proofs.laws.device_pieces_are_one_stream.Goals as goal

pub returns-clause-row : goal.returns-clause-row
returns-clause-row c = λ phase calls end run. (stream phase [] calls end run).0

pub returns-clause-none_whole : goal.returns-clause-none_whole
returns-clause-none_whole c = λ phase entries calls end run fine. (stream phase entries calls end run).1 fine
