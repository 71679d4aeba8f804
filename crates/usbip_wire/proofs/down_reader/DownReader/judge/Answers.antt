use Rattle.std.proofs.Common.{rules}
use Rattle.usbip_wire.proofs.down_reader.DownReader.judge.Goals as goal

pub returns-clause-judged : goal.returns-clause-judged
returns-clause-judged c = (c.in_ok-what._left.now, search rules)
