use Rattle.std.proofs.Common.{rules}
use Rattle.endpoint_pipes.proofs.Passing.{passed}
use Rattle.endpoint_pipes.proofs.entry.Entry.pass.Goals as goal

pub returns-clause-submit : goal.returns-clause-submit
returns-clause-submit c =
    passed c.args.self.now.head c.args.self.now.bytes.items c.args.self.now.index c.args.n c.min.result (search rules)
