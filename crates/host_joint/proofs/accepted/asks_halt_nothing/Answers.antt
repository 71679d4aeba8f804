use Rattle.host_joint.proofs.Accepting.{by_itself}
use Rattle.host_joint.proofs.accepted.asks_halt_nothing.Goals as goal

pub returns : goal.returns
returns c ask s t move ups downs puts endpoint bulk step asking off on =
    by_itself c.headers_are_read_again.ensures.out_one ask s t move ups downs puts endpoint bulk step.leads asking off on (c.halts_have_causes.ensures.halts s t move puts endpoint step off on)
