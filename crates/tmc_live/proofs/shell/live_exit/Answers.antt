use Rattle.std.proofs.Common.{◌∙◌}
use Rattle.tmc_live.proofs.shell.live_exit.Goals as goal

pub returns-in-Ok-clause-ends : goal.returns-in-Ok-clause-ends
returns-in-Ok-clause-ends g c =
    let ends = c.live_main.ensures.ends in
    rw c.in-Ok.is (ends.0, c.from.ensures ∙ ends.1, rw c.deref.ensures.value at ends.2)
