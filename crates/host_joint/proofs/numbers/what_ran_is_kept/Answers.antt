use Rattle.host_joint.proofs.Numbered.{ran_waits_not, ran_keeps}
use Rattle.host_joint.proofs.numbers.what_ran_is_kept.Goals as goal

pub returns : goal.returns
returns c n message response messages s t move puts step rises ran =
    ran_keeps n message response s t move (ran_waits_not n message response messages s rises ran) (c.a_step_logs_at_most_once.ensures s t move puts step) ran
