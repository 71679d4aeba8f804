use Rattle.tmc_law.proofs.Overdone.{ends_over}
use Rattle.tmc_law.proofs.laws.messages_are_refused_by_what_is_pending.Goals as goal

pub returns : goal.returns
returns c = λ devid. ends_over devid (c.urbs_are_determined.ensures.free devid) (c.bad_fields_are_refused.ensures.urb devid) (c.bad_fields_are_alone.ensures.urb devid)
