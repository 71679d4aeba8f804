use Rattle.tmc_law.proofs.Accepting.{accepted}
use Rattle.tmc_law.proofs.laws.answers_are_accepted.Goals as goal

pub returns : goal.returns
returns c = accepted (record { submit = c.answers_take_out.ensures.submit; unlink = c.answers_take_out.ensures.unlink; added = c.answers_take_out.ensures.added })
