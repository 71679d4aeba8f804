use Rattle.tmc_world.proofs.RestNumbers.{numbers_fit}
use Rattle.tmc_world.proofs.resting.numbers_fit.Goals as goal

pub returns : goal.returns
returns c = numbers_fit c.numbers_suffice.ensures c.messages_are_crossings.ensures.next
