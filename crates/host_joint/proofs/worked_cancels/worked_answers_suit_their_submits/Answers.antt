use Rattle.std.proofs.Common.{◌≡◌, [], refl, arith}
use Rattle.tmc_law.specs.State.{start}
use Rattle.host_joint.specs.WorkedTies.{queried}
use Rattle.host_joint.specs.WorkedAhead.{cancelling_ahead}
use Rattle.host_joint.specs.WorkedCancels.{racing}
use Rattle.host_joint.proofs.AheadOf.{cancels_ahead, ahead_fits}
use Rattle.host_joint.proofs.RaceExamples.{racing_fits}
use Rattle.host_joint.proofs.worked_cancels.worked_answers_suit_their_submits.Goals as goal

pub returns-clause-raced : goal.returns-clause-raced
returns-clause-raced c = c.answers_suit_their_submits.ensures.run [] racing [] [] start queried refl c.worked_cancelled_asks_go_on.ensures.runs racing_fits tt

pub returns-clause-hits : goal.returns-clause-hits
returns-clause-hits c = c.answers_suit_their_submits.ensures.run [] cancelling_ahead [] [] start start refl cancels_ahead ahead_fits tt

pub returns-clause-other : goal.returns-clause-other
returns-clause-other c transferred suits = let same : 2 ≡ 1 = suits.fits.number in omega (arith, same)
