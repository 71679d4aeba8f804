use Rattle.std.proofs.Common.{◌≢◌, [], refl}
use Rattle.tmc_law.specs.Endpoint.{BulkOut}
use Rattle.tmc_law.specs.State.{start}
use Rattle.tmc_law.specs.Put.{success, unlinked}
use Rattle.tmc_law.specs.WorkedSession.{unlink}
use Rattle.host_joint.specs.Hits.{NoneAsked}
use Rattle.host_joint.specs.WorkedAsks.{query_asked}
use Rattle.host_joint.specs.WorkedTies.{queried}
use Rattle.host_joint.specs.WorkedAhead.{ahead_asked, ahead_unlinks, cancelling_ahead}
use Rattle.host_joint.specs.WorkedCancels.{race_unlinks, racing}
use Rattle.host_joint.proofs.AheadOf.{cancels_ahead, lines, ahead_fits, ahead_order}
use Rattle.host_joint.proofs.RaceExamples.{query_apart, ahead_apart, racing_fits, racing_order}
use Rattle.host_joint.proofs.worked_cancels.worked_lists_tell_hits.Goals as goal

pub returns-clause-raced : goal.returns-clause-raced
returns-clause-raced c =
    c.lists_tell_hits.ensures.run [] racing query_asked race_unlinks [] [] start queried refl c.worked_cancelled_asks_go_on.ensures.runs racing_fits racing_order query_apart tt
    c.worked_cancelled_asks_go_on.ensures.begins.lines tt

pub returns-clause-hits : goal.returns-clause-hits
returns-clause-hits c = c.lists_tell_hits.ensures.run [] cancelling_ahead ahead_asked ahead_unlinks [] [] start start refl cancels_ahead ahead_fits ahead_order ahead_apart tt lines tt

is_asked : NoneAsked ahead_asked 2 → ⊥
is_asked none = (none BulkOut).1.0 refl

differs : success ≢ unlinked
differs e = cc

pub returns-clause-missed : goal.returns-clause-missed
returns-clause-missed c downs tells = differs (c.lists_tell_hits.ensures.hit ahead_asked (unlink 3 2) (record { seqnum = 3; status = success }) downs tells is_asked)
