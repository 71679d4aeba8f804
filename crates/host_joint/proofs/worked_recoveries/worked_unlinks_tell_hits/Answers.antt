use Rattle.std.proofs.Common.{Some, None, [], ◌∷◌, codes, inl, inr, refl, ◌≡◌}
use Rattle.tmc_law.specs.Put.{success, unlinked}
use Rattle.tmc_law.specs.WorkedQuery.{identity}
use Rattle.tmc_law.specs.WorkedSession.{in_submit, unlink}
use Rattle.host_joint.specs.Bond.{Read}
use Rattle.host_joint.specs.WorkedPieces.{requested_second}
use Rattle.host_joint.specs.WorkedRecoveries.{reading_rest, cancelling_second, cancelled_inside}
use Rattle.host_joint.specs.WorkedTies.{queried}
use Rattle.host_joint.proofs.Stopping.{cancels_second, missing, misses}
use Rattle.host_joint.proofs.worked_recoveries.worked_unlinks_tell_hits.Goals as goal

pub returns-clause-hit : goal.returns-clause-hit
returns-clause-hit c =
    c.unlinks_tell_hits.ensures.run reading_rest cancelling_second (Some (in_submit 6 4096)) (unlink 7 6 ∷ []) 8 [] [] requested_second cancelled_inside cancels_second (inr refl) refl
    (inl c.worked_cancels_are_recovered.ensures.cancels, tt)

pub returns-clause-missed : goal.returns-clause-missed
returns-clause-missed c =
    c.unlinks_tell_hits.ensures.run (Read 1 (codes "*IDN?") identity) missing None (unlink 4 3 ∷ []) 5 [] [] queried queried misses tt tt
    (inl c.worked_cancels_are_bound.ensures.complete.0, tt)

pub returns-clause-mistaken : goal.returns-clause-mistaken
returns-clause-mistaken c situation head unlinks next ups downs s both =
    let e : success ≡ unlinked = c.unlinks_tell_hits.ensures.hit situation head unlinks next (unlink 7 6) (record { seqnum = 7; status = success }) ups downs s both in cc
