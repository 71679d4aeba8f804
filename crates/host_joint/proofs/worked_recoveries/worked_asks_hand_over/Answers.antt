use Rattle.std.proofs.Common.{true, [], ◌∷◌, refl}
use Rattle.host_joint.specs.WorkedPieces.{spaces_job, last_job, request_job, asked_with}
use Rattle.host_joint.specs.WorkedRecoveries.{halted_inside}
use Rattle.host_joint.specs.WorkedTies.{told_to}
use Rattle.host_joint.proofs.worked_recoveries.worked_asks_hand_over.Goals as goal

pub returns-clause-message : goal.returns-clause-message
returns-clause-message c =
    c.asks_hand_over.ensures.to_message (asked_with 3 (spaces_job ∷ last_job ∷ []) 2 []) [] [] told_to tt refl
    (record { queue = refl; sent = refl; events = refl }) (record { queue = refl; sent = refl; events = refl }) c.worked_pieces_are_asked.ensures.said

pub returns-clause-request : goal.returns-clause-request
returns-clause-request c =
    c.asks_hand_over.ensures.to_request (record (asked_with 3 (spaces_job ∷ last_job ∷ request_job ∷ []) 2 []) { gone = true }) (spaces_job ∷ last_job ∷ []) request_job [] [] told_to tt refl refl
    (record { queue = refl; sent = refl; events = refl }) (record { queue = refl; sent = refl; events = refl }) c.worked_asks_are_cancelled_ahead.ensures.request.1

pub returns-clause-clear : goal.returns-clause-clear
returns-clause-clear c = c.asks_hand_over.ensures.to_clear [] [] halted_inside (record { queue = refl; sent = refl; events = refl }) (record { queue = refl; sent = refl; events = refl })

pub returns-clause-sending : goal.returns-clause-sending
returns-clause-sending c rest = let e = rest.side in absurd (cc)
