use Rattle.std.proofs.Common.{◌≡◌, ◌∷◌, [], List, Some, true, ◌∙◌, refl, ap}
use Rattle.tmc_law.specs.Endpoint.{Endpoint, Control, BulkOut, BulkIn, InterruptIn}
use Rattle.tmc_law.specs.State.{State, is_halted}
use Rattle.tmc_law.specs.Run.{Entry}
use Rattle.tmc_law.specs.WorkedSession.{in_submit}
use Rattle.host_joint.specs.Bond.{Requests, BeginsClear}
use Rattle.host_joint.specs.Reasons.{StaysHalted, HaveReasons}
use Rattle.host_joint.specs.WorkedPieces.{requested_second}
use Rattle.host_joint.specs.WorkedRecoveries.{reading_rest, clear_submit, halting_second, halted_inside, clearing_halted, clearing_all}
use Rattle.host_joint.proofs.Stopping.{halts_second, clears_halted}
use Rattle.host_joint.proofs.Restoring.{clear_is}
use Rattle.host_joint.proofs.worked_reasons.worked_halts_have_reasons.Goals as goal

nothing : (before : List Entry) → HaveReasons before requested_second
nothing before Control bulk on = absurd bulk
nothing before BulkOut bulk on = absurd (cc)
nothing before BulkIn bulk on = absurd (cc)
nothing before InterruptIn bulk on = absurd bulk

pub returns-clause-halted : goal.returns-clause-halted
returns-clause-halted c before reached =
    c.halts_have_reasons.ensures.run before halting_second reading_rest (Some (in_submit 6 4096)) [] 7 [] [] requested_second halted_inside reached halts_second ((λ e. cc), ((λ e. cc), ((λ e. cc), tt)))
    c.worked_halts_are_recovered.ensures.reading (nothing before) BulkIn tt refl

pub returns-clause-cleared : goal.returns-clause-cleared
returns-clause-cleared c before reached have =
    let stands = c.cancels_begin.ensures.to_clear reading_rest 7 [] [] halted_inside c.worked_halts_are_recovered.ensures.halted.0 in
    let wrote = c.recoveries_go_on.ensures.writes BeginsClear (clear_submit 7) 7 [] [] halted_inside (clear_is 7) (record { endpoint = Control; number = refl; way = refl }) refl stands in
    c.halts_have_reasons.ensures.run before clearing_halted (Requests (clear_submit 7) BeginsClear) (Some (clear_submit 7)) [] 8 [] [] halted_inside clearing_all reached clears_halted ((λ e. cc), ((λ e. cc), tt))
    wrote have BulkOut tt refl

ends_halted : (e : Endpoint) (run : List Entry) (s t : State) → StaysHalted e s run t → is_halted e t ≡ true
ends_halted e [] s t h = ap (λ (x : State). is_halted e x) h.1 ∙ h.0
ends_halted e (entry ∷ run) s t h = ends_halted e run h.1 t h.3

pub returns-clause-mistaken : goal.returns-clause-mistaken
returns-clause-mistaken c run since = let on = ends_halted BulkOut since.behind since.after halted_inside since.stays in cc
