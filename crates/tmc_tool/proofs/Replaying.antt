-- the events of a script in a fresh world
use Rattle.std.proofs.Common.{ℕ, false, List, map, Option, sym, ap, subst, ◌≡◌, ◌∙◌}
use Rattle.host_hub.specs.Behind.{HubParts}
use Rattle.event_text.specs.declared.answer.EventAnswer.{EventAnswer}
use Rattle.event_text.specs.declared.event.Script.{Script}
use Rattle.event_text.specs.EventScript.{MayBegin}
use Rattle.tmc_world.specs.LoopLink.{Looped}
use Rattle.tmc_world.specs.World.{Worldly, IsBehind, begun}
use Rattle.tmc_world.specs.WorldSteps.{Answered}
use Rattle.tmc_tool.specs.Told.{Replayed, Tells}
use Rattle.tmc_tool.specs.Going.{Went}
use Rattle.tmc_tool.proofs.Holding.{LeaveCalm, owns_so}

pub replayed_so : LeaveCalm → (script : Script) (answers : List (Option EventAnswer)) (hub : HubParts Looped) (text : List ℕ)
    → MayBegin script.first script.depth → Went script.first script.depth begun script.events answers hub → hub.link.late ≡ false
    → ((now : Worldly) → IsBehind script.first script.depth now hub → Tells script.first script.depth now answers text) → Replayed script text
replayed_so leave script answers hub text begins went late tells =
    let unlate = ap (λ (l : Looped). l.late) (sym went.behind.link) ∙ late in
    let told = subst (λ (xs : List (Option EventAnswer)). Tells script.first script.depth went.new xs text) (sym went.said) (tells went.new went.behind) in
    record {
      run = went.run;
      events = went.done;
      reported = record {
        begins = begins;
        world = went.new;
        goes = went.goes;
        tells = told;
        spelled = unlate;
        owns = owns_so leave script.first script.depth went.run went.new _ text begins.number went.goes unlate told;
      };
    }
