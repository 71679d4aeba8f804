use Rattle.tmc_world.proofs.world.World.rest_applied.Goals as goal

pub returns-in-Ok : goal.returns-in-Ok
returns-in-Ok c = λ first depth old b. c.in-Ok.ensures.rests first depth old b

pub returns-in-Err : goal.returns-in-Err
returns-in-Err c = λ first depth old b. c.in-Err.ensures.stops first depth old b
