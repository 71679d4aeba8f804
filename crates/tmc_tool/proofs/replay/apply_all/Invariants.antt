use Rattle.std.proofs.Common.{take}
use Rattle.tmc_tool.proofs.Going.{AllWent}
use Rattle.tmc_tool.proofs.replay.apply_all.Given as goal

abbrev pub invariant-events : goal.invariant-events
invariant-events l = AllWent (take l.event-index l.events) l.answers.items l.fn.world.hub l.world.hub
