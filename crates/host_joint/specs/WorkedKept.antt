-- behind the first piece of a response a submit to Interrupt-IN is written, and its endpoint halts
use Rattle.std.specs.Prelude.{List, [], ◌∷◌}
use Rattle.tmc_law.specs.Endpoint.{InterruptIn}
use Rattle.tmc_law.specs.Put.{stalled}
use Rattle.tmc_law.specs.Step.{Halt}
use Rattle.tmc_law.specs.Run.{Entry}
use Rattle.tmc_law.specs.WorkedSession.{notify_submit, submits, step, answered}

abbrev pub noticing : List Entry
noticing = submits (notify_submit 5 2) [] ∷ step (Halt InterruptIn) (answered (notify_submit 5 2) stalled 0 [] ∷ []) ∷ []
