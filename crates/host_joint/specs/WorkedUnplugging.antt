-- in the middle of the ask of two pieces the device is unplugged: runs of the device
use Rattle.std.specs.Prelude.{List, [], ◌∷◌, ◌++◌}
use Rattle.tmc_law.specs.State.{State, Unplugged}
use Rattle.tmc_law.specs.Put.{unplugged}
use Rattle.tmc_law.specs.Step.{Unplug}
use Rattle.tmc_law.specs.Run.{Entry}
use Rattle.tmc_law.specs.WorkedSession.{in_submit, submits, step, answered}
use Rattle.host_joint.specs.WorkedPieces.{giving_first, behind_first, requested_second}

-- behind the first piece, whose answer is on its way
abbrev pub unplugging_behind : List Entry
unplugging_behind = giving_first ++ step Unplug [] ∷ []

abbrev pub unplugged_behind : State
unplugged_behind = record behind_first { presence = Unplugged }

-- before the second piece begins
abbrev pub unplugging_inside : List Entry
unplugging_inside = submits (in_submit 6 4096) [] ∷ step Unplug (answered (in_submit 6 4096) unplugged 0 [] ∷ []) ∷ []

abbrev pub unplugged_inside : State
unplugged_inside = record requested_second { presence = Unplugged }
