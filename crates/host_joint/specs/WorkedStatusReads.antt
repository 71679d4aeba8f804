-- an example status read, from power-on, and one whose request is unlinked
use Rattle.std.specs.Prelude.{[], ◌∷◌, List}
use Rattle.tmc_law.specs.State.{State, Unplugged, start, arrived}
use Rattle.tmc_law.specs.Put.{Unlinked, unlinked, unplugged}
use Rattle.tmc_law.specs.Step.{Comes, Unplug}
use Rattle.tmc_law.specs.Run.{Entry}
use Rattle.tmc_law.specs.WorkedSession.{notify_submit, unlink, submits, step, answered}
use Rattle.tmc_law.specs.WorkedStatus.{status_submit, status_log}
use Rattle.usbip_wire.specs.Up as up
use Rattle.host_joint.specs.StatusReads.{StatusRead}

-- READ_STATUS_BYTE with tag 5, behind a submit to Interrupt-IN
abbrev pub first_read : StatusRead
first_read = record { head = status_submit; tag = 5; since = []; left = [] }

abbrev pub both_sent : List up.Message
both_sent = up.Submit (notify_submit 1 8) [] ∷ up.Submit status_submit [] ∷ []

-- the device behind it
abbrev pub status_given : State
status_given = record start { log = status_log }

-- the unlink finds the request pending
abbrev pub stopping_status : List Entry
stopping_status =
    submits (notify_submit 1 8) []
    ∷ submits status_submit []
    ∷ step (Comes (up.Unlink (unlink 3 2))) (Unlinked (unlink 3 2) (record { seqnum = 3; status = unlinked }) ∷ [])
    ∷ []

abbrev pub stopped_status : State
stopped_status = record start { interrupt_in = arrived (notify_submit 1 8) [] ∷ [] }

-- the device is unplugged while both are pending
abbrev pub unplugging_status : List Entry
unplugging_status =
    submits (notify_submit 1 8) []
    ∷ submits status_submit []
    ∷ step Unplug (answered status_submit unplugged 0 [] ∷ answered (notify_submit 1 8) unplugged 0 [] ∷ [])
    ∷ []

abbrev pub unplugged_status : State
unplugged_status = record start { presence = Unplugged }
