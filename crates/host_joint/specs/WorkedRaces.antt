-- the example remote ticket and the example trigger, unlinked
use Rattle.std.specs.Prelude.{List, [], ◌∷◌}
use Rattle.usbip_wire.specs.Up as up
use Rattle.tmc_law.specs.Put.{Unlinked, success, unlinked}
use Rattle.tmc_law.specs.Step.{Comes}
use Rattle.tmc_law.specs.Run.{Entry}
use Rattle.tmc_law.specs.WorkedSession.{out_submit, unlink, submits, step}
use Rattle.tmc_law.specs.WorkedRemote.{remote_submit}
use Rattle.tmc_law.specs.WorkedTrigger.{trigger_text}

-- the unlink finds the request, or the transfer, pending
abbrev pub stopping_remote : List Entry
stopping_remote = submits remote_submit [] ∷ step (Comes (up.Unlink (unlink 2 1))) (Unlinked (unlink 2 1) (record { seqnum = 2; status = unlinked }) ∷ []) ∷ []

abbrev pub stopping_trigger : List Entry
stopping_trigger = submits (out_submit 1 12) trigger_text ∷ step (Comes (up.Unlink (unlink 2 1))) (Unlinked (unlink 2 1) (record { seqnum = 2; status = unlinked }) ∷ []) ∷ []

-- the transfer was taken before
abbrev pub missing_trigger : List Entry
missing_trigger = step (Comes (up.Unlink (unlink 2 1))) (Unlinked (unlink 2 1) (record { seqnum = 2; status = success }) ∷ []) ∷ []
