-- the query `*IDN?` with its request and its read written ahead, all of which are unlinked behind their answers
use Rattle.std.specs.Prelude.{List, [], ◌∷◌, ◌++◌, drop}
use Rattle.usbip_wire.specs.declared.unlink.UnlinkHead.{UnlinkHead}
use Rattle.usbip_wire.specs.Up as up
use Rattle.tmc_law.specs.Put.{Unlinked, success}
use Rattle.tmc_law.specs.Step.{Comes}
use Rattle.tmc_law.specs.Run.{Entry, inputs}
use Rattle.tmc_law.specs.WorkedQuery.{asking, answering}
use Rattle.tmc_law.specs.WorkedSession.{unlink, step}

-- the last submit first
abbrev pub race_unlinks : List UnlinkHead
race_unlinks = unlink 4 3 ∷ unlink 5 2 ∷ unlink 6 1 ∷ []

-- they come behind the response, and miss
abbrev pub missing : List Entry
missing =
    step (Comes (up.Unlink (unlink 4 3))) (Unlinked (unlink 4 3) (record { seqnum = 4; status = success }) ∷ [])
    ∷ step (Comes (up.Unlink (unlink 5 2))) (Unlinked (unlink 5 2) (record { seqnum = 5; status = success }) ∷ [])
    ∷ step (Comes (up.Unlink (unlink 6 1))) (Unlinked (unlink 6 1) (record { seqnum = 6; status = success }) ∷ [])
    ∷ []

abbrev pub racing : List Entry
racing = (asking ++ answering) ++ missing

-- the messages behind its first transfer
abbrev pub racing_behind : List up.Message
racing_behind = drop 1 (inputs racing)
