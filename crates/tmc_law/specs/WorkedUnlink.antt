-- behind the first packet of a response, its submit is unlinked: the packet is lost, and the next submit has the rest
use Rattle.std.specs.Prelude.{List, [], ◌∷◌, replicate}
use Rattle.usbip_wire.specs.Up as up
use Rattle.tmc_law.specs.Put.{Unlinked, success, unlinked}
use Rattle.tmc_law.specs.Step.{Comes, Take, Fill}
use Rattle.tmc_law.specs.Run.{Entry}
use Rattle.tmc_law.specs.WorkedSession.{out_submit, in_submit, unlink, submits, step, answered}
use Rattle.tmc_law.specs.WorkedRead.{second_packet}
use Rattle.tmc_law.specs.WorkedParts.{spaces_text}

abbrev pub unlinking : List Entry
unlinking =
    -- the first one hits, and the second one misses
    step (Comes (up.Unlink (unlink 4 3))) (Unlinked (unlink 4 3) (record { seqnum = 4; status = unlinked }) ∷ [])
    ∷ step (Comes (up.Unlink (unlink 5 3))) (Unlinked (unlink 5 3) (record { seqnum = 5; status = success }) ∷ [])
    ∷ submits (in_submit 6 4096) []
    ∷ step (Fill 1) (answered (in_submit 6 4096) success 16 second_packet ∷ [])
    ∷ []

-- a Bulk-OUT submit is unlinked behind its first packet, which stays taken: the next submit has the rest of the transfer
abbrev pub unlinking_out : List Entry
unlinking_out =
    submits (out_submit 1 112) spaces_text
    ∷ step (Take 1) []
    ∷ step (Comes (up.Unlink (unlink 2 1))) (Unlinked (unlink 2 1) (record { seqnum = 2; status = unlinked }) ∷ [])
    ∷ submits (out_submit 3 48) (replicate 48 32)
    ∷ step (Take 1) (answered (out_submit 3 48) success 48 [] ∷ [])
    ∷ []
