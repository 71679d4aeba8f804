-- what a device puts out: the answers to submits and unlinks (Linux kernel documentation, "USB/IP protocol")
use Rattle.std.specs.Prelude.{ℕ, ℤ, pos, neg_ℤ, List, [], length}
use Rattle.usbip_wire.specs.declared.urb.Dir.{Dir}
use Rattle.usbip_wire.specs.declared.urb.Dir.TheVariants.{Out, In}
use Rattle.usbip_wire.specs.declared.submit.SubmitHead.{SubmitHead}
use Rattle.usbip_wire.specs.declared.unlink.UnlinkHead.{UnlinkHead}
use Rattle.usbip_wire.specs.declared.ret_submit.RetSubmitHead.{RetSubmitHead}
use Rattle.usbip_wire.specs.declared.ret_unlink.RetUnlinkHead.{RetUnlinkHead}
use Rattle.tmc_law.specs.State.{Pending}

-- an answer, beside what it answers; the data is that of an IN submit
pub data Put : Type 0 where
  Submitted : (asked : SubmitHead) (answer : RetSubmitHead) (transferred : List ℕ) → Put
  Unlinked : (asked : UnlinkHead) (answer : RetUnlinkHead) → Put

-- statuses are 0 or a negated Linux error number: EPIPE for an endpoint that stalled or is halted, ECONNRESET for a
-- submit that was unlinked, ESHUTDOWN for a device that was unplugged
abbrev pub success : ℤ
success = pos 0

abbrev pub stalled : ℤ
stalled = neg_ℤ (pos 32)

abbrev pub unlinked : ℤ
unlinked = neg_ℤ (pos 104)

abbrev pub unplugged : ℤ
unplugged = neg_ℤ (pos 108)

-- bytes go back with the answer to an IN submit alone
abbrev pub returned : Dir → List ℕ → List ℕ
returned Out bytes = []
returned In bytes = bytes

-- the answer to a submit, with the bytes that were moved
abbrev pub answer_of : SubmitHead → (status : ℤ) → (moved : List ℕ) → Put
answer_of head status moved =
    Submitted head (record { seqnum = head.seqnum; status = status; actual = length moved }) (returned head.dir moved)

-- a pending submit ends with this status, and the bytes that it had
abbrev pub ended : (status : ℤ) → Pending → Put
ended status submit = answer_of submit.head status submit.moved

-- the answer to an unlink
abbrev pub unlink_answer : UnlinkHead → (status : ℤ) → Put
unlink_answer head status = Unlinked head (record { seqnum = head.seqnum; status = status })
