-- example sessions: the submits of a client, and the entries of a run
use Rattle.std.specs.Prelude.{ℕ, ℤ, List, [], ◌∷◌}
use Rattle.usbip_wire.specs.declared.urb.Dir.TheVariants.{Out, In}
use Rattle.usbip_wire.specs.declared.submit.SubmitHead.{SubmitHead}
use Rattle.usbip_wire.specs.declared.unlink.UnlinkHead.{UnlinkHead}
use Rattle.usbip_wire.specs.Up as up
use Rattle.tmc_law.specs.Put.{Put, Submitted}
use Rattle.tmc_law.specs.Step.{Move, Comes}
use Rattle.tmc_law.specs.Run.{Entry}

-- the number by which the instrument of these sessions is imported: bus 1, device 2
abbrev pub devid : ℕ
devid = 0x00010002

-- what a submit has in place of a setup packet on an endpoint other than 0
abbrev pub no_setup : List ℕ
no_setup = 0 ∷ 0 ∷ 0 ∷ 0 ∷ 0 ∷ 0 ∷ 0 ∷ 0 ∷ []

-- a submit that sends so many bytes on Bulk-OUT
abbrev pub out_submit : (seqnum size : ℕ) → SubmitHead
out_submit seqnum size = record { seqnum = seqnum; devid = devid; dir = Out; ep = 1; length = size; setup = no_setup }

-- one that wants at most so many bytes on Bulk-IN
abbrev pub in_submit : (seqnum size : ℕ) → SubmitHead
in_submit seqnum size = record { seqnum = seqnum; devid = devid; dir = In; ep = 2; length = size; setup = no_setup }

-- one that wants a packet on Interrupt-IN
abbrev pub notify_submit : (seqnum size : ℕ) → SubmitHead
notify_submit seqnum size = record { seqnum = seqnum; devid = devid; dir = In; ep = 3; length = size; setup = no_setup }

-- a control request whose answer has at most so many bytes
abbrev pub asking_submit : (seqnum size : ℕ) (setup : List ℕ) → SubmitHead
asking_submit seqnum size setup = record { seqnum = seqnum; devid = devid; dir = In; ep = 0; length = size; setup = setup }

-- a control request that has no data
abbrev pub telling_submit : (seqnum : ℕ) (setup : List ℕ) → SubmitHead
telling_submit seqnum setup = record { seqnum = seqnum; devid = devid; dir = Out; ep = 0; length = 0; setup = setup }

-- an unlink of the submit with the second number
abbrev pub unlink : (seqnum target : ℕ) → UnlinkHead
unlink seqnum target = record { seqnum = seqnum; devid = devid; target = target }

-- what happens, and what is put out
abbrev pub step : Move → List Put → Entry
step move puts = record { move = move; puts = puts }

abbrev pub submits : SubmitHead → (transferred : List ℕ) → Entry
submits head transferred = step (Comes (up.Submit head transferred)) []

-- the answer to a submit: its status, how many bytes were moved, and the bytes that go back
abbrev pub answered : SubmitHead → (status : ℤ) → (actual : ℕ) → (transferred : List ℕ) → Put
answered head status actual transferred = Submitted head (record { seqnum = head.seqnum; status = status; actual = actual }) transferred
