-- the read of a drain, behind an abort of Bulk-IN (USBTMC 1.0, section 4.2.1.4)
use Rattle.std.specs.Prelude.{◌≡◌, List, [], ◌∷◌}
use Rattle.usbip_wire.specs.declared.submit.SubmitHead.{SubmitHead}
use Rattle.usbip_wire.specs.Up as up
use Rattle.tmc_law.specs.Endpoint.{Control, BulkOut}
use Rattle.tmc_law.specs.State.{State, arrived}
use Rattle.tmc_law.specs.Put.{success, stalled}
use Rattle.host_joint.specs.Lines.{Sent, sent_to, Event, Gives, unlinks_in}
use Rattle.host_joint.specs.Positions.{IsAt, in_wants, in_ended}

-- the state without its reads
abbrev pub unread_state : State → State
unread_state s = record s { bulk_in = [] }

-- Where the read of a drain is: on its way or pending, while the abort wants its packet; answered with no bytes, which is that
-- packet; or answered by a halt of Bulk-IN, behind which the abort still wants it.
pub data DrainAt (head : SubmitHead) (coming : List Sent) (events : List Event) (s : State) : Type 0 where
  ReadComes : coming ≡ record { head = head; transferred = [] } ∷ [] → events ≡ [] → IsAt in_wants s → DrainAt head coming events s
  ReadPends : coming ≡ [] → events ≡ [] → s.bulk_in ≡ arrived head [] ∷ [] → IsAt in_wants (unread_state s) → DrainAt head coming events s
  ReadShort : coming ≡ [] → events ≡ Gives head (record { seqnum = head.seqnum; status = success; actual = 0 }) [] ∷ [] → IsAt in_ended s → DrainAt head coming events s
  ReadHalted : coming ≡ [] → events ≡ Gives head (record { seqnum = head.seqnum; status = stalled; actual = 0 }) [] ∷ [] → IsAt in_wants s → DrainAt head coming events s

-- nothing but the read is on its way, Interrupt-IN aside
pub record OnlyRead (ups : List up.Message) : Type 0 where
  pub controls : sent_to Control ups ≡ []
  pub outs : sent_to BulkOut ups ≡ []
  pub unlinks : unlinks_in ups ≡ []
