use Rattle.std.proofs.Common.{rules, ◌≡◌, ◌<◌, ◌++◌, ◌∷◌, [], length, ap, arith}
use Rattle.usbip_wire.specs.Up as up
use Rattle.tmc_law.specs.State.{arrived, queue_of, with_queue}
use Rattle.tmc_law.specs.Put.{answer_of, stalled}
use Rattle.tmc_law.specs.Queues.{IsSubmit, pending_most}
use Rattle.tmc_law.specs.Step.{Comes}
use Rattle.endpoint_pipes.specs.Held.{all_of, endpoint_of}
use Rattle.tmc_device.specs.Parts.{Outbox}
use Rattle.tmc_device.specs.Seen.{Makes}
use Rattle.tmc_device.specs.Body.{state_of, seen_of}
use Rattle.tmc_device.proofs.Making.{is_plugged}
use Rattle.tmc_device.proofs.Arriving.{pending_length, not_avoided, on_ok_by, queued, turned_away}
use Rattle.tmc_device.proofs.body.Body.submit.Goals as goal

pub returns-then-holds-clause-refused : goal.returns-then-holds-clause-refused
returns-then-holds-clause-refused c =
    let same = pending_length c.args.self.now in (
      omega (arith, same, c.len.ensures.len, c.len.ensures.few, c.if-len-eq-PENDING_MAX.false),
      not_avoided c.args.head.seqnum c.args.self.now c.if-holds.ensures,
    )

pub returns-then-is_taken-clause-ok : goal.returns-then-is_taken-clause-ok
returns-then-is_taken-clause-ok c =
    let came : IsSubmit c.args.head c.args.bytes.now = record { wide = search rules; eight = search rules; setup = search rules; carried = c.requires.carried; bytes = search rules } in
    let few : length (all_of c.args.self.now.pipes) < pending_most = omega (arith, c.len.ensures.len, c.len.ensures.few, c.if-len-eq-PENDING_MAX.false) in
    on_ok_by (state_of c.queue.new.self ≡ with_queue (endpoint_of c.args.head.ep) (queue_of (endpoint_of c.args.head.ep) (state_of c.args.self.now) ++ arrived c.args.head c.args.bytes.now ∷ []) (state_of c.args.self.now))
    (Makes (Comes (up.Submit c.args.head c.args.bytes.now)) (seen_of c.args.self.now) (seen_of c.queue.new.self)) c.queue.result
    (queued c.args.self.now c.queue.new.self c.args.head c.args.bytes.now (is_plugged c.args.self.now.unplugged c.requires.plugged) came c.if-holds.ensures few
    (endpoint_of c.args.head.ep) c.if-is_taken.ensures.1 (ap (λ (o : Outbox). o.puts) c.queue.ensures.puts)) c.queue.ensures.ok

pub returns-else-is_taken-clause-ok : goal.returns-else-is_taken-clause-ok
returns-else-is_taken-clause-ok c =
    let came : IsSubmit c.args.head c.args.bytes.now = record { wide = search rules; eight = search rules; setup = search rules; carried = c.requires.carried; bytes = search rules } in
    let few : length (all_of c.args.self.now.pipes) < pending_most = omega (arith, c.len.ensures.len, c.len.ensures.few, c.if-len-eq-PENDING_MAX.false) in
    on_ok_by (c.turn_away.new.self.outputs.puts ≡ c.args.self.now.outputs.puts ++ answer_of c.args.head stalled [] ∷ [])
    (Makes (Comes (up.Submit c.args.head c.args.bytes.now)) (seen_of c.args.self.now) (seen_of c.turn_away.new.self)) c.turn_away.result
    (λ puts. turned_away c.args.self.now c.turn_away.new.self c.args.head c.args.bytes.now (is_plugged c.args.self.now.unplugged c.requires.plugged) came c.if-holds.ensures few
    c.if-is_taken.ensures puts c.turn_away.ensures.state) c.turn_away.ensures.ok
