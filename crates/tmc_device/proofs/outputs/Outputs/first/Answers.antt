use Rattle.std.proofs.Common.{refl, ap}
use Rattle.tmc_law.specs.Put.{Submitted, Unlinked}
use Rattle.tmc_device.specs.Parts.{Outbox, put_of}
use Rattle.tmc_device.proofs.Sending.{first_sent}
use Rattle.tmc_device.proofs.outputs.Outputs.first.Goals as goal

pub returns-in-Some-Submitted : goal.returns-in-Some-Submitted
returns-in-Some-Submitted c =
    let f = first_sent c.self.inside.sent.items c.in-Some-Submitted.field-0.now c.args.self.now.puts (Submitted c.in-Some-Submitted.field-0-0 c.in-Some-Submitted.answer c.in-Some-Submitted.bytes.items)
    c.in-Some-Submitted.ensures.item.3.0 c.in-Some-Submitted.ensures.item.3.1 (ap (λ (o : Outbox). o.puts) c.self.view_is) (ap put_of c.in-Some-Submitted.field-0-is) in
    (Submitted c.in-Some-Submitted.field-0-0 c.in-Some-Submitted.answer c.in-Some-Submitted.bytes.items, f.rest, f.is, refl, c.as_slice.ensures.value)

pub returns-in-Some-Unlinked : goal.returns-in-Some-Unlinked
returns-in-Some-Unlinked c =
    let f = first_sent c.self.inside.sent.items c.in-Some-Unlinked.field-0.now c.args.self.now.puts (Unlinked c.in-Some-Unlinked.field-0-0 c.in-Some-Unlinked.answer)
    c.in-Some-Unlinked.ensures.item.3.0 c.in-Some-Unlinked.ensures.item.3.1 (ap (λ (o : Outbox). o.puts) c.self.view_is) (ap put_of c.in-Some-Unlinked.field-0-is) in
    (Unlinked c.in-Some-Unlinked.field-0-0 c.in-Some-Unlinked.answer, f.rest, f.is, refl, refl)
