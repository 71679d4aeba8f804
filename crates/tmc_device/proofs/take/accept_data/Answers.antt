use Rattle.std.proofs.Common.{◌∙◌, ◌+◌, ℕ, List, Option, take, drop, refl, ap, sym, subst}
use Rattle.std.specs.List.{slice_range}
use Rattle.tmc_wire.specs.Transfer.{OutText}
use Rattle.endpoint_pipes.specs.Outcome.{left_of}
use Rattle.tmc_device.specs.Parts.{Opening, transfer_of, bytes_of}
use Rattle.tmc_device.proofs.Effects.{part_of}
use Rattle.tmc_device.proofs.Judging.{none_taken, behind_header}
use Rattle.tmc_device.proofs.take.accept_data.Goals as goal

pub returns-in-Some : goal.returns-in-Some
returns-in-Some c s whole tag most holds header text =
    let on = sym c.header.ensures.header ∙ c.in-Some.is in
    c.end_part.ensures.takes_effect s whole tag most holds header
    (subst (λ (l : List ℕ). OutText whole.header (take c.args.size l) whole.taken)
    (behind_header c.args.transfer.now c.args.exchange.now.coming _ on c.header.ensures.bytes c.args.pipes.now.bulk_out) text)

pub returns-in-None : goal.returns-in-None
returns-in-None c s whole tag most holds header text =
    let none = none_taken c.args.transfer.now (sym c.header.ensures.header ∙ c.in-None.is) in
    let queue = c.args.pipes.now.bulk_out in
    let part = ap (λ (o : Option Opening). take c.args.size (drop 12 (bytes_of (transfer_of o c.args.exchange.now.coming) queue))) none
    ∙ sym (part_of (left_of queue) c.args.size (12 + c.args.size) refl)
    ∙ sym (ap (λ (l : List ℕ). slice_range l 12 (12 + c.args.size)) c.rest_out.ensures) in
    c.accept_part.ensures.takes_effect s whole tag most holds header (subst (λ (l : List ℕ). OutText whole.header l whole.taken) part text)
