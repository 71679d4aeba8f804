use Rattle.std.proofs.Common.{◌∙◌, List, take, ap, sym, subst, arith}
use Rattle.tmc_wire.specs.Standard.{header_size}
use Rattle.tmc_wire.specs.Header.{IsOutHeader}
use Rattle.tmc_law.specs.State.{Pending}
use Rattle.tmc_law.specs.BulkOut.{HeaderRefused, ByHeader}
use Rattle.endpoint_pipes.specs.Outcome.{left_of}
use Rattle.tmc_device.specs.Parts.{transfer_of}
use Rattle.tmc_device.specs.Body.{state_of}
use Rattle.tmc_device.proofs.Judging.{own_transfer, none_taken, judged_on, judged_begun}
use Rattle.tmc_device.proofs.body.Body.judge.Goals as goal

pub accept-requires : goal.accept-requires
accept-requires c =
    let same = own_transfer c.args.self.now.transfer c.args.self.now.exchange.coming c.in-Some.header (sym c.header.ensures.header ∙ c.in-Some.is) in
    let wants = (c.requires.sound.order.wanting _ same).1 in omega (arith, wants)

pub returns-in-Some : goal.returns-in-Some
returns-in-Some c submit behind stood value =
    judged_on c.args.self.now submit c.in-Some.header c.accept.result (own_transfer c.args.self.now.transfer c.args.self.now.exchange.coming c.in-Some.header (sym c.header.ensures.header ∙ c.in-Some.is))
    (c.accept.ensures submit value)

pub returns-in-Some-read_header : goal.returns-in-Some-read_header
returns-in-Some-read_header c submit behind stood value =
    let none = none_taken c.args.self.now.transfer (sym c.header.ensures.header ∙ c.in-None.is) in
    judged_begun c.args.self.now submit c.in-Some-read_header.header c.accept-in-Some-read_header.result c.headers_are_read_again.ensures.out_one none
    (subst (λ (l : List Pending). HeaderRefused (state_of c.args.self.now) (left_of l) → ⊥) stood c.in-Some-read_header.ensures.0)
    (subst (λ (l : List Pending). IsOutHeader c.in-Some-read_header.header (take header_size (left_of l))) stood c.in-Some-read_header.ensures.1)
    (c.accept-in-Some-read_header.ensures submit value)

pub returns-in-None-read_header : goal.returns-in-None-read_header
returns-in-None-read_header c submit behind stood value =
    ByHeader (ap (λ t. transfer_of t c.args.self.now.exchange.coming) (none_taken c.args.self.now.transfer (sym c.header.ensures.header ∙ c.in-None.is)))
    (subst (λ (l : List Pending). HeaderRefused (state_of c.args.self.now) (left_of l)) stood c.in-None-read_header.ensures)
