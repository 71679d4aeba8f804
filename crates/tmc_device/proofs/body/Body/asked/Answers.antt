use Rattle.std.proofs.Common.{◌∙◌, refl, sym, rules, ◌++◌}
use Rattle.tmc_device.specs.Body.{state_of}
use Rattle.tmc_device.proofs.Asked.{is_asked}
use Rattle.tmc_device.proofs.body.Body.asked.Goals as goal

pub returns : goal.returns
returns c =
    let pipes = c.args.self.now.pipes in
    is_asked (state_of c.args.self.now) pipes.control (pipes.bulk_out ++ (pipes.bulk_in ++ pipes.interrupt_in)) c.args.self.now.polled c.in_ok-first.first c.from_bytes.result refl
    c.len-pending.ensures.unpolled (sym c.first.ensures ∙ c.in_ok-first.was) (record { fits = search rules; layout = sym c.from_bytes.ensures.laid_out })
    c.from_bytes.ensures.only
