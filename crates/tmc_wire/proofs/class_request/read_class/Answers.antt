use Rattle.std.proofs.Common.{arith, ◌≡◌, Some}
use Rattle.std.proofs.lemmas.Grind.{common_steps}
use Rattle.tmc_wire.specs.ControlTable.{IsRow}
use Rattle.tmc_wire.proofs.Rows.{same_request}
use Rattle.tmc_wire.proofs.class_request.read_class.Goals as goal

pub returns-clause-some : goal.returns-clause-some
returns-clause-some c request = (λ e. grind (arith, common_steps), back)
  where
    back : IsRow c.args.ends.now request c.args.setup.now → c.then_some.result ≡ Some request
    back k =
        let same : c.in_ok-request.request ≡ request = same_request c.args.ends.now c.args.setup.now request c.in_ok-request.request c.candidate.result k c.candidate.ensures.only c.in_ok-request.was in
        grind (arith, common_steps)
