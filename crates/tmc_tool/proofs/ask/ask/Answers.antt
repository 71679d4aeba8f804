use Rattle.std.proofs.lemmas.Result.{IfOk-weaker}
use Rattle.tmc_tool.proofs.ask.ask.Goals as goal

pub returns : goal.returns
returns c = IfOk-weaker c.ask_in.result _ _ (λ text told. told c.in_ok-world.ensures.begun) c.ask_in.ensures
