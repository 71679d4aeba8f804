use Rattle.std.proofs.lemmas.Result.{IfOk-weaker}
use Rattle.tmc_tool.proofs.replay.replay.Goals as goal

pub returns : goal.returns
returns c = IfOk-weaker c.replay_in.result _ _ (λ text told. told c.in_ok-world.ensures.begun) c.replay_in.ensures
