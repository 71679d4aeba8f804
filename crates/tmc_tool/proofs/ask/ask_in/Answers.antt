use Rattle.std.proofs.lemmas.Result.{IfOk-weaker}
use Rattle.tmc_tool.proofs.Asking.{reported_so}
use Rattle.tmc_tool.proofs.ask.ask_in.Goals as goal

pub returns : goal.returns
returns c =
    IfOk-weaker c.report.result _ _
    (λ text tells behind. reported_so c.world_runs_keep_the_laws.ensures.calm c.args.limit c.args.message.now _ text.items (c.in_ok-ask_and_rest.ensures behind) c.in_ok-all_spelled.ensures.spelled (tells 1 1)) c.report.ensures
