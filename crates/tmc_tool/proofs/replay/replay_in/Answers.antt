use Rattle.std.proofs.lemmas.Result.{IfOk-weaker}
use Rattle.tmc_world.specs.World.{begun}
use Rattle.tmc_tool.proofs.Replaying.{replayed_so}
use Rattle.tmc_tool.proofs.replay.replay_in.Goals as goal

pub returns : goal.returns
returns c =
    IfOk-weaker c.report.result _ _
    (λ text tells behind. replayed_so c.world_runs_keep_the_laws.ensures.calm c.args.script.now c.in_ok-answers.answers.items _ text.items c.requires
    (rw c.as_slice.ensures at (c.in_ok-answers.ensures c.args.script.now.first c.args.script.now.depth begun behind))
    c.in_ok-all_spelled.ensures.spelled
    (λ now here. rw c.deref.ensures.value at (tells c.args.script.now.first c.args.script.now.depth now here)))
    c.report.ensures
