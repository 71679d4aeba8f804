use Rattle.tmc_tool.proofs.Asking.{asked_so}
use Rattle.tmc_tool.proofs.ask.ask_and_rest.Goals as goal

pub returns : goal.returns
returns c =
    asked_so c.args.limit c.args.message.now c.args.world.now.hub _ _ c.apply.result _ c.requires.limit c.requires.asked c.in_ok-ask_of.ensures c.apply.ensures.leads c.in_ok-said.ensures.said
