use Rattle.std.proofs.Common.{◌∙◌, sym}
use Rattle.tmc_world.proofs.Quiet.{arrivals_on, same_arrivals}
use Rattle.tmc_world.proofs.line.catch_up.Goals as goal

pub returns-then-not-feed-clause-works : goal.returns-then-not-feed-clause-works
returns-then-not-feed-clause-works c = same_arrivals c.args.node.now c.feed.new.node c.requires.imported (c.feed.ensures.memory c.if-not-feed.true)

pub returns-clause-works : goal.returns-clause-works
returns-clause-works c =
    arrivals_on _ c.args.node.now c.feed.new.node c.spell-2.new.node c.requires.imported
    (c.feed.ensures.works c.if-not-feed.false (sym c.closed.ensures ∙ c.if-closed.false)) c.spell-2.ensures.works
