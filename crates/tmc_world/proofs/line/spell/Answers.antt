use Rattle.std.proofs.Common.{◌∙◌, sym}
use Rattle.tmc_world.proofs.Joining.{stays_shut}
use Rattle.tmc_world.proofs.Quiet.{closed_arrivals, no_arrivals}
use Rattle.tmc_world.proofs.Feeding.{open_shut}
use Rattle.tmc_world.proofs.line.spell.Goals as goal

pub returns-then-closed-clause-caught_up : goal.returns-then-closed-clause-caught_up
returns-then-closed-clause-caught_up c = λ _ opened.
    absurd (open_shut c.calm.new.self opened
    (stays_shut _ _ c.args.node.now c.calm.new.self c.requires.imported
    (closed_arrivals c.args.node.now c.calm.new.self c.requires.imported (sym c.closed.ensures ∙ c.if-closed.true) c.calm.ensures.moves).works
    (sym c.closed.ensures ∙ c.if-closed.true)))

pub returns-then-closed-clause-works : goal.returns-then-closed-clause-works
returns-then-closed-clause-works c =
    closed_arrivals c.args.node.now c.calm.new.self c.requires.imported (sym c.closed.ensures ∙ c.if-closed.true) c.calm.ensures.moves

pub returns-else-closed-clause-works : goal.returns-else-closed-clause-works
returns-else-closed-clause-works c = no_arrivals c.args.node.now c.requires.imported
