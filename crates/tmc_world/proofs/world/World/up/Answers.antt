use Rattle.std.proofs.Common.{sym, subst}
use Rattle.event_text.specs.declared.event.Event.TheVariants as event
use Rattle.tmc_world.specs.declared.applied.Applied.{Applied}
use Rattle.tmc_world.specs.WorldEvents.{LeadsTo}
use Rattle.tmc_world.proofs.Passing.{up_closed, up_leads}
use Rattle.tmc_world.proofs.world.World.up.Goals as goal

pub returns-then-not-may_go_up : goal.returns-then-not-may_go_up
returns-then-not-may_go_up c = λ first depth old b.
    up_closed first depth c.args.most old c.args.self.now.hub c.may_go_up.result b (c.may_go_up.ensures first depth old b) c.if-not-may_go_up.true

pub returns : goal.returns
returns c = λ first depth old b.
    let may = (c.may_go_up.ensures first depth old b).0 c.if-not-may_go_up.false in
    subst (λ (x : Applied). LeadsTo first depth (event.Up c.args.most) old x c.turn.new.self.hub) (sym c.turned.ensures)
    (up_leads first depth c.args.most old c.args.self.now.hub c.turn.new.self.hub c.turn.result b may (c.turn.ensures first depth old b may.runs))
