use Rattle.std.proofs.Common.{sym, subst}
use Rattle.event_text.specs.declared.event.Event.TheVariants as event
use Rattle.tmc_world.specs.declared.applied.Applied.{Applied}
use Rattle.tmc_world.specs.WorldEvents.{LeadsTo}
use Rattle.tmc_world.proofs.Passing.{down_closed, down_leads}
use Rattle.tmc_world.proofs.world.World.down.Goals as goal

pub returns-then-not-may_go_down : goal.returns-then-not-may_go_down
returns-then-not-may_go_down c = λ first depth old b.
    down_closed first depth c.args.most old c.args.self.now.hub c.may_go_down.result b (c.may_go_down.ensures first depth old b) c.if-not-may_go_down.true

pub returns : goal.returns
returns c = λ first depth old b.
    let may = (c.may_go_down.ensures first depth old b).0 c.if-not-may_go_down.false in
    subst (λ (x : Applied). LeadsTo first depth (event.Down c.args.most) old x c.turn.new.self.hub) (sym c.turned.ensures)
    (down_leads first depth c.args.most old c.args.self.now.hub c.turn.new.self.hub c.turn.result b may (c.turn.ensures first depth old b may.runs))
