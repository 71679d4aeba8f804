use Rattle.std.proofs.Common.{ap, ◌∙◌}
use Rattle.host_hub.specs.declared.notes.Mark.{Mark}
use Rattle.host_hub.specs.Noted.{Noted, with_mark}
use Rattle.host_hub.proofs.Knowing.{known_first, knows_settled, live_open, live_room, live_ticket, settled_there}
use Rattle.host_hub.proofs.hub_core.HubCore.settle_ticket.Goals as goal

pub settle-requires-clause-there : goal.settle-requires-clause-there
settle-requires-clause-there c = live_ticket c.requires.known.setting c.requires.known.past c.requires.known.sent c.args.self.now c.args.ticket c.requires.known.knows c.requires.known.lives

pub mark-requires : goal.mark-requires
mark-requires c = live_room c.requires.known.setting c.requires.known.past c.requires.known.sent c.args.self.now c.args.ticket c.requires.known.knows c.requires.known.lives

pub first_live-self-requires-clause-first : goal.first_live-self-requires-clause-first
first_live-self-requires-clause-first c = known_first c.requires.known.setting c.requires.known.past c.requires.known.sent c.args.self.now c.requires.known.knows

pub first_live-self-requires-clause-last : goal.first_live-self-requires-clause-last
first_live-self-requires-clause-last c =
    settled_there c.requires.known.setting c.requires.known.past c.requires.known.sent c.args.self.now c.args.ticket c.args.outcome c.settle.new.self c.requires.known.lives
    c.requires.known.knows c.settle.ensures

pub settle-requires-clause-live : goal.settle-requires-clause-live
settle-requires-clause-live c = live_open c.requires.known.setting c.requires.known.past c.requires.known.sent c.args.self.now c.args.ticket c.requires.known.knows c.requires.known.lives

pub returns-clause-goes : goal.returns-clause-goes
returns-clause-goes c = λ s past sent lives k.
    knows_settled s past sent c.args.self.now c.args.ticket c.args.outcome c.settle.new.self c.mark.new.self c.first_live-self.result lives c.requires.settled k c.settle.ensures
    (c.mark.ensures ∙ ap (λ (m : Mark). with_mark m c.args.self.now.notes) c.mark-mark.ensures) c.first_live-self.ensures

pub returns-clause-births : goal.returns-clause-births
returns-clause-births c = ap (λ (n : Noted). n.births) c.mark.ensures
