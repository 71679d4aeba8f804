use Rattle.std.proofs.Common.{◌≡◌, refl}
use Rattle.host_hub.specs.declared.outcome.End.TheVariants as end
use Rattle.host_hub.specs.Law.{ByFault}
use Rattle.host_hub.proofs.Lawful.{lawful_book}
use Rattle.host_hub.proofs.Leaving.{leaves_ended}
use Rattle.host_hub.proofs.Sends.{link_stops, rest_book}
use Rattle.host_hub.proofs.hub_core.HubCore.fail.Goals as goal

pub stop-requires-clause-known : goal.stop-requires-clause-known
stop-requires-clause-known c = rest_book c.requires.rests.setting c.requires.rests.past c.requires.rests.sent c.args.self.now c.requires.rests.rests

other : end.LinkFault ≡ end.GivenUp → ⊥
other e = cc

pub returns-clause-goes : goal.returns-clause-goes
returns-clause-goes c = λ s past sent r.
    link_stops s past sent c.args.self.now c.stop.new.self end.LinkFault r c.requires.running other (λ kept. ByFault refl kept.quiet) c.stop.ensures.ended
    (c.stop.ensures.goes s past sent (lawful_book s past r.kept.lawful) r.knows)

pub returns-clause-leaves : goal.returns-clause-leaves
returns-clause-leaves c = leaves_ended c.args.self.now c.stop.new.self c.stop.ensures.births c.stop.ensures.rest
