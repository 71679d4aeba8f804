use Rattle.std.proofs.Common.{◌≡◌, ◌∙◌, ap, sym, arith}
use Rattle.tmc_law.specs.Endpoint.{BulkOut}
use Rattle.endpoint_pipes.specs.declared.outcome.Pending.{Pending as First}
use Rattle.tmc_device.proofs.Firsts.{first_is}
use Rattle.tmc_device.proofs.Making.{is_plugged}
use Rattle.tmc_device.proofs.TakeSteps.{first_value, empty_made, spoiled_made}
use Rattle.tmc_device.proofs.body.Body.take_first.Goals as goal

pub returns-then-first-eq0 : goal.returns-then-first-eq0
returns-then-first-eq0 c =
    let f = first_is c.args.self.now.pipes.bulk_out c.args.first.now c.requires.first in
    let zero : f.submit.head.length ≡ 0 = sym (ap (λ (v : First). v.head.length) f.value) ∙ c.if-first-eq0.true in
    empty_made c.args.self.now f.submit f.behind c.args.packets c.end_first.new.pipes c.end_first.new.outputs c.requires.ready.sound (is_plugged c.args.self.now.unplugged c.requires.ready.plugged)
    c.requires.none_waits f.is zero c.requires.some (c.end_first.ensures.left f.submit f.behind f.is) (c.end_first.ensures.put f.submit f.behind f.is)

pub take_packets-requires-clause-judged : goal.take_packets-requires-clause-judged
take_packets-requires-clause-judged c submit behind is =
    c.in-Some.ensures submit behind is (first_value c.args.self.now.pipes.bulk_out submit behind c.args.first.now is c.requires.first)

pub halts-requires-clause-sound : goal.halts-requires-clause-sound
halts-requires-clause-sound c = c.requires.ready.sound.first BulkOut

pub returns-in-None : goal.returns-in-None
returns-in-None c =
    let f = first_is c.args.self.now.pipes.bulk_out c.args.first.now c.requires.first in
    let long : f.submit.head.length ≡ c.args.first.now.head.length = sym (ap (λ (v : First). v.head.length) f.value) in
    spoiled_made c.args.self.now c.halts.new.self f.submit f.behind c.args.packets (is_plugged c.args.self.now.unplugged c.requires.ready.plugged) c.requires.none_waits f.is
    (omega (arith, long, c.if-first-eq0.false)) c.requires.some (c.in-None.ensures f.submit f.behind f.is f.value) c.halts.ensures.state c.halts.ensures.puts
