use Rattle.std.proofs.Common.{rules, arith}
use Rattle.tmc_law.specs.Queues.{IsUnlink}
use Rattle.tmc_device.proofs.Making.{is_plugged}
use Rattle.tmc_device.proofs.Unlinking.{polled_made, hit_made}
use Rattle.tmc_device.proofs.body.Body.unlink_ready.Goals as goal

pub unlink-requires : goal.unlink-requires
unlink-requires c =
    let p = c.if-is_polled.ensures in
    let room = (c.answer_polled.ensures p.submit p.behind p.first).replied.outputs in
    omega (arith, room, c.requires.ready.room.outputs)

pub returns-then-is_polled : goal.returns-then-is_polled
returns-then-is_polled c =
    let wide : IsUnlink c.args.head = search rules in
    let p = c.if-is_polled.ensures in
    polled_made c.args.self.now c.answer_polled.new.self c.args.head c.unlink.new.self p (is_plugged c.args.self.now.unplugged c.requires.ready.plugged) wide
    (c.answer_polled.ensures p.submit p.behind p.first) c.unlink.ensures.put

pub returns-in-Hit : goal.returns-in-Hit
returns-in-Hit c =
    let wide : IsUnlink c.args.head = search rules in
    hit_made c.args.self.now c.unlink-2.new.self c.args.head c.unlink-in-Hit.new.self (is_plugged c.args.self.now.unplugged c.requires.ready.plugged) wide c.if-is_polled.ensures
    c.in-Hit.ensures c.unlink-in-Hit.ensures.put
