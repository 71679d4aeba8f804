use Rattle.std.proofs.Common.{◌∙◌, ap, sym, subst, take}
use Rattle.tmc_law.specs.BulkOut.{Interrupts}
use Rattle.tmc_wire.specs.Transfer.{OutText}
use Rattle.msg_exchange.specs.Held.{Kept, led_to}
use Rattle.msg_exchange.proofs.Accepting.{last_part, later_part}
use Rattle.msg_exchange.proofs.exchange.Exchange.end_part.Goals as goal

pub returns-then-eom-clause-takes_effect : goal.returns-then-eom-clause-takes_effect
returns-then-eom-clause-takes_effect c s transfer tag most holds header text =
    last_part s transfer tag most c.args.seq c.args.size c.args.eom c.self.inside.ended_by c.self.inside.part_len c.self.inside.message.items c.truncate.new.self.items c.self.inside.log.entries c.self.inside.instrument
    (ap (λ (k : Kept). k.held.waiting) c.self.view_is ∙ c.interrupt_unread.ensures.waiting ∙ c.requires.none_waits) c.truncate.ensures.items c.if-eom.true header
    (subst (λ l. OutText transfer.header (take c.args.size l) transfer.taken) (sym (ap (λ (k : Kept). k.coming) c.self.view_is ∙ c.interrupt_unread.ensures.coming)) text)
    (subst (λ (k : Kept). Interrupts s (led_to s k.held)) (sym c.self.view_is) (c.interrupt_unread.ensures.interrupts s holds))

pub returns-else-eom-clause-takes_effect : goal.returns-else-eom-clause-takes_effect
returns-else-eom-clause-takes_effect c s transfer tag most holds header text =
    later_part s transfer tag most c.args.seq c.args.size c.args.eom c.self.inside.ended_by c.self.inside.part_len c.self.inside.message.items c.truncate.new.self.items c.self.inside.log.entries c.self.inside.instrument
    (ap (λ (k : Kept). k.held.waiting) c.self.view_is ∙ c.interrupt_unread.ensures.waiting ∙ c.requires.none_waits) c.truncate.ensures.items c.if-eom.false header
    (subst (λ l. OutText transfer.header (take c.args.size l) transfer.taken) (sym (ap (λ (k : Kept). k.coming) c.self.view_is ∙ c.interrupt_unread.ensures.coming)) text)
    (subst (λ (k : Kept). Interrupts s (led_to s k.held)) (sym c.self.view_is) (c.interrupt_unread.ensures.interrupts s holds))
