use Rattle.std.proofs.Common.{length, ap, sym, subst, ◌∙◌}
use Rattle.tmc_law.specs.State.{Halted}
use Rattle.tmc_law.specs.Reached.{AreDistinct}
use Rattle.endpoint_pipes.specs.Held.{Held, all_of, AreUnpolled}
use Rattle.endpoint_pipes.proofs.Adding.{length_all, all_unpolled, all_distinct}
use Rattle.endpoint_pipes.proofs.pipes.Pipes.len.Goals as goal

pub returns-clause-len : goal.returns-clause-len
returns-clause-len c =
    let h : Halted = record { bulk_out = c.self.inside.bulk_out_halted; bulk_in = c.self.inside.bulk_in_halted; interrupt_in = c.self.inside.interrupt_in_halted } in
    c.len.ensures ∙ sym (length_all c.self.inside.slab.slots c.self.inside.queues h c.self.invariant) ∙ ap (λ (v : Held). length (all_of v)) c.self.view_is

pub returns-clause-distinct : goal.returns-clause-distinct
returns-clause-distinct c =
    let h : Halted = record { bulk_out = c.self.inside.bulk_out_halted; bulk_in = c.self.inside.bulk_in_halted; interrupt_in = c.self.inside.interrupt_in_halted } in
    subst (λ (v : Held). AreDistinct (all_of v)) c.self.view_is (all_distinct c.self.inside.slab.slots c.self.inside.queues h c.self.invariant)

pub returns-clause-unpolled : goal.returns-clause-unpolled
returns-clause-unpolled c =
    let h : Halted = record { bulk_out = c.self.inside.bulk_out_halted; bulk_in = c.self.inside.bulk_in_halted; interrupt_in = c.self.inside.interrupt_in_halted } in
    subst (λ (v : Held). AreUnpolled (all_of v)) c.self.view_is (all_unpolled c.self.inside.slab.slots c.self.inside.queues h)
