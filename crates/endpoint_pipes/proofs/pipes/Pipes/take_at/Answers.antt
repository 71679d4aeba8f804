use Rattle.std.proofs.Common.{sym, subst, ap, ◌∙◌}
use Rattle.tmc_law.specs.State.{Avoids, Halted}
use Rattle.endpoint_pipes.specs.Held.{endpoint_of, all_of}
use Rattle.endpoint_pipes.specs.Keys.{Keys, keys_at}
use Rattle.endpoint_pipes.specs.Kept.{IsSound, held_of}
use Rattle.endpoint_pipes.proofs.Placing.{place_within, entry_there, some_there, whole_there}
use Rattle.endpoint_pipes.proofs.Removing.{sound_removed, gone_removed, held_removed}
use Rattle.endpoint_pipes.proofs.pipes.Pipes.take_at.Goals as goal

pub key-key-requires : goal.key-key-requires
key-key-requires c = place_within c.self.inside.slab.slots c.self.inside.queues _ c.args.self.now (endpoint_of c.args.ep) c.args.place c.self.view_is c.self.invariant c.requires

pub remove-requires : goal.remove-requires
remove-requires c = place_within c.self.inside.slab.slots c.self.inside.queues _ c.args.self.now (endpoint_of c.args.ep) c.args.place c.self.view_is c.self.invariant c.requires

pub remove-requires-2 : goal.remove-requires-2
remove-requires-2 c =
    let within = place_within c.self.inside.slab.slots c.self.inside.queues _ c.args.self.now (endpoint_of c.args.ep) c.args.place c.self.view_is c.self.invariant c.requires in
    some_there _ (entry_there c.self.inside.slab.slots (keys_at (endpoint_of c.args.ep) c.self.inside.queues) c.args.place c.key-key.result within c.key-key.ensures
    (c.self.invariant.there (endpoint_of c.args.ep)))

pub invariant_of-self : goal.invariant_of-self
invariant_of-self c =
    let within = place_within c.self.inside.slab.slots c.self.inside.queues _ c.args.self.now (endpoint_of c.args.ep) c.args.place c.self.view_is c.self.invariant c.requires in
    subst (λ (ks : Keys). IsSound c.remove-2.new.self.slots ks) (sym c.remove.ensures)
    (sound_removed c.self.inside.slab.slots c.remove-2.new.self.slots c.self.inside.queues (endpoint_of c.args.ep) c.args.place c.key-key.result c.remove-2.result
    c.self.invariant c.remove-2.ensures.updates.others within c.key-key.ensures c.remove-2.ensures.value)

pub returns-clause-whole : goal.returns-clause-whole
returns-clause-whole c =
    let within = place_within c.self.inside.slab.slots c.self.inside.queues _ c.args.self.now (endpoint_of c.args.ep) c.args.place c.self.view_is c.self.invariant c.requires in
    whole_there _ c.remove-2.result c.remove-2.ensures.value
    (entry_there c.self.inside.slab.slots (keys_at (endpoint_of c.args.ep) c.self.inside.queues) c.args.place c.key-key.result within c.key-key.ensures
    (c.self.invariant.there (endpoint_of c.args.ep)))

pub returns-clause-taken : goal.returns-clause-taken
returns-clause-taken c before submit behind stood at =
    let within = place_within c.self.inside.slab.slots c.self.inside.queues _ c.args.self.now (endpoint_of c.args.ep) c.args.place c.self.view_is c.self.invariant c.requires in
    (held_removed c.self.inside.slab.slots c.remove-2.new.self.slots c.self.inside.queues (endpoint_of c.args.ep) c.args.place c.key-key.result c.remove-2.result
    c.self.invariant c.remove-2.ensures.updates.others within c.key-key.ensures c.remove-2.ensures.value _ c.args.self.now c.self.view_is before submit behind stood at).0

pub returns-clause-left : goal.returns-clause-left
returns-clause-left c before submit behind stood at =
    let within = place_within c.self.inside.slab.slots c.self.inside.queues _ c.args.self.now (endpoint_of c.args.ep) c.args.place c.self.view_is c.self.invariant c.requires in
    let h : Halted = record { bulk_out = c.self.inside.bulk_out_halted; bulk_in = c.self.inside.bulk_in_halted; interrupt_in = c.self.inside.interrupt_in_halted } in
    ap (λ (ks : Keys). held_of c.remove-2.new.self.slots ks h) c.remove.ensures
    ∙ (held_removed c.self.inside.slab.slots c.remove-2.new.self.slots c.self.inside.queues (endpoint_of c.args.ep) c.args.place c.key-key.result c.remove-2.result
    c.self.invariant c.remove-2.ensures.updates.others within c.key-key.ensures c.remove-2.ensures.value h c.args.self.now c.self.view_is before submit behind stood at).1

pub returns-clause-gone : goal.returns-clause-gone
returns-clause-gone c =
    let within = place_within c.self.inside.slab.slots c.self.inside.queues _ c.args.self.now (endpoint_of c.args.ep) c.args.place c.self.view_is c.self.invariant c.requires in
    let h : Halted = record { bulk_out = c.self.inside.bulk_out_halted; bulk_in = c.self.inside.bulk_in_halted; interrupt_in = c.self.inside.interrupt_in_halted } in
    subst (λ (ks : Keys). Avoids c.remove-2.result.head.seqnum (all_of (held_of c.remove-2.new.self.slots ks h))) (sym c.remove.ensures)
    (gone_removed c.self.inside.slab.slots c.remove-2.new.self.slots c.self.inside.queues (endpoint_of c.args.ep) c.args.place c.key-key.result c.remove-2.result
    c.self.invariant c.remove-2.ensures.updates.others within c.key-key.ensures c.remove-2.ensures.value h)
