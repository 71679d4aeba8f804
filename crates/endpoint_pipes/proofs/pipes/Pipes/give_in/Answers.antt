use Rattle.std.proofs.Common.{◌∙◌, [], ◌∷◌, set, length, Some, None, refl, ap}
use Rattle.std.proofs.lemmas.List.{get_or-set_other}
use Rattle.tmc_law.specs.State.{Pending, Halted}
use Rattle.tmc_law.specs.Packets.{filled_by}
use Rattle.endpoint_pipes.specs.Held.{endpoint_of, list_of, with_list}
use Rattle.endpoint_pipes.specs.Keys.{keys_at}
use Rattle.endpoint_pipes.proofs.Placing.{place_within, entry_there, some_there, some_room}
use Rattle.endpoint_pipes.proofs.Removing.{sound_set, held_set}
use Rattle.endpoint_pipes.proofs.Setting.{set_at}
use Rattle.endpoint_pipes.proofs.pipes.Pipes.give_in.Goals as goal

pub index_mut-requires : goal.index_mut-requires
index_mut-requires c =
    let within = place_within c.self.inside.slab.slots c.self.inside.queues _ c.args.self.now (endpoint_of c.args.ep) 0 c.self.view_is c.self.invariant (some_room (length c.args.packet.now) (list_of (endpoint_of c.args.ep) c.args.self.now) c.requires.there) in
    some_there _ (entry_there c.self.inside.slab.slots (keys_at (endpoint_of c.args.ep) c.self.inside.queues) 0 c.key-key.result within c.key-key.ensures (c.self.invariant.there (endpoint_of c.args.ep)))

pub invariant_of-self : goal.invariant_of-self
invariant_of-self c =
    let within = place_within c.self.inside.slab.slots c.self.inside.queues _ c.args.self.now (endpoint_of c.args.ep) 0 c.self.view_is c.self.invariant (some_room (length c.args.packet.now) (list_of (endpoint_of c.args.ep) c.args.self.now) c.requires.there) in
    let is = c.index_mut.ensures.value in
    let number = ap (λ (p : Pending). p.head.seqnum) c.fill.ensures.submit in
    sound_set c.self.inside.slab.slots (set c.self.inside.slab.slots c.key-key.result (Some c.fill.new.self)) c.self.inside.queues (endpoint_of c.args.ep) 0 c.key-key.result c.index_mut.result.now
    c.self.invariant (λ k apart. get_or-set_other c.self.inside.slab.slots c.key-key.result k (Some c.fill.new.self) None apart) within c.key-key.ensures is
    c.fill.new.self (set_at c.self.inside.slab.slots c.key-key.result c.index_mut.result.now c.fill.new.self is) c.fill.ensures.whole number

pub returns : goal.returns
returns c submit behind stood =
    let within = place_within c.self.inside.slab.slots c.self.inside.queues _ c.args.self.now (endpoint_of c.args.ep) 0 c.self.view_is c.self.invariant (some_room (length c.args.packet.now) (list_of (endpoint_of c.args.ep) c.args.self.now) c.requires.there) in
    let is = c.index_mut.ensures.value in
    let number = ap (λ (p : Pending). p.head.seqnum) c.fill.ensures.submit in
    let h : Halted = record { bulk_out = c.self.inside.bulk_out_halted; bulk_in = c.self.inside.bulk_in_halted; interrupt_in = c.self.inside.interrupt_in_halted } in
    let set_so = held_set c.self.inside.slab.slots (set c.self.inside.slab.slots c.key-key.result (Some c.fill.new.self)) c.self.inside.queues (endpoint_of c.args.ep) 0 c.key-key.result c.index_mut.result.now
    c.self.invariant (λ k apart. get_or-set_other c.self.inside.slab.slots c.key-key.result k (Some c.fill.new.self) None apart) within c.key-key.ensures is
    c.fill.new.self (set_at c.self.inside.slab.slots c.key-key.result c.index_mut.result.now c.fill.new.self is) c.fill.ensures.whole number
    h c.args.self.now c.self.view_is [] submit behind stood refl in
    set_so.1 ∙ ap (λ (p : Pending). with_list (endpoint_of c.args.ep) (p ∷ behind) c.args.self.now) (c.fill.ensures.submit ∙ ap (λ (p : Pending). filled_by p c.args.packet.now) set_so.0)
