use Rattle.std.proofs.Common.{◌∙◌, ◌*◌, [], ◌∷◌, set, take, drop, Some, None, refl, ap}
use Rattle.std.proofs.lemmas.List.{get_or-set_other}
use Rattle.tmc_law.specs.State.{Pending, Halted}
use Rattle.tmc_law.specs.Packets.{moved_on}
use Rattle.endpoint_pipes.specs.Held.{endpoint_of, with_list}
use Rattle.endpoint_pipes.specs.Keys.{keys_at}
use Rattle.endpoint_pipes.proofs.Placing.{place_within, entry_there, some_there, whole_there, some_first}
use Rattle.endpoint_pipes.proofs.Removing.{sound_set, held_set}
use Rattle.endpoint_pipes.proofs.Setting.{set_at}
use Rattle.endpoint_pipes.proofs.pipes.Pipes.take_out.Goals as goal

pub index_mut-requires : goal.index_mut-requires
index_mut-requires c =
    let within = place_within c.self.inside.slab.slots c.self.inside.queues _ c.args.self.now (endpoint_of 1) 0 c.self.view_is c.self.invariant (some_first c.args.self.now.bulk_out c.requires.there) in
    some_there _ (entry_there c.self.inside.slab.slots (keys_at (endpoint_of 1) c.self.inside.queues) 0 c.key-key.result within c.key-key.ensures (c.self.invariant.there (endpoint_of 1)))

pub invariant_of-self : goal.invariant_of-self
invariant_of-self c =
    let within = place_within c.self.inside.slab.slots c.self.inside.queues _ c.args.self.now (endpoint_of 1) 0 c.self.view_is c.self.invariant (some_first c.args.self.now.bulk_out c.requires.there) in
    let is = c.index_mut.ensures.value in
    let number = ap (λ (p : Pending). p.head.seqnum) c.pass.ensures.submit in
    sound_set c.self.inside.slab.slots (set c.self.inside.slab.slots c.key-key.result (Some c.pass.new.self)) c.self.inside.queues (endpoint_of 1) 0 c.key-key.result c.index_mut.result.now
    c.self.invariant (λ k apart. get_or-set_other c.self.inside.slab.slots c.key-key.result k (Some c.pass.new.self) None apart) within c.key-key.ensures is
    c.pass.new.self (set_at c.self.inside.slab.slots c.key-key.result c.index_mut.result.now c.pass.new.self is) c.pass.ensures.whole number

pub returns : goal.returns
returns c submit behind stood =
    let within = place_within c.self.inside.slab.slots c.self.inside.queues _ c.args.self.now (endpoint_of 1) 0 c.self.view_is c.self.invariant (some_first c.args.self.now.bulk_out c.requires.there) in
    let is = c.index_mut.ensures.value in
    let number = ap (λ (p : Pending). p.head.seqnum) c.pass.ensures.submit in
    let h : Halted = record { bulk_out = c.self.inside.bulk_out_halted; bulk_in = c.self.inside.bulk_in_halted; interrupt_in = c.self.inside.interrupt_in_halted } in
    let set_so = held_set c.self.inside.slab.slots (set c.self.inside.slab.slots c.key-key.result (Some c.pass.new.self)) c.self.inside.queues (endpoint_of 1) 0 c.key-key.result c.index_mut.result.now
    c.self.invariant (λ k apart. get_or-set_other c.self.inside.slab.slots c.key-key.result k (Some c.pass.new.self) None apart) within c.key-key.ensures is
    c.pass.new.self (set_at c.self.inside.slab.slots c.key-key.result c.index_mut.result.now c.pass.new.self is) c.pass.ensures.whole number
    h c.args.self.now c.self.view_is [] submit behind stood refl in
    set_so.1 ∙ ap (λ (p : Pending). with_list (endpoint_of 1) (p ∷ behind) c.args.self.now) (c.pass.ensures.submit ∙ ap (λ (p : Pending). moved_on p (take (c.args.packets * 64) p.left) (drop (c.args.packets * 64) p.left)) set_so.0)

pub pass-requires : goal.pass-requires
pass-requires c =
    let within = place_within c.self.inside.slab.slots c.self.inside.queues _ c.args.self.now (endpoint_of 1) 0 c.self.view_is c.self.invariant (some_first c.args.self.now.bulk_out c.requires.there) in
    whole_there _ c.index_mut.result.now c.index_mut.ensures.value
    (entry_there c.self.inside.slab.slots (keys_at (endpoint_of 1) c.self.inside.queues) 0 c.key-key.result within c.key-key.ensures (c.self.invariant.there (endpoint_of 1)))
