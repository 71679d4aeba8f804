use Rattle.std.proofs.Common.{◌≡◌, ◌∙◌, ℕ, [], ◌∷◌, ◌++◌, None, ap, sym, subst}
use Rattle.slab.specs.Slab.{Slab}
use Rattle.tmc_law.specs.State.{Halted}
use Rattle.endpoint_pipes.specs.declared.entry.Entry.{Entry}
use Rattle.endpoint_pipes.specs.Held.{endpoint_of}
use Rattle.endpoint_pipes.specs.Keys.{Keys, keys_at, with_keys}
use Rattle.endpoint_pipes.specs.Kept.{IsSound, held_of, entry_at}
use Rattle.endpoint_pipes.proofs.Stored.{OthersKept}
use Rattle.endpoint_pipes.proofs.Adding.{sound_added, held_added}
use Rattle.endpoint_pipes.proofs.pipes.Pipes.put.Goals as goal

pub invariant_of-self-2 : goal.invariant_of-self-2
invariant_of-self-2 c =
    let kept = c.in_ok-reserve.ensures.rest_kept in
    let h : Halted = record { bulk_out = c.self.inside.bulk_out_halted; bulk_in = c.self.inside.bulk_in_halted; interrupt_in = c.self.inside.interrupt_in_halted } in
    let same : c.insert_reserved.result ≡ c.vacant_key.result = c.insert_reserved.ensures.key ∙ sym c.vacant_key.ensures.value in
    let others : OthersKept c.self.inside.slab.slots c.insert_reserved.new.self.slots c.insert_reserved.result =
    λ k apart. c.insert_reserved.ensures.updates.others k apart ∙ ap (λ (s : Slab Entry). entry_at s.slots k) kept in
    let vacant : entry_at c.self.inside.slab.slots c.insert_reserved.result ≡ None =
    sym (ap (λ (s : Slab Entry). entry_at s.slots c.insert_reserved.result) kept) ∙ c.insert_reserved.ensures.was_vacant in
    subst (λ (ks : Keys). IsSound c.insert_reserved.new.self.slots ks)
    (ap (λ (k : ℕ). with_keys (endpoint_of c.args.ep) (keys_at (endpoint_of c.args.ep) c.self.inside.queues ++ k ∷ []) c.self.inside.queues) same ∙ sym c.in_ok-push.ensures.ok)
    (sound_added c.self.inside.slab.slots c.insert_reserved.new.self.slots c.self.inside.queues (endpoint_of c.args.ep) c.insert_reserved.result c.args.entry h c.args.self.now
    c.self.invariant others vacant c.insert_reserved.ensures.updates.changed c.requires.whole c.self.view_is c.requires.free)

pub returns-clause-ok : goal.returns-clause-ok
returns-clause-ok c =
    let kept = c.in_ok-reserve.ensures.rest_kept in
    let h : Halted = record { bulk_out = c.self.inside.bulk_out_halted; bulk_in = c.self.inside.bulk_in_halted; interrupt_in = c.self.inside.interrupt_in_halted } in
    let same : c.insert_reserved.result ≡ c.vacant_key.result = c.insert_reserved.ensures.key ∙ sym c.vacant_key.ensures.value in
    let others : OthersKept c.self.inside.slab.slots c.insert_reserved.new.self.slots c.insert_reserved.result =
    λ k apart. c.insert_reserved.ensures.updates.others k apart ∙ ap (λ (s : Slab Entry). entry_at s.slots k) kept in
    let vacant : entry_at c.self.inside.slab.slots c.insert_reserved.result ≡ None =
    sym (ap (λ (s : Slab Entry). entry_at s.slots c.insert_reserved.result) kept) ∙ c.insert_reserved.ensures.was_vacant in
    ap (λ (ks : Keys). held_of c.insert_reserved.new.self.slots ks h)
    (c.in_ok-push.ensures.ok ∙ ap (λ (k : ℕ). with_keys (endpoint_of c.args.ep) (keys_at (endpoint_of c.args.ep) c.self.inside.queues ++ k ∷ []) c.self.inside.queues) (sym same))
    ∙ held_added c.self.inside.slab.slots c.insert_reserved.new.self.slots c.self.inside.queues (endpoint_of c.args.ep) c.insert_reserved.result c.args.entry h c.args.self.now
    c.self.invariant others vacant c.insert_reserved.ensures.updates.changed c.requires.whole c.self.view_is c.requires.free
