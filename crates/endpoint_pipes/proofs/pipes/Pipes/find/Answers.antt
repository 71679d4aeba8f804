use Rattle.std.proofs.Common.{◌<◌, List, [], length, Option, sym, subst, arith}
use Rattle.tmc_law.specs.State.{Pending, Avoids}
use Rattle.endpoint_pipes.specs.declared.entry.Entry.{Entry}
use Rattle.endpoint_pipes.specs.Held.{endpoint_of}
use Rattle.endpoint_pipes.specs.Keys.{keys_at}
use Rattle.endpoint_pipes.specs.Kept.{StandsAt, in_front}
use Rattle.endpoint_pipes.proofs.Placing.{list_is, stands, next_avoided}
use Rattle.endpoint_pipes.proofs.pipes.Pipes.find.Goals.{in-Some+else-entry-seqnum, in_default}
use Rattle.endpoint_pipes.proofs.pipes.Pipes.find.Goals as goal

pub returns-then-entry-seqnum-clause-found : goal.returns-then-entry-seqnum-clause-found
returns-then-entry-seqnum-clause-found c =
    let within : c.loop-place.place < length (keys_at (endpoint_of c.args.ep) c.self.inside.queues) = omega (arith, c.loop-place-test.true, c.len_at-place-end.ensures) in
    subst (λ (l : List Pending). StandsAt c.args.seqnum l c.loop-place.place) (list_is c.self.inside.slab.slots c.self.inside.queues _ c.args.self.now (endpoint_of c.args.ep) c.self.view_is)
    (stands c.self.inside.slab.slots (keys_at (endpoint_of c.args.ep) c.self.inside.queues) c.loop-place.place c.key.result c.in-Some.entry.now c.args.seqnum within c.key.ensures
    (sym c.in-Some.ensures) c.if-entry-seqnum.true (c.self.invariant.there (endpoint_of c.args.ep)))

pub loop-place-preserved : goal.loop-place-preserved
loop-place-preserved c =
    let within : c.loop-place.place < length (keys_at (endpoint_of c.args.ep) c.self.inside.queues) = omega (arith, c.loop-place-test.true, c.len_at-place-end.ensures) in
    next_avoided c.self.inside.slab.slots (keys_at (endpoint_of c.args.ep) c.self.inside.queues) c.loop-place.place c.key.result c.args.seqnum within c.key.ensures c.loop-place.invariant
    (elim c.match-get.branch [
      | in-Some+else-entry-seqnum w ↦ subst (λ (o : Option Entry). Avoids c.args.seqnum (in_front o [])) w.in-Some.ensures (w.if-entry-seqnum.false, tt)
      | in_default w ↦ subst (λ (o : Option Entry). Avoids c.args.seqnum (in_front o [])) w.in_default.ensures tt
    ])
