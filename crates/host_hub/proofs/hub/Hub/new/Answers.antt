use Rattle.std.proofs.Common.{◌≡◌, ℕ, [], subst, arith}
use Rattle.host_hub.specs.Stands.{Rests}
use Rattle.host_hub.proofs.hub.Hub.new.Goals as goal

pub returns-in-Ok-clause-begun : goal.returns-in-Ok-clause-begun
returns-in-Ok-clause-begun g c =
    let e : 1 ≡ c.args.depth = omega (arith, c.requires.some, c.requires.most) in
    c.accounts_begin.ensures (g.L.Link.told c.args.link) (g.L.Link.counts c.args.link) _ c.in-Ok.core
    (subst (λ (d : ℕ). Rests (record { first = c.args.first; devid = c.args.devid; ends = c.args.ends; depth = d }) [] [] c.in-Ok.core) e c.in-Ok.ensures.rests)
    c.in-Ok.ensures.reads

pub invariant_of-result : goal.invariant_of-result
invariant_of-result g c = record {
  start = g.L.Link.told c.args.link;
  setting = record { first = c.args.first; devid = c.args.devid; ends = c.args.ends; depth = 1 };
  past = [];
  sent = [];
  received = [];
  behind = c.accounts_begin.ensures (g.L.Link.told c.args.link) (g.L.Link.counts c.args.link) _ c.in-Ok.core c.in-Ok.ensures.rests c.in-Ok.ensures.reads;
}

pub returns-in-Ok-clause-holds : goal.returns-in-Ok-clause-holds
returns-in-Ok-clause-holds g c = λ start s past sent received b. c.hubs_hold.ensures start _ _ s past sent received _ b
