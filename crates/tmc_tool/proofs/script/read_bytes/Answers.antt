use Rattle.std.proofs.Common.{◌++◌, ◌≤◌, length, rules, take, refl, sym, subst, arith}
use Rattle.tmc_base.specs.Reading.{Gave, none}
use Rattle.tmc_tool.specs.declared.script.Place.TheVariants.{Within}
use Rattle.tmc_tool.specs.Script.{IsBounded, Stands}
use Rattle.tmc_tool.proofs.Limits.{at_start, none_bounded}
use Rattle.tmc_tool.proofs.Runs.{gave_more, gives_more}
use Rattle.tmc_tool.proofs.script.read_bytes.Goals as goal

pub pieces-init : goal.pieces-init
pieces-init g c = record {
  first = search rules;
  gave = subst (λ bytes. Gave g.S.Source.reads c.args.source.now bytes c.args.source.now) (sym c.new-bytes.ensures.items) none;
  stands = subst (λ bytes. Stands bytes (Within 0 0)) (sym c.new-bytes.ensures.items) at_start;
  bounded = subst IsBounded (sym c.new-bytes.ensures.items) none_bounded;
  piece = refl;
  counts = refl;
}

pub pieces-preserved : goal.pieces-preserved
pieces-preserved g c =
    let fits : c.in-Got.n ≤ length c.read.new.buf = omega (arith, c.in-Got.ensures.within) in
    record {
      first = gives_more c.pieces.bytes.items (take c.in-Got.n c.read.new.buf) _ _ _ _ c.pieces.invariant.first c.in-Got.ensures.told c.in-Ok.ensures.items;
      gave =
          gave_more g.S.Source.reads _ _ _ c.pieces.bytes.items c.read.new.buf _ _ _ c.pieces.invariant.gave c.in-Got.ensures.within.0 fits
          c.in-Got.ensures.goes c.in-Ok.ensures.items;
      stands =
          subst (λ bytes. Stands bytes c.follow-place.result) (sym c.in-Ok.ensures.items)
          (c.follow-place.ensures c.pieces.bytes.items c.pieces.invariant.stands);
      bounded = record {
        front = c.pieces.bytes.items;
        last = take c.in-Got.n c.read.new.buf;
        cut = c.in-Ok.ensures.items;
        keeps = search rules;
        few = search rules;
      };
      piece = search rules;
      counts = search rules;
    }

pub returns-in-Err-clause-memory_run : goal.returns-in-Err-clause-memory_run
returns-in-Err-clause-memory_run g c = λ _.
    let fits : c.in-Got.n ≤ length c.read.new.buf = omega (arith, c.in-Got.ensures.within) in
    let bounded : IsBounded (c.pieces.bytes.items ++ take c.in-Got.n c.read.new.buf) = record {
      front = c.pieces.bytes.items;
      last = take c.in-Got.n c.read.new.buf;
      cut = refl;
      keeps = search rules;
      few = search rules;
    } in (
      c.pieces.bytes.items ++ take c.in-Got.n c.read.new.buf,
      bounded,
      gave_more g.S.Source.reads _ _ _ c.pieces.bytes.items c.read.new.buf _ _ _ c.pieces.invariant.gave c.in-Got.ensures.within.0 fits c.in-Got.ensures.goes refl,
    )
