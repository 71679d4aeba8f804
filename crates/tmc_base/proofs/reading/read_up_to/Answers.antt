use Rattle.std.proofs.Common.{◌≡◌, ◌+◌, ◌++◌, ◌≤◌, length, take, rules, refl, sym, ap, ◌∙◌, subst, arith, length-append}
use Rattle.std.proofs.lemmas.List.{length-take-le, take-append-le}
use Rattle.std.proofs.lemmas.Grind.{common_steps}
use Rattle.tmc_base.specs.Reading.{Gave, none}
use Rattle.tmc_base.proofs.Runs.{gave_more, gives_more}
use Rattle.tmc_base.proofs.reading.read_up_to.Goals as goal

pub pieces-init : goal.pieces-init
pieces-init g c = record {
  first = search rules;
  gave = subst (λ bytes. Gave g.S.Source.reads c.args.source.now bytes c.args.source.now) (sym c.new-bytes.ensures.items) none;
  most = search rules;
  piece = refl;
  counts = refl;
}

pub pieces-preserved : goal.pieces-preserved
pieces-preserved g c =
    let fits : c.in-Got.n ≤ length c.read.new.buf = omega (arith, c.in-Got.ensures.within) in
    let whole : c.extend_from_slice.new.self.items ≡ c.pieces.bytes.items ++ take c.in-Got.n c.read.new.buf =
    c.in-Ok.ensures.items ∙ ap (λ xs. c.pieces.bytes.items ++ xs) (take-append-le c.in-Got.n c.read.new.buf _ fits) in
    record {
      first = gives_more c.pieces.bytes.items (take c.in-Got.n c.read.new.buf) _ _ _ _ c.pieces.invariant.first c.in-Got.ensures.told whole;
      gave =
          gave_more g.S.Source.reads _ _ _ c.pieces.bytes.items c.read.new.buf _ _ _ c.pieces.invariant.gave c.in-Got.ensures.within.0 fits
          c.in-Got.ensures.goes whole;
      most = grind (arith, common_steps);
      piece = grind (arith, common_steps);
      counts = search rules;
    }

pub returns-in-Err-clause-memory_run : goal.returns-in-Err-clause-memory_run
returns-in-Err-clause-memory_run g c = λ _.
    let fits : c.in-Got.n ≤ length c.read.new.buf = omega (arith, c.in-Got.ensures.within) in
    let size : length (take c.in-Got.n c.read.new.buf) ≡ c.in-Got.n = length-take-le c.in-Got.n c.read.new.buf fits in
    let room : length c.pieces.bytes.items + c.in-Got.n ≤ c.args.most = grind (arith, common_steps, c.in-Got.ensures.within) in (
      c.pieces.bytes.items ++ take c.in-Got.n c.read.new.buf,
      omega (arith, size, room, length-append c.pieces.bytes.items (take c.in-Got.n c.read.new.buf)),
      gave_more g.S.Source.reads _ _ _ c.pieces.bytes.items c.read.new.buf _ _ _ c.pieces.invariant.gave c.in-Got.ensures.within.0 fits c.in-Got.ensures.goes refl,
    )
