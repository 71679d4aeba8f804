use Rattle.std.proofs.Common.{◌+◌, refl, ◌∙◌, arith}
use Rattle.std.proofs.lemmas.List.{take_rest, length-drop}
use Rattle.tmc_base.specs.Writing.{none}
use Rattle.tmc_base.proofs.Pieces.{put_none, put_further, front_put}
use Rattle.tmc_base.proofs.Runs.{offered_more}
use Rattle.tmc_base.proofs.writing.write_all.Goals as goal

pub pieces-init : goal.pieces-init
pieces-init g c = record {
  within = omega arith;
  put = put_none (g.K.Sink.put c.args.sink.now) c.args.bytes.now;
  offered = none;
  counts = refl;
}

pub pieces-preserved : goal.pieces-preserved
pieces-preserved g c = record {
  within = omega (arith, c.in-Took.ensures.within, length-drop c.pieces.written c.args.bytes.now);
  put = put_further _ _ _ c.args.bytes.now c.pieces.written c.in-Took.n c.pieces.invariant.put (rw take_rest at c.in-Took.ensures.told);
  offered =
      offered_more g.K.Sink.writes _ _ _ c.args.bytes.now _ c.pieces.written c.in-Took.n c.pieces.invariant.offered
      (take_rest c.args.bytes.now c.pieces.written) c.in-Took.ensures.within.0 c.in-Took.ensures.within.1 c.in-Took.ensures.goes;
  counts = c.in-Took.ensures.counts ∙ c.pieces.invariant.counts;
}

pub returns-in-Failed-clause-front : goal.returns-in-Failed-clause-front
returns-in-Failed-clause-front g c =
    front_put _ _ c.args.bytes.now (c.pieces.written + 0) (put_further _ _ _ c.args.bytes.now c.pieces.written 0 c.pieces.invariant.put c.in-Failed.ensures.told)
