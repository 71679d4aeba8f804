use Rattle.std.proofs.Common.{◌+◌, ◌*◌, ◌%◌, [], ◌∷◌, ap, length, arith, append_assoc, length-append}
use Rattle.instr_plain.specs.Answer.{samples}
use Rattle.instr_plain.proofs.Answers.{length-samples, samples_more}
use Rattle.instr_plain.proofs.output.put_samples.Goals as goal

pub put_byte-requires : goal.put_byte-requires
put_byte-requires c =
    omega (arith, ap length c.loop-k.invariant.items, length-append c.args.output.now.items (samples c.args.acquisitions c.args.conf c.loop-k.k), length-samples c.args.acquisitions c.args.conf c.loop-k.k, c.loop-k.invariant.capacity, c.requires)

pub loop-k-preserved : goal.loop-k-preserved
loop-k-preserved c =
    let more = samples_more c.args.acquisitions c.args.conf c.loop-k.k in
    let joined = append_assoc c.args.output.now.items (samples c.args.acquisitions c.args.conf c.loop-k.k) (((31 * c.args.acquisitions + 7 * c.args.conf + c.loop-k.k) % 251) ∷ []) in
    record {
      items = cc;
      capacity = omega (arith, c.loop-k.invariant.capacity, c.put_byte.ensures.capacity);
    }
