use Rattle.std.proofs.Common.{List, ℕ, take, ap}
use Rattle.tmc_wire.specs.Header.{IsInHeader}
use Rattle.tmc_wire.specs.Standard.{header_size}
use Rattle.tmc_wire.proofs.tests.in_again.Goals as goal

pub returns : goal.returns
returns c =
    let is = c.in_bytes.ensures.spelled in
    let whole : IsInHeader c.args.header (take header_size c.in_bytes.result) = record {
      reserved = is.reserved;
      attributes = is.attributes;
      ninth = is.ninth;
      tenth = is.tenth;
      eleventh = is.eleventh;
      tagged = is.tagged;
      counted = is.counted;
      accepted = is.accepted;
      layout = ap (λ (bytes : List ℕ). take header_size bytes) is.layout;
    } in
    (c.read_in.ensures.header c.args.header).1 whole
