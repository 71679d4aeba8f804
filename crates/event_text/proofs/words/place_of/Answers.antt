use Rattle.std.proofs.Common.{eqb}
use Rattle.event_text.proofs.Cuts.{place_found}
use Rattle.event_text.proofs.words.place_of.Goals as goal

pub returns : goal.returns
returns c = place_found (λ b. eqb b c.args.value) c.args.bytes.now c.memchr.result c.memchr.ensures
