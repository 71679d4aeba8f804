use Rattle.std.proofs.Common.{sym, ◌∙◌}
use Rattle.std.proofs.lemmas.Option.{same_Some}
use Rattle.ieee_syntax.proofs.Complete.{program-reads}
use Rattle.ieee_syntax.proofs.laws.one_reading.Goals as goal

pub returns : goal.returns
returns c = λ bytes us vs p q. same_Some us vs (sym (program-reads bytes us p) ∙ program-reads bytes vs q)
