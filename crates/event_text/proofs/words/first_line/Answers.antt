use Rattle.event_text.proofs.Cuts.{cut_at, uncut}
use Rattle.event_text.proofs.words.first_line.Goals as goal

pub returns-in-Some-clause-cut : goal.returns-in-Some-clause-cut
returns-in-Some-clause-cut c = cut_at c.args.source.now c.in-Some.cut.0.now c.in-Some.cut.1.now c.in-Some.ensures.0 c.in-Some.ensures.1

pub returns-in-None-clause-cut : goal.returns-in-None-clause-cut
returns-in-None-clause-cut c = uncut c.args.source.now c.in-None.ensures c.requires
