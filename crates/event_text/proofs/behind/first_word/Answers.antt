use Rattle.std.proofs.Common.{sym, ◌∙◌}
use Rattle.event_text.proofs.Cuts.{word_at, one_word}
use Rattle.event_text.proofs.behind.first_word.Goals as goal

pub returns-in-Some : goal.returns-in-Some
returns-in-Some c = word_at c.args.line.now c.in-Some.at (sym c.place_of.ensures ∙ c.in-Some.is)

pub returns-in-None : goal.returns-in-None
returns-in-None c = one_word c.args.line.now (sym c.place_of.ensures ∙ c.in-None.is)
