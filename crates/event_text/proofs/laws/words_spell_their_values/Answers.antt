use Rattle.std.proofs.Common.{sym, ap, ◌∙◌}
use Rattle.event_text.specs.Words.{bytes_of}
use Rattle.event_text.proofs.Hexes.{bytes_is, bytes_was}
use Rattle.event_text.proofs.Numbers.{number_is, number_was}
use Rattle.event_text.proofs.laws.words_spell_their_values.Goals as goal

pub returns-clause-numbers : goal.returns-clause-numbers
returns-clause-numbers c = λ word number small. (λ same. number_was word number same, λ e. sym (number_is word number small e))

pub returns-clause-hex : goal.returns-clause-hex
returns-clause-hex c = λ word bytes fits. (λ same. bytes_was word bytes same, λ e. ap bytes_of e ∙ bytes_is bytes fits)
